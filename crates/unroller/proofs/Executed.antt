-- The statements that a program executes make its updates, one for one; each stands in the program's bytes; an element's origin is
-- that of the last update that writes it.
use Rattle.std.specs.Prelude.{if◌then◌else◌}
use Prim.Native.Nat.{ℕ, zero, suc, ◌+◌, ◌-◌, ◌≤◌, ◌<◌}
use mathlib.Core.Path.{◌≡◌, refl, sym, ap, ◌∙◌, subst}
use mathlib.Core.Logic.{inl, inr}
use mathlib.Core.List.{List, [], ◌∷◌, ◌++◌, append_assoc, append-nil}
use mathlib.Core.Bool.{Bool, true, false, ◌&&◌, ◌||◌, not, false≢true}
use mathlib.Core.Option.{Option, none, some}
use native.Mathlib.Omega.{arith}
use native.Mathlib.Numerals.{add-one}
use lib.ListN.{length, get_or, drop, length-append, length-drop}
use lib.Seq.{length-take-le, get_or-take, get_or-drop}
use lib.Dec.{leb, eqb}
use lib.IntN.{ℤ, pos}
use lib.Signed.{le_z}
use Rattle.model.specs.Tables.{Tables, array_at}
use Rattle.model.specs.Update.{Update, Listed, writes, written}
use Rattle.reader.specs.Field.{got, refuse}
use Rattle.reader.specs.Syntax.{Form, Expr, Item, Items, Program, count}
use Rattle.reader.specs.Syntax.Item.{statement, loop, guard}
use Rattle.reader.specs.Syntax.Items.{end, item}
use Rattle.reader.specs.Grammar.{subscripts, index, expression, statement_of, items, item_of, nested, body, read_program}
use Rattle.reader.proofs.Binds.{not-got, read_by, asked_by, choose_by}
use Rattle.reader.proofs.Forward.{Past, held-got, statement-held}
use Rattle.unroller.specs.Run.{Ran, ok, stop, value_at, cell_at, tree, readable, Done, fits16, update, indices, rounds, run, runs, nothing, run_program}
use Rattle.unroller.specs.Unroll.{unrolled}
use Rattle.unroller.specs.Executed.{Executed, each, executed, executeds, execution, hits, writes_to, or_else, last, Origin, end_in, end_of, origin_by, origin_at, origin_of}
use Rattle.unroller.specs.Traced.{Does, Happens, Traced, Inside, InsideAny, stretch_of, Stretch, WrittenAt}
use borrow.Author.Tests.{eqb-true}
use Rattle.unroller.proofs.Parts.{both}
use Rattle.unroller.proofs.Runs.{run_by, ask_by, ok_is, unrolls}
use Rattle.unroller.proofs.WalkItems.{items_in, items_by, guard_by, loop_by}
use Rattle.unroller.proofs.UnrollRun.{program_by}
use Rattle.unroller.proofs.Alone.{Same, same_statement}

-- ---- the run

happens_append : (t : Tables) (xs ys : List Executed) (us vs : List Update) → Happens t xs us → Happens t ys vs → Happens t (xs ++ ys) (us ++ vs)
happens_append t [] ys [] vs h k = k
happens_append t [] ys (u ∷ us) vs h k = absurd h
happens_append t (x ∷ xs) ys [] vs h k = absurd h
happens_append t (x ∷ xs) ys (u ∷ us) vs h k = (h.0, happens_append t xs ys us vs h.1 k)

module _ (t : Tables) where
  -- from d to d' the run has made the updates of these statements
  pub record Grown (xs : List Executed) (d d' : Done) : Type 0 where
    pub made : List Update
    pub grown : d'.updates ≡ d.updates ++ made
    pub happens : Happens t xs made

  grown_none : (d : Done) → Grown [] d d
  grown_none d = record { made = []; grown = sym (append-nil d.updates); happens = tt }

  grown_then : (xs ys : List Executed) (d d₁ d₂ : Done) → Grown xs d d₁ → Grown ys d₁ d₂ → Grown (xs ++ ys) d d₂
  grown_then xs ys d d₁ d₂ g h =
      record {
        made = g.made ++ h.made;
        grown = h.grown ∙ ap (λ (l : List Update). l ++ h.made) g.grown ∙ append_assoc d.updates g.made h.made;
        happens = happens_append t xs ys g.made h.made g.happens h.happens;
      }

  update_grown : (p : ℕ) (is : List ℤ) (a : ℕ) (fs : List Form) (e : Expr) (d : Done) {d' : Done} → update t p is a fs e d ≡ ok d'
      → Grown (record { place = p; values = is; array = a; subscripts = fs; source = e } ∷ []) d d'
  unfolding update
  update_grown p is a fs e d r =
      ask_by 19 p (leb (length d.updates + 1) 2048) _ r λ _ r1.
      ask_by 20 p (leb (d.nodes + count e) 8192) _ r1 λ _ r2.
      run_by (cell_at t p is a fs) _ r2 λ c e3 r3.
      run_by (tree e t p is) _ r3 λ x e4 r4.
      ask_by 17 p (readable x t.arrays d.updates) _ r4 λ y r5.
      ok_is (Grown (record { place = p; values = is; array = a; subscripts = fs; source = e } ∷ []) d) r5
      (record { made = record { array = a; target = c; source = x } ∷ []; grown = refl; happens = (record { into = refl; cell = e3; value = e4 }, tt) })

  rounds_grown : (is : List ℤ) (p : ℕ) (own : ℤ → Done → Ran Done) (xs : ℤ → List Executed) → ((i : ℤ) (d d' : Done) → own i d ≡ ok d' → Grown (xs i) d d')
      → (d d' : Done) → rounds is p own d ≡ ok d' → Grown (each xs is) d d'
  unfolding rounds
  rounds_grown [] p own xs h d d' r = ok_is (Grown [] d) r (grown_none d)
  rounds_grown (i ∷ is) p own xs h d d' r =
      ask_by 18 p (leb (d.rounds + 1) 65536) _ r λ _ r1.
      run_by (own i (record { rounds = d.rounds + 1; nodes = d.nodes; updates = d.updates })) _ r1 λ d1 e1 r2.
      let g = h i (record { rounds = d.rounds + 1; nodes = d.nodes; updates = d.updates }) d1 e1 in
      grown_then (xs i) (each xs is) d d1 d' (record { made = g.made; grown = g.grown; happens = g.happens }) (rounds_grown is p own xs h d1 d' r2)

  guarded : (b : Bool) (r : Ran Done) (xs : List Executed) (d d' : Done) → (r ≡ ok d' → Grown xs d d') → ◌≡◌ {A = Ran Done} (elim b as (λ b. Ran Done) [ true ↦ r | false ↦ ok d ]) (ok d')
      → Grown (elim b as (λ b. List Executed) [ true ↦ xs | false ↦ [] ]) d d'
  guarded true r xs d d' f e = f e
  guarded false r xs d d' f e = ok_is (Grown [] d) e (grown_none d)

  mutual
    unfolding run runs executed executeds

    run_grown : (i : Item) (is : List ℤ) (d d' : Done) → run i t is d ≡ ok d' → Grown (executed i is) d d'
    run_grown (statement p a fs e) is d d' r = update_grown p is a fs e d r
    run_grown (loop p s e step own) is d d' r =
        ask_by 15 p (fits16 (value_at s is) && fits16 (value_at e is)) _ r λ _ r1.
        rounds_grown (indices 65536 step (value_at e is) (value_at s is)) p (λ i d. runs own t (is ++ (i ∷ [])) d) (λ i. executeds own (is ++ (i ∷ []))) (λ i d d' r. runs_grown own (is ++ (i ∷ [])) d d' r) d d' r1
    run_grown (guard p f own) is d d' r = guarded (le_z (pos 0) (value_at f is)) (runs own t is d) (executeds own is) d d' (λ e. runs_grown own is d d' e) r

    runs_grown : (js : Items) (is : List ℤ) (d d' : Done) → runs js t is d ≡ ok d' → Grown (executeds js is) d d'
    runs_grown end is d d' r = ok_is (Grown [] d) r (grown_none d)
    runs_grown (item i rest) is d d' r =
        run_by (run i t is d) _ r λ d1 e1 r1.
        grown_then (executed i is) (executeds rest is) d d1 d' (run_grown i is d d1 e1) (runs_grown rest is d1 d' r1)

-- the updates of a program that runs are those of its executed statements
pub program-happens : (p : Program) (d : Done) → run_program p ≡ ok d → Happens p.tables (execution p) d.updates
unfolding run_program execution
program-happens p d r =
    let g = runs_grown p.tables p.items [] nothing d r in
    subst (λ (us : List Update). Happens p.tables (executeds p.items []) us) (sym g.grown) g.happens

-- ---- the last that writes an element
module _ (t : Tables) (a e : ℕ) where
  does-writes : (x : Executed) (u : Update) → Does t x u → writes_to t a e x ≡ writes u a e
  unfolding writes_to
  does-writes x u h = rw (h.cell, h.into) refl

  none_written : (xs : List Executed) (us : List Update) → Happens t xs us → last (writes_to t a e) xs ≡ none → written us a e ≡ false
  none_written [] [] h q = refl
  none_written [] (u ∷ us) h q = absurd h
  none_written (x ∷ xs) [] h q = absurd h
  none_written (x ∷ xs) (u ∷ us) h q = go (last (writes_to t a e) xs) (λ i. none_written xs us h.1 i) (writes_to t a e x) (does-writes x u h.0) q
    where
      go : (r : Option Executed) → (r ≡ none → written us a e ≡ false) → (b : Bool) → b ≡ writes u a e → or_else r (if b then some x else none) ≡ none → (writes u a e || written us a e) ≡ false
      go (some y) i b j q = absurd (let z : ◌≡◌ {A = ℕ} 0 1 = cc in omega arith)
      go none i true j q = absurd (let z : ◌≡◌ {A = ℕ} 0 1 = cc in omega arith)
      go none i false j q = rw (← j) (i refl)

  -- the executed statement and its update, with those before and behind them
  record Split (xs : List Executed) (us : List Update) (x : Executed) : Type 0 where
    pub before : List Executed
    pub behind : List Executed
    pub earlier : List Update
    pub update : Update
    pub later : List Update
    pub ran : xs ≡ before ++ x ∷ behind
    pub made : us ≡ earlier ++ update ∷ later
    pub same_number : length before ≡ length earlier
    pub does : Does t x update
    pub writes_it : writes update a e ≡ true
    pub no_later : written later a e ≡ false

  last_split : (xs : List Executed) (us : List Update) → Happens t xs us → (x : Executed) → last (writes_to t a e) xs ≡ some x → Split xs us x
  last_split [] us h x q = absurd (let z : ◌≡◌ {A = ℕ} 0 1 = cc in omega arith)
  last_split (y ∷ ys) [] h x q = absurd h
  last_split (y ∷ ys) (v ∷ vs) h x q = go (last (writes_to t a e) ys) refl (λ i. last_split ys vs h.1 x i) (writes_to t a e y) (does-writes y v h.0) q
    where
      deeper : Split ys vs x → Split (y ∷ ys) (v ∷ vs) x
      deeper k =
          record {
            before = y ∷ k.before;
            behind = k.behind;
            earlier = v ∷ k.earlier;
            update = k.update;
            later = k.later;
            ran = ap (λ (l : List Executed). y ∷ l) k.ran;
            made = ap (λ (l : List Update). v ∷ l) k.made;
            same_number = ap suc k.same_number;
            does = k.does;
            writes_it = k.writes_it;
            no_later = k.no_later;
          }

      go : (r : Option Executed) → last (writes_to t a e) ys ≡ r → (last (writes_to t a e) ys ≡ some x → Split ys vs x) → (b : Bool) → b ≡ writes v a e → or_else r (if b then some y else none) ≡ some x → Split (y ∷ ys) (v ∷ vs) x
      go (some z) i k b j q = deeper (k (i ∙ q))
      go none i k true j q =
          let z : y ≡ x = cc in
          record {
            before = [];
            behind = ys;
            earlier = [];
            update = v;
            later = vs;
            ran = ap (λ (x : Executed). x ∷ ys) z;
            made = refl;
            same_number = refl;
            does = subst (λ (x : Executed). Does t x v) z h.0;
            writes_it = sym j;
            no_later = none_written ys vs h.1 i;
          }
      go none i k false j q = absurd (let z : ◌≡◌ {A = ℕ} 0 1 = cc in omega arith)

-- ---- what holds of all
abbrev pub All : {A : Type 0} → (A → Type 0) → List A → Type 0
All P [] = Unit {0}
All P (x ∷ xs) = P x × All P xs

all_map : {A : Type 0} (P Q : A → Type 0) → ((x : A) → P x → Q x) → (xs : List A) → All P xs → All Q xs
all_map P Q f [] h = tt
all_map P Q f (x ∷ xs) h = (f x h.0, all_map P Q f xs h.1)

module _ {A : Type 0} (P : A → Type 0) where
  all_append : (xs ys : List A) → All P xs → All P ys → All P (xs ++ ys)
  all_append [] ys h k = k
  all_append (x ∷ xs) ys h k = (h.0, all_append xs ys h.1 k)

  all_each : (f : ℤ → List A) → ((i : ℤ) → All P (f i)) → (is : List ℤ) → All P (each f is)
  all_each f h [] = tt
  all_each f h (i ∷ is) = all_append (f i) (each f is) (h i) (all_each f h is)

  all_elim : (b : Bool) (xs : List A) → All P xs → All P (elim b as (λ b. List A) [ true ↦ xs | false ↦ [] ])
  all_elim true xs h = h
  all_elim false xs h = tt

  -- one that has others before and behind it
  all_at : (xs : List A) (x : A) (ys : List A) → All P (xs ++ x ∷ ys) → P x
  all_at [] x ys h = h.0
  all_at (y ∷ xs) x ys h = all_at xs x ys h.1

-- ---- the loops around a statement
-- the statement, as the file has it
itself : Executed → Item
itself x = statement x.place x.array x.subscripts x.source

length_snoc : (is : List ℤ) (i : ℤ) → length (is ++ (i ∷ [])) ≡ suc (length is)
length_snoc is i = length-append is (i ∷ []) ∙ add-one (length is)

-- x has an index value for each loop around it, behind the first k
Around : (ℕ → Item → Type 0) → ℕ → Executed → Type 0
Around in_some k x = (n : ℕ) × in_some n (itself x) × (length x.values ≡ k + n)

mutual
  unfolding executed executeds Inside InsideAny Around itself

  item-around : (j : Item) (is : List ℤ) → All (Around (λ n i. Inside i n j) (length is)) (executed j is)
  item-around (statement p a fs e) is = ((0, (refl, refl), omega arith), tt)
  item-around (loop p f g z own) is =
      all_each (Around (λ n i. Inside i n (loop p f g z own)) (length is)) (λ k. executeds own (is ++ (k ∷ [])))
      (λ k. all_map (Around (λ n i. InsideAny i n own) (length (is ++ (k ∷ [])))) (Around (λ n i. Inside i n (loop p f g z own)) (length is))
      (λ x h. let l = length_snoc is k in let n = h.2 in (suc h.0, (h.0, refl, h.1), omega arith))
      (executeds own (is ++ (k ∷ []))) (items-around own (is ++ (k ∷ []))))
      (indices 65536 z (value_at g is) (value_at f is))
  item-around (guard p f own) is =
      all_elim (Around (λ n i. Inside i n (guard p f own)) (length is)) (le_z (pos 0) (value_at f is)) (executeds own is)
      (all_map (Around (λ n i. InsideAny i n own) (length is)) (Around (λ n i. Inside i n (guard p f own)) (length is)) (λ x h. h) (executeds own is) (items-around own is))

  items-around : (js : Items) (is : List ℤ) → All (Around (λ n i. InsideAny i n js) (length is)) (executeds js is)
  items-around end is = tt
  items-around (item j rest) is =
      all_append (Around (λ n i. InsideAny i n (item j rest)) (length is)) (executed j is) (executeds rest is)
      (all_map (Around (λ n i. Inside i n j) (length is)) (Around (λ n i. InsideAny i n (item j rest)) (length is)) (λ x h. (h.0, inl h.1, h.2)) (executed j is) (item-around j is))
      (all_map (Around (λ n i. InsideAny i n rest) (length is)) (Around (λ n i. InsideAny i n (item j rest)) (length is)) (λ x h. (h.0, inr h.1, h.2)) (executeds rest is) (items-around rest is))

-- ---- statements in the bytes
-- a statement that was read, taken apart
pub statement_by : {P : Type 0} (t : Tables) (loops p : ℕ) (s : List ℕ) (at : ℕ) {i : Item} {next : ℕ} → statement_of t loops p s at ≡ got i next
    → ((a : ℕ) (fs : List Form) (x : Expr) (y z : ℕ) → index (length t.arrays) s at ≡ got a y → subscripts t loops a s y ≡ got fs z → expression t loops s z ≡ got x next
    → i ≡ statement p a fs x → P) → P
unfolding statement_of
statement_by t loops p s at {i} {next} e k =
    read_by (index (length t.arrays) s at) _ e λ a y e1 r1.
    asked_by 13 at (not (eqb (array_at t.arrays a).role 0)) s y _ r1 λ _ r2.
    read_by (subscripts t loops a s y) _ r2 λ fs z e2 r3.
    read_by (expression t loops s z) _ r3 λ x to e3 r4.
    let q : i ≡ statement p a fs x = cc in
    let n : to ≡ next = cc in
    k a fs x y z e1 e2 (e3 ∙ ap (got x) n) q

-- its code byte, and behind it what the grammar reads as this statement, inside as many loops as there are index values
record Stands (s : List ℕ) (t : Tables) (x : Executed) : Type 0 where
  pub next : ℕ
  pub inside : x.place < length s
  pub code : get_or s x.place 0 ≡ 1
  pub reads : statement_of t (length x.values) x.place s (x.place + 1) ≡ got (statement x.place x.array x.subscripts x.source) next
  pub few : length x.values ≤ 8

module _ (s : List ℕ) (t : Tables) where
  -- inside so many loops, whatever their index values are, each statement stands in the bytes
  Item-stands : ℕ → Item → Type 0
  Item-stands loops i = (is : List ℤ) → length is ≡ loops → All (Stands s t) (executed i is)

  Items_stand : ℕ → Items → Type 0
  Items_stand loops js = (is : List ℤ) → length is ≡ loops → All (Stands s t) (executeds js is)

  statement-stands : (loops p next : ℕ) (i : Item) → loops ≤ 8 → p < length s → get_or s p 0 ≡ 1 → statement_of t loops p s (p + 1) ≡ got i next → Item-stands loops i
  unfolding Item-stands executed
  statement-stands loops p next i few inner one e = statement_by t loops p s (p + 1) e λ a fs x _ _ _ _ _ q.
      subst (λ (i : Item). Item-stands loops i) (sym q) λ is h. (
        record {
          next = next;
          inside = inner;
          code = one;
          reads = ap (λ (n : ℕ). statement_of t n p s (p + 1)) h ∙ e ∙ ap (λ (i : Item). got i next) q;
          few = omega (arith, h, few);
        },
        tt,
      )

  -- what follows the code of a loop or a guard
  Nested-stands : ℕ → ℕ → Type 0
  Nested-stands left loops = (code p next : ℕ) (i : Item) → nested t (length s) left loops code p s (p + 1) ≡ got i next → (eqb code 2 || eqb code 3) ≡ true → Item-stands loops i

  item-stands : (left loops : ℕ) → loops + left ≤ 8 → Nested-stands left loops → (code p next : ℕ) (i : Item) → p < length s → get_or s p 0 ≡ code
      → item_of t (length s) (nested t (length s) left loops) loops code p s (p + 1) ≡ got i next → Item-stands loops i
  unfolding item_of Nested-stands
  item-stands left loops few h code p next i inner c e =
      choose_by (eqb code 1) (statement_of t loops p) _ s (p + 1) e
      (λ q e1. statement-stands loops p next i (omega (arith, few)) inner (c ∙ eqb-true code 1 q) e1)
      λ _ e1. choose_by (eqb code 2 || eqb code 3) (nested t (length s) left loops code p) (refuse 9 p) s (p + 1) e1 (λ q e2. h code p next i e2 q) (λ _ e2. not-got e2)

  items_stand : (left loops : ℕ) → loops + left ≤ 8 → Nested-stands left loops → (js : Items) (n at next : ℕ)
      → items (item_of t (length s) (nested t (length s) left loops) loops) n s at ≡ got js next → Items_stand loops js
  unfolding Items_stand Item-stands executeds
  items_stand left loops few h end n at next e = λ is k. tt
  items_stand left loops few h (item j rest) n at next e =
      let one = item_of t (length s) (nested t (length s) left loops) loops in
      items_by one s at n e (λ _ q _. absurd (let z : ◌≡◌ {A = ℕ} 0 1 = cc in omega arith)) λ less mid i js e1 e2 q is k.
      let x : i ≡ j = cc in
      let y : js ≡ rest = cc in
      all_append (Stands s t) (executed j is) (executeds rest is)
      (item-stands left loops few h (get_or s at 0) at mid j (items_in one s at n e) refl (e1 ∙ ap (λ (i : Item). got i mid) x) is k)
      (items_stand left loops few h rest less mid next (e2 ∙ ap (λ (js : Items). got js next) y) is k)

  loop-stands : (left loops : ℕ) → loops + suc left ≤ 8 → Nested-stands left (loops + 1) → (p next : ℕ) (i : Item)
      → nested t (length s) (suc left) loops 2 p s (p + 1) ≡ got i next → Item-stands loops i
  unfolding Item-stands Items_stand executed body
  loop-stands left loops few h p next i e = loop_by s t (suc left) left loops p refl e λ f g z m n to js _ _ _ e1 q.
      subst (λ (i : Item). Item-stands loops i) (sym q) λ is k.
      all_each (Stands s t) (λ v. executeds js (is ++ (v ∷ [])))
      (λ v. items_stand left (loops + 1) (omega (arith, few)) h js (length s) to next e1 (is ++ (v ∷ [])) (length-append is (v ∷ []) ∙ ap (λ (n : ℕ). n + 1) k))
      (indices 65536 z (value_at g is) (value_at f is))

  guard-stands : (left loops : ℕ) → loops + suc left ≤ 8 → Nested-stands left loops → (p next : ℕ) (i : Item)
      → nested t (length s) (suc left) loops 3 p s (p + 1) ≡ got i next → Item-stands loops i
  unfolding Item-stands Items_stand executed body
  guard-stands left loops few h p next i e = guard_by s t (suc left) left loops p refl e λ f mid js _ e1 q.
      subst (λ (i : Item). Item-stands loops i) (sym q) λ is k.
      all_elim (Stands s t) (le_z (pos 0) (value_at f is)) (executeds js is) (items_stand left loops (omega (arith, few)) h js (length s) mid next e1 is k)

  nested-stands : (left loops : ℕ) → loops + left ≤ 8 → Nested-stands left loops
  unfolding Nested-stands nested
  nested-stands zero loops few code p next i e _ = not-got e
  nested-stands (suc left) loops few code p next i e q = go (eqb code 2) refl q
      (λ e. loop-stands left loops few (nested-stands left (loops + 1) (omega (arith, few))) p next i e)
      (λ e. guard-stands left loops few (nested-stands left loops (omega (arith, few))) p next i e)
    where
      go : (b : Bool) → eqb code 2 ≡ b → (b || eqb code 3) ≡ true → (nested t (length s) (suc left) loops 2 p s (p + 1) ≡ got i next → Item-stands loops i)
          → (nested t (length s) (suc left) loops 3 p s (p + 1) ≡ got i next → Item-stands loops i) → Item-stands loops i
      go true r _ f g = f (ap (λ (c : ℕ). nested t (length s) (suc left) loops c p s (p + 1)) (sym (eqb-true code 2 r)) ∙ e)
      go false _ r f g = g (ap (λ (c : ℕ). nested t (length s) (suc left) loops c p s (p + 1)) (sym (eqb-true code 3 r)) ∙ e)

-- each executed statement of a program that was read, in its bytes and in its items
program-stands : (s : List ℕ) (p : Program) (next : ℕ) → read_program s ≡ got p next → All (Stands s p.tables) (execution p)
unfolding execution body Items_stand
program-stands s p next e = program_by s e λ t first js end _ e1 q.
    subst (λ (p : Program). All (Stands s p.tables) (execution p)) (sym q)
    (items_stand s t 8 0 (omega arith) (nested-stands s t 8 0 (omega arith)) js (length s) first end e1 [] refl)

-- ---- the claims
hits-ok : (m : Ran ℕ) (e : ℕ) → hits m e ≡ true → m ≡ ok e
hits-ok (ok c) e h = ap ok (eqb-true c e h)
hits-ok (stop k p) e h = absurd (false≢true h)

zero_more : (k : ℕ) → k + 0 ≡ k
zero_more k = omega arith

-- the stretch of a statement that writes the element
stretched : (s : List ℕ) (p : Program) (a e : ℕ) (x : Executed) → Stands s p.tables x → Around (λ n i. InsideAny i n p.items) 0 x → writes_to p.tables a e x ≡ true
    → Stretch s p a e (origin_by s p.tables x)
unfolding end_of writes_to Around itself Same
stretched s p a e x h k w =
    let t = p.tables in
    let o = origin_by s t x in
    let q = both (eqb x.array a) (hits (cell_at t x.place x.values x.array x.subscripts) e) w in
    let loops : k.0 ≡ length x.values = let n = k.2 in omega arith in
    let into : x.array ≡ a = eqb-true x.array a q.0 in
    let to : end_of s t x ≡ h.next = ap (end_in x.place) h.reads in
    let f = held-got (Past s (x.place + 1 + 1)) (statement-held s t (length x.values) x.place (x.place + 1)) h.reads in
    let lo : x.place < o.to = omega (arith, f.0, to) in
    let hi : o.to ≤ length s = omega (arith, f.1, to) in
    let reads : statement_of t (length o.values) o.from s (o.from + 1) ≡ got (statement o.from a x.subscripts x.source) o.to =
    h.reads ∙ ap (λ (b : ℕ). got (statement x.place b x.subscripts x.source) h.next) into ∙ ap (λ (m : ℕ). got (statement x.place a x.subscripts x.source) m) (sym to) in
    let n : length (stretch_of s o) ≡ o.to - o.from = length-take-le (o.to - o.from) (drop o.from s) (let d = length-drop o.from s in omega arith) in
    let same : (i : ℕ) → i < length (stretch_of s o) → get_or (stretch_of s o) i 0 ≡ get_or s (o.from + i) 0 = λ i k. get_or-take (o.to - o.from) (drop o.from s) i 0 (omega (arith, n, k)) ∙ get_or-drop o.from s i 0 in
    let alone = same_statement s (stretch_of s o) o.from same (length o.values) t o.from 1 (statement o.from a x.subscripts x.source) o.to reads in
    record {
      subscripts = x.subscripts;
      source = x.source;
      some_bytes = lo;
      in_bytes = hi;
      code = h.code;
      first = same 0 (omega (arith, n, lo)) ∙ ap (λ (k : ℕ). get_or s k 0) (zero_more o.from) ∙ h.code;
      reads = reads;
      alone = alone.1 (length (stretch_of s o)) (omega (arith, n, lo)) (omega arith);
      around = subst (λ (b : ℕ). InsideAny (statement x.place b x.subscripts x.source) (length x.values) p.items) into (subst (λ (m : ℕ). InsideAny (itself x) m p.items) loops k.1);
      few = h.few;
      cell = ap (λ (b : ℕ). cell_at t x.place x.values b x.subscripts) (sym into) ∙ hits-ok (cell_at t x.place x.values x.array x.subscripts) e q.1;
    }

-- the traced run makes the run's updates
pub traces : (s : List ℕ) (l : Listed) → unrolled s ≡ ok l → Traced s l
traces s l r =
    let u = unrolls s l r in
    record {
      program = u.source;
      next = u.next;
      is_read = u.is_read;
      tables = u.tables;
      happens = subst (λ (us : List Update). Happens u.source.tables (execution u.source) us) (sym u.updates) (program-happens u.source u.done u.ran);
    }

-- what holds of an element's origin
pub written_at : (s : List ℕ) (l : Listed) → unrolled s ≡ ok l → (a e : ℕ) (o : Origin) → origin_of s a e ≡ some o → WrittenAt s l a e o
unfolding origin_of execution
written_at s l r a e o h = go (last (writes_to v.program.tables a e) (execution v.program)) refl (rw v.is_read at h)
  where
    v : Traced s l
    v = traces s l r

    go : (m : Option Executed) → last (writes_to v.program.tables a e) (execution v.program) ≡ m → origin_at s v.program.tables m ≡ some o → WrittenAt s l a e o
    go none q h = absurd (let z : ◌≡◌ {A = ℕ} 0 1 = cc in omega arith)
    go (some x) q h =
        let p = v.program in
        let k = last_split p.tables a e (execution p) l.updates v.happens x q in
        let z : ◌≡◌ {A = Origin} (origin_by s p.tables x) o = cc in
        let stands = all_at (Stands s p.tables) k.before x k.behind (subst (All (Stands s p.tables)) k.ran (program-stands s p v.next v.is_read)) in
        let around = all_at (Around (λ n i. InsideAny i n p.items) 0) k.before x k.behind (subst (All (Around (λ n i. InsideAny i n p.items) 0)) k.ran (items-around p.items [])) in
        let w : writes_to p.tables a e x ≡ true = does-writes p.tables a e x k.update k.does ∙ k.writes_it in
        record {
          traced = v;
          last = record {
            before = k.before;
            executed = x;
            behind = k.behind;
            earlier = k.earlier;
            update = k.update;
            later = k.later;
            ran = k.ran;
            made = k.made;
            same_number = k.same_number;
            does = k.does;
            writes_it = k.writes_it;
            no_later = k.no_later;
            origin = sym z;
          };
          stretch = subst (Stretch s p a e) z (stretched s p a e x stands around w);
        }

pub never-written : (s : List ℕ) (l : Listed) → unrolled s ≡ ok l → (a e : ℕ) → origin_of s a e ≡ none → written l.updates a e ≡ false
unfolding origin_of
never-written s l r a e h = go (last (writes_to v.program.tables a e) (execution v.program)) refl (rw v.is_read at h)
  where
    v : Traced s l
    v = traces s l r

    go : (m : Option Executed) → last (writes_to v.program.tables a e) (execution v.program) ≡ m → origin_at s v.program.tables m ≡ none → written l.updates a e ≡ false
    go none q h = none_written v.program.tables a e (execution v.program) l.updates v.happens q
    go (some x) q h = absurd (let z : ◌≡◌ {A = ℕ} 0 1 = cc in omega arith)
