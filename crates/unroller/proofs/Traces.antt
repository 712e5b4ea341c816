-- The walk for an element's last writer: a law for each step of the code.
use Rattle.std.specs.Prelude.{if◌then◌else◌, Result, Ok, Err, Option as Maybe, Some, None}
use Rattle.std.specs.Result.{result_ok}
use mathlib.Core.Path.{◌≡◌, refl, sym, ap, ◌∙◌, subst}
use Prim.Native.Nat.{ℕ, suc, ◌+◌, ◌≤◌, ◌<◌}
use native.Mathlib.Omega.{arith}
use native.Mathlib.Numerals.{add-one}
use mathlib.Core.List.{List, [], ◌∷◌, ◌++◌}
use mathlib.Core.Bool.{Bool, true, false, ◌&&◌}
use mathlib.Core.Option.{Option, none, some}
use lib.ListN.{length, get_or, take, set, length-set}
use lib.Seq.{take-suc-set, length-take-le}
use lib.Dec.{eqb, leb}
use lib.IntN.{ℤ, pos}
use lib.Signed.{le_z, lt_z}
use borrow.Author.Tests.{ne_eqb, le-leb}
use Rattle.model.specs.Tables.{Tables}
use Rattle.model.specs.declared.question.Refusal.{Refusal}
use Rattle.reader.specs.Field.{Outcome, got}
use Rattle.reader.specs.Syntax.{Form, Expr, Item, Items, count}
use Rattle.reader.specs.Syntax.Item.{statement, loop, guard}
use Rattle.reader.specs.Grammar.{form, step, subscripts, index, expression, statement_of, item_of, nested, items, body}
use Rattle.reader.specs.Answers.{read_says, place_says, through, ended}
use Rattle.reader.specs.Entries.{padded, items_step, expression_step}
use Rattle.reader.proofs.Binds.{not-got}
use Rattle.reader.proofs.Forward.{held-got, index-held}
use Rattle.reader.proofs.Lists.{padded-set}
use Rattle.unroller.specs.Run.{Ran, ok, value_at, fits16, Done, goes_on, indices, rounds, run, runs, update, cell_at}
use Rattle.unroller.specs.Forms.{Values}
use Rattle.unroller.specs.WalkItems.{Ends, within16, RangeIs, Ranges}
use Rattle.unroller.specs.Writes.{CellIs, CellsFrom, CellOf}
use Rattle.unroller.specs.Executed.{Executed, each, executed, executeds, writes_to, or_else, last, Origin, end_in, end_of, origin_at}
use Rattle.unroller.specs.Scopes.{bytes, tables, around, inside}
use Rattle.unroller.specs.Walk.{item_in}
use Rattle.unroller.specs.Origins.{writer_is, Seen, Passed, Eight, PastIs, TracesStatement, TracesItem, TracesItems, TracesNested, TracesRound, TracesRounds}
use Rattle.unroller.specs.declared.walk.Scope.{Scope}
use Rattle.unroller.specs.declared.items.Range.{Range}
use Rattle.unroller.specs.declared.origins.Element.{Element}
use Rattle.unroller.specs.declared.origins.Writer.{Writer}
use Rattle.unroller.proofs.Runs.{run_by, ask_by}
use Rattle.unroller.proofs.Indices.{indices_none}
use Rattle.unroller.proofs.WalkForward.{item_forward, told}
use Rattle.unroller.proofs.WalkItems.{none_some, items_in, items_by, sign_true, sign_false, guard_by, loop_by}
use Rattle.unroller.proofs.Executed.{statement_by}

-- ---- answers whose refusal is dropped
pub some_same : {A : Type 0} {a b : A} → ◌≡◌ {A = Maybe A} (Some a) (Some b) → a ≡ b
some_same e = cc

pub ok_is : {A E : Type 0} (r : Result A E) {a : A} → result_ok r ≡ Some a → r ≡ Ok a
ok_is (Ok y) q = ap Ok (some_same q)
ok_is (Err g) q = none_some q

module _ {A : Type 0} where
  pub read_lost : {P : Type 0} (r : Result (A × ℕ) Refusal) {x : A} {next : ℕ} → read_says r ≡ got x next → result_ok r ≡ None → P
  read_lost (Ok y) e q = none_some (sym q)
  read_lost (Err g) e q = not-got e

  pub read_kept : (r : Result (A × ℕ) Refusal) {x y : A} {next to : ℕ} → read_says r ≡ got x next → result_ok r ≡ Some (y, to) → (y ≡ x) × (to ≡ next)
  read_kept (Ok p) {x} {y} {next} {to} e q =
      let h : p ≡ (y, to) = some_same q in
      let g : ◌≡◌ {A = Outcome A} (got y to) (got x next) = ap (λ (p : A × ℕ). got p.0 p.1) (sym h) ∙ e in
      (cc, cc)
  read_kept (Err g) e q = not-got e

place_kept : (r : Result ℕ Refusal) {next : ℕ} → place_says r ≡ got 0 next → result_ok r ≡ Some next
place_kept (Ok to) {next} e = let g : ◌≡◌ {A = Outcome ℕ} (got 0 to) (got 0 next) = e in ap Some (let h : to ≡ next = cc in h)
place_kept (Err g) e = not-got e

range_lost : {P : Type 0} (u : Ends) (z : ℤ) (to : ℕ) (r : Result Range Refusal) → RangeIs (ok u) z to r → result_ok r ≡ None → P
range_lost u z to (Ok x) h q = none_some (sym q)
range_lost u z to (Err g) h q = absurd h

range_kept : (u : Ends) (z : ℤ) (to : ℕ) (r : Result Range Refusal) {x : Range} → RangeIs (ok u) z to r → result_ok r ≡ Some x → x ≡ record { first = u.first; last = u.last; step = z; body = to }
range_kept u z to (Ok y) h q = sym (some_same q) ∙ h
range_kept u z to (Err g) h q = absurd h

cell_lost : {P : Type 0} (c z : ℕ) (r : Result (ℕ × ℕ) Refusal) → CellIs (ok c) z r → result_ok r ≡ None → P
cell_lost c z (Ok p) h q = none_some (sym q)
cell_lost c z (Err k) h q = absurd h

cell_kept : (c z : ℕ) (r : Result (ℕ × ℕ) Refusal) {found to : ℕ} → CellIs (ok c) z r → result_ok r ≡ Some (found, to) → (found ≡ c) × (to ≡ z)
cell_kept c z (Ok p) h q = let k = some_same q in (sym (ap (λ (p : ℕ × ℕ). p.0) k) ∙ h.0, sym (ap (λ (p : ℕ × ℕ). p.1) k) ∙ h.1)
cell_kept c z (Err k) h q = absurd h

-- ---- the last of two rows of statements
module _ {A : Type 0} where
  pub or_none : (x : Option A) → or_else x none ≡ x
  or_none (some a) = refl
  or_none none = refl

  or_assoc : (x y z : Option A) → or_else x (or_else y z) ≡ or_else (or_else x y) z
  or_assoc (some a) y z = refl
  or_assoc none y z = refl

  last_append : (f : A → Bool) (xs ys : List A) → last f (xs ++ ys) ≡ or_else (last f ys) (last f xs)
  last_append f [] ys = sym (or_none (last f ys))
  last_append f (x ∷ xs) ys =
      ap (λ (r : Option A). or_else r (if f x then some x else none)) (last_append f xs ys) ∙ sym (or_assoc (last f ys) (last f xs) (if f x then some x else none))

module _ (s : List ℕ) (t : Tables) where
  origin_or : (x y : Option Executed) → origin_at s t (or_else x y) ≡ or_else (origin_at s t x) (origin_at s t y)
  origin_or (some x) y = refl
  origin_or none y = refl

  module _ (a e : ℕ) where
    seen_none : (w : Maybe Writer) → Seen s t a e [] w w
    unfolding Seen
    seen_none w o h = h

    seen_then : (xs ys : List Executed) (w w₁ w₂ : Maybe Writer) → Seen s t a e xs w w₁ → Seen s t a e ys w₁ w₂ → Seen s t a e (xs ++ ys) w w₂
    unfolding Seen
    seen_then xs ys w w₁ w₂ h k o q =
        k (or_else (origin_at s t (last (writes_to t a e) xs)) o) (h o q)
        ∙ ap writer_is (or_assoc (origin_at s t (last (writes_to t a e) ys)) (origin_at s t (last (writes_to t a e) xs)) o
        ∙ ap (λ (z : Option Origin). or_else z o) (sym (origin_or (last (writes_to t a e) ys) (last (writes_to t a e) xs)) ∙ ap (origin_at s t) (sym (last_append (writes_to t a e) xs ys))))

    pub passed_then : (xs ys : List Executed) (mid next : ℕ) (w : Maybe Writer) (r₁ : Maybe ℕ) (w₁ : Maybe Writer) (r₂ : Maybe ℕ) (w₂ : Maybe Writer) → Passed s t a e mid xs w r₁ w₁ → Passed s t a e next ys w₁ r₂ w₂ → Passed s t a e next (xs ++ ys) w r₂ w₂
    passed_then xs ys mid next w r₁ w₁ r₂ w₂ h k = record { to = k.to; seen = seen_then xs ys w w₁ w₂ h.seen k.seen }

    pub passed_none : (r : Maybe ℕ) (next : ℕ) (w : Maybe Writer) → r ≡ Some next → Passed s t a e next [] w r w
    passed_none r next w q = record { to = q; seen = seen_none w }

-- ---- items, one by
module _ (scope : Scope) (left at : ℕ) (element : Element) (w : Maybe Writer) where
  pub items_out : (r : Maybe ℕ) (w' : Maybe Writer) → length (bytes scope) ≤ at → TracesItems scope at left element w r w'
  unfolding TracesItems
  items_out r w' h js next most d d' q _ _ _ = absurd (let k = items_in (item_in scope left) (bytes scope) at most q in omega arith)

  pub items_end : get_or (bytes scope) at 0 ≡ 0 → TracesItems scope at left element w (Some (at + 1)) w
  unfolding TracesItems executeds item_of
  items_end z js next most d d' q _ _ _ =
      items_by (item_in scope left) (bytes scope) at most q
      (λ _ x y. subst (λ (js : Items). Passed (bytes scope) (tables scope) element.array element.cell next (executeds js (around scope)) w (Some (at + 1)) w) (sym x) (passed_none (bytes scope) (tables scope) element.array element.cell (Some (at + 1)) next w (ap Some (sym y))))
      (λ less mid i js' e1 e2 x. absurd (no_item mid i e1))
    where
      no_item : (mid : ℕ) (i : Item) → item_in scope left (get_or (bytes scope) at 0) at (bytes scope) (at + 1) ≡ got i mid → ⊥
      no_item mid i e = not-got (rw z at e)

  module _ (nz : get_or (bytes scope) at 0 ≡ 0 → ⊥) (r₀ : Maybe ℕ) (w₀ : Maybe Writer) (first : TracesItem scope at (get_or (bytes scope) at 0) left element w r₀ w₀) where
    pub items_lost : (r : Maybe ℕ) (w' : Maybe Writer) → r₀ ≡ None → TracesItems scope at left element w r w'
    unfolding TracesItem TracesItems runs
    items_lost r w' case js next most d d' q b8 eight ran =
        items_by (item_in scope left) (bytes scope) at most q (λ z _ _. absurd (nz z)) λ less mid i js' e1 e2 x.
        run_by (run i (tables scope) (around scope) d) _ (subst (λ (js : Items). runs js (tables scope) (around scope) d ≡ ok d') x ran) λ d₁ r1 r2.
        none_some (sym case ∙ (first i mid d d₁ e1 b8 eight r1).to)

    pub items_step_lem : (to : ℕ) → r₀ ≡ Some to → (r : Maybe ℕ) (w' : Maybe Writer) → TracesItems scope to left element w₀ r w' → TracesItems scope at left element w r w'
    unfolding TracesItem TracesItems executeds runs
    items_step_lem to case r w' v js next most d d' q b8 eight ran =
        items_by (item_in scope left) (bytes scope) at most q (λ z _ _. absurd (nz z)) λ less mid i js' e1 e2 x.
        run_by (run i (tables scope) (around scope) d) _ (subst (λ (js : Items). runs js (tables scope) (around scope) d ≡ ok d') x ran) λ d₁ r1 r2.
        let h = first i mid d d₁ e1 b8 eight r1 in
        subst (λ (js : Items). Passed (bytes scope) (tables scope) element.array element.cell next (executeds js (around scope)) w r w') (sym x)
        (passed_then (bytes scope) (tables scope) element.array element.cell (executed i (around scope)) (executeds js' (around scope)) mid next w r₀ w₀ r w' h
        (v js' next less d₁ d' (ap (items (item_in scope left) less (bytes scope)) (some_same (sym case ∙ h.to)) ∙ e2) b8 eight r2))

    pub items_back : (to : ℕ) → r₀ ≡ Some to → (r : Maybe ℕ) (w' : Maybe Writer) → to ≤ at → TracesItems scope at left element w r w'
    unfolding TracesItem TracesItems runs
    items_back to case r w' back js next most d d' q b8 eight ran =
        items_by (item_in scope left) (bytes scope) at most q (λ z _ _. absurd (nz z)) λ less mid i js' e1 e2 x.
        run_by (run i (tables scope) (around scope) d) _ (subst (λ (js : Items). runs js (tables scope) (around scope) d ≡ ok d') x ran) λ d₁ r1 r2.
        let h = first i mid d d₁ e1 b8 eight r1 in
        let n = item_forward (bytes scope) (tables scope) left scope.loops (get_or (bytes scope) at 0) at (items_in (item_in scope left) (bytes scope) at most q) e1 in
        absurd (let same = some_same (sym case ∙ h.to) in omega arith)

  -- ---- one item, by its code
  module _ (r : Maybe ℕ) (w' : Maybe Writer) where
    pub item-statement : TracesStatement scope at element w r w' → TracesItem scope at 1 left element w r w'
    unfolding TracesStatement TracesItem item_of
    item-statement v i next d d' q b8 eight ran = v i next d d' q (omega arith) eight ran

    pub item-loop : TracesNested scope at 2 left element w r w' → TracesItem scope at 2 left element w r w'
    unfolding TracesNested TracesItem item_of
    item-loop v i next d d' q b8 eight ran = v i next d d' q b8 eight ran

    pub item-guard : TracesNested scope at 3 left element w r w' → TracesItem scope at 3 left element w r w'
    unfolding TracesNested TracesItem item_of
    item-guard v i next d d' q b8 eight ran = v i next d d' q b8 eight ran

    pub item_none : (code : ℕ) → (code ≡ 1 → ⊥) → (code ≡ 2 → ⊥) → (code ≡ 3 → ⊥) → TracesItem scope at code left element w r w'
    unfolding TracesItem item_of
    item_none code n1 n2 n3 i next d d' q b8 eight ran = not-got (rw (ne_eqb code 1 n1, ne_eqb code 2 n2, ne_eqb code 3 n3) at q)

    pub nested_none : (code : ℕ) → left ≡ 0 → TracesNested scope at code left element w r w'
    unfolding TracesNested nested
    nested_none code z i next d d' q b8 eight ran = no_nested (rw z at q)
      where
        no_nested : {P : Type 0} → nested (tables scope) (length (bytes scope)) 0 scope.loops code at (bytes scope) (at + 1) ≡ got i next → P
        no_nested e = not-got e

-- ---- guards
module _ (scope : Scope) (left less at : ℕ) (element : Element) (w : Maybe Writer) (fewer : left ≡ suc less) where
  -- a guard that ran, taken apart
  guard-ran : {P : Type 0} (i : Item) (next : ℕ) (d d' : Done) → nested (tables scope) (length (bytes scope)) left scope.loops 3 at (bytes scope) (at + 1) ≡ got i next → run i (tables scope) (around scope) d ≡ ok d'
      → ((g : Form) (mid : ℕ) (js : Items) → form scope.loops (bytes scope) (at + 1) ≡ got g mid → body (tables scope) (length (bytes scope)) less scope.loops (bytes scope) mid ≡ got js next → i ≡ guard at g js
      → ◌≡◌ {A = Ran Done} (elim (le_z (pos 0) (value_at g (around scope))) as (λ b. Ran Done) [ true ↦ runs js (tables scope) (around scope) d | false ↦ ok d ]) (ok d') → P) → P
  unfolding run
  guard-ran i next d d' q ran k = guard_by (bytes scope) (tables scope) left less scope.loops at fewer q λ g mid js e1 e2 x. k g mid js e1 e2 x (subst (λ (i : Item). run i (tables scope) (around scope) d ≡ ok d') x ran)

  module _ (v₀ : Result (ℤ × ℕ) Refusal) (values : Values (bytes scope) (at + 1) scope.loops scope.indices v₀) (r : Maybe ℕ) (w' : Maybe Writer) where
    pub guard_lost : result_ok v₀ ≡ None → TracesNested scope at 3 left element w r w'
    unfolding TracesNested Values
    guard_lost case i next d d' q b8 eight ran = guard-ran i next d d' q ran λ g mid js e1 _ _ _. read_lost v₀ (values g mid e1 (omega arith) eight.long) case

    module _ (u : ℤ) (to : ℕ) (case : result_ok v₀ ≡ Some (u, to)) where
      pub guard-runs : lt_z u (pos 0) ≡ false → TracesItems scope to less element w r w' → TracesNested scope at 3 left element w r w'
      unfolding TracesNested TracesItems Values executed body
      guard-runs z v i next d d' q b8 eight ran = guard-ran i next d d' q ran λ g mid js e1 e2 x r1.
          let h = read_kept v₀ (values g mid e1 (omega arith) eight.long) case in
          let l : le_z (pos 0) (value_at g (around scope)) ≡ true = ap (le_z (pos 0)) (sym h.0) ∙ sign_true u z in
          subst (λ (i : Item). Passed (bytes scope) (tables scope) element.array element.cell next (executed i (around scope)) w r w') (sym x)
          (subst (λ (b : Bool). Passed (bytes scope) (tables scope) element.array element.cell next (elim b as (λ b. List Executed) [ true ↦ executeds js (around scope) | false ↦ [] ]) w r w') (sym l)
          (v js next (length (bytes scope)) d d' (ap (body (tables scope) (length (bytes scope)) less scope.loops (bytes scope)) h.1 ∙ e2) (omega arith) eight
          (subst (λ (b : Bool). ◌≡◌ {A = Ran Done} (elim b as (λ b. Ran Done) [ true ↦ runs js (tables scope) (around scope) d | false ↦ ok d ]) (ok d')) l r1)))

      pub guard_passes : lt_z u (pos 0) ≡ true → (n₀ : Result ℕ Refusal) → place_says n₀ ≡ ended (items_step (tables scope) less scope.loops (bytes scope) to) → r ≡ result_ok n₀ → w' ≡ w → TracesNested scope at 3 left element w r w'
      unfolding TracesNested Values executed
      guard_passes z n₀ ends v kept i next d d' q b8 eight ran = guard-ran i next d d' q ran λ g mid js e1 e2 x _.
          let h = read_kept v₀ (values g mid e1 (omega arith) eight.long) case in
          let l : le_z (pos 0) (value_at g (around scope)) ≡ false = ap (le_z (pos 0)) (sym h.0) ∙ sign_false u z in
          subst (λ (i : Item). Passed (bytes scope) (tables scope) element.array element.cell next (executed i (around scope)) w r w') (sym x)
          (subst (λ (b : Bool). Passed (bytes scope) (tables scope) element.array element.cell next (elim b as (λ b. List Executed) [ true ↦ executeds js (around scope) | false ↦ [] ]) w r w') (sym l)
          (subst (λ (w' : Maybe Writer). Passed (bytes scope) (tables scope) element.array element.cell next [] w r w') (sym kept) (passed_none (bytes scope) (tables scope) element.array element.cell r next w (v ∙ place_kept n₀ (told (bytes scope) to (tables scope) less scope.loops n₀ ends (ap (body (tables scope) (length (bytes scope)) less scope.loops (bytes scope)) h.1 ∙ e2) (omega arith))))))

-- ---- loops
-- ends that lie in 16 signed bits
within-ok : (p : ℕ) (first final : ℤ) → (fits16 first && fits16 final) ≡ true → within16 p first final ≡ ok (record { first = first; last = final })
unfolding within16
within-ok p first final q = rw q refl

module _ (scope : Scope) (left less at : ℕ) (element : Element) (w : Maybe Writer) (fewer : left ≡ suc less) where
  abbrev ends : Form → Form → Ran Ends
  ends f g = within16 at (value_at f (around scope)) (value_at g (around scope))

  -- a loop that ran, taken apart
  loop-ran : {P : Type 0} (i : Item) (next : ℕ) (d d' : Done) → nested (tables scope) (length (bytes scope)) left scope.loops 2 at (bytes scope) (at + 1) ≡ got i next → run i (tables scope) (around scope) d ≡ ok d'
      → ((f g : Form) (z : ℤ) (m n to : ℕ) (js : Items) → form scope.loops (bytes scope) (at + 1) ≡ got f m → form scope.loops (bytes scope) m ≡ got g n → step (bytes scope) n ≡ got z to
      → body (tables scope) (length (bytes scope)) less (scope.loops + 1) (bytes scope) to ≡ got js next → i ≡ loop at f g z js → ends f g ≡ ok (record { first = value_at f (around scope); last = value_at g (around scope) })
      → rounds (indices 65536 z (value_at g (around scope)) (value_at f (around scope))) at (λ k d. runs js (tables scope) (around scope ++ (k ∷ [])) d) d ≡ ok d' → P) → P
  unfolding run
  loop-ran i next d d' q ran k = loop_by (bytes scope) (tables scope) left less scope.loops at fewer q λ f g z m n to js e1 e2 e3 e4 x.
      ask_by 15 at (fits16 (value_at f (around scope)) && fits16 (value_at g (around scope))) _ (subst (λ (i : Item). run i (tables scope) (around scope) d ≡ ok d') x ran) λ fit r1.
      k f g z m n to js e1 e2 e3 e4 x (within-ok at (value_at f (around scope)) (value_at g (around scope)) fit) r1

  module _ (r₀ : Result Range Refusal) (ranges : Ranges scope at r₀) (r : Maybe ℕ) (w' : Maybe Writer) where
    -- the range of a loop that ran
    ranged : {f g : Form} {z : ℤ} {m n to : ℕ} → form scope.loops (bytes scope) (at + 1) ≡ got f m → form scope.loops (bytes scope) m ≡ got g n → step (bytes scope) n ≡ got z to → scope.loops ≤ 8 → length scope.indices ≡ 8
        → ends f g ≡ ok (record { first = value_at f (around scope); last = value_at g (around scope) })
        → RangeIs (ok (record { first = value_at f (around scope); last = value_at g (around scope) })) z to r₀
    unfolding Ranges
    ranged {f} {g} {z} {m} {n} {to} e1 e2 e3 b8 l8 good = subst (λ (u : Ran Ends). RangeIs u z to r₀) good (ranges f g z m n to e1 e2 e3 b8 l8)

    pub loop_lost : result_ok r₀ ≡ None → TracesNested scope at 2 left element w r w'
    unfolding TracesNested
    loop_lost case i next d d' q b8 eight ran = loop-ran i next d d' q ran λ f g z m n to js e1 e2 e3 _ _ good _.
        range_lost (record { first = value_at f (around scope); last = value_at g (around scope) }) z to r₀ (ranged e1 e2 e3 (omega arith) eight.long good) case

    pub loop-runs : (u : Range) → result_ok r₀ ≡ Some u → TracesRounds scope u.body less u.step u.last 65536 u.first None element w r w' → TracesNested scope at 2 left element w r w'
    unfolding TracesNested TracesRounds executed
    loop-runs u case v i next d d' q b8 eight ran = loop-ran i next d d' q ran λ f g z m n to js e1 e2 e3 e4 l good r1.
        let h = range_kept (record { first = value_at f (around scope); last = value_at g (around scope) }) z to r₀ (ranged e1 e2 e3 (omega arith) eight.long good) case in
        subst (λ (i : Item). Passed (bytes scope) (tables scope) element.array element.cell next (executed i (around scope)) w r w') (sym l)
        (subst
        (λ (u : Range). Passed (bytes scope) (tables scope) element.array element.cell next (each (λ k. executeds js (around scope ++ (k ∷ []))) (indices 65536 u.step u.last u.first)) w r w')
        h
        (v js next at d d' (subst (λ (u : Range). body (tables scope) (length (bytes scope)) less (scope.loops + 1) (bytes scope) u.body ≡ got js next) (sym h) e4) (omega arith) eight (λ z e. none_some e)
        (subst (λ (u : Range). rounds (indices 65536 u.step u.last u.first) at (λ k d. runs js (tables scope) (around scope ++ (k ∷ [])) d) d ≡ ok d') (sym h) r1)))

-- ---- rounds
module _ (scope : Scope) (from left : ℕ) (element : Element) where
  module _ (step final : ℤ) (most : ℕ) (index : ℤ) (past : Maybe ℕ) (w : Maybe Writer) where
    pub rounds-found : (n : ℕ) → goes_on step final index ≡ false → past ≡ Some n → TracesRounds scope from left step final most index past element w (Some n) w
    unfolding TracesRounds
    rounds-found n g k js next p d d' q b8 eight found ran = rw (indices_none most step final index g) (passed_none (bytes scope) (tables scope) element.array element.cell (Some n) next w (ap Some (found n k)))

    pub rounds_none : (n₀ : Result ℕ Refusal) (r : Maybe ℕ) → goes_on step final index ≡ false → place_says n₀ ≡ ended (items_step (tables scope) left (scope.loops + 1) (bytes scope) from) → r ≡ result_ok n₀
        → TracesRounds scope from left step final most index past element w r w
    unfolding TracesRounds
    rounds_none n₀ r g ends v js next p d d' q b8 eight found ran =
        rw (indices_none most step final index g)
        (passed_none (bytes scope) (tables scope) element.array element.cell r next w (v ∙ place_kept n₀ (told (bytes scope) from (tables scope) left (scope.loops + 1) n₀ ends q (omega arith))))

    module _ (less : ℕ) (i after : ℤ) (more : indices most step final index ≡ i ∷ indices less step final after) (r₀ : Maybe ℕ) (w₀ : Maybe Writer) (u : TracesRound scope from left i element w r₀ w₀) where
      pub rounds_lost : r₀ ≡ None → (r : Maybe ℕ) (w' : Maybe Writer) → TracesRounds scope from left step final most index past element w r w'
      unfolding TracesRounds TracesRound rounds
      rounds_lost case r w' js next p d d' q b8 eight found ran =
          ask_by 18 p (leb (d.rounds + 1) 65536) _ (subst (λ (l : List ℤ). rounds l p (λ k d. runs js (tables scope) (around scope ++ (k ∷ [])) d) d ≡ ok d') more ran) λ _ r1.
          run_by (runs js (tables scope) (around scope ++ (i ∷ [])) (record { rounds = d.rounds + 1; nodes = d.nodes; updates = d.updates })) _ r1 λ d₁ r2 r3.
          none_some (sym case ∙ (u js next (record { rounds = d.rounds + 1; nodes = d.nodes; updates = d.updates }) d₁ q b8 eight r2).to)

      pub rounds-step : (to : ℕ) → r₀ ≡ Some to → (r : Maybe ℕ) (w' : Maybe Writer) → TracesRounds scope from left step final less after (Some to) element w₀ r w' → TracesRounds scope from left step final most index past element w r w'
      unfolding TracesRounds TracesRound rounds
      rounds-step to case r w' v js next p d d' q b8 eight found ran =
          ask_by 18 p (leb (d.rounds + 1) 65536) _ (subst (λ (l : List ℤ). rounds l p (λ k d. runs js (tables scope) (around scope ++ (k ∷ [])) d) d ≡ ok d') more ran) λ _ r1.
          run_by (runs js (tables scope) (around scope ++ (i ∷ [])) (record { rounds = d.rounds + 1; nodes = d.nodes; updates = d.updates })) _ r1 λ d₁ r2 r3.
          let h = u js next (record { rounds = d.rounds + 1; nodes = d.nodes; updates = d.updates }) d₁ q b8 eight r2 in
          subst (λ (l : List ℤ). Passed (bytes scope) (tables scope) element.array element.cell next (each (λ k. executeds js (around scope ++ (k ∷ []))) l) w r w') (sym more)
          (passed_then (bytes scope) (tables scope) element.array element.cell (executeds js (around scope ++ (i ∷ []))) (each (λ k. executeds js (around scope ++ (k ∷ []))) (indices less step final after)) next next w r₀ w₀ r w' h
          (v js next p d₁ d' q b8 eight (λ n e. some_same (sym e ∙ sym case ∙ h.to)) r3))

  pub round-runs : (index : ℤ) (w : Maybe Writer) (r : Maybe ℕ) (w' : Maybe Writer) → TracesItems (inside scope index) from left element w r w' → TracesRound scope from left index element w r w'
  unfolding TracesRound TracesItems body
  round-runs index w r w' v js next d d' q b8 eight ran =
      let l : length scope.indices ≡ 8 = eight.long in
      let n : length (around scope) ≡ scope.loops = length-take-le scope.loops scope.indices (omega arith) in
      let x : take (scope.loops + 1) (set scope.indices scope.loops index) ≡ around scope ++ (index ∷ []) = ap (λ (n : ℕ). take n (set scope.indices scope.loops index)) (add-one scope.loops) ∙ take-suc-set scope.indices scope.loops index (omega arith) in
      let z : set scope.indices scope.loops index ≡ padded 8 (pos 0) (around scope ++ (index ∷ [])) = ap (λ (l : List ℤ). set l scope.loops index) eight.zeros ∙ padded-set 8 (pos 0) (around scope) scope.loops index n (omega arith) in
      subst (λ (l : List ℤ). Passed (bytes scope) (tables scope) element.array element.cell next (executeds js l) w r w') x
      (v js next (length (bytes scope)) d d' q (omega arith) (record { long = length-set scope.indices scope.loops index ∙ l; zeros = z ∙ ap (padded 8 (pos 0)) (sym x) })
      (subst (λ (l : List ℤ). runs js (tables scope) l d ≡ ok d') (sym x) ran))

  pub round_empty : (index : ℤ) (w : Maybe Writer) → get_or (bytes scope) from 0 ≡ 0 → TracesRound scope from left index element w (Some (from + 1)) w
  round_empty index w z = round-runs index w (Some (from + 1)) w (items_end (inside scope index) left from element w z)

-- ---- a statement
module _ (scope : Scope) (at : ℕ) (element : Element) (w : Maybe Writer) where
  -- one that ran, taken apart
  statement-ran : {P : Type 0} (i : Item) (next : ℕ) (d d' : Done) → statement_of (tables scope) scope.loops at (bytes scope) (at + 1) ≡ got i next → run i (tables scope) (around scope) d ≡ ok d'
      → ((b : ℕ) (fs : List Form) (x : Expr) (y z c : ℕ) → index (length (tables scope).arrays) (bytes scope) (at + 1) ≡ got b y → subscripts (tables scope) scope.loops b (bytes scope) y ≡ got fs z → expression (tables scope) scope.loops (bytes scope) z ≡ got x next
      → i ≡ statement at b fs x → cell_at (tables scope) at (around scope) b fs ≡ ok c → P) → P
  unfolding run update
  statement-ran i next d d' q ran k = statement_by (tables scope) scope.loops at (bytes scope) (at + 1) q λ b fs x y z e1 e2 e3 l.
      ask_by 19 at (leb (length d.updates + 1) 2048) _ (subst (λ (i : Item). run i (tables scope) (around scope) d ≡ ok d') l ran) λ _ r1.
      ask_by 20 at (leb (d.nodes + count x) 8192) _ r1 λ _ r2.
      run_by (cell_at (tables scope) at (around scope) b fs) _ r2 λ c r3 _. k b fs x y z c e1 e2 e3 l r3

  -- its mark, where it writes the element
  statement-seen : (b : ℕ) (fs : List Form) (x : Expr) (next : ℕ) (b₀ : Bool)
      → writes_to (tables scope) element.array element.cell (record { place = at; values = around scope; array = b; subscripts = fs; source = x }) ≡ b₀ → Eight scope.loops scope.indices → scope.loops ≤ 8
      → end_in at (statement_of (tables scope) scope.loops at (bytes scope) (at + 1)) ≡ next → (w' : Maybe Writer) → w' ≡ (if b₀ then Some (record { from = at; to = next; count = scope.loops; indices = scope.indices }) else w)
      → Seen (bytes scope) (tables scope) element.array element.cell (executed (statement at b fs x) (around scope)) w w'
  unfolding Seen executed end_of
  statement-seen b fs x next true q eight few f w' k o h =
      let m : length (around scope) ≡ scope.loops = let n = eight.long in length-take-le scope.loops scope.indices (omega arith) in
      let f₁ : end_in at (statement_of (tables scope) (length (around scope)) at (bytes scope) (at + 1)) ≡ next = ap (λ (n : ℕ). end_in at (statement_of (tables scope) n at (bytes scope) (at + 1))) m ∙ f in
      let f' = sym f₁ in
      let m' = sym m in
      rw q (k ∙ λ j. Some (record { from = at; to = f' j; count = m' j; indices = eight.zeros j }))
  statement-seen b fs x next false q eight few f w' k o h = rw q (k ∙ h)

  module _ (n : ℕ) (many : n ≡ length (tables scope).arrays) (f₀ : Result (ℕ × ℕ) Refusal) (says : read_says f₀ ≡ index n (bytes scope) (at + 1)) (r : Maybe ℕ) (w' : Maybe Writer) where
    pub no_array : result_ok f₀ ≡ None → TracesStatement scope at element w r w'
    unfolding TracesStatement
    no_array case i next d d' h few eight ran = statement-ran i next d d' h ran λ b fs x y z c e1 e2 e3 l r1.
        read_lost f₀ (says ∙ ap (λ (m : ℕ). index m (bytes scope) (at + 1)) many ∙ e1) case

    module _ (b y : ℕ) (case : result_ok f₀ ≡ Some (b, y)) (c₀ : Result (ℕ × ℕ) Refusal) (cells : CellOf (bytes scope) y (tables scope) scope.loops scope.indices b c₀) where
      -- the target, and its cell
      target-ran : {P : Type 0} (i : Item) (next : ℕ) (d d' : Done) → statement_of (tables scope) scope.loops at (bytes scope) (at + 1) ≡ got i next → scope.loops ≤ 8 → Eight scope.loops scope.indices → run i (tables scope) (around scope) d ≡ ok d'
          → ((fs : List Form) (x : Expr) (z c : ℕ) → expression (tables scope) scope.loops (bytes scope) z ≡ got x next → i ≡ statement at b fs x → cell_at (tables scope) at (around scope) b fs ≡ ok c → CellIs (ok c) z c₀ → P) → P
      unfolding CellOf CellsFrom subscripts cell_at
      target-ran {P} i next d d' h few eight ran k = statement-ran i next d d' h ran λ b' fs x y' z c e1 e2 e3 l r1.
          let g = read_kept f₀ (says ∙ ap (λ (m : ℕ). index m (bytes scope) (at + 1)) many ∙ e1) case in
          let p : b' ≡ b = sym g.0 in
          let q : y' ≡ y = sym g.1 in
          let e4 : subscripts (tables scope) scope.loops b (bytes scope) y ≡ got fs z = subst (λ (y : ℕ). subscripts (tables scope) scope.loops b (bytes scope) y ≡ got fs z) q (subst (λ (b : ℕ). subscripts (tables scope) scope.loops b (bytes scope) y' ≡ got fs z) p e2) in
          let e5 : index (length (tables scope).arrays) (bytes scope) (at + 1) ≡ got b y' = subst (λ (b : ℕ). index (length (tables scope).arrays) (bytes scope) (at + 1) ≡ got b y') p e1 in
          let r2 : cell_at (tables scope) at (around scope) b fs ≡ ok c = subst (λ (b : ℕ). cell_at (tables scope) at (around scope) b fs ≡ ok c) p r1 in
          k fs x z c e3 (l ∙ ap (λ (b : ℕ). statement at b fs x) p) r2 (subst (λ (m : Ran ℕ). CellIs m z c₀) r2 (cells (held-got (λ x next. (x < length (tables scope).arrays) × (next ≡ at + 1 + 1) × (next ≤ length (bytes scope))) (index-held (bytes scope) (length (tables scope).arrays) (at + 1)) e5).0 fs z at e4 few eight.long))

      pub no_cell : result_ok c₀ ≡ None → TracesStatement scope at element w r w'
      unfolding TracesStatement
      no_cell case₂ i next d d' h few eight ran = target-ran i next d d' h few eight ran λ fs x z c e3 l r1 v. cell_lost c z c₀ v case₂

      module _ (found z : ℕ) (case₂ : result_ok c₀ ≡ Some (found, z)) (b₀ : Bool) (hit : b₀ ≡ (eqb b element.array && eqb found element.cell)) (ends : PastIs scope at z b₀ w r w') where
        -- whether the statement writes the element
        test : (fs : List Form) (x : Expr) → cell_at (tables scope) at (around scope) b fs ≡ ok found
            → writes_to (tables scope) element.array element.cell (record { place = at; values = around scope; array = b; subscripts = fs; source = x }) ≡ b₀
        unfolding writes_to
        test fs x r1 = rw r1 (sym hit)

        pub statement-ends : TracesStatement scope at element w r w'
        unfolding TracesStatement PastIs
        statement-ends i next d d' h few eight ran = target-ran i next d d' h few eight ran λ fs x z' c e3 l r1 v.
            let u = cell_kept c z' c₀ v case₂ in
            let k = ends x next (ap (λ (z : ℕ). expression (tables scope) scope.loops (bytes scope) z) u.1 ∙ e3) few in
            let q = test fs x (r1 ∙ ap ok (sym u.0)) in
            subst (λ (i : Item). Passed (bytes scope) (tables scope) element.array element.cell next (executed i (around scope)) w r w') (sym l)
            (record { to = k.0; seen = statement-seen b fs x next b₀ q eight few (ap (end_in at) h) w' k.1 })

-- ---- the place past a statement
module _ (scope : Scope) (at source : ℕ) (w : Maybe Writer) (g₀ : Result (ℕ × ℕ) Refusal) (ends : read_says g₀ ≡ through count (expression_step (tables scope) scope.loops (bytes scope) source)) where
  ended_at : (x : Expr) (next : ℕ) → expression (tables scope) scope.loops (bytes scope) source ≡ got x next → scope.loops ≤ 8 → read_says g₀ ≡ got (count x) next
  unfolding through expression_step
  ended_at x next e few =
      let q : expression_step (tables scope) scope.loops (bytes scope) source ≡ got x next = rw (le-leb scope.loops 8 few) e in
      ends ∙ ap (through count) q

  pub past_not : (hit : Bool) (r : Maybe ℕ) (w' : Maybe Writer) → result_ok g₀ ≡ None → PastIs scope at source hit w r w'
  unfolding PastIs
  past_not hit r w' case x next e few = read_lost g₀ (ended_at x next e few) case

  pub past_is : (hit : Bool) (n to : ℕ) → result_ok g₀ ≡ Some (n, to) → (w' : Maybe Writer) → w' ≡ (if hit then Some (record { from = at; to = to; count = scope.loops; indices = scope.indices }) else w)
      → PastIs scope at source hit w (Some to) w'
  unfolding PastIs
  past_is hit n to case w' k x next e few =
      let z = (read_kept g₀ (ended_at x next e few) case).1 in
      (ap Some z, subst (λ (n : ℕ). w' ≡ (if hit then Some (record { from = at; to = n; count = scope.loops; indices = scope.indices }) else w)) z k)
