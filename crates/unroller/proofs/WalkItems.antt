-- The walk over items, loops and guards answers what their run does: a law for each step of the code.
use Rattle.std.specs.Prelude.{Result, Ok, Err, Option, Some, None}
use mathlib.Core.Path.{◌≡◌, refl, sym, ap, ap₂, ◌∙◌, subst}
use Prim.Native.Nat.{ℕ, zero, suc, ◌+◌, ◌≤◌, ◌<◌}
use native.Mathlib.Omega.{arith}
use native.Mathlib.Numerals.{add-one}
use mathlib.Core.List.{List, [], ◌∷◌, ◌++◌}
use mathlib.Core.Bool.{Bool, true, false, ◌&&◌, false≢true}
use lib.ListN.{length, get_or, take, set, length-set}
use lib.Seq.{take-suc-set}
use lib.Dec.{eqb, leb, ltb, leb-zero}
use lib.IntN.{ℤ, pos, negsuc}
use lib.Signed.{le_z, lt_z}
use borrow.Author.Tests.{eqb-true, ne_eqb, le-leb, lt-leb, ltb-true, ltb-false}
use Rattle.model.specs.Tables.{Tables}
use Rattle.model.specs.declared.question.Refusal.{Refusal}
use Rattle.model.specs.declared.question.Question.TheVariants as question
use Rattle.reader.specs.Field.{Outcome, got, Reader, byte, give}
use Rattle.reader.specs.Syntax.{Form, Item, Items}
use Rattle.reader.specs.Syntax.Item.{loop, guard}
use Rattle.reader.specs.Syntax.Items.{end, item}
use Rattle.reader.specs.Grammar.{form, step, loop_of, guard_of, item_of, nested, items, body}
use Rattle.reader.specs.Answers.{ended, place_says}
use Rattle.reader.specs.Entries.{items_step}
use Rattle.reader.proofs.Binds.{not-got, read_by, choose_by}
use Rattle.reader.proofs.Bytes.{byte_is, byte-not}
use Rattle.unroller.specs.Run.{Ran, ok, stop, ◌>>=◌, ask, value_at, fits16, Done, goes_on, indices, rounds, run, runs}
use Rattle.unroller.specs.Forms.{Values}
use Rattle.unroller.specs.Scopes.{bytes, tables, around, inside}
use Rattle.unroller.specs.Walk.{Walk, with_counts, Holds, Walked, item_in, RunsStatement, RunsItem, RunsItems}
use Rattle.unroller.specs.WalkItems.{Ends, within16, round, RangeIs, Ranges, RunsNested, RunsRound, RunsRounds}
use Rattle.unroller.specs.declared.walk.Scope.{Scope}
use Rattle.unroller.specs.declared.walk.Progress.{Progress}
use Rattle.unroller.specs.declared.items.Range.{Range}
use Rattle.unroller.proofs.WalkForward.{item_forward, passes_on, passes_not}
use Rattle.unroller.proofs.Indices.{indices_none}
use Rattle.unroller.proofs.Values.{values_none, values_some}

-- ---- a walk's answer beside the counts that it leaves
pub stopped_walk : {r : Result ℕ Refusal} (p : Progress) {e : Refusal} → r ≡ Err e → with_counts r p ≡ Err e
stopped_walk p w = ap (λ (r : Result ℕ Refusal). with_counts r p) w

pub walked-on : {r : Result ℕ Refusal} (p : Progress) {next : ℕ} → r ≡ Ok next → with_counts r p ≡ Ok (next, p)
walked-on p w = ap (λ (r : Result ℕ Refusal). with_counts r p) w

-- ---- a run and what follows it
module _ (t : Tables) where
  walked_stop : (m : Ran Done) (g : Done → Ran Done) (mid next : ℕ) (e : Refusal) (l f l' f' : List ℕ) → Walked t mid m (Err e) l f → Walked t next (m >>= g) (Err e) l' f'
  walked_stop (ok d) g mid next e l f l' f' w = absurd w
  walked_stop (stop a b) g mid next e l f l' f' w = w

  walked_step : (m : Ran Done) (g : Done → Ran Done) (mid next at : ℕ) (p : Progress) (r : Walk) (l f l' f' : List ℕ) → Walked t mid m (Ok (at, p)) l f
      → ((d : Done) → at ≡ mid → Holds t d p l f → Walked t next (g d) r l' f') → Walked t next (m >>= g) r l' f'
  walked_step (ok d) g mid next at p r l f l' f' w k = k d w.0 w.1
  walked_step (stop a b) g mid next at p r l f l' f' w k = absurd w

  range-stop : (m : Ran Ends) (g : Ends → Ran Done) (z : ℤ) (mid next : ℕ) (e : Refusal) (l f : List ℕ) → RangeIs m z mid (Err e) → Walked t next (m >>= g) (Err e) l f
  range-stop (ok x) g z mid next e l f w = absurd w
  range-stop (stop a b) g z mid next e l f w = w

  range-step : (m : Ran Ends) (g : Ends → Ran Done) (z : ℤ) (mid next : ℕ) (q : Range) (r : Walk) (l f : List ℕ) → RangeIs m z mid (Ok q)
      → (q.step ≡ z → q.body ≡ mid → Walked t next (g (record { first = q.first; last = q.last })) r l f) → Walked t next (m >>= g) r l f
  range-step (ok e) g z mid next q r l f w k =
      let x : ◌≡◌ {A = Ends} (record { first = q.first; last = q.last }) e = ap (λ (q : Range). record { first = q.first; last = q.last }) w in
      subst (λ (y : Ends). Walked t next (g y) r l f) x (k (ap (λ (q : Range). q.step) w) (ap (λ (q : Range). q.body) w))
  range-step (stop a b) g z mid next q r l f w k = absurd w

-- the place past a loop's body, where a round has found it
pub none_some : {A P : Type 0} {a : A} → ◌≡◌ {A = Option A} None (Some a) → P
none_some e = absurd (cc)

pub some_is : {A : Type 0} {a b c : A} → ◌≡◌ {A = Option A} (Some a) (Some b) → a ≡ c → b ≡ c
some_is e q = cc

-- ---- items, one by one
module _ (one : ℕ → ℕ → Reader Item) (s : List ℕ) (at : ℕ) where
  pub items_in : (most : ℕ) {js : Items} {next : ℕ} → items one most s at ≡ got js next → at < length s
  unfolding items
  items_in zero e = not-got e
  items_in (suc most) e = read_by (byte s at) _ e λ code n b _. go (ltb at (length s)) refl b
    where
      go : {code n : ℕ} (z : Bool) → ltb at (length s) ≡ z → byte s at ≡ got code n → at < length s
      go true h b = ltb-true at (length s) h
      go false h b = not-got (byte-not s at (ltb-false at (length s) h) ∙ b)

  pub items_by : {P : Type 0} (most : ℕ) {js : Items} {next : ℕ} → items one most s at ≡ got js next → (get_or s at 0 ≡ 0 → js ≡ end → next ≡ at + 1 → P)
      → ((less mid : ℕ) (i : Item) (is : Items) → one (get_or s at 0) at s (at + 1) ≡ got i mid → items one less s mid ≡ got is next → js ≡ item i is → P) → P
  unfolding items
  items_by zero e f g = not-got e
  items_by {P} (suc most) {js} {next} e f g =
      let h = items_in (suc most) e in
      read_by (byte s at) _ e λ code n b e1.
      let q : ◌≡◌ {A = Outcome ℕ} (got (get_or s at 0) (at + 1)) (got code n) = byte_is s at h ∙ b in
      let c : code ≡ get_or s at 0 = cc in
      let m : n ≡ at + 1 = cc in
      choose_by (eqb code 0) (give end) _ s n e1
      (λ z e2. let x : js ≡ end = cc in let y : next ≡ at + 1 = cc in f (sym c ∙ eqb-true code 0 z) x y)
      λ z e2. read_by (one code at s n) _ e2 λ i mid e3 e4. read_by (items one most s mid) _ e4 λ is to e5 e6.
      let x : js ≡ item i is = cc in
      let y : to ≡ next = cc in
      g most mid i is (ap₂ (λ (c n : ℕ). one c at s n) (sym c) (sym m) ∙ e3) (e5 ∙ ap (got is) y) x

module _ (scope : Scope) (left at : ℕ) (p : Progress) (l f : List ℕ) where
  pub items_out : (r : Walk) (l' f' : List ℕ) → length (bytes scope) ≤ at → RunsItems scope at left p l f r l' f'
  unfolding RunsItems
  items_out r l' f' h js next most d e _ _ _ _ = absurd (let k = items_in (item_in scope left) (bytes scope) at most e in omega arith)

  pub items_end : get_or (bytes scope) at 0 ≡ 0 → RunsItems scope at left p l f (Ok (at + 1, p)) l f
  unfolding RunsItems runs item_of
  items_end z js next most d e _ _ _ h = items_by (item_in scope left) (bytes scope) at most e (λ _ x y. rw x (sym y, h)) (λ less mid i rest e1 e2 x. absurd (no_item mid i e1))
    where
      no_item : (mid : ℕ) (i : Item) → item_in scope left (get_or (bytes scope) at 0) at (bytes scope) (at + 1) ≡ got i mid → ⊥
      no_item mid i e = not-got (rw z at e)

  module _ (r₀ : Walk) (to : ℕ) (p' : Progress) (l' f' : List ℕ) (case : r₀ ≡ Ok (to, p')) (w₀ : RunsItem scope at (get_or (bytes scope) at 0) left p l f r₀ l' f') where
    w : RunsItem scope at (get_or (bytes scope) at 0) left p l f (Ok (to, p')) l' f'
    w = subst (λ (r : Walk). RunsItem scope at (get_or (bytes scope) at 0) left p l f r l' f') case w₀

    pub items_step_lem : (nz : get_or (bytes scope) at 0 ≡ 0 → ⊥) (r : Walk) (l'' f'' : List ℕ) → RunsItems scope to left p' l' f' r l'' f'' → RunsItems scope at left p l f r l'' f''
    unfolding RunsItem RunsItems runs
    items_step_lem nz r l'' f'' v js next most d e b8 l8 based h =
        items_by (item_in scope left) (bytes scope) at most e (λ z _ _. absurd (nz z)) λ less mid i js' e1 e2 x.
        rw x (walked_step (tables scope) (run i (tables scope) (around scope) d) (runs js' (tables scope) (around scope)) mid next to p' r l' f' l'' f'' (w i mid d e1 b8 l8 based h)
        λ d' q h'. v js' next less d' (ap (items (item_in scope left) less (bytes scope)) q ∙ e2) b8 l8 based h')

    pub items_back : (nz : get_or (bytes scope) at 0 ≡ 0 → ⊥) → to ≤ at → (r : Walk) (l'' f'' : List ℕ) → RunsItems scope at left p l f r l'' f''
    unfolding RunsItem RunsItems runs
    items_back nz k r l'' f'' js next most d e b8 l8 based h =
        items_by (item_in scope left) (bytes scope) at most e (λ z _ _. absurd (nz z)) λ less mid i js' e1 e2 x.
        let n = item_forward (bytes scope) (tables scope) left scope.loops (get_or (bytes scope) at 0) at (items_in (item_in scope left) (bytes scope) at most e) e1 in
        rw x (walked_step (tables scope) (run i (tables scope) (around scope) d) (runs js' (tables scope) (around scope)) mid next to p' r l' f' l'' f'' (w i mid d e1 b8 l8 based h) λ d' q h'. absurd (omega arith))

  pub items-stop : (r₀ : Walk) (g : Refusal) (l' f' l'' f'' : List ℕ) → r₀ ≡ Err g → (get_or (bytes scope) at 0 ≡ 0 → ⊥) → RunsItem scope at (get_or (bytes scope) at 0) left p l f r₀ l' f'
      → RunsItems scope at left p l f (Err g) l'' f''
  unfolding RunsItem RunsItems runs
  items-stop r₀ g l' f' l'' f'' case nz w js next most d e b8 l8 based h =
      items_by (item_in scope left) (bytes scope) at most e (λ z _ _. absurd (nz z)) λ less mid i js' e1 e2 x.
      rw x (walked_stop (tables scope) (run i (tables scope) (around scope) d) (runs js' (tables scope) (around scope)) mid next g l' f' l'' f''
      (subst (λ (r : Walk). Walked (tables scope) mid (run i (tables scope) (around scope) d) r l' f') case (w i mid d e1 b8 l8 based h)))

  -- ---- one item, by its code
  module _ (r : Walk) (l' f' : List ℕ) where
    pub item-statement : RunsStatement scope at p l f r l' f' → RunsItem scope at 1 left p l f r l' f'
    unfolding RunsStatement RunsItem item_of
    item-statement w i next d e b8 l8 based h = w i next d e (omega arith) l8 based h

    pub item-loop : RunsNested scope at 2 left p l f r l' f' → RunsItem scope at 2 left p l f r l' f'
    unfolding RunsNested RunsItem item_of
    item-loop w i next d e b8 l8 based h = w i next d e b8 l8 based h

    pub item-guard : RunsNested scope at 3 left p l f r l' f' → RunsItem scope at 3 left p l f r l' f'
    unfolding RunsNested RunsItem item_of
    item-guard w i next d e b8 l8 based h = w i next d e b8 l8 based h

    pub item_none : (code : ℕ) → (code ≡ 1 → ⊥) → (code ≡ 2 → ⊥) → (code ≡ 3 → ⊥) → RunsItem scope at code left p l f r l' f'
    unfolding RunsItem item_of
    item_none code n1 n2 n3 i next d e b8 l8 based h = not-got (rw (ne_eqb code 1 n1, ne_eqb code 2 n2, ne_eqb code 3 n3) at e)

    pub nested_none : (code : ℕ) → left ≡ 0 → RunsNested scope at code left p l f r l' f'
    unfolding RunsNested nested
    nested_none code z i next d e b8 l8 based h = no_nested (rw z at e)
      where
        no_nested : {P : Type 0} → nested (tables scope) (length (bytes scope)) 0 scope.loops code at (bytes scope) (at + 1) ≡ got i next → P
        no_nested e = not-got e

-- ---- guards
guarded : Items → Tables → List ℤ → Done → ℤ → Ran Done
guarded js t is d v = elim (le_z (pos 0) v) as (λ b. Ran Done) [ true ↦ runs js t is d | false ↦ ok d ]

chosen : Items → Tables → List ℤ → Done → Bool → Ran Done
chosen js t is d z = elim z as (λ b. Ran Done) [ true ↦ runs js t is d | false ↦ ok d ]

pub sign_true : (v : ℤ) → lt_z v (pos 0) ≡ false → le_z (pos 0) v ≡ true
sign_true (pos n) e = leb-zero n
sign_true (negsuc n) e = absurd (false≢true (sym e))

pub sign_false : (v : ℤ) → lt_z v (pos 0) ≡ true → le_z (pos 0) v ≡ false
sign_false (pos n) e = absurd (omega (arith, ltb-true n 0 e))
sign_false (negsuc n) e = refl

guarded_runs : (js : Items) (t : Tables) (is : List ℤ) (d : Done) (v : ℤ) → lt_z v (pos 0) ≡ false → guarded js t is d v ≡ runs js t is d
unfolding guarded chosen
guarded_runs js t is d v e = ap (chosen js t is d) (sign_true v e)

guarded_passes : (js : Items) (t : Tables) (is : List ℤ) (d : Done) (v : ℤ) → lt_z v (pos 0) ≡ true → guarded js t is d v ≡ ok d
unfolding guarded chosen
guarded_passes js t is d v e = ap (chosen js t is d) (sign_false v e)

-- a guard or a loop taken apart, where loops and guards may nest `less` deep inside it
module _ (s : List ℕ) (t : Tables) (left less loops at : ℕ) (fewer : left ≡ suc less) where
  pub guard_by : {P : Type 0} {i : Item} {next : ℕ} → nested t (length s) left loops 3 at s (at + 1) ≡ got i next
      → ((g : Form) (mid : ℕ) (js : Items) → form loops s (at + 1) ≡ got g mid → body t (length s) less loops s mid ≡ got js next → i ≡ guard at g js → P) → P
  unfolding nested guard_of body
  guard_by {P} {i} {next} e k =
      read_by (form loops s (at + 1)) _ (rw fewer at e) λ g mid e1 e2. read_by (body t (length s) less loops s mid) _ e2 λ js to e3 e4.
      let x : i ≡ guard at g js = cc in
      let y : to ≡ next = cc in
      k g mid js e1 (e3 ∙ ap (got js) y) x

  pub loop_by : {P : Type 0} {i : Item} {next : ℕ} → nested t (length s) left loops 2 at s (at + 1) ≡ got i next
      → ((g h : Form) (z : ℤ) (m n to : ℕ) (js : Items) → form loops s (at + 1) ≡ got g m → form loops s m ≡ got h n → step s n ≡ got z to
      → body t (length s) less (loops + 1) s to ≡ got js next → i ≡ loop at g h z js → P) → P
  unfolding nested loop_of body
  loop_by {P} {i} {next} e k =
      read_by (form loops s (at + 1)) _ (rw fewer at e) λ g m e1 e2. read_by (form loops s m) _ e2 λ h n e3 e4. read_by (step s n) _ e4 λ z to e5 e6.
      read_by (body t (length s) less (suc loops) s to) _ e6 λ js end e7 e8.
      let x : i ≡ loop at g h z js = cc in
      let y : end ≡ next = cc in
      k g h z m n to js e1 e3 e5 (ap (λ (k : ℕ). body t (length s) less k s to) (add-one loops) ∙ e7 ∙ ap (got js) y) x

module _ (scope : Scope) (left less at : ℕ) (p : Progress) (l f : List ℕ) (fewer : left ≡ suc less) where
  module _ (v₀ : Result (ℤ × ℕ) Refusal) (w₀ : Values (bytes scope) (at + 1) scope.loops scope.indices v₀) where
    pub guard-stop : (g : Refusal) (l' f' : List ℕ) → v₀ ≡ Err g → RunsNested scope at 3 left p l f (Err g) l' f'
    unfolding RunsNested Values
    guard-stop g l' f' case i next d e b8 l8 based h = guard_by (bytes scope) (tables scope) left less scope.loops at fewer e λ g mid js e1 e2 x. values_none v₀ (w₀ g mid e1 (omega arith) l8) case

    module _ (v : ℤ) (to : ℕ) (case : v₀ ≡ Ok (v, to)) where
      pub guard-runs : (r : Walk) (l' f' : List ℕ) → lt_z v (pos 0) ≡ false → RunsItems scope to less p l f r l' f' → RunsNested scope at 3 left p l f r l' f'
      unfolding RunsNested RunsItems Values run guarded body
      guard-runs r l' f' z u i next d e b8 l8 based h = guard_by (bytes scope) (tables scope) left less scope.loops at fewer e λ g mid js e1 e2 x.
          let q = values_some v₀ (w₀ g mid e1 (omega arith) l8) case in
          rw x (subst (λ (m : Ran Done). Walked (tables scope) next m r l' f') (sym (ap (guarded js (tables scope) (around scope) d) (sym q.0) ∙ guarded_runs js (tables scope) (around scope) d v z))
          (u js next (length (bytes scope)) d (ap (body (tables scope) (length (bytes scope)) less scope.loops (bytes scope)) q.1 ∙ e2) (omega arith) l8 based h))

      module _ (n₀ : Result ℕ Refusal) (ends : place_says n₀ ≡ ended (items_step (tables scope) less scope.loops (bytes scope) to)) where
        pub guard_lost : (g : Refusal) (l' f' : List ℕ) → n₀ ≡ Err g → RunsNested scope at 3 left p l f (Err g) l' f'
        unfolding RunsNested Values
        guard_lost g l' f' case₁ i next d e b8 l8 based h = guard_by (bytes scope) (tables scope) left less scope.loops at fewer e λ g mid js e1 e2 x.
            let q = values_some v₀ (w₀ g mid e1 (omega arith) l8) case in
            passes_not (bytes scope) to (tables scope) less scope.loops n₀ ends (ap (body (tables scope) (length (bytes scope)) less scope.loops (bytes scope)) q.1 ∙ e2) (omega arith) case₁

        pub guard_passes : (n : ℕ) → lt_z v (pos 0) ≡ true → n₀ ≡ Ok n → RunsNested scope at 3 left p l f (Ok (n, p)) l f
        unfolding RunsNested Values run guarded
        guard_passes n z case₁ i next d e b8 l8 based h = guard_by (bytes scope) (tables scope) left less scope.loops at fewer e λ g mid js e1 e2 x.
            let q = values_some v₀ (w₀ g mid e1 (omega arith) l8) case in
            let y = passes_on (bytes scope) to (tables scope) less scope.loops n₀ ends (ap (body (tables scope) (length (bytes scope)) less scope.loops (bytes scope)) q.1 ∙ e2) (omega arith) case₁ in
            rw x (subst (λ (m : Ran Done). Walked (tables scope) next m (Ok (n, p)) l f) (sym (ap (guarded js (tables scope) (around scope) d) (sym q.0) ∙ guarded_passes js (tables scope) (around scope) d v z)) (y, h))

        pub guard_ended : lt_z v (pos 0) ≡ true → RunsNested scope at 3 left p l f (with_counts n₀ p) l f
        guard_ended z = go n₀ refl
          where
            go : (n : Result ℕ Refusal) → n₀ ≡ n → RunsNested scope at 3 left p l f (with_counts n p) l f
            go (Ok n) k = guard_passes n z k
            go (Err g) k = guard_lost g l f k

-- ---- loops
rounded : ℕ → ℤ → Items → Tables → List ℤ → Done → Ends → Ran Done
rounded p z js t is d e = rounds (indices 65536 z e.last e.first) p (λ i d'. runs js t (is ++ (i ∷ [])) d') d

loop-run : (p : ℕ) (g h : Form) (z : ℤ) (js : Items) (t : Tables) (is : List ℤ) (d : Done) → run (loop p g h z js) t is d ≡ (within16 p (value_at g is) (value_at h is) >>= rounded p z js t is d)
unfolding run within16 rounded
loop-run p g h z js t is d = asked (fits16 (value_at g is) && fits16 (value_at h is))
  where
    asked : (k : Bool) → (ask 15 p k >>= λ _. rounded p z js t is d (record { first = value_at g is; last = value_at h is })) ≡ ((ask 15 p k >>= λ _. ok (record { first = value_at g is; last = value_at h is })) >>= rounded p z js t is d)
    asked true = refl
    asked false = refl

module _ (scope : Scope) (left less at : ℕ) (p : Progress) (l f : List ℕ) (fewer : left ≡ suc less) where
  module _ (r₀ : Result Range Refusal) (v : Ranges scope at r₀) where
    pub loop-stop : (g : Refusal) (l' f' : List ℕ) → r₀ ≡ Err g → RunsNested scope at 2 left p l f (Err g) l' f'
    unfolding RunsNested Ranges
    loop-stop k l' f' case i next d e b8 l8 based h = loop_by (bytes scope) (tables scope) left less scope.loops at fewer e λ g g' z m n to js e1 e2 e3 e4 x.
        rw (x, loop-run at g g' z js (tables scope) (around scope) d)
        (range-stop (tables scope) (within16 at (value_at g (around scope)) (value_at g' (around scope))) (rounded at z js (tables scope) (around scope) d) z to next k l' f'
        (subst (λ (r : Result Range Refusal). RangeIs (within16 at (value_at g (around scope)) (value_at g' (around scope))) z to r) case (v g g' z m n to e1 e2 e3 (omega arith) l8)))

    pub loop-runs : (q : Range) (r : Walk) (l' f' : List ℕ) → r₀ ≡ Ok q → RunsRounds scope at q.body less q.step q.last 65536 q.first None p l f r l' f' → RunsNested scope at 2 left p l f r l' f'
    unfolding RunsNested Ranges RunsRounds rounded
    loop-runs q r l' f' case u i next d e b8 l8 based h = loop_by (bytes scope) (tables scope) left less scope.loops at fewer e λ g g' z m n to js e1 e2 e3 e4 x.
        rw (x, loop-run at g g' z js (tables scope) (around scope) d)
        (range-step (tables scope) (within16 at (value_at g (around scope)) (value_at g' (around scope))) (rounded at z js (tables scope) (around scope) d) z to next q r l' f'
        (subst (λ (r : Result Range Refusal). RangeIs (within16 at (value_at g (around scope)) (value_at g' (around scope))) z to r) case (v g g' z m n to e1 e2 e3 (omega arith) l8))
        λ q1 q2. subst (λ (z : ℤ). Walked (tables scope) next (rounded at z js (tables scope) (around scope) d (record { first = q.first; last = q.last })) r l' f') q1
        (u js next d (ap (body (tables scope) (length (bytes scope)) less (scope.loops + 1) (bytes scope)) q2 ∙ e4) (omega arith) l8 (λ to k. absurd (none_some k)) based h))

-- ---- rounds
rounds-cons : (i : ℤ) (is : List ℤ) (p : ℕ) (each : ℤ → Done → Ran Done) (d : Done) → rounds (i ∷ is) p each d ≡ (round p (each i) d >>= rounds is p each)
unfolding rounds round
rounds-cons i is p each d = go (leb (d.rounds + 1) 65536)
  where
    one : Ran Done
    one = each i (record { rounds = d.rounds + 1; nodes = d.nodes; updates = d.updates })

    go : (b : Bool) → (ask 18 p b >>= λ _. one >>= rounds is p each) ≡ ((ask 18 p b >>= λ _. one) >>= rounds is p each)
    go true = refl
    go false = refl

module _ (scope : Scope) (at from left : ℕ) where
  each : Items → ℤ → Done → Ran Done
  each js i d = runs js (tables scope) (around scope ++ (i ∷ [])) d

  module _ (step last : ℤ) (most : ℕ) (index : ℤ) (past : Option ℕ) (p : Progress) (l f : List ℕ) where
    pub rounds-found : (n : ℕ) → goes_on step last index ≡ false → past ≡ Some n → RunsRounds scope at from left step last most index past p l f (Ok (n, p)) l f
    unfolding RunsRounds rounds
    rounds-found n g k js next d e b8 l8 found based h = rw (indices_none most step last index g) (found n k, h)

    module _ (n₀ : Result ℕ Refusal) (ends : place_says n₀ ≡ ended (items_step (tables scope) left (scope.loops + 1) (bytes scope) from)) where
      pub rounds_lost : (g : Refusal) (l' f' : List ℕ) → n₀ ≡ Err g → RunsRounds scope at from left step last most index past p l f (Err g) l' f'
      unfolding RunsRounds
      rounds_lost g l' f' case js next d e b8 l8 found based h = passes_not (bytes scope) from (tables scope) left (scope.loops + 1) n₀ ends e (omega arith) case

      pub rounds_none : (n : ℕ) → goes_on step last index ≡ false → n₀ ≡ Ok n → RunsRounds scope at from left step last most index past p l f (Ok (n, p)) l f
      unfolding RunsRounds rounds
      rounds_none n g case js next d e b8 l8 found based h = rw (indices_none most step last index g) (passes_on (bytes scope) from (tables scope) left (scope.loops + 1) n₀ ends e (omega arith) case, h)

      pub rounds_ended : goes_on step last index ≡ false → RunsRounds scope at from left step last most index past p l f (with_counts n₀ p) l f
      rounds_ended g = go n₀ refl
        where
          go : (n : Result ℕ Refusal) → n₀ ≡ n → RunsRounds scope at from left step last most index past p l f (with_counts n p) l f
          go (Ok n) k = rounds_none n g k
          go (Err e) k = rounds_lost e l f k

    module _ (i : ℤ) (rest : List ℤ) (more : indices most step last index ≡ i ∷ rest) where
      pub rounds-stop : (r₀ : Walk) (g : Refusal) (l' f' l'' f'' : List ℕ) → r₀ ≡ Err g → RunsRound scope at from left i p l f r₀ l' f'
          → RunsRounds scope at from left step last most index past p l f (Err g) l'' f''
      unfolding RunsRounds RunsRound each
      rounds-stop r₀ g l' f' l'' f'' case w js next d e b8 l8 found based h =
          rw (more, rounds-cons i rest at (each js) d)
          (walked_stop (tables scope) (round at (each js i) d) (rounds rest at (each js)) next next g l' f' l'' f''
          (subst (λ (r : Walk). Walked (tables scope) next (round at (each js i) d) r l' f') case (w js next d e b8 l8 based h)))

    pub rounds-step : (less : ℕ) (i after : ℤ) → indices most step last index ≡ i ∷ indices less step last after → (r₀ : Walk) (to' : ℕ) (p' : Progress) (l' f' : List ℕ) → r₀ ≡ Ok (to', p')
        → RunsRound scope at from left i p l f r₀ l' f' → (r : Walk) (l'' f'' : List ℕ)
        → RunsRounds scope at from left step last less after (Some to') p' l' f' r l'' f'' → RunsRounds scope at from left step last most index past p l f r l'' f''
    unfolding RunsRounds RunsRound each
    rounds-step less i after more r₀ to' p' l' f' case w r l'' f'' v js next d e b8 l8 found based h =
        rw (more, rounds-cons i (indices less step last after) at (each js) d)
        (walked_step (tables scope) (round at (each js i) d) (rounds (indices less step last after) at (each js)) next next to' p' r l' f' l'' f''
        (subst (λ (r : Walk). Walked (tables scope) next (round at (each js i) d) r l' f') case (w js next d e b8 l8 based h))
        λ d' q h'. v js next d' e b8 l8 (λ n k. some_is k q) based h')

  module _ (index : ℤ) (p : Progress) (l f : List ℕ) where
    pub round-full : (l' f' : List ℕ) → 65536 ≤ p.rounds → RunsRound scope at from left index p l f (Err (record { question = question.Rounds; place = at })) l' f'
    unfolding RunsRound round
    round-full l' f' k js next d e b8 l8 based h = let q = h.rounds in let z = lt-leb (d.rounds + 1) 65536 (omega arith) in rw z (refl, refl)

    pub round-runs : (p' : Progress) (r : Walk) (l' f' : List ℕ) (z : ℤ) → z ≡ index → p.rounds < 65536 → p'.rounds ≡ p.rounds + 1 → p'.nodes ≡ p.nodes → p'.updates ≡ p.updates
        → RunsItems (inside scope z) from left p' l f r l' f' → RunsRound scope at from left index p l f r l' f'
    unfolding RunsRound RunsItems round body
    round-runs p' r l' f' own same k e1 e2 e3 w₀ js next d e b8 l8 based h =
        let w : RunsItems (inside scope index) from left p' l f r l' f' = subst (λ (z : ℤ). RunsItems (inside scope z) from left p' l f r l' f') same w₀ in
        let q = h.rounds in
        let z = le-leb (d.rounds + 1) 65536 (omega arith) in
        let x : take (scope.loops + 1) (set scope.indices scope.loops index) ≡ around scope ++ (index ∷ []) = ap (λ (n : ℕ). take n (set scope.indices scope.loops index)) (add-one scope.loops) ∙ take-suc-set scope.indices scope.loops index (omega arith) in
        rw (z, ← x) (w js next (length (bytes scope)) (record { rounds = d.rounds + 1; nodes = d.nodes; updates = d.updates }) e (omega arith) (length-set scope.indices scope.loops index ∙ l8) based
        (record {
          tables-allowed = h.tables-allowed;
          rounds = e1 ∙ ap (λ (n : ℕ). n + 1) q;
          count = e2 ∙ h.count;
          updates = e3 ∙ h.updates;
          counted = h.counted;
          few = h.few;
          small = h.small;
          few-rounds = omega arith;
          long = h.long;
          lies = h.lies;
          flags_long = h.flags_long;
          marked = h.marked;
        }))

    -- a round of no items
    pub round_empty : (p' : Progress) → get_or (bytes scope) from 0 ≡ 0 → p.rounds < 65536 → p'.rounds ≡ p.rounds + 1 → p'.nodes ≡ p.nodes → p'.updates ≡ p.updates → RunsRound scope at from left index p l f (Ok (from + 1, p')) l f
    round_empty p' z k e1 e2 e3 = round-runs p' (Ok (from + 1, p')) l f index refl k e1 e2 e3 (items_end (inside scope index) left from p' l f z)
