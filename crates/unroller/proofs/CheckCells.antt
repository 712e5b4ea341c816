-- The state of the cells.
use Rattle.std.specs.Prelude.{if◌then◌else◌}
use mathlib.Core.Path.{◌≡◌, refl, ap, ◌∙◌}
use Prim.Native.Nat.{ℕ, ◌<◌, ◌≤◌}
use mathlib.Core.List.{List, [], ◌∷◌, ◌++◌}
use mathlib.Core.Bool.{Bool, true, false, ◌&&◌, ◌||◌, not}
use native.Mathlib.Omega.{arith}
use lib.ListN.{get_or, set, length-set, get_or-eq_default}
use lib.Seq.{get_or-set_same, get_or-set_other}
use lib.Dec.{eqb, leb, ltb}
use borrow.Author.Tests.{lt-ltb, le-ltb, lt-leb, le-leb, eq-eqb, ltb-true, ltb-false, eqb-true, eqb-false}
use Rattle.model.specs.Tables.{Array, cells, inside, starts, array_at}
use Rattle.model.specs.Update.{Update, written}
use Rattle.unroller.specs.Allowed.{may_write}
use Rattle.unroller.specs.Decode.{may_read}
use Rattle.unroller.specs.State.{nowhere, state_at, spot, State, Small, known, readable_in, writable_in}

-- a store at whatever is the same place
pub set-place : (l : List ℕ) (i j v : ℕ) → i ≡ j → set l i v ≡ set l j v
set-place l i j v e = ap (λ (k : ℕ). set l k v) e

and-false : (t : Bool) → false ≡ (t && false)
and-false true = refl
and-false false = refl

module _ (st : List ℕ) (a c : ℕ) where
  flag_array : 16 ≤ a → false ≡ known a c
  flag_array h = rw (le-ltb _ _ h)

  flag_cell : 2048 ≤ c → false ≡ known a c
  flag_cell h = rw (le-ltb _ _ h) (and-false (ltb a 16))

  flag_known : a < 16 → c < 2048 → true ≡ known a c
  flag_known h w = rw (lt-ltb _ _ h, lt-ltb _ _ w)

  pub readable-array : 16 ≤ a → false ≡ readable_in st a c
  unfolding readable_in
  readable-array h = rw (← flag_array h)

  pub readable-cell : 2048 ≤ c → false ≡ readable_in st a c
  unfolding readable_in
  readable-cell h = rw (← flag_cell h)

  pub readable_is : (i : ℕ) → a < 16 → c < 2048 → i ≡ spot a c → leb 2 (get_or st i 0) ≡ readable_in st a c
  unfolding readable_in
  readable_is i h w e = rw (← flag_known h w, e)

  pub writable_array : 16 ≤ a → false ≡ writable_in st a c
  unfolding writable_in
  writable_array h = rw (← flag_array h)

  pub writable_cell : 2048 ≤ c → false ≡ writable_in st a c
  unfolding writable_in
  writable_cell h = rw (← flag_cell h)

  pub writable_low : (i : ℕ) → a < 16 → c < 2048 → i ≡ spot a c → get_or st i 0 < 1 → false ≡ writable_in st a c
  unfolding writable_in
  writable_low i h w e l = rw (← flag_known h w, ← e, lt-leb _ _ l)

  pub writable_is : (i : ℕ) → a < 16 → c < 2048 → i ≡ spot a c → 1 ≤ get_or st i 0 → leb (get_or st i 0) 2 ≡ writable_in st a c
  unfolding writable_in
  writable_is i h w e l = rw (← flag_known h w, ← e, le-leb _ _ l)

  pub writable_known : writable_in st a c ≡ true → (a < 16) × (c < 2048)
  unfolding writable_in
  writable_known h = both (ltb a 16) (ltb c 2048) refl refl h
    where
      both : (x y : Bool) → ltb a 16 ≡ x → ltb c 2048 ≡ y → (x && y) && (leb 1 (get_or st (spot a c) 0) && leb (get_or st (spot a c) 0) 2) ≡ true → (a < 16) × (c < 2048)
      both true true e f h = (ltb-true _ _ e, ltb-true _ _ f)
      both true false e f h = absurd (let z : ◌≡◌ {A = ℕ} 0 1 = cc in omega arith)
      both false y e f h = absurd (let z : ◌≡◌ {A = ℕ} 0 1 = cc in omega arith)

pub known_both : (a c : ℕ) → known a c ≡ true → (a < 16) × (c < 2048)
known_both a c e = both (ltb a 16) (ltb c 2048) refl refl e
  where
    both : (x y : Bool) → ltb a 16 ≡ x → ltb c 2048 ≡ y → (x && y) ≡ true → (a < 16) × (c < 2048)
    both true true e f h = (ltb-true _ _ e, ltb-true _ _ f)
    both true false e f h = absurd (let z : ◌≡◌ {A = ℕ} 0 1 = cc in omega arith)
    both false y e f h = absurd (let z : ◌≡◌ {A = ℕ} 0 1 = cc in omega arith)

-- by cases on the four tests
reads_cases : (i r0 r2 w : Bool) → (i && ((r0 || r2) || w)) ≡ leb 2 (if i then (if r0 then 3 else if r2 || w then 2 else 1) else 0)
reads_cases false r0 r2 w = refl
reads_cases true true r2 w = refl
reads_cases true false true w = refl
reads_cases true false false true = refl
reads_cases true false false false = refl

writes_cases : (i r0 r2 w : Bool) → (i && not r0) ≡ (leb 1 (if i then (if r0 then 3 else if r2 || w then 2 else 1) else 0) && leb (if i then (if r0 then 3 else if r2 || w then 2 else 1) else 0) 2)
writes_cases false r0 r2 w = refl
writes_cases true true r2 w = refl
writes_cases true false true w = refl
writes_cases true false false true = refl
writes_cases true false false false = refl

module _ (xs : List Array) (before : List Update) (st : List ℕ) (small : Small xs) (state : State xs before st) where
  -- outside of the table there are no cells
  outside : (a c : ℕ) → known a c ≡ false → inside xs a c ≡ false
  outside a c h = by (ltb a 16) (ltb c 2048) refl refl h
    where
      by : (x y : Bool) → ltb a 16 ≡ x → ltb c 2048 ≡ y → (x && y) ≡ false → inside xs a c ≡ false
      by true true e f h = absurd (let z : ◌≡◌ {A = ℕ} 0 1 = cc in omega arith)
      by true false e f h = let l = small.fits a in let w = ltb-false c 2048 f in le-ltb c (cells (array_at xs a).extents) (omega arith)
      by false y e f h =
          let w = ltb-false a 16 e in
          let l = small.few in
          let g : array_at xs a ≡ nowhere = get_or-eq_default xs nowhere (omega arith) in
          rw g (le-ltb c 0 (omega arith))

  -- what may be read is what the state says, and what may be written too
  reads_at : (a c : ℕ) → may_read xs before a c ≡ readable_in st a c
  unfolding may_read readable_in state_at
  reads_at a c = by (known a c) refl
    where
      by : (k : Bool) → known a c ≡ k → (inside xs a c && (starts (array_at xs a) || written before a c)) ≡ (known a c && leb 2 (get_or st (spot a c) 0))
      by true e =
          let q = known_both a c e in
          rw (e, state.holds a c q.0 q.1) (unfold state_at in reads_cases (inside xs a c) (eqb (array_at xs a).role 0) (eqb (array_at xs a).role 2) (written before a c))
      by false e = rw (e, outside a c e)

  writes_at : (a c : ℕ) → may_write xs a c ≡ writable_in st a c
  unfolding may_write writable_in state_at
  writes_at a c = by (known a c) refl
    where
      by : (k : Bool) → known a c ≡ k →
          (inside xs a c && not (eqb (array_at xs a).role 0)) ≡ (known a c && (leb 1 (get_or st (spot a c) 0) && leb (get_or st (spot a c) 0) 2))
      by true e =
          let q = known_both a c e in
          rw (e, state.holds a c q.0 q.1) (unfold state_at in writes_cases (inside xs a c) (eqb (array_at xs a).role 0) (eqb (array_at xs a).role 2) (written before a c))
      by false e = rw (e, outside a c e)

  pub reads_same : may_read xs before ≡ readable_in st
  reads_same = λ i a c. reads_at a c i

  pub writes_same : may_write xs ≡ writable_in st
  writes_same = λ i a c. writes_at a c i

-- one more update
or_assoc : (a b c : Bool) → (a || (b || c)) ≡ ((a || b) || c)
or_assoc true b c = refl
or_assoc false b c = refl

or-false : (a : Bool) → (a || false) ≡ a
or-false true = refl
or-false false = refl

or-true : (a : Bool) → (a || true) ≡ true
or-true true = refl
or-true false = refl

written_snoc : (before : List Update) (u : Update) (a c : ℕ) → written (before ++ (u ∷ [])) a c ≡ (written before a c || (eqb u.array a && eqb u.target c))
written_snoc [] u a c = or-false (eqb u.array a && eqb u.target c)
written_snoc (v ∷ before) u a c = rw (written_snoc before u a c) (or_assoc (eqb v.array a && eqb v.target c) (written before a c) (eqb u.array a && eqb u.target c))

-- a cell that may be written has state 2 once it is
marked_cases : (i r0 r2 w : Bool) → (i && not r0) ≡ true → ◌≡◌ {A = ℕ} 2 (if i then (if r0 then 3 else if r2 || true then 2 else 1) else 0)
marked_cases false r0 r2 w h = absurd (let z : ◌≡◌ {A = ℕ} 0 1 = cc in omega arith)
marked_cases true true r2 w h = absurd (let z : ◌≡◌ {A = ℕ} 0 1 = cc in omega arith)
marked_cases true false true w h = refl
marked_cases true false false w h = refl

other : (a c b d : ℕ) → (a ≡ b → c ≡ d → ⊥) → (eqb a b && eqb c d) ≡ false
other a c b d h = by (eqb a b) (eqb c d) refl refl
  where
    by : (x y : Bool) → eqb a b ≡ x → eqb c d ≡ y → (x && y) ≡ false
    by true true e f = absurd (h (eqb-true _ _ e) (eqb-true _ _ f))
    by true false e f = refl
    by false y e f = refl

marked-here : (xs : List Array) (before : List Update) (u : Update) → may_write xs u.array u.target ≡ true → 2 ≡ state_at xs (before ++ (u ∷ [])) u.array u.target
unfolding state_at may_write
marked-here xs before u w =
    rw (written_snoc before u u.array u.target, eq-eqb u.array u.array refl, eq-eqb u.target u.target refl, or-true (written before u.array u.target))
    (marked_cases (inside xs u.array u.target) (eqb (array_at xs u.array).role 0) (eqb (array_at xs u.array).role 2) true w)

marked_other : (xs : List Array) (before : List Update) (u : Update) (a c : ℕ) → (u.array ≡ a → u.target ≡ c → ⊥) → state_at xs before a c ≡ state_at xs (before ++ (u ∷ [])) a c
unfolding state_at
marked_other xs before u a c n = rw (written_snoc before u a c, other u.array u.target a c n, or-false (written before a c))

module _ (xs : List Array) (before : List Update) (st : List ℕ) (small : Small xs) (state : State xs before st) (u : Update) (h : writable_in st u.array u.target ≡ true) where
  private_holds : (a c : ℕ) → a < 16 → c < 2048 → get_or (set st (spot u.array u.target) 2) (spot a c) 0 ≡ state_at xs (before ++ (u ∷ [])) a c
  private_holds a c la lc = by (eqb u.array a) (eqb u.target c) refl refl
    where
      k : (u.array < 16) × (u.target < 2048)
      k = writable_known st u.array u.target h

      apart : (u.array ≡ a → u.target ≡ c → ⊥) → get_or (set st (spot u.array u.target) 2) (spot a c) 0 ≡ state_at xs (before ++ (u ∷ [])) a c
      apart n =
          let l = k in
          let j : spot a c ≡ spot u.array u.target → ⊥ = λ e. n (omega arith) (omega arith) in
          get_or-set_other st (spot u.array u.target) (spot a c) 2 0 j ∙ state.holds a c la lc
          ∙ marked_other xs before u a c n

      by : (x y : Bool) → eqb u.array a ≡ x → eqb u.target c ≡ y → get_or (set st (spot u.array u.target) 2) (spot a c) 0 ≡ state_at xs (before ++ (u ∷ [])) a c
      by true true e f =
          let l = k in
          let z = state.long in
          let p : u.array ≡ a = eqb-true _ _ e in
          let q : u.target ≡ c = eqb-true _ _ f in
          let w : may_write xs u.array u.target ≡ true = (λ i. writes_same xs before st small state i u.array u.target) ∙ h in
          rw (← p, ← q, get_or-set_same st (spot u.array u.target) 2 0 (omega arith)) (marked-here xs before u w)
      by true false e f = apart (λ p q. eqb-false _ _ f q)
      by false y e f = apart (λ p q. eqb-false _ _ e p)

  pub state_marked : State xs (before ++ (u ∷ [])) (set st (spot u.array u.target) 2)
  state_marked = record { long = length-set st (spot u.array u.target) 2 ∙ state.long; holds = private_holds }
