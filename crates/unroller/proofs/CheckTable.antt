-- The array table as a loop takes it, and the header.
use mathlib.Core.Path.{◌≡◌, refl, sym, ap, ◌∙◌, subst}
use Prim.Native.Nat.{ℕ, zero, suc, ◌+◌, ◌-◌, ◌*◌, ◌<◌, ◌≤◌}
use mathlib.Core.List.{List, [], ◌∷◌, ◌++◌, append-nil, append_assoc}
use mathlib.Core.Bool.{Bool, true, false, ◌||◌, not}
use mathlib.Core.Logic.{◌⊎◌, inl, inr}
use Rattle.std.specs.Prelude.{Some}
use Rattle.std.specs.List.{list_all}
use Rattle.model.specs.Test.{within}
use native.Mathlib.Omega.{arith}
use lib.ListN.{length, get_or, drop, take, length-append, get_or-eq_default, get_or-append}
use lib.Seq.{get_or-append_seam}
use lib.Dec.{eqb, ltb}
use borrow.Author.Tests.{ne_eqb, lt-ltb, le-ltb, lt-leb, le-leb, ltb-true, ltb-false, eqb-true, eqb-false}
use Rattle.model.specs.Tables.{Array, cells, array_at, operator_byte}
use Rattle.unroller.specs.Words.{Out, got, none, and_then, zeros, all_zero}
use Rattle.unroller.specs.Decode.{operators, array, arrays, tables}
use Rattle.unroller.specs.State.{nowhere, state_of, state_at, spot, State, Small, Filled}
use Rattle.unroller.specs.CheckAnswers.{Declares, Arrays, Header}
use Rattle.unroller.proofs.CheckWords.{at_one, operators_true, operators_false, within_true, within_low, within-high}
use Rattle.unroller.proofs.CheckZeros.{zeros_true, zeros_false}

-- an element past a list's last, with one more element
module _ (xs : List Array) (x : Array) where
  at_end : (a : ℕ) → a ≡ length xs → array_at (xs ++ (x ∷ [])) a ≡ x
  at_end a e = rw (e, get_or-append_seam xs x [] nowhere)

  at_front : (a : ℕ) → a < length xs → array_at (xs ++ (x ∷ [])) a ≡ array_at xs a
  at_front a h = get_or-append xs (x ∷ []) nowhere a h

  at_past : (a : ℕ) → length xs < a → array_at (xs ++ (x ∷ [])) a ≡ array_at xs a
  at_past a h =
      let e = length-append xs (x ∷ []) in
      get_or-eq_default (xs ++ (x ∷ [])) nowhere (omega arith) ∙ sym (get_or-eq_default xs nowhere (omega arith))

state_like : (xs ys : List Array) (a c : ℕ) → array_at ys a ≡ array_at xs a → state_at xs [] a c ≡ state_at ys [] a c
unfolding state_at
state_like xs ys a c e = rw e

state_absent : (xs : List Array) (a c : ℕ) → length xs ≤ a → state_at xs [] a c ≡ 0
unfolding state_at
state_absent xs a c h =
    let g : array_at xs a ≡ nowhere = get_or-eq_default xs nowhere h in
    rw (g, le-ltb c 0 (omega arith))

state_in : (xs : List Array) (x : Array) (a c : ℕ) → array_at xs a ≡ x → c < cells x.extents → state_at xs [] a c ≡ state_of x.role false
unfolding state_at
state_in xs x a c e h = rw (e, lt-ltb c (cells x.extents) h)

state_out : (xs : List Array) (x : Array) (a c : ℕ) → array_at xs a ≡ x → cells x.extents ≤ c → state_at xs [] a c ≡ 0
unfolding state_at
state_out xs x a c e h = rw (e, le-ltb c (cells x.extents) h)

pub state_none : (st : List ℕ) → length st ≡ 32768 → ((i : ℕ) → get_or st i 0 ≡ 0) → State [] [] st
state_none st l z = record { long = l; holds = λ a c p q. z (spot a c) ∙ sym (state_absent [] a c (omega arith)) }

-- one array more
module _ (xs : List Array) (x : Array) (old new : List ℕ) (k n v : ℕ) (counted : length xs ≡ k) (sized : cells x.extents ≡ n) (small : n ≤ 2048)
    (state : State xs [] old) (filled : Filled old (2048 * k) n v new) (val : v ≡ state_of x.role false) where
  holds_more : (a c : ℕ) → a < 16 → c < 2048 → get_or new (spot a c) 0 ≡ state_at (xs ++ (x ∷ [])) [] a c
  holds_more a c la lc = by (ltb a k) (eqb a k) (ltb c n) refl refl refl
    where
      by : (p q r : Bool) → ltb a k ≡ p → eqb a k ≡ q → ltb c n ≡ r → get_or new (spot a c) 0 ≡ state_at (xs ++ (x ∷ [])) [] a c
      by true q r e f g =
          let l = ltb-true a k e in
          filled.below (spot a c) (omega arith) ∙ state.holds a c la lc ∙ state_like xs (xs ++ (x ∷ [])) a c (at_front xs x a (omega arith))
      by false true true e f g =
          let l : a ≡ k = eqb-true a k f in
          let w = ltb-true c n g in
          filled.within (spot a c) (omega arith) (omega arith) ∙ val ∙ sym (state_in (xs ++ (x ∷ [])) x a c (at_end xs x a (omega arith)) (omega arith))
      by false true false e f g =
          let l : a ≡ k = eqb-true a k f in
          let w = ltb-false c n g in
          filled.above (spot a c) (omega arith) ∙ state.holds a c la lc ∙ state_absent xs a c (omega arith)
          ∙ sym (state_out (xs ++ (x ∷ [])) x a c (at_end xs x a (omega arith)) (omega arith))
      by false false r e f g =
          let l = ltb-false a k e in
          let w : a ≡ k → ⊥ = eqb-false a k f in
          let m : k < a = above_of k a l w in
          filled.above (spot a c) (omega arith) ∙ state.holds a c la lc ∙ state_like xs (xs ++ (x ∷ [])) a c (at_past xs x a (omega arith))
        where
          above_of : (k a : ℕ) → k ≤ a → (a ≡ k → ⊥) → k < a
          above_of k a l w = omega arith

  state_more : State (xs ++ (x ∷ [])) [] new
  state_more = record { long = filled.same_length ∙ state.long; holds = holds_more }

small_more : (xs : List Array) (x : Array) → Small xs → length xs < 16 → cells x.extents ≤ 2048 → Small (xs ++ (x ∷ []))
small_more xs x s h w = record { few = let e = length-append xs (x ∷ []) in omega arith; fits = fits }
  where
    fits : (a : ℕ) → cells (array_at (xs ++ (x ∷ [])) a).extents ≤ 2048
    fits a = by (ltb a (length xs)) (eqb a (length xs)) refl refl
      where
        by : (p q : Bool) → ltb a (length xs) ≡ p → eqb a (length xs) ≡ q → cells (array_at (xs ++ (x ∷ [])) a).extents ≤ 2048
        by true q e f = rw (at_front xs x a (ltb-true a (length xs) e)) (s.fits a)
        by false true e f = rw (at_end xs x a (eqb-true a (length xs) f)) w
        by false false e f = let l = ltb-false a (length xs) e in let w : a ≡ length xs → ⊥ = eqb-false a (length xs) f in rw (at_past xs x a (above_of (length xs) a l w)) (s.fits a)
          where
            above_of : (k a : ℕ) → k ≤ a → (a ≡ k → ⊥) → k < a
            above_of k a l w = omega arith

small_none : Small []
small_none = record { few = omega arith; fits = λ a. subst (λ (y : Array). cells y.extents ≤ 2048) (sym (get_or-eq_default [] nowhere {n = a} (omega arith))) (omega arith) }

-- n arrays, the first of them
module _ (w : List ℕ) (n sum : ℕ) (local : Bool) (h : 0 < n) where
  arrays-stop : array w ≡ none → arrays n local sum w ≡ none
  arrays-stop e = by n h
    where
      by : (n : ℕ) → 0 < n → arrays n local sum w ≡ none
      by zero h = absurd (omega arith)
      by (suc n) h = unfold arrays in rw e

  module _ (x : Array) (v : List ℕ) (e : array w ≡ got x v) where
    arrays-order : (not local || eqb x.role 3) ≡ false → arrays n local sum w ≡ none
    arrays-order f = by n h
      where
        by : (n : ℕ) → 0 < n → arrays n local sum w ≡ none
        by zero h = absurd (omega arith)
        by (suc n) h = unfold arrays in rw (e, f)

    module _ (f : (not local || eqb x.role 3) ≡ true) where
      arrays-full : 2048 < sum + cells x.extents → arrays n local sum w ≡ none
      arrays-full g = by n h
        where
          by : (n : ℕ) → 0 < n → arrays n local sum w ≡ none
          by zero h = absurd (omega arith)
          by (suc n) h = unfold arrays in rw (e, f, lt-leb (sum + cells x.extents) 2048 g)

      arrays-step : (m : ℕ) → n ≡ suc m → sum + cells x.extents ≤ 2048 →
          arrays n local sum w ≡ and_then (arrays m (eqb x.role 3) (sum + cells x.extents) v) (λ l rest. got (x ∷ l) rest)
      unfolding arrays
      arrays-step m q g = rw (q, e, f, le-leb (sum + cells x.extents) 2048 g)

arrays_none : (w : List ℕ) (n sum : ℕ) (local : Bool) → n ≡ 0 → arrays n local sum w ≡ got [] w
unfolding arrays
arrays_none w n sum local e = rw e

then_then : {A B C : Type 0} (m : Out A) (f : A → B) (g : B → C) → and_then (and_then m (λ a n. got (f a) n)) (λ b n. got (g b) n) ≡ and_then m (λ a n. got (g (f a)) n)
then_then (got a n) f g = refl
then_then none f g = refl

then_same : {A B : Type 0} (m : Out A) (f g : A → B) → ((a : A) → f a ≡ g a) → and_then m (λ a n. got (f a) n) ≡ and_then m (λ a n. got (g a) n)
then_same (got a n) f g h = ap (λ (b : _). got b n) (h a)
then_same none f g h = refl

then_self : {A : Type 0} (m : Out A) → m ≡ and_then m (λ a n. got a n)
then_self (got a n) = refl
then_self none = refl

-- of m arrays k are read, and their cells are in the state
pub record Sofar (s : List ℕ) (m : ℕ) (st : List ℕ) (k : ℕ) (local : Bool) (sum : ℕ) : Type 0 where
  pub xs : List Array
  pub counted : length xs ≡ k
  pub small : Small xs
  pub state : State xs [] st
  pub whole : arrays m false 0 (drop 18 s) ≡ and_then (arrays (m - k) local sum (drop (18 + 5 * k) s)) (λ l rest. got (xs ++ l) rest)

module _ (s : List ℕ) (m : ℕ) where
  pub sofar_none : (st : List ℕ) → length st ≡ 32768 → ((i : ℕ) → get_or st i 0 ≡ 0) → Sofar s m st 0 false 0
  sofar_none st l z = record {
    xs = [];
    counted = refl;
    small = small_none;
    state = state_none st l z;
    whole = let e : m - 0 ≡ m = omega arith in rw e (then_self (arrays m false 0 (drop 18 s)));
  }

  module _ (st : List ℕ) (k sum : ℕ) (local : Bool) (f : Sofar s m st k local sum) where
    pub sofar_all : m ≡ k → Arrays s m st true
    sofar_all e =
        let z : m - k ≡ 0 = omega arith in
        (f.xs, f.whole ∙ rw (arrays_none (drop (18 + 5 * k) s) (m - k) sum local z, append-nil f.xs, e), f.small, f.state)

    module _ (h : k < m) where
      pub sofar_stop : array (drop (18 + 5 * k) s) ≡ none → arrays m false 0 (drop 18 s) ≡ none
      sofar_stop q = f.whole ∙ rw (arrays-stop (drop (18 + 5 * k) s) (m - k) sum local (omega arith) q)

      module _ (role n : ℕ) (d : Declares s (18 + 5 * k) (Some (role, n))) where
        is : Declares s (18 + 5 * k) (Some (role, n))
        is = d

        pub sofar_order : local ≡ true → (role ≡ 3 → ⊥) → arrays m false 0 (drop 18 s) ≡ none
        sofar_order e o =
            let q = is in
            f.whole ∙ rw (arrays-order (drop (18 + 5 * k) s) (m - k) sum local (omega arith) q.0 (drop (18 + 5 * k + 5) s) q.1 (out _ q.2 local e))
          where
            out : (x : ℕ) → x ≡ role → (t : Bool) → t ≡ true → (not t || eqb x 3) ≡ false
            out x p t q = rw (q, p, ne_eqb role 3 o)

        module _ (o : (local ≡ true × role ≡ 3) ⊎ (local ≡ false)) where
          last : (x : ℕ) → x ≡ role → (not local || eqb x 3) ≡ true
          last x e = elim o [ inl h ↦ rw (h.0, e, h.1) | inr h ↦ rw h ]

          pub sofar_full : 2048 < sum + n → arrays m false 0 (drop 18 s) ≡ none
          sofar_full l =
              let q = is in
              f.whole ∙ rw (arrays-full (drop (18 + 5 * k) s) (m - k) sum local (omega arith) q.0 (drop (18 + 5 * k + 5) s) q.1 (last _ q.2) (rw q.3 l))

          pub sofar_more : (new : List ℕ) (v : ℕ) → sum + n ≤ 2048 → m ≤ 16 → Filled st (2048 * k) n v new → v ≡ state_of role false →
              Sofar s m new (k + 1) (eqb role 3) (sum + n)
          sofar_more new v l b fl val =
              let q = is in
              let x = q.0 in
              let j : 18 + 5 * k + 5 ≡ 18 + 5 * (k + 1) = omega arith in
              let step = arrays-step (drop (18 + 5 * k) s) (m - k) sum local (omega arith) x (drop (18 + 5 * k + 5) s) q.1 (last _ q.2) (m - (k + 1)) (omega arith) (rw q.3 l) in
              let step2 = rw (q.2, q.3, j) at step in
              record {
                xs = f.xs ++ (x ∷ []);
                counted = length-append f.xs (x ∷ []) ∙ ap (λ (i : ℕ). i + 1) f.counted;
                small = small_more f.xs x f.small (let c = f.counted in omega arith) (rw q.3 (omega arith));
                state = state_more f.xs x st new k n v f.counted q.3 (omega arith) f.state fl (rw q.2 val);
                whole = f.whole ∙ rw step2 (then_then (arrays (m - (k + 1)) (eqb role 3) (sum + n) (drop (18 + 5 * (k + 1)) s)) (λ l. x ∷ l) (λ l. f.xs ++ l))
                    ∙ then_same (arrays (m - (k + 1)) (eqb role 3) (sum + n) (drop (18 + 5 * (k + 1)) s)) _ _ (λ l. sym (append_assoc f.xs (x ∷ []) l));
              }

-- the header
module _ (s : List ℕ) (n m : ℕ) (h : 98 ≤ length s) (en : n ≡ get_or s 0 0) (em : m ≡ get_or s 17 0) where
  start : tables s ≡ tables (n ∷ drop 1 s)
  start = rw en (ap tables (at_one s 0 (omega arith)))

  second : drop 17 s ≡ m ∷ drop 18 s
  second = rw em (at_one s 17 (omega arith))

  pub head-count : 16 < n → tables s ≡ none
  unfolding tables
  head-count l = start ∙ rw (within-high 0 16 n l)

  pub same_operators : (k : ℕ) (r t : Bool) → k ≡ n → r ≡ list_all operator_byte (take k (drop 1 s)) → r ≡ t → list_all operator_byte (take n (drop 1 s)) ≡ t
  same_operators k r t e f g = rw e at (sym f ∙ g)

  module _ (l : n ≤ 16) where
    pub head-operators : list_all operator_byte (take n (drop 1 s)) ≡ false → tables s ≡ none
    unfolding tables
    head-operators e = start ∙ rw (within_true 0 16 n (omega arith) l, operators_false s 1 n (omega arith) e)

    module _ (a : list_all operator_byte (take n (drop 1 s)) ≡ true) where
      blank : 16 - n ≡ 17 - (1 + n)
      blank = omega arith

      known : operators n (drop 1 s) ≡ got (take n (drop 1 s)) (drop (1 + n) s)
      known = operators_true s 1 n (omega arith) a

      pub head_blank : all_zero (take (17 - (1 + n)) (drop (1 + n) s)) ≡ false → tables s ≡ none
      unfolding tables
      head_blank e = start ∙ rw (within_true 0 16 n (omega arith) l, known, blank, zeros_false s (1 + n) (17 - (1 + n)) (omega arith) e)

      module _ (z : all_zero (take (17 - (1 + n)) (drop (1 + n) s)) ≡ true) where
        z17 : zeros (16 - n) (drop (1 + n) s) ≡ got 0 (m ∷ drop 18 s)
        z17 = let e : 1 + n + (17 - (1 + n)) ≡ 17 = omega arith in rw blank (zeros_true s (1 + n) (17 - (1 + n)) (omega arith) z ∙ rw (e, second))

        head-arrays_count : within 1 16 m ≡ false → tables s ≡ none
        unfolding tables
        head-arrays_count e = start ∙ rw (within_true 0 16 n (omega arith) l, known, z17, e)

        module _ (ml : 1 ≤ m) (mh : m ≤ 16) where
          rest : 5 * (16 - m) ≡ 98 - (18 + 5 * m)
          rest = omega arith

          pub head-arrays : arrays m false 0 (drop 18 s) ≡ none → tables s ≡ none
          unfolding tables
          head-arrays x = start ∙ rw (within_true 0 16 n (omega arith) l, known, z17, within_true 1 16 m ml mh, x)

          pub head_all : (st : List ℕ) (x : Arrays s m st true) (r : Bool) → r ≡ all_zero (take (98 - (18 + 5 * m)) (drop (18 + 5 * m) s)) → Header s st r
          unfolding tables
          head_all st (xs, e, sm, state) true b =
              let j : 18 + 5 * m + (98 - (18 + 5 * m)) ≡ 98 = omega arith in
              let z = zeros_true s (18 + 5 * m) (98 - (18 + 5 * m)) (omega arith) (sym b) in
              (record { operators = take n (drop 1 s); arrays = xs }, start ∙ rw (within_true 0 16 n (omega arith) l, known, z17, within_true 1 16 m ml mh, e, rest, z, j), rw en at l, rw en, sm, state)
          head_all st (xs, e, sm, state) false b =
              start ∙ rw (within_true 0 16 n (omega arith) l, known, z17, within_true 1 16 m ml mh, e, rest, zeros_false s (18 + 5 * m) (98 - (18 + 5 * m)) (omega arith) (sym b))

    head-second : within 1 16 m ≡ false → tables s ≡ none
    head-second w = by (list_all operator_byte (take n (drop 1 s))) refl (all_zero (take (17 - (1 + n)) (drop (1 + n) s))) refl
      where
        by : (t : Bool) → list_all operator_byte (take n (drop 1 s)) ≡ t → (u : Bool) → all_zero (take (17 - (1 + n)) (drop (1 + n) s)) ≡ u → tables s ≡ none
        by false e u f = head-operators e
        by true e false f = head_blank e f
        by true e true f = head-arrays_count e f w

  pub head-bounds : (16 < n) ⊎ ((n ≤ 16 × m < 1) ⊎ (n ≤ 16 × 1 ≤ m × 16 < m)) → tables s ≡ none
  head-bounds (inl l) = head-count l
  head-bounds (inr (inl (l, k))) = head-second l (within_low 1 16 m k)
  head-bounds (inr (inr (l, j, k))) = head-second l (within-high 1 16 m k)
