-- The mask of the out arrays, and what replies under different masks have in common.
use Prim.Native.Nat.{ℕ, zero, suc, ◌+◌, ◌*◌, ◌/◌, ◌%◌, ◌^◌, ◌<◌}
use native.Mathlib.Nat.{zero-div, div-div-eq-div-mul, pow-succ'}
use native.Mathlib.Omega.{arith}
use mathlib.Core.Path.{◌≡◌, refl, sym, ap, ap₂, ◌∙◌, subst, fun_ext}
use mathlib.Core.Logic.{◌⊎◌, inl, inr}
use mathlib.Core.List.{List, [], ◌∷◌}
use mathlib.Core.Bool.{Bool, true, false, ◌&&◌, ◌||◌, not, cond, and-eq-true_iff, true≢false}
use lib.ListN.{length, replicate, get_or-replicate}
use lib.Dec.{eqb, leb}
use borrow.Author.Tests.{eq-eqb, ne_eqb}
use Rattle.model.specs.Test.{every}
use Rattle.model.specs.Tables.{Array, cells, array_at, inside}
use Rattle.model.specs.Update.{Listed}
use Rattle.model.specs.Reply.{Reply, equal, differs, refused, is_refused, Side, both}
use Rattle.terms.specs.Term.{term_count}
use Rattle.unroller.proofs.Parts.{every_at}
use Rattle.comparer.specs.Match.{bit, out, out_bits, compared, compared_size, first_cell, first_difference, agree_at, swapping, written_terms, matched, same_array, non_local, same_table, operators_reply, lists_reply}
use Rattle.comparer.specs.Entry.{all_bits, out_mask}
use Rattle.comparer.specs.Told.{Compared, OutElement, out_size, Agree, Earlier, ToldOver, Told, ToldOut}
use Rattle.comparer.proofs.First.{ElementAt, ElementNone, first_difference_lem}
use Rattle.comparer.proofs.Demand2.{Sound, found, demand2}

-- ---- bits

bit-zero : (a : ℕ) → bit 0 a ≡ false
bit-zero a = ap (λ (n : ℕ). eqb (n % 2) 1) (zero-div (2 ^ a))

half : (b : Bool) (n : ℕ) → (cond b 1 0 + 2 * n) / 2 ≡ n
half true n = omega arith
half false n = omega arith

-- the lowest bit, and those above it
low_bit : (b : Bool) (n : ℕ) → bit (cond b 1 0 + 2 * n) 0 ≡ b
low_bit true n = eq-eqb ((1 + 2 * n) / 2 ^ 0 % 2) 1 (omega arith)
low_bit false n = ne_eqb ((0 + 2 * n) / 2 ^ 0 % 2) 1 (λ e. omega arith)

high_bit : (b : Bool) (n a : ℕ) → bit (cond b 1 0 + 2 * n) (suc a) ≡ bit n a
high_bit b n a =
    let m = cond b 1 0 + 2 * n in
    ap (λ (k : ℕ). eqb (k % 2) 1) (ap (λ (k : ℕ). m / k) (pow-succ' 2 a) ∙ sym (div-div-eq-div-mul m 2 (2 ^ a)) ∙ ap (λ (k : ℕ). k / 2 ^ a) (half b n))

pub out_bit : (xs : List Array) (a : ℕ) → bit (out_bits xs) a ≡ out (array_at xs a)
unfolding out_bits
out_bit [] a = bit-zero a
out_bit (x ∷ xs) zero = low_bit (out x) (out_bits xs)
out_bit (x ∷ xs) (suc a) = high_bit (out x) (out_bits xs) a ∙ out_bit xs a

-- array a is out, and those before it are not
abbrev out_at : ℕ → List Array
out_at zero = record { role = 1; extents = [] } ∷ []
out_at (suc a) = record { role = 0; extents = [] } ∷ out_at a

one_bit : (a : ℕ) → out_bits (out_at a) ≡ 2 ^ a
unfolding out_bits
one_bit zero = refl
one_bit (suc a) = let e = one_bit a in let p = pow-succ' 2 a in omega arith

pub own_bit : (a : ℕ) → bit (2 ^ a) a ≡ true
own_bit a = ap (λ (n : ℕ). bit n a) (sym (one_bit a)) ∙ out_bit (out_at a) a ∙ here a
  where
    here : (a : ℕ) → out (array_at (out_at a) a) ≡ true
    here zero = refl
    here (suc a) = here a

pub earlier-bit : (a b : ℕ) → b < a → bit (2 ^ a) b ≡ false
earlier-bit a b h = ap (λ (n : ℕ). bit n b) (sym (one_bit a)) ∙ out_bit (out_at a) b ∙ before a b h
  where
    before : (a b : ℕ) → b < a → out (array_at (out_at a) b) ≡ false
    before zero b h = absurd (omega arith)
    before (suc a) zero h = refl
    before (suc a) (suc b) h = before a b (omega arith)

-- sixteen out arrays
pub all_bit : (a : ℕ) → a < 16 → bit all_bits a ≡ true
unfolding out_bits
all_bit a h =
    let x : Array = record { role = 1; extents = [] } in
    out_bit (replicate 16 x) a ∙ ap out (get_or-replicate 16 a x (record { role = 3; extents = 0 ∷ [] }) h)

-- ---- masks under which the out arrays are compared, and no others

abbrev OutsOnly : ℕ → ℕ → List Array → Type 0
OutsOnly mask k xs = (i : ℕ) → i < length xs → compared mask (k + i) (array_at xs i) ≡ out (array_at xs i)

first_only : (mask k : ℕ) (x : Array) (xs : List Array) → OutsOnly mask k (x ∷ xs) → compared mask k x ≡ out x
first_only mask k x xs h = let z : k + 0 ≡ k = omega arith in subst (λ (a : ℕ). compared mask a x ≡ out x) z (h 0 (omega arith))

rest_only : (mask k : ℕ) (x : Array) (xs : List Array) → OutsOnly mask k (x ∷ xs) → OutsOnly mask (suc k) xs
rest_only mask k x xs h i l = let z : k + suc i ≡ suc k + i = omega arith in subst (λ (a : ℕ). compared mask a (array_at xs i) ≡ out (array_at xs i)) z (h (suc i) (omega arith))

only-size : (mask k : ℕ) (xs : List Array) → OutsOnly mask k xs → compared_size mask k xs ≡ out_size xs
only-size mask k [] h = refl
only-size mask k (x ∷ xs) h =
    ap₂ (λ (b : Bool) (n : ℕ). cond b (cells x.extents) 0 + n) (first_only mask k x xs h) (only-size mask (suc k) xs (rest_only mask k x xs h))

only_first : (m n k : ℕ) (xs : List Array) (agree : ℕ → ℕ → Bool) (otherwise : Reply) → OutsOnly m k xs → OutsOnly n k xs
    → first_difference m k xs agree otherwise ≡ first_difference n k xs agree otherwise
only_first m n k [] agree otherwise g h = refl
only_first m n k (x ∷ xs) agree otherwise g h =
    ap₂ (λ (b : Bool) (rest : Reply). cond b (first_cell (cells x.extents) 0 (agree k) (differs k) rest) rest) (first_only m k x xs g ∙ sym (first_only n k x xs h))
    (only_first m n (suc k) xs agree otherwise (rest_only m k x xs g) (rest_only n k x xs h))

-- such masks give the same reply
pub only-reply : (m n : ℕ) (l r : Listed) → OutsOnly m 0 l.tables.arrays → OutsOnly n 0 l.tables.arrays → lists_reply m l r ≡ lists_reply n l r
unfolding lists_reply
only-reply m n l r g h =
    let xs = l.tables.arrays in
    let size = only-size m 0 xs g ∙ sym (only-size n 0 xs h) in
    let first = only_first m n 0 xs (agree_at l r) (equal (compared_size m 0 xs)) g h ∙ ap (λ (k : ℕ). first_difference n 0 xs (agree_at l r) (equal k)) size in
    ap (λ (x : Reply). same_table same_array 22 (same_table eqb 23 (cond (leb (term_count (swapping l) (written_terms l r)) 4096) x (refused both 24 0)) 0 l.tables.operators r.tables.operators) 0 (non_local xs) (non_local r.tables.arrays))
    first

out_compared : (xs : List Array) (a : ℕ) → compared (out_bits xs) a (array_at xs a) ≡ out (array_at xs a)
out_compared xs a = ap (λ (b : Bool). (out (array_at xs a) || eqb (array_at xs a).role 2) && b) (out_bit xs a) ∙ absorb (out (array_at xs a)) (eqb (array_at xs a).role 2)
  where
    absorb : (b c : Bool) → ((b || c) && b) ≡ b
    absorb true c = refl
    absorb false true = refl
    absorb false false = refl

pub out_only : (xs : List Array) → OutsOnly (out_bits xs) 0 xs
out_only xs i h = let z : i ≡ 0 + i = omega arith in subst (λ (a : ℕ). compared (out_bits xs) a (array_at xs i) ≡ out (array_at xs i)) z (out_compared xs i)

-- all bits, where at most sixteen arrays are declared and none is inout
pub all_only : (xs : List Array) → length xs < 17 → every (λ (x : Array). not (eqb x.role 2)) xs ≡ true → OutsOnly all_bits 0 xs
all_only xs few none i h =
    ap₂ (λ (b c : Bool). (out (array_at xs i) || b) && c) (by (eqb (array_at xs i).role 2) (every_at (λ (x : Array). not (eqb x.role 2)) xs _ i none h)) (all_bit (0 + i) (omega arith)) ∙ plain (out (array_at xs i))
  where
    by : (b : Bool) → not b ≡ true → b ≡ false
    by true e = sym e
    by false e = refl

    plain : (b : Bool) → ((b || false) && true) ≡ b
    plain true = refl
    plain false = refl

pub told_out : (l r : Listed) (reply : Reply) → Told (out_mask l) l r reply → ToldOut l r reply
told_out l r reply t =
    let xs = l.tables.arrays in
    let element : Compared (out_mask l) l ≡ OutElement l = fun_ext (λ a. fun_ext (λ e. ap (λ (b : Bool). (b && inside xs a e) ≡ true) (out_compared xs a))) in
    subst (λ (n : ℕ). ToldOver n (OutElement l) l r reply) (only-size (out_mask l) 0 xs (out_only xs))
    (subst (λ (E : ℕ → ℕ → Type 0). ToldOver (compared_size (out_mask l) 0 xs) E l r reply) element t)

-- ---- refusals, which no mask decides

module _ {A : Type 0} (equals : A → A → Bool) (question : ℕ) (s : Side) (k p : ℕ) (one other : Reply) (h : one ≡ refused s k p → other ≡ refused s k p) where
  tables-alike : (n : ℕ) (xs ys : List A) → same_table equals question one n xs ys ≡ refused s k p → same_table equals question other n xs ys ≡ refused s k p
  tables-alike n [] [] e = h e
  tables-alike n [] (y ∷ ys) e = e
  tables-alike n (x ∷ xs) [] e = e
  tables-alike n (x ∷ xs) (y ∷ ys) e = go (equals x y) e (λ e. tables-alike (suc n) xs ys e)
    where
      go : (b : Bool) → cond b (same_table equals question one (suc n) xs ys) (refused both question n) ≡ refused s k p
          → (same_table equals question one (suc n) xs ys ≡ refused s k p → same_table equals question other (suc n) xs ys ≡ refused s k p)
          → cond b (same_table equals question other (suc n) xs ys) (refused both question n) ≡ refused s k p
      go true e f = f e
      go false e f = e

found-never : (mask : ℕ) (l r : Listed) (s : Side) (k p : ℕ) → found mask l r ≡ refused s k p → ⊥
found-never mask l r s k p e = go (first_difference_lem mask (agree_at l r) (equal (compared_size mask 0 l.tables.arrays)) l.tables.arrays 0)
  where
    go : ElementNone l.tables.arrays 0 mask (agree_at l r) (equal (compared_size mask 0 l.tables.arrays)) (found mask l r) ⊎ ElementAt l.tables.arrays 0 mask (agree_at l r) (found mask l r) → ⊥
    go (inl z) = let i = z.is in let w : ◌≡◌ {A = ℕ} 0 1 = cc i in omega arith
    go (inr z) = let i = z.is in let w : ◌≡◌ {A = ℕ} 0 1 = cc i in omega arith

matched-alike : (m n : ℕ) (l r : Listed) (s : Side) (k p : ℕ) → matched m l r ≡ refused s k p → matched n l r ≡ refused s k p
matched-alike m n l r s k p e = go (leb (term_count (swapping l) (written_terms l r)) 4096) e
  where
    go : (b : Bool) → cond b (found m l r) (refused both 24 0) ≡ refused s k p → cond b (found n l r) (refused both 24 0) ≡ refused s k p
    go true e = absurd (found-never m l r s k p e)
    go false e = e

pub lists_alike : (m n : ℕ) (l r : Listed) (s : Side) (k p : ℕ) → lists_reply m l r ≡ refused s k p → lists_reply n l r ≡ refused s k p
unfolding lists_reply
lists_alike m n l r s k p e =
    tables-alike same_array 22 s k p (operators_reply m l r) (operators_reply n l r)
    (λ f. tables-alike eqb 23 s k p (matched m l r) (matched n l r) (matched-alike m n l r s k p) 0 l.tables.operators r.tables.operators f)
    0 (non_local l.tables.arrays) (non_local r.tables.arrays) e

-- ---- the first difference, where its array alone is compared

module _ (mask : ℕ) (l r : Listed) (p : Sound l) (q : Sound r) (a e : ℕ) (h : lists_reply mask l r ≡ differs a e) where
  passes : is_refused (lists_reply (2 ^ a) l r) ≡ false
  passes = go (lists_reply (2 ^ a) l r) refl
    where
      go : (x : Reply) → lists_reply (2 ^ a) l r ≡ x → is_refused x ≡ false
      go (equal n) i = refl
      go (differs b d) i = refl
      go (refused s k o) i = let j = lists_alike (2 ^ a) mask l r s k o i in absurd (let w : ◌≡◌ {A = ℕ} 0 1 = cc h in omega arith)

  -- the bit that is set is that of array a
  at_own : (d : ℕ) (m n : ℕ) → bit n a ≡ true → Compared m l a d → Compared n l a d
  at_own d m n b c =
      let x = array_at l.tables.arrays a in
      let s = (and-eq-true_iff (compared m a x) (inside l.tables.arrays a d)).0 c in
      let t = (and-eq-true_iff (out x || eqb x.role 2) (bit m a)).0 s.0 in
      (and-eq-true_iff (compared n a x) (inside l.tables.arrays a d)).1 ((and-eq-true_iff (out x || eqb x.role 2) (bit n a)).1 (t.0, b), s.1)

  its_bit : (m b d : ℕ) → Compared m l b d → bit m b ≡ true
  its_bit m b d c =
      let x = array_at l.tables.arrays b in
      ((and-eq-true_iff (out x || eqb x.role 2) (bit m b)).0 ((and-eq-true_iff (compared m b x) (inside l.tables.arrays b d)).0 c).0).1

  pub one_bit_lists : lists_reply (2 ^ a) l r ≡ differs a e
  one_bit_lists =
      let f = ((demand2 mask l r p q (ap is_refused h)).other a e).0 h in
      ((demand2 (2 ^ a) l r p q passes).other a e).1 (at_own e mask (2 ^ a) (own_bit a) f.0, f.1, λ b d c w. before f.0 f.2 b d c w)
    where
      before : Compared mask l a e → ((b d : ℕ) → Compared mask l b d → Earlier b d a e → Agree l r b d) → (b d : ℕ) → Compared (2 ^ a) l b d → Earlier b d a e → Agree l r b d
      before here f b d c (inl w) = absurd (true≢false (sym (its_bit (2 ^ a) b d c) ∙ earlier-bit a b w))
      before here f b d c (inr w) =
          let g : Compared (2 ^ a) l a d = subst (λ (b : ℕ). Compared (2 ^ a) l b d) w.0 c in
          f b d (subst (λ (b : ℕ). Compared mask l b d) (sym w.0) (at_own d (2 ^ a) mask (its_bit mask a e here) g)) (inr w)
