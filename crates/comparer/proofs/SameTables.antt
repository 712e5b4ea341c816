-- Where 22 and 23 have a yes the tables agree, and where locals come last each array number has the same role on both sides.
use Prim.Native.Nat.{ℕ, zero, suc}
use mathlib.Core.Path.{◌≡◌, refl, sym, ap₂, subst}
use mathlib.Core.Logic.{◌⊎◌, inl, inr}
use mathlib.Core.List.{List, [], ◌∷◌}
use mathlib.Core.Bool.{Bool, true, false, ◌&&◌, ◌||◌, not, cond, false≢true, and-eq-true_iff}
use lib.Dec.{eqb}
use borrow.Author.Tests.{eqb-true, eq-eqb}
use Rattle.model.specs.Tables.{Array, array_at, local, starts}
use Rattle.model.specs.Reply.{Reply, refused, both}
use Rattle.unroller.specs.Allowed.{locals_last}
use Rattle.comparer.specs.Match.{bit, compared, same_numbers, same_array, non_local, same_table}

same_numbers_sound : (xs ys : List ℕ) → same_numbers xs ys ≡ true → xs ≡ ys
same_numbers_sound [] [] e = refl
same_numbers_sound [] (y ∷ ys) e = absurd (false≢true e)
same_numbers_sound (x ∷ xs) [] e = absurd (false≢true e)
same_numbers_sound (x ∷ xs) (y ∷ ys) e = let p = (and-eq-true_iff (eqb x y) (same_numbers xs ys)).0 e in ap₂ {C = List ℕ} ◌∷◌ (eqb-true x y p.0) (same_numbers_sound xs ys p.1)

pub same_array_sound : (x y : Array) → same_array x y ≡ true → x ≡ y
same_array_sound x y e =
    let p = (and-eq-true_iff (eqb x.role y.role) (same_numbers x.extents y.extents)).0 e in
    let f : x.role ≡ y.role = eqb-true x.role y.role p.0 in
    let g : x.extents ≡ y.extents = same_numbers_sound x.extents y.extents p.1 in
    λ i. record { role = f i; extents = g i }

pub same_numbers_lem : (xs : List ℕ) → same_numbers xs xs ≡ true
same_numbers_lem [] = refl
same_numbers_lem (x ∷ xs) = rw (eq-eqb x x refl, same_numbers_lem xs)

module _ {A : Type 0} (alike : A → A → Bool) (sound : (x y : A) → alike x y ≡ true → x ≡ y) (question : ℕ) (agreed : Reply) where
  pub tables_cases : (k : ℕ) (xs ys : List A) → ((xs ≡ ys) × (same_table alike question agreed k xs ys ≡ agreed)) ⊎ ((j : ℕ) × (same_table alike question agreed k xs ys ≡ refused both question j))
  tables_cases k [] [] = inl (refl, refl)
  tables_cases k [] (y ∷ ys) = inr (k, refl)
  tables_cases k (x ∷ xs) [] = inr (k, refl)
  tables_cases k (x ∷ xs) (y ∷ ys) = go (alike x y) refl (tables_cases (suc k) xs ys)
    where
      go : (b : Bool) → alike x y ≡ b → ((xs ≡ ys) × (same_table alike question agreed (suc k) xs ys ≡ agreed)) ⊎ ((j : ℕ) × (same_table alike question agreed (suc k) xs ys ≡ refused both question j))
          → ((x ∷ xs ≡ y ∷ ys) × (cond (alike x y) (same_table alike question agreed (suc k) xs ys) (refused both question k) ≡ agreed))
          ⊎ ((j : ℕ) × (cond (alike x y) (same_table alike question agreed (suc k) xs ys) (refused both question k) ≡ refused both question j))
      go true e (inl p) = inl (ap₂ {C = List A} ◌∷◌ (sound x y e) p.0, rw e p.1)
      go true e (inr p) = inr (p.0, rw e p.1)
      go false e p = inr (k, rw e)

abbrev pub all_local : List Array → Bool
all_local [] = true
all_local (x ∷ xs) = local x && all_local xs

pub after-local : (xs : List Array) → locals_last true xs ≡ true → all_local xs ≡ true
after-local [] e = refl
after-local (x ∷ xs) e =
    let p = (and-eq-true_iff (local x) (locals_last (local x) xs)).0 e in
    (and-eq-true_iff (local x) (all_local xs)).1 (p.0, after-local xs (rw p.0 at p.1))

all_local_lem : (xs : List Array) (a : ℕ) → all_local xs ≡ true → (array_at xs a).role ≡ 3
all_local_lem [] a e = refl
all_local_lem (x ∷ xs) zero e = eqb-true x.role 3 ((and-eq-true_iff (local x) (all_local xs)).0 e).0
all_local_lem (x ∷ xs) (suc a) e = all_local_lem xs a ((and-eq-true_iff (local x) (all_local xs)).0 e).1

pub non_local_none : (xs : List Array) → all_local xs ≡ true → non_local xs ≡ []
non_local_none [] e = refl
non_local_none (x ∷ xs) e = let p = (and-eq-true_iff (local x) (all_local xs)).0 e in rw p.0 (non_local_none xs p.1)

pub non_local-role : (after : Bool) (xs : List Array) → locals_last after xs ≡ true → (a : ℕ) → (array_at (non_local xs) a).role ≡ (array_at xs a).role
non_local-role after [] e a = refl
non_local-role after (x ∷ xs) e a = let p = (and-eq-true_iff (not after || local x) (locals_last (local x) xs)).0 e in go (local x) refl a p.1 (non_local-role (local x) xs p.1)
  where
    go : (b : Bool) → local x ≡ b → (a : ℕ) → locals_last (local x) xs ≡ true → ((a : ℕ) → (array_at (non_local xs) a).role ≡ (array_at xs a).role)
        → (array_at (cond (local x) (non_local xs) (x ∷ non_local xs)) a).role ≡ (array_at (x ∷ xs) a).role
    go true f zero p ih = let q : all_local xs ≡ true = after-local xs (rw f at p) in rw (f, non_local_none xs q) (sym (eqb-true x.role 3 f))
    go true f (suc a) p ih = let q : all_local xs ≡ true = after-local xs (rw f at p) in rw (f, non_local_none xs q) (sym (all_local_lem xs a q))
    go false f zero p ih = rw f
    go false f (suc a) p ih = rw f (ih a)

-- what holds of out and inout holds of a compared array's role
compared-role : (P : ℕ → Type 0) (mask a : ℕ) (x : Array) → compared mask a x ≡ true → P 1 → P 2 → P x.role
compared-role P mask a x e p q = go (eqb x.role 1) refl (eqb x.role 2) refl ((and-eq-true_iff (eqb x.role 1 || eqb x.role 2) (bit mask a)).0 e).0
  where
    go : (b : Bool) → eqb x.role 1 ≡ b → (c : Bool) → eqb x.role 2 ≡ c → (b || c) ≡ true → P x.role
    go true f c g h = subst P (sym (eqb-true x.role 1 f)) p
    go false f true g h = subst P (sym (eqb-true x.role 2 g)) q
    go false f false g h = absurd (false≢true h)

pub compared-shared : (mask a : ℕ) (x : Array) → compared mask a x ≡ true → local x ≡ false
compared-shared mask a x e = compared-role (λ role. eqb role 3 ≡ false) mask a x e refl refl

-- of the compared arrays the inout ones start alike on both sides
pub compared-starts : (mask a : ℕ) (x : Array) → compared mask a x ≡ true → eqb x.role 2 ≡ starts x
compared-starts mask a x e = compared-role (λ role. eqb role 2 ≡ eqb role 0 || eqb role 2) mask a x e refl refl
