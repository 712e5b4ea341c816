-- An array that is not local has the same record on both sides, where locals come last and the others agree.
use mathlib.Core.Path.{◌≡◌, refl, sym, ap, ◌∙◌}
use mathlib.Core.Bool.{Bool, true, false, ◌||◌, not, cond, true≢false}
use mathlib.Core.List.{List, [], ◌∷◌}
use Prim.Native.Nat.{ℕ, zero, suc, ◌<◌}
use native.Mathlib.Omega.{arith}
use lib.ListN.{length}
use lib.Dec.{eqb}
use Rattle.model.specs.Tables.{Array, array_at, local}
use Rattle.unroller.specs.Allowed.{locals_last}
use Rattle.unroller.proofs.Parts.{both}
use Rattle.comparer.specs.Match.{non_local}
use Rattle.comparer.proofs.SameTables.{non_local-role}

pub not-local-inside : (xs : List Array) (a : ℕ) → local (array_at xs a) ≡ false → a < length xs
not-local-inside [] a e = absurd (true≢false e)
not-local-inside (x ∷ xs) zero e = omega arith
not-local-inside (x ∷ xs) (suc a) e = let h = not-local-inside xs a e in omega arith

-- behind a local there are locals only
locals : (xs : List Array) → locals_last true xs ≡ true → (a : ℕ) → local (array_at xs a) ≡ true
locals [] e a = refl
locals (x ∷ xs) e zero = (both (local x) (locals_last (local x) xs) e).0
locals (x ∷ xs) e (suc a) = let p = both (local x) (locals_last (local x) xs) e in locals xs (rw p.0 at p.1) a

non_local_at : (after : Bool) (xs : List Array) → locals_last after xs ≡ true → (a : ℕ) → local (array_at xs a) ≡ false → array_at (non_local xs) a ≡ array_at xs a
non_local_at after [] e a f = refl
non_local_at after (x ∷ xs) e a f =
    let p = both (not after || local x) (locals_last (local x) xs) e in
    go (local x) refl a f p.1 (λ b g. non_local_at (local x) xs p.1 b g)
  where
    go : (b : Bool) → local x ≡ b → (a : ℕ) → local (array_at (x ∷ xs) a) ≡ false → locals_last (local x) xs ≡ true
        → ((b : ℕ) → local (array_at xs b) ≡ false → array_at (non_local xs) b ≡ array_at xs b)
        → array_at (cond (local x) (non_local xs) (x ∷ non_local xs)) a ≡ array_at (x ∷ xs) a
    go true t zero g q ih = absurd (true≢false (sym t ∙ g))
    go true t (suc a) g q ih = absurd (true≢false (sym (locals xs (rw t at q) a) ∙ g))
    go false t zero g q ih = rw t
    go false t (suc a) g q ih = rw t (ih a g)

module _ (xs ys : List Array) (p : locals_last false xs ≡ true) (q : locals_last false ys ≡ true) (e : non_local xs ≡ non_local ys) (a : ℕ)
    (f : local (array_at xs a) ≡ false) where
  pub shared-local : local (array_at ys a) ≡ false
  shared-local =
      let r : (array_at ys a).role ≡ (array_at xs a).role =
      sym (non_local-role false ys q a) ∙ ap (λ (l : List Array). (array_at l a).role) (sym e) ∙ non_local-role false xs p a in
      ap (λ (k : ℕ). eqb k 3) r ∙ f

  pub shared-array : array_at ys a ≡ array_at xs a
  shared-array = sym (non_local_at false ys q a shared-local) ∙ ap (λ (l : List Array). array_at l a) (sym e) ∙ non_local_at false xs p a f
