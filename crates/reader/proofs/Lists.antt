-- Padded lists: one more element stands where the padding begins.
use mathlib.Core.Path.{◌≡◌, ◌∙◌}
use Prim.Native.Nat.{ℕ, zero, suc, ◌-◌, ◌≤◌, ◌<◌}
use mathlib.Core.List.{List, [], ◌∷◌, ◌++◌, append_assoc}
use native.Mathlib.Omega.{arith}
use lib.ListN.{length, take, set, replicate, length-append, length-replicate}
use lib.Seq.{set_at, take_at}
use Rattle.reader.specs.Entries.{padded}

module _ {A : Type 0} where
  replicate_some : (n : ℕ) (z : A) → 0 < n → replicate n z ≡ z ∷ replicate (n - 1) z
  replicate_some zero z h = absurd (omega arith)
  replicate_some (suc n) z h = let e : suc n - 1 ≡ n = omega arith in rw e

  module _ (n : ℕ) (z : A) (l : List A) where
    pub length-padded : length l ≤ n → length (padded n z l) ≡ n
    length-padded h = simp (length-append, length-replicate) (omega arith)

    -- one more
    pub padded-set : (k : ℕ) (a : A) → length l ≡ k → k < n → set (padded n z l) k a ≡ padded n z (l ++ (a ∷ []))
    padded-set k a e h =
        let w : n - length l - 1 ≡ n - length (l ++ (a ∷ [])) = simp length-append (omega arith) in
        rw (replicate_some (n - length l) z (omega arith)) (set_at l z (replicate (n - length l - 1) z) a k e ∙ rw (w, append_assoc))

    pub take-padded : (k : ℕ) → length l ≡ k → take k (padded n z l) ≡ l
    take-padded k e = take_at l _ k e
