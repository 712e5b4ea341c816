-- Two numbers in one order or the other.
use Prim.Native.Nat.{ℕ, ◌≤◌, ◌<◌}
use native.Mathlib.Decide.{dec_le}
use native.Mathlib.Omega.{arith}

module _ {P : Type 0} where
  pub by_order : (a b : ℕ) → (a ≤ b → P) → (b < a → P) → P
  by_order a b f g = go (dec_le a b)
    where
      go : Dec (a ≤ b) → P
      go (yes h) = f h
      go (no h) = g (omega arith)
