-- Both sides' cells in one slice: what a call on a half leaves.
use mathlib.Core.Path.{◌≡◌, ap, ◌∙◌}
use mathlib.Core.List.{List, ◌++◌}
use Prim.Native.Nat.{ℕ, ◌+◌, ◌≤◌, ◌<◌}
use native.Mathlib.Omega.{arith}
use lib.ListN.{length, get_or, take, drop, length-drop, get_or-replicate}
use lib.Seq.{length-take-le, take_at, drop_at, get_or-take, get_or-drop}
use Rattle.model.specs.Memory.{cleared}

-- no cell is written
abbrev pub Blank : List ℕ → Type 0
Blank xs = (i : ℕ) → i < length xs → get_or xs i 0 ≡ 0

-- the slice after the call on its first half, and after that on its second
abbrev pub after_one : List ℕ → List ℕ → List ℕ
after_one xs ys = ys ++ drop 2048 xs

abbrev pub after_two : List ℕ → List ℕ → List ℕ → List ℕ
after_two xs ys zs = take 2048 (after_one xs ys) ++ (zs ++ drop 2048 (drop 2048 (after_one xs ys)))

module _ (xs : List ℕ) (l : 4096 ≤ length xs) where
  pub first_long : length (take 2048 xs) ≡ 2048
  first_long = length-take-le 2048 xs (omega arith)

  pub second-long : length (take 2048 (drop 2048 xs)) ≡ 2048
  second-long = length-take-le 2048 (drop 2048 xs) (omega (arith, length-drop 2048 xs))

  module _ (z : xs ≡ cleared xs) where
    zero_at : (i : ℕ) → i < 4096 → get_or xs i 0 ≡ 0
    zero_at i h = ap (λ (x : List ℕ). get_or x i 0) z ∙ get_or-replicate (length xs) i 0 0 (omega arith)

    pub first_blank : Blank (take 2048 xs)
    first_blank i h = let j : i < 2048 = omega (arith, first_long) in get_or-take 2048 xs i 0 j ∙ zero_at i (omega arith)

    pub second_blank : Blank (take 2048 (drop 2048 xs))
    second_blank i h =
        let j : i < 2048 = omega (arith, second-long) in
        get_or-take 2048 (drop 2048 xs) i 0 j ∙ get_or-drop 2048 xs i 0 ∙ zero_at (2048 + i) (omega arith)

  module _ (ys : List ℕ) (p : length ys ≡ length (take 2048 xs)) where
    long : length ys ≡ 2048
    long = p ∙ first_long

    pub second-part : take 2048 (drop 2048 (after_one xs ys)) ≡ take 2048 (drop 2048 xs)
    second-part = ap (take 2048) (drop_at ys (drop 2048 xs) 2048 long)

    module _ (zs : List ℕ) (q : length zs ≡ length (take 2048 (drop 2048 (after_one xs ys)))) where
      front : take 2048 (after_one xs ys) ≡ ys
      front = take_at ys (drop 2048 xs) 2048 long

      pub first_is : take 2048 (after_two xs ys zs) ≡ ys
      first_is = take_at (take 2048 (after_one xs ys)) _ 2048 (ap length front ∙ long) ∙ front

      pub second_is : take 2048 (drop 2048 (after_two xs ys zs)) ≡ zs
      second_is =
          ap (take 2048) (drop_at (take 2048 (after_one xs ys)) _ 2048 (ap length front ∙ long))
          ∙ take_at zs _ 2048 (q ∙ ap length second-part ∙ second-long)
