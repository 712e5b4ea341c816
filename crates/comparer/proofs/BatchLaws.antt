-- What the lengths of one of many pairs say; a total that stays.
use Prim.Native.Nat.{ℕ, ◌+◌, ◌*◌, ◌≤◌, ◌<◌}
use native.Mathlib.Omega.{arith}
use mathlib.Core.Path.{◌≡◌, refl}
use mathlib.Core.List.{List, [], ◌∷◌}
use lib.ListN.{length, get_or}
use borrow.Author.Tests.{lt-leb, le-leb}
use Rattle.model.specs.Reply as model
use Rattle.comparer.specs.Batch.{Lengths, ended, last, sizes, sized, lengths_of}
use Rattle.comparer.specs.BatchSteps.{capped}

-- the two lengths
module _ (l r : ℕ) where
  pub left_long : 16384 < l → last model.left 2 ≡ sized l r
  left_long h = rw (lt-leb l 16384 h)

  pub right_long : l ≤ 16384 → 16384 < r → last model.right 2 ≡ sized l r
  right_long h g = rw (le-leb l 16384 h, lt-leb r 16384 g)

  pub both_fit : l ≤ 16384 → r ≤ 16384 → sizes l r ≡ sized l r
  both_fit h g = rw (le-leb l 16384 h, le-leb r 16384 g)

  pub both_are : (m n : ℕ) → m ≡ l → n ≡ r → l ≤ 16384 → r ≤ 16384 → sizes m n ≡ sized l r
  both_are m n e f h g = rw (e, f) (both_fit h g)

-- their bytes
pub no_byte : (s : List ℕ) → length s ≡ 0 → ended ≡ lengths_of s
unfolding lengths_of
no_byte [] h = refl
no_byte (b ∷ s) h = absurd (omega arith)

pub few_bytes : (s : List ℕ) → 0 < length s → length s < 4 → last model.input 1 ≡ lengths_of s
unfolding lengths_of
few_bytes [] n h = absurd (omega arith)
few_bytes (b ∷ s) n h = rw (lt-leb 4 (length (b ∷ s)) h)

pub four_bytes : (s : List ℕ) (l r : ℕ) (x : Lengths) → 4 ≤ length s → l ≡ get_or s 0 0 + 256 * get_or s 1 0 → r ≡ get_or s 2 0 + 256 * get_or s 3 0 → x ≡ sized l r → x ≡ lengths_of s
unfolding lengths_of
four_bytes [] l r x h e f g = absurd (omega arith)
four_bytes (b ∷ s) l r x h e f g =
    let p : get_or (b ∷ s) 0 0 + 256 * (get_or (b ∷ s) 1 0 + 256 * 0) ≡ l = omega arith in
    let q : get_or (b ∷ s) 2 0 + 256 * (get_or (b ∷ s) 3 0 + 256 * 0) ≡ r = omega arith in
    rw (le-leb 4 (length (b ∷ s)) h, p, q) g

-- the totals
pub same_total : (n : ℕ) → n < 18446744073709551616 → n ≡ capped (n + 0)
same_total n h = omega arith
