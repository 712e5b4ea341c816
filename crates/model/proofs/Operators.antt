-- What an operator's byte says.
use mathlib.Core.Path.{◌≡◌, refl}
use Prim.Native.Nat.{ℕ, ◌≤◌, ◌<◌}
use native.Mathlib.Omega.{arith}
use mathlib.Core.Bool.{Bool, true, false, ◌&&◌, ◌||◌, cond, false≢true, or-true, and-false}
use lib.Dec.{leb, eqb}
use borrow.Author.Tests.{eqb-true, ne_eqb, leb-true, le-leb, lt-leb}
use Rattle.model.specs.Test.{within}
use Rattle.model.specs.Tables.{swaps, operator_in, operator_byte, arity_of}

-- a byte that passed: an arity, or a mark in version 2
by_byte : {P : Type 0} (version b : ℕ) → operator_in version b ≡ true → (1 ≤ b → b ≤ 4 → P) → (version ≡ 2 → swaps b ≡ true → P) → P
unfolding operator_in
by_byte {P} version b e plain mark = go (leb 1 b) refl (leb b 4) refl (eqb version 2) refl (swaps b) refl e
  where
    go : (w : Bool) → leb 1 b ≡ w → (x : Bool) → leb b 4 ≡ x → (y : Bool) → eqb version 2 ≡ y → (z : Bool) → swaps b ≡ z → ((w && x) || (y && z)) ≡ true → P
    go true p true q y r z s h = plain (leb-true 1 b p) (leb-true b 4 q)
    go true p false q true r true s h = mark (eqb-true version 2 r) s
    go true p false q true r false s h = absurd (false≢true h)
    go true p false q false r z s h = absurd (false≢true h)
    go false p x q true r true s h = mark (eqb-true version 2 r) s
    go false p x q true r false s h = absurd (false≢true h)
    go false p x q false r z s h = absurd (false≢true h)

module _ (b : ℕ) where
  swaps_is : swaps b ≡ true → b ≡ 0x82
  unfolding swaps
  swaps_is e = eqb-true b 0x82 e

  pub unmarked : (b ≡ 0x82 → ⊥) → swaps b ≡ false
  unfolding swaps
  unmarked n = ne_eqb b 0x82 n

  pub swaps_two : swaps b ≡ true → arity_of b ≡ 2
  unfolding arity_of
  swaps_two e = rw e

  pub arity_plain : swaps b ≡ false → arity_of b ≡ b
  unfolding arity_of
  arity_plain e = rw e

module _ (version b : ℕ) where
  pub in_small : operator_in version b ≡ true → b < 256
  in_small e = by_byte version b e (λ l h. omega arith) λ v s. let p = swaps_is b s in omega arith

  pub arity_few : operator_in version b ≡ true → arity_of b ≤ 4
  unfolding arity_of
  arity_few e = by_byte version b e (λ l h. plain (swaps b) h) λ v s. let p = swaps_two b s in omega arith
    where
      plain : (x : Bool) → b ≤ 4 → cond x 2 b ≤ 4
      plain true h = omega arith
      plain false h = h

  -- version 2 has every operator of the others
  pub in_version : operator_in version b ≡ true → operator_byte b ≡ true
  unfolding operator_in
  in_version e = by_byte version b e (λ l h. rw (le-leb 1 b l, le-leb b 4 h)) λ v s. rw s (or-true (within 1 4 b))

  above : 4 < b → within 1 4 b ≡ false
  above h = rw (lt-leb b 4 h) (and-false (leb 1 b))

  pub marked_out : swaps b ≡ true → (version ≡ 2 → ⊥) → false ≡ operator_in version b
  unfolding operator_in
  marked_out e v = let h = swaps_is b e in rw (above (omega arith), ne_eqb version 2 v)
