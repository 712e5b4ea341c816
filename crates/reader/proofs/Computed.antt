-- A result is the same however a place or a test is written: the proofs of functions ask for the number, not for the code's text.
use Prim.Native.Nat.{ℕ, ◌+◌, ◌*◌, min}
use mathlib.Core.Path.{◌≡◌, sym, ap, ◌∙◌}
use mathlib.Core.List.{List}
use lib.ListN.{get_or}
use Rattle.reader.specs.Field.{Outcome, got}

module _ (l : List ℕ) (i j : ℕ) where
  -- an element, at whatever is the same place
  pub at_place : {v : ℕ} → get_or l j 0 ≡ v → i ≡ j → get_or l i 0 ≡ v
  at_place h e = ap (λ (k : ℕ). get_or l k 0) e ∙ h

  -- the same, cut at a limit
  pub cut_at_place : (n : ℕ) {r v : ℕ} → r ≡ min (get_or l i 0) n → min (get_or l j 0) n ≡ v → i ≡ j → r ≡ v
  cut_at_place n q h e = q ∙ ap (λ (k : ℕ). min (get_or l k 0) n) e ∙ h

-- four bytes in a row, each at whatever is the same place
pub four_places : (s : List ℕ) (at : ℕ) {r b c d : ℕ} → r ≡ get_or s at 0 + 256 * (get_or s b 0 + 256 * (get_or s c 0 + 256 * get_or s d 0)) → b ≡ at + 1 → c ≡ at + 2 → d ≡ at + 3
    → r ≡ get_or s at 0 + 256 * (get_or s (at + 1) 0 + 256 * (get_or s (at + 2) 0 + 256 * get_or s (at + 3) 0))
four_places s at q e f g = rw (sym e, sym f, sym g) q

-- a value, with whatever is the same next place
pub next_place : {A : Type 0} {x : A} {i j : ℕ} {q : Outcome A} → got x j ≡ q → i ≡ j → got x i ≡ q
next_place {x = x} h e = ap (got x) e ∙ h
