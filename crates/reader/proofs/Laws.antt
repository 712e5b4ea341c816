-- How many items may follow does not matter, once they reach past the last byte: the bound in `items` cuts no program off.
use Rattle.std.specs.Prelude.{if◌then◌else◌}
use mathlib.Core.Path.{◌≡◌, refl, sym}
use Prim.Native.Nat.{ℕ, zero, suc, ◌+◌, ◌≤◌, ◌<◌}
use mathlib.Core.List.{List}
use mathlib.Core.Bool.{Bool, true, false}
use native.Mathlib.Omega.{arith}
use lib.ListN.{length, get_or}
use lib.Dec.{eqb}
use Rattle.model.specs.Tables.{Tables}
use Rattle.reader.specs.Field.{Outcome, got, no, Reader, and_then, give}
use Rattle.reader.specs.Syntax.{Item}
use Rattle.reader.specs.Syntax.Items.{end, item}
use Rattle.reader.specs.Grammar.{items, item_of, nested}
use Rattle.reader.proofs.Numbers.{by_order}
use Rattle.reader.proofs.Bytes.{byte_is, byte-not}
use Rattle.reader.proofs.Forward.{Held, Past, items_of-held}

module _ (one : ℕ → ℕ → Reader Item) (s : List ℕ) (moves : (code p at : ℕ) → at ≤ length s → Held (Past s at) (one code p s at)) where
  pub items-most : (m n at : ℕ) → length s ≤ at + m → length s ≤ at + n → items one m s at ≡ items one n s at
  unfolding items
  items-most zero zero at h w = refl
  items-most zero (suc n) at h w = rw (sym (byte-not s at (omega arith)))
  items-most (suc m) zero at h w = rw (sym (byte-not s at (omega arith)))
  items-most (suc m) (suc n) at h w = by_order (length s) at (λ v. rw (sym (byte-not s at v))) (λ v. rw (sym (byte_is s at v)) (chosen (λ x. items-most m n x) (eqb (get_or s at 0) 0) v))
    where
      rest : ((x : ℕ) → length s ≤ x + m → length s ≤ x + n → items one m s x ≡ items one n s x) → (o : Outcome Item) → Held (Past s (at + 1)) o → and_then o (λ i x. and_then (items one m s x) (λ is y. got (item i is) y)) ≡ and_then o (λ i x. and_then (items one n s x) (λ is y. got (item i is) y))
      rest ih (got i x) q = rw (ih x (omega (arith, q.0)) (omega (arith, q.0)))
      rest ih (no k l) q = refl

      chosen : ((x : ℕ) → length s ≤ x + m → length s ≤ x + n → items one m s x ≡ items one n s x) → (t : Bool) → at < length s →
          (if t then give end else (λ u x. and_then (one (get_or s at 0) at u x) (λ i y. and_then (items one m u y) (λ is z. got (item i is) z)))) s (at + 1)
          ≡ (if t then give end else (λ u x. and_then (one (get_or s at 0) at u x) (λ i y. and_then (items one n u y) (λ is z. got (item i is) z)))) s (at + 1)
      chosen ih true v = refl
      chosen ih false v = rest ih (one (get_or s at 0) at s (at + 1)) (moves (get_or s at 0) at (at + 1) (omega arith))

pub items_of-most : (t : Tables) (most left loops : ℕ) (s : List ℕ) (m n at : ℕ) → length s ≤ at + m → length s ≤ at + n →
    items (item_of t most (nested t most left loops) loops) m s at ≡ items (item_of t most (nested t most left loops) loops) n s at
items_of-most t most left loops s = items-most (item_of t most (nested t most left loops) loops) s (items_of-held s t most left loops)
