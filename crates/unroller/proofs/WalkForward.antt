-- What the reader's laws say of items: an item takes a byte at least, and the end of a run of items that does not run.
use Rattle.std.specs.Prelude.{Result, Ok, Err}
use mathlib.Core.Path.{◌≡◌, sym, ap, ◌∙◌}
use Prim.Native.Nat.{ℕ, ◌+◌, ◌≤◌, ◌<◌}
use native.Mathlib.Omega.{arith}
use mathlib.Core.List.{List}
use lib.ListN.{length}
use Rattle.model.specs.Tables.{Tables}
use Rattle.model.specs.declared.question.Refusal.{Refusal}
use Rattle.reader.specs.Field.{Outcome, got}
use Rattle.reader.specs.Syntax.{Item, Items}
use Rattle.reader.specs.Grammar.{item_of, nested, body}
use Rattle.reader.specs.Answers.{through, ended, place_says}
use Rattle.reader.specs.Entries.{items_step}
use Rattle.reader.proofs.Binds.{not-got}
use Rattle.reader.proofs.Depth.{items-shallow}
use Rattle.reader.proofs.Forward.{Past, held-got, items_of-held}

pub item_forward : (s : List ℕ) (t : Tables) (left loops code at : ℕ) {i : Item} {next : ℕ} → at < length s
    → item_of t (length s) (nested t (length s) left loops) loops code at s (at + 1) ≡ got i next → at < next
item_forward s t left loops code at h e = let k = held-got (Past s (at + 1)) (items_of-held s t (length s) left loops code at (at + 1) (omega arith)) e in omega arith

-- the end of a run of items that does not run, as the reader answers it
module _ (s : List ℕ) (at : ℕ) (t : Tables) (left loops : ℕ) (r : Result ℕ Refusal) (says : place_says r ≡ ended (items_step t left loops s at)) {js : Items} {next : ℕ} (e : body t (length s) left loops s at ≡ got js next) (h : loops + left ≤ 8) where
  pub told : place_says r ≡ got 0 next
  unfolding through
  told = says ∙ ap (λ (m : Outcome Items). ended m) (items-shallow s at t left loops h ∙ e)

  pub passes_on : {to : ℕ} → r ≡ Ok to → to ≡ next
  passes_on {to} case = let g : ◌≡◌ {A = Outcome ℕ} (got 0 to) (got 0 next) = sym (ap place_says case) ∙ told in cc

  pub passes_not : {P : Type 0} {f : Refusal} → r ≡ Err f → P
  passes_not case = not-got (sym (ap place_says case) ∙ told)
