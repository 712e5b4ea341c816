-- The steps that any caller may make: at most 8 deep, or over at most 16,384 bytes, they are the grammar's; else 12 or 2.
use mathlib.Core.Path.{◌≡◌, sym, ◌∙◌}
use Prim.Native.Nat.{ℕ, ◌+◌, ◌≤◌, ◌<◌}
use mathlib.Core.List.{List, [], ◌∷◌}
use lib.ListN.{length}
use borrow.Author.Tests.{le-leb, lt-leb}
use Rattle.model.specs.Tables.{Tables}
use Rattle.reader.specs.Field.{got, no, times}
use Rattle.reader.specs.Grammar.{tables, form, expression, body}
use Rattle.reader.specs.Entries.{forms_step, expression_step, items_step, tables_step}
use Rattle.reader.proofs.Binds.{not-got}
use Rattle.reader.proofs.Numbers.{by_order}

module _ (s : List ℕ) (at : ℕ) where
  pub forms_shallow : (loops n : ℕ) → loops ≤ 8 → forms_step loops n s at ≡ times [] ◌∷◌ (form loops) n s at
  unfolding forms_step
  forms_shallow loops n h = rw (le-leb loops 8 h)

  pub expression-shallow : (t : Tables) (loops : ℕ) → loops ≤ 8 → expression_step t loops s at ≡ expression t loops s at
  unfolding expression_step
  expression-shallow t loops h = rw (le-leb loops 8 h)

  pub items-shallow : (t : Tables) (left loops : ℕ) → loops + left ≤ 8 → items_step t left loops s at ≡ body t (length s) left loops s at
  unfolding items_step
  items-shallow t left loops h = rw (le-leb (loops + left) 8 h)

module _ (s : List ℕ) where
  pub tables-short : length s ≤ 16384 → tables_step s ≡ tables s 0
  unfolding tables_step
  tables-short h = rw (le-leb (length s) 16384 h)

  pub tables-long : 16384 < length s → tables_step s ≡ no 2 0
  unfolding tables_step
  tables-long h = rw (lt-leb (length s) 16384 h)

  -- tables that were got say that the file is short enough
  pub tables-got : {t : Tables} {at : ℕ} → tables_step s ≡ got t at → (length s ≤ 16384) × (tables s 0 ≡ got t at)
  tables-got e = by_order (length s) 16384 (λ h. (h, sym (tables-short h) ∙ e)) (λ h. not-got (sym (tables-long h) ∙ e))
