-- A whole file: its tables, its items, its end.
use Rattle.std.specs.Prelude.{if◌then◌else◌}
use mathlib.Core.Path.{◌≡◌, refl}
use mathlib.Core.List.{List}
use mathlib.Core.Bool.{Bool, true, false}
use Prim.Native.Nat.{ℕ}
use lib.ListN.{length}
use lib.Dec.{leb, eqb}
use Rattle.model.specs.Tables.{Tables}
use Rattle.reader.specs.Field.{Outcome, got, no, and_then, ask}
use Rattle.reader.specs.Syntax.{Items, Program}
use Rattle.reader.specs.Grammar.{tables, body, program, read_program}
use Rattle.reader.specs.Answers.{through, ended}
use Rattle.reader.specs.Entries.{items_step, tables_step}
use Rattle.reader.specs.Verdicts.{said}

-- What is said of a file needs no more of its items than their end. The question of the length stands in the tables' step.
pub file_parts : (s : List ℕ) → said (read_program s) ≡ said (and_then (tables_step s) (λ t at. and_then (ended (items_step t 8 0 s at)) (λ _ end. ask 14 end (eqb end (length s)) s end)))
unfolding read_program program tables_step items_step said through
file_parts s = go (leb (length s) 16384)
  where
    asked : (t : Tables) (is : Items) (b : Bool) (end : ℕ) → said {A = Program} (and_then (ask 14 end b s end) (λ _ w. got (record { tables = t; items = is }) w)) ≡ said (ask 14 end b s end)
    asked t is true end = refl
    asked t is false end = refl

    one : Tables → Outcome Items → Outcome Program
    one t m = and_then m (λ is end. and_then (ask 14 end (eqb end (length s)) s end) (λ _ w. got (record { tables = t; items = is }) w))

    items : (t : Tables) (m : Outcome Items) → said (one t m) ≡ said (and_then (ended m) (λ _ end. ask 14 end (eqb end (length s)) s end))
    items t (got is end) = asked t is (eqb end (length s)) end
    items t (no k p) = refl

    all : (m : Outcome Tables) → said (and_then m (λ t at. one t (body t (length s) 8 0 s at))) ≡ said (and_then m (λ t at. and_then (ended (body t (length s) 8 0 s at)) (λ _ end. ask 14 end (eqb end (length s)) s end)))
    all (got t at) = items t (body t (length s) 8 0 s at)
    all (no k p) = refl

    go : (b : Bool) → said (if b then program s 0 else no 2 0) ≡ said (and_then (if b then tables s 0 else no 2 0) (λ t at. and_then (ended (items_step t 8 0 s at)) (λ _ end. ask 14 end (eqb end (length s)) s end)))
    go true = all (tables s 0)
    go false = refl
