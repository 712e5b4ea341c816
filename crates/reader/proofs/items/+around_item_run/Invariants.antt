use mathlib.Core.Path.{◌≡◌}
use Rattle.reader.specs.Answers.{ended}
use Prim.Native.Nat.{◌+◌, ◌-◌, ◌*◌, ◌≤◌}
use lib.ListN.{length}
use Rattle.reader.specs.Grammar.{items as items_of, item_of, nested, body}
use Rattle.reader.specs.Entries.{tables_in}
use Prim.Native.Nat.{ℕ}
use Rattle.reader.proofs.items.+around_item_run.Given as goal

abbrev pub decreases-around : goal.decreases-around
decreases-around l = 3 * l.left + 1

abbrev pub decreases-item : goal.decreases-item
decreases-item l = 3 * l.left + 2

abbrev pub decreases-run : goal.decreases-run
decreases-run l = 3 * l.left + 3

abbrev pub invariant-run-loop-place : goal.invariant-run-loop-place
invariant-run-loop-place l = (k : ℕ) × (length l.s ≤ l.place + k) × (ended (items_of (item_of (tables_in l.tables) (length l.s) (nested (tables_in l.tables) (length l.s) l.left l.loops) l.loops) k l.s l.place) ≡ ended (body (tables_in l.tables) (length l.s) l.left l.loops l.s l.at))

abbrev pub decreases-run-loop-place : goal.decreases-run-loop-place
decreases-run-loop-place l = length l.s - l.place
