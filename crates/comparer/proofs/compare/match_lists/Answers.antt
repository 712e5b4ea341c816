use native.Mathlib.Omega.{arith}
use Rattle.comparer.proofs.Whole.{match_left, match_right, match_cells, match_full, match_over, match_done}
use borrow.Author.Rules.{rules}
use Rattle.comparer.specs.Work.{Counts}
use Rattle.comparer.proofs.compare.match_lists.Goals as goal
use Rattle.comparer.proofs.compare.match_lists.Goals.{then-left-lt-HEADER_WORDS-via-then-left-lt-HEADER_WORDS, then-left-lt-HEADER_WORDS-via-else-left-lt-HEADER_WORDS+then-right-lt-HEADER_WORDS, then-left-lt-HEADER_WORDS-via-else-left-lt-HEADER_WORDS+else-right-lt-HEADER_WORDS+then-cells-lt-CELL_WORDS}

pub returns-then-left-lt-HEADER_WORDS : goal.returns-then-left-lt-HEADER_WORDS
returns-then-left-lt-HEADER_WORDS c =
    elim c.then-left-lt-HEADER_WORDS.branch [
      | then-left-lt-HEADER_WORDS-via-then-left-lt-HEADER_WORDS w ↦ match_left _ _ _ _ _ _ w.if-left-lt-HEADER_WORDS.true
      | then-left-lt-HEADER_WORDS-via-else-left-lt-HEADER_WORDS+then-right-lt-HEADER_WORDS w ↦ match_right _ _ _ _ _ _ w.if-right-lt-HEADER_WORDS.true
      | then-left-lt-HEADER_WORDS-via-else-left-lt-HEADER_WORDS+else-right-lt-HEADER_WORDS+then-cells-lt-CELL_WORDS w ↦ match_cells _ _ _ _ _ _ w.if-cells-lt-CELL_WORDS.true
    ]

pub returns-in_default : goal.returns-in_default
unfolding Counts
returns-in_default c = rw c.refused-in_default.ensures (match_full _ _ _ c.args.cells.now _ _ _ c.bases_of-lefts.ensures c.bases_of-rights.ensures c.apply_updates.new.cells _ _ c.in_default.ensures c.if-cells-lt-CELL_WORDS.false (omega arith))

pub apply_updates-requires-2 : goal.apply_updates-requires-2
unfolding Counts
apply_updates-requires-2 c = (c.if-right-lt-HEADER_WORDS.false, c.in-Some.ensures.0)

pub returns-in_default-apply_updates : goal.returns-in_default-apply_updates
unfolding Counts
returns-in_default-apply_updates c =
    rw c.refused-in_default-apply_updates.ensures (let n = c.in-Some.ensures in
    match_over _ _ _ c.args.cells.now _ _ _ c.bases_of-lefts.ensures c.bases_of-rights.ensures c.apply_updates.new.cells _ _ n.1 c.if-cells-lt-CELL_WORDS.false n.0 (search rules) c.apply_updates-2.new.cells _ _ c.in_default-apply_updates.ensures (omega arith))

pub returns : goal.returns
unfolding Counts
returns c =
    let n = c.in-Some.ensures in
    let k = c.in-Some-apply_updates.ensures in
    match_done _ _ _ c.args.cells.now _ _ _ c.bases_of-lefts.ensures c.bases_of-rights.ensures c.apply_updates.new.cells _ _ n.1 c.if-cells-lt-CELL_WORDS.false n.0 (search rules) c.apply_updates-2.new.cells _ _ k.1 k.0 (search rules) _ c.first_array.ensures
