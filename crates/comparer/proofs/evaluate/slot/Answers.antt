use mathlib.Core.Logic.{inl, inr}
use Rattle.comparer.proofs.Slots.{finds_none, finds_at}
use Rattle.comparer.proofs.evaluate.slot.Goals as goal
use Rattle.comparer.proofs.evaluate.slot.Goals.{then-a-ge17-via-then-a-ge17, then-a-ge17-via-else-a-ge17+then-bases-a-gt-CELL_WORDS}

pub returns-then-a-ge17 : goal.returns-then-a-ge17
returns-then-a-ge17 c =
    elim c.then-a-ge17.branch [
      | then-a-ge17-via-then-a-ge17 w ↦ finds_none _ _ _ (inl w.if-a-ge17.true)
      | then-a-ge17-via-else-a-ge17+then-bases-a-gt-CELL_WORDS w ↦ finds_none _ _ _ (inr w.if-bases-a-gt-CELL_WORDS.true)
    ]

pub returns : goal.returns
returns c = finds_at _ _ _
