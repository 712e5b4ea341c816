use mathlib.Core.Path.{sym, ◌∙◌}
use lib.ListN.{length}
use Rattle.comparer.specs.Entry.{enough}
use Rattle.comparer.proofs.ListEntries.{words-short, words_long, work_kept, work_cleared}
use Rattle.comparer.proofs.lists.compare_lists.Goals as goal

pub returns-then-not-long_enough : goal.returns-then-not-long_enough
returns-then-not-long_enough c =
    rw c.refused.ensures (let s = c.args in
    (words-short s.mask s.left.now s.right.now (length s.cells.now) (length s.terms.now) (sym c.long_enough.ensures ∙ c.if-not-long_enough.true), work_kept _ _ (sym c.long_enough.ensures ∙ c.if-not-long_enough.true), work_kept _ _ (sym c.long_enough.ensures ∙ c.if-not-long_enough.true)))

pub checked-reply-requires : goal.checked-reply-requires
checked-reply-requires c = (sym c.long_enough.ensures ∙ c.if-not-long_enough.false)

pub returns : goal.returns
returns c =
    let s = c.args in
    let long = enough (length s.left.now) (length s.right.now) (length s.cells.now) (length s.terms.now) in
    let d = c.checked-reply in
    (words_long s.mask s.left.now s.right.now (length s.cells.now) (length s.terms.now) _ (sym c.long_enough.ensures ∙ c.if-not-long_enough.false) d.ensures, work_cleared long s.cells.now d.new.cells c.clear.new.memory (sym c.long_enough.ensures ∙ c.if-not-long_enough.false) d.auto.cells c.clear.ensures, work_cleared long s.terms.now d.new.terms c.clear-2.new.memory (sym c.long_enough.ensures ∙ c.if-not-long_enough.false) d.auto.terms c.clear-2.ensures)
