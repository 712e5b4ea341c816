use Rattle.std.proofs.Common.{ℕ, subst}
use Rattle.comparer.specs.Line.{decimal, spaced}
use Rattle.comparer.specs.Writing.{Adds}
use Rattle.comparer.proofs.Writing.{equal-begins, differs-begins, refused-begins}
use Rattle.comparer.proofs.line.words.Goals as goal

pub returns-in-Equal : goal.returns-in-Equal
returns-in-Equal c = rw c.in-Equal.is (equal-begins c.new-empty.result c.new-empty.ensures c.text.result _ _ c.text.ensures c.spaced_number.ensures)

pub returns-in-Differs : goal.returns-in-Differs
returns-in-Differs c = rw c.in-Differs.is (differs-begins c.new-empty.result c.new-empty.ensures c.text-in-Differs.result c.spaced_number-in-Differs.result _ _ _ c.text-in-Differs.ensures c.spaced_number-in-Differs.ensures c.spaced_number-in-Differs-2.ensures)

pub returns-in-Refused : goal.returns-in-Refused
returns-in-Refused c = rw c.in-Refused.is (refused-begins c.new-empty.result c.new-empty.ensures c.text-in-Refused.result c.spaced_side-refused.result c.spaced_number-in-Refused.result _ _ _ _ c.text-in-Refused.ensures c.spaced_side-refused.ensures (subst (λ (n : ℕ). Adds c.spaced_side-refused.result (spaced (decimal n)) c.spaced_number-in-Refused.result) c.from.ensures c.spaced_number-in-Refused.ensures) c.spaced_number-in-Refused-2.ensures)
