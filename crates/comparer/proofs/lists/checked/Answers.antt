use mathlib.Core.Path.{sym, ◌∙◌}
use lib.ListN.{length}
use Rattle.comparer.proofs.ListEntries.{long, left_refused, right_refused, accepted-counted, both-accepted}
use Rattle.comparer.proofs.lists.checked.Goals as goal

pub is_accepted-requires : goal.is_accepted-requires
is_accepted-requires c = (long (length c.args.left.now) (length c.args.right.now) (length c.args.cells.now) (length c.args.terms.now) c.requires).0

pub returns-then-not-is_accepted : goal.returns-then-not-is_accepted
returns-then-not-is_accepted c = rw c.refused.ensures (left_refused c.args.mask c.args.left.now c.args.right.now (sym c.is_accepted.ensures ∙ c.if-not-is_accepted.true))

pub is_accepted-requires-2 : goal.is_accepted-requires-2
is_accepted-requires-2 c = (long (length c.args.left.now) (length c.args.right.now) (length c.args.cells.now) (length c.args.terms.now) c.requires).1

pub returns-then-not-is_accepted-2 : goal.returns-then-not-is_accepted-2
returns-then-not-is_accepted-2 c = rw c.refused-then-not-is_accepted-2.ensures (right_refused c.args.mask c.args.left.now c.args.right.now (sym c.is_accepted.ensures ∙ c.if-not-is_accepted.false) (sym c.is_accepted-2.ensures ∙ c.if-not-is_accepted-2.true))

pub compared-requires : goal.compared-requires
compared-requires c = (accepted-counted _ (sym c.is_accepted.ensures ∙ c.if-not-is_accepted.false), accepted-counted _ (sym c.is_accepted-2.ensures ∙ c.if-not-is_accepted-2.false))

pub returns : goal.returns
returns c = both-accepted c.args.mask c.args.left.now c.args.right.now c.args.cells.now c.args.terms.now _ (sym c.is_accepted.ensures ∙ c.if-not-is_accepted.false) (sym c.is_accepted-2.ensures ∙ c.if-not-is_accepted-2.false) c.requires c.compared.ensures
