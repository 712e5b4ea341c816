use Rattle.comparer.proofs.ListEntries.{asked_arrays, asked_operators, asked_match}
use Rattle.comparer.proofs.lists.compared.Goals as goal

pub returns-in-Err-Arrays : goal.returns-in-Err-Arrays
returns-in-Err-Arrays c = rw c.refused.ensures (asked_arrays c.args.left.now c.args.right.now c.args.mask c.args.cells.now c.args.terms.now _ (rw c.in-Err-Arrays.field-0-is at c.in-Err-Arrays.ensures))

pub returns-in-Err-Operators : goal.returns-in-Err-Operators
returns-in-Err-Operators c = rw c.refused-in-Err-Operators.ensures (asked_operators c.args.left.now c.args.right.now c.args.mask c.args.cells.now c.args.terms.now _ (rw c.in-Err-Operators.field-0-is at c.in-Err-Operators.ensures))

pub returns-in-Ok : goal.returns-in-Ok
returns-in-Ok c = asked_match c.args.left.now c.args.right.now c.args.mask c.args.cells.now c.args.terms.now _ _ _ c.in-Ok.ensures c.clear.ensures c.clear-in-Ok.ensures c.match_lists.ensures
