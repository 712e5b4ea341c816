use native.Mathlib.Omega.{arith}
use Rattle.reader.proofs.Flattened.{puts_none, puts_more, puts_all}
use Rattle.reader.proofs.tables.put.Goals as goal

pub loop-k-init : goal.loop-k-init
loop-k-init g c = puts_none _ c.args.from.now _ _

pub loop-k-preserved : goal.loop-k-preserved
loop-k-preserved g c = puts_more _ _ _ _ _ _ _ _ (omega (arith, c.type_inv.from)) c.into.ensures c.loop-k.invariant

pub returns-clause-puts : goal.returns-clause-puts
returns-clause-puts g c = puts_all _ _ _ _ _ _ (omega arith) c.loop-k.invariant
