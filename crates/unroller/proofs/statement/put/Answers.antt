use native.Mathlib.Omega.{arith}
use lib.ListN.{length-set}
use Rattle.unroller.proofs.Records.{put_is}
use Rattle.unroller.proofs.statement.put.Goals as goal

pub bounds-list-to-2 : goal.bounds-list-to-2
bounds-list-to-2 c = simp length-set (omega arith)

pub bounds-list-to-3 : goal.bounds-list-to-3
bounds-list-to-3 c = simp length-set (omega arith)

pub returns : goal.returns
returns c = let a = c.args in put_is a.list.now a.to a.code a.x a.y
