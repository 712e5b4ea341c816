use Prim.Native.Nat.{◌+◌, ◌-◌, ◌*◌, ◌<◌}
use lib.ListN.{drop}
use Rattle.model.specs.Update.Trees.{nil, cons}
use Rattle.unroller.specs.Words.{times}
use Rattle.unroller.specs.Decode.{expr}
use Rattle.unroller.specs.State.{readable_in}
use Rattle.unroller.specs.CheckAnswers.{Answer, ReadsAll}
use Rattle.unroller.proofs.lists.+args_node_operator.Given as goal

abbrev pub decreases-args : goal.decreases-args
decreases-args l = 3 * l.left + 3

abbrev pub decreases-node : goal.decreases-node
decreases-node l = 3 * l.left + 2

abbrev pub decreases-operator : goal.decreases-operator
decreases-operator l = 3 * l.left + 1

abbrev pub invariant-args-loop : goal.invariant-args-loop
invariant-args-loop l =
    (0 < l.place) × ((r : Answer) → ReadsAll l.list l.place (times nil cons (expr l.ops (readable_in l.state) l.left) (l.n - l.counter) (drop l.place l.list)) r →
    ReadsAll l.list l.at (times nil cons (expr l.ops (readable_in l.state) l.left) l.n (drop l.at l.list)) r)
