use mathlib.Core.Path.{◌≡◌}
use Prim.Native.Nat.{◌+◌, ◌-◌, ◌*◌, ◌≤◌}
use lib.ListN.{length}
use Rattle.reader.specs.Answers.{through}
use Rattle.reader.specs.Field.{times}
use Rattle.reader.specs.Syntax.{counts}
use Rattle.reader.specs.Syntax.Exprs.{none as no_args, more as more_args}
use Rattle.reader.specs.Grammar.{node as node_of, applied}
use Rattle.reader.specs.Entries.{tables_in}
use Rattle.reader.proofs.expressions.+args_node.Given as goal

-- Bytes left, and nesting left. An operator's arguments begin two bytes on, with a level less; each of them is a node that begins
-- no earlier than the first.
abbrev pub decreases-args : goal.decreases-args
decreases-args l = 2 * (length l.s.now - l.at + l.left) + 1

abbrev pub decreases-node : goal.decreases-node
decreases-node l = 2 * (length l.s.now - l.at + l.left)

abbrev pub invariant-args-loop : goal.invariant-args-loop
invariant-args-loop l = (l.at + l.nodes ≤ l.place) × (through (λ es. l.nodes + counts es) (times no_args more_args (node_of (tables_in l.tables) l.loops (applied (tables_in l.tables) l.loops l.left)) (l.more - l.counter) l.s l.place) ≡ through counts (times no_args more_args (node_of (tables_in l.tables) l.loops (applied (tables_in l.tables) l.loops l.left)) l.more l.s l.at))
