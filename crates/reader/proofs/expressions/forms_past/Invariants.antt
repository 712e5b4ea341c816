use mathlib.Core.Path.{◌≡◌}
use mathlib.Core.List.{[], ◌∷◌}
use Prim.Native.Nat.{◌-◌}
use Rattle.reader.specs.Answers.{ended}
use Rattle.reader.specs.Field.{times}
use Rattle.reader.specs.Grammar.{form}
use Rattle.reader.proofs.expressions.forms_past.Given as goal

abbrev pub invariant-loop : goal.invariant-loop
invariant-loop l = ended (times [] ◌∷◌ (form l.loops) (l.n - l.counter) l.s l.place) ≡ ended (times [] ◌∷◌ (form l.loops) l.n l.s l.at)
