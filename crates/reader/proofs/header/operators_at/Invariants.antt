use mathlib.Core.Path.{◌≡◌}
use Prim.Native.Nat.{◌-◌}
use mathlib.Core.List.{[], ◌∷◌}
use Rattle.std.proofs.lemmas.List.Edits.{sets}
use Rattle.reader.specs.Answers.{through}
use Rattle.reader.specs.Entries.{padded}
use Rattle.reader.specs.Field.{times}
use Rattle.reader.specs.Grammar.{operator_of}
use Rattle.reader.proofs.header.operators_at.Given as goal

abbrev pub invariant-loop-k : goal.invariant-loop-k
invariant-loop-k l = through (sets l.bytes l.k) (times [] ◌∷◌ (operator_of l.version) (l.n - l.k) l.s l.place) ≡ through (padded 16 0) (times [] ◌∷◌ (operator_of l.version) l.n l.s l.at)
