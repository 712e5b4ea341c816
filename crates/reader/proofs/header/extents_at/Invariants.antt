use mathlib.Core.Path.{◌≡◌}
use Prim.Native.Nat.{◌-◌, ◌*◌, ◌^◌, ◌≤◌}
use mathlib.Core.List.{[], ◌∷◌}
use Rattle.std.proofs.lemmas.List.Edits.{sets}
use Rattle.model.specs.Tables.{cells}
use Rattle.reader.specs.Answers.{through}
use Rattle.reader.specs.Field.{times}
use Rattle.reader.specs.Grammar.{extent}
use Rattle.reader.specs.Parts.{extents_in}
use Rattle.reader.proofs.header.extents_at.Given as goal

abbrev pub invariant-loop-k : goal.invariant-loop-k
invariant-loop-k l = record {
  says : through (λ r. record { extents = sets l.extents l.k r; size = l.size * cells r }) (times [] ◌∷◌ extent (l.n - l.k) l.s l.place) ≡ through extents_in (times [] ◌∷◌ extent l.n l.s l.at);
  most : l.size ≤ 1024 ^ l.k;
}
