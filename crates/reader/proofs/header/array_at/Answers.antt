use Prim.Native.Nat.{◌+◌}
use lib.ListN.{length}
use mathlib.Core.Path.{◌≡◌, ap}
use native.Mathlib.Omega.{arith}
use borrow.Author.Tests.{le-leb}
use Rattle.model.specs.Tables.{cells}
use Rattle.reader.specs.Answers.{through}
use Rattle.reader.specs.Parts.{extents_in}
use Rattle.reader.specs.declared.header.Extents.{Extents}
use Rattle.reader.proofs.Forward.{held-got}
use Rattle.reader.proofs.Steps.{made-got}
use Rattle.reader.proofs.Heads.{row-held, array_parts, array_is}
use Rattle.reader.proofs.header.array_at.Goals as goal

pub returns-clause-says : goal.returns-clause-says
unfolding through
returns-clause-says c =
    let g = made-got extents_in _ c.extents_at.ensures.says c.in_ok-extents.was in
    let z = ap (λ (e : Extents). e.size) g.2 in
    let d = held-got (λ l _. length l ≡ c.in_ok-dimensions.dimensions) (row-held _ _ _ _) g.1 in
    rw (array_parts, ← c.in_ok-role.ensures, ← c.in_ok-dimensions.ensures.says, g.1, le-leb (c.args.before + cells g.0) 2048 (omega arith)) (array_is _ _ _ _ _ g.2 d)
