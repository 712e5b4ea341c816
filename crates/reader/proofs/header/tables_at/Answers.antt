use lib.ListN.{length}
use mathlib.Core.Path.{◌≡◌, sym, ◌∙◌}
use Rattle.reader.specs.Entries.{padded}
use Rattle.reader.proofs.Forward.{held-got}
use Rattle.reader.proofs.Steps.{made-got}
use Rattle.reader.proofs.Heads.{tables_are, row-held}
use Rattle.reader.proofs.header.tables_at.Goals as goal

pub returns : goal.returns
returns c =
    let g = made-got (padded 16 0) _ c.operators_at.ensures c.in_ok-bytes.was in
    c.arrays_of.ensures g.0 (held-got (λ l _. length l ≡ c.in_ok-n.n) (row-held _ _ _ _) g.1) (sym g.2) ∙ tables_are _ _ (sym c.in_ok-version.ensures) (sym c.in_ok-n.ensures.says) g.1
