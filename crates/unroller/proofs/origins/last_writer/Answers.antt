use mathlib.Core.Path.{sym, ◌∙◌}
use Rattle.unroller.proofs.LastWriters.{found-not, found_lost, found_next}
use Rattle.unroller.proofs.origins.last_writer.Goals as goal

pub returns-in_err-tables : goal.returns-in_err-tables
returns-in_err-tables c = found-not c.args.program _ c.tables_of.ensures.says c.tables_of.ensures.holds c.args.element (sym c.ok.ensures.value ∙ c.in_err-tables.was) _

pub returns-in_err-items : goal.returns-in_err-items
returns-in_err-items c =
    found_lost c.args.program _ c.tables_of.ensures.says c.tables_of.ensures.holds c.args.element _ _ (sym c.ok.ensures.value ∙ c.in_ok-tables.was) _ c.flat.ensures.numbers c.flat.ensures.small _ _ c.items.ensures c.in_err-items.was _

pub returns : goal.returns
returns c = found_next c.args.program _ c.tables_of.ensures.says c.tables_of.ensures.holds c.args.element _ _ (sym c.ok.ensures.value ∙ c.in_ok-tables.was) _ c.flat.ensures.numbers c.flat.ensures.small _ _ c.items.ensures
