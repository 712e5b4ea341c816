use mathlib.Core.Path.{ap, ◌∙◌}
use Prim.Native.Nat.{ℕ}
use Rattle.reader.specs.Grammar.{index}
use Rattle.unroller.specs.Scopes.{bytes}
use Rattle.unroller.proofs.Values.{handed}
use Rattle.unroller.proofs.Records.{read-index_no, read-cell_no, read_is}
use Rattle.unroller.proofs.statement.write_read.Goals as goal

pub returns-in_err-array : goal.returns-in_err-array
returns-in_err-array c =
    let a = c.args in
    rw (handed c.from_residual.ensures)
    (read-index_no _ _ _ _ _ _ _ _ c.index_at.result (c.index_at.ensures ∙ ap (λ (n : ℕ). index n (bytes a.scope.now) a.at) c.array_count.ensures) _ c.in_err-array.was)

pub returns-in_err-cell : goal.returns-in_err-cell
returns-in_err-cell c =
    let a = c.args in
    rw (handed c.from_residual-in_err-cell.ensures)
    (read-cell_no _ _ _ _ _ _ _ _ c.index_at.result (c.index_at.ensures ∙ ap (λ (n : ℕ). index n (bytes a.scope.now) a.at) c.array_count.ensures) _ _ c.in_ok-array.was c.cell_at.result c.cell_at.ensures _ c.in_err-cell.was)

pub returns : goal.returns
returns c =
    let a = c.args in
    read_is _ _ _ _ _ _ _ _ c.index_at.result (c.index_at.ensures ∙ ap (λ (n : ℕ). index n (bytes a.scope.now) a.at) c.array_count.ensures) _ _ c.in_ok-array.was c.cell_at.result c.cell_at.ensures _ _ c.word.result c.word-2.result c.in_ok-cell.was c.word.ensures c.word-2.ensures c.put.ensures
