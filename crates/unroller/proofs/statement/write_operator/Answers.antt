use mathlib.Core.Path.{ap, ◌∙◌}
use Prim.Native.Nat.{ℕ}
use Rattle.reader.specs.Grammar.{index}
use Rattle.unroller.specs.Scopes.{bytes}
use Rattle.unroller.proofs.Values.{handed}
use Rattle.unroller.proofs.Prefix.{operator_no, operator-many, operator_is}
use Rattle.unroller.proofs.statement.write_operator.Goals as goal

pub returns-in_err-operator-clause-says : goal.returns-in_err-operator-clause-says
returns-in_err-operator-clause-says c =
    rw (handed c.from_residual.ensures)
    (operator_no _ _ _ _ _ _ c.index_at.result (c.index_at.ensures ∙ ap (λ (n : ℕ). index n (bytes c.args.scope.now) c.args.at) c.operator_count.ensures) _ c.in_err-operator.was)

pub returns-then-n-gt4-clause-says : goal.returns-then-n-gt4-clause-says
returns-then-n-gt4-clause-says c =
    operator-many _ _ _ _ _ _ c.index_at.result (c.index_at.ensures ∙ ap (λ (n : ℕ). index n (bytes c.args.scope.now) c.args.at) c.operator_count.ensures) _ _ c.arity_of-n.result c.in_ok-operator.was c.arity_of-n.ensures _ c.if-n-gt4.true

pub returns-clause-says : goal.returns-clause-says
returns-clause-says c =
    operator_is _ _ _ _ _ _ c.index_at.result (c.index_at.ensures ∙ ap (λ (n : ℕ). index n (bytes c.args.scope.now) c.args.at) c.operator_count.ensures) _ _ c.arity_of-n.result c.in_ok-operator.was c.arity_of-n.ensures c.word.result c.word.ensures c.put.ensures
