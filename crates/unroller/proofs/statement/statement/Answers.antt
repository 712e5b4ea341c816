use native.Mathlib.Omega.{arith}
use mathlib.Core.Path.{refl, ap, ◌∙◌}
use Prim.Native.Nat.{ℕ, ◌+◌}
use Rattle.reader.specs.Grammar.{index}
use Rattle.unroller.specs.Scopes.{bytes}
use Rattle.unroller.proofs.Values.{handed}
use Rattle.unroller.proofs.Updating.{asked_19, no_code, no_list, many-nodes, no_array, asked_20, updates_it}
use Rattle.unroller.proofs.statement.statement.Goals as goal

pub returns-then-progress-gt2047 : goal.returns-then-progress-gt2047
returns-then-progress-gt2047 c = asked_19 _ _ _ _ _ _ _ _ _ c.at.ensures refl c.if-progress-gt2047.true

pub returns-then-scope-at : goal.returns-then-scope-at
returns-then-scope-at c = no_code _ _ _ _ _ _ _ _ c.if-scope-at.true

pub returns-then-list-lt-LIST_WORDS : goal.returns-then-list-lt-LIST_WORDS
returns-then-list-lt-LIST_WORDS c = no_list _ _ _ _ _ _ _ _ c.if-list-lt-LIST_WORDS.true

pub returns-then-progress-gt-MOST_NODES : goal.returns-then-progress-gt-MOST_NODES
returns-then-progress-gt-MOST_NODES c = many-nodes _ _ _ _ _ _ _ _ c.if-progress-gt-MOST_NODES.true

pub returns-in_err-array : goal.returns-in_err-array
returns-in_err-array c =
    rw (handed c.from_residual.ensures)
    (no_array _ _ _ _ _ _ _ _ c.index_at.result (c.index_at.ensures ∙ ap (λ (n : ℕ). index n (bytes c.args.scope.now) (c.args.at + 1)) c.array_count.ensures) _ c.in_err-array.was)

pub returns-then-not-few_nodes : goal.returns-then-not-few_nodes
returns-then-not-few_nodes c =
    asked_20 _ _ _ _ _ _ _ _ c.index_at.result (c.index_at.ensures ∙ ap (λ (n : ℕ). index n (bytes c.args.scope.now) (c.args.at + 1)) c.array_count.ensures) _ _ c.in_ok-array.was c.few_nodes.result c.few_nodes.ensures c.if-not-few_nodes.true (omega arith) _ c.at-then-not-few_nodes.ensures refl

pub returns : goal.returns
returns c =
    updates_it _ _ _ _ _ _ _ _ c.index_at.result (c.index_at.ensures ∙ ap (λ (n : ℕ). index n (bytes c.args.scope.now) (c.args.at + 1)) c.array_count.ensures) _ _ c.in_ok-array.was c.few_nodes.result c.few_nodes.ensures c.if-not-few_nodes.false c.update.ensures
