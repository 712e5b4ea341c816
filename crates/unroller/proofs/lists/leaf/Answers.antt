use native.Mathlib.Omega.{arith}
use mathlib.Core.Path.{refl}
use Rattle.unroller.proofs.CheckTrees.{leaf_read, leaf_value, leaf_none}
use Rattle.unroller.proofs.lists.leaf.Goals as goal

pub returns-in-16 : goal.returns-in-16
returns-in-16 c = leaf_read _ _ _ _ c.in-16.is _ c.readable.ensures

pub returns-in-18 : goal.returns-in-18
returns-in-18 c =
    let a = c.args in
    leaf_value _ a.x a.y a.code (omega arith) (omega arith) (omega arith) _ refl

pub returns-in_default : goal.returns-in_default
returns-in_default c = leaf_none _ _ _ _ (λ e. omega arith) c.requires.1 (λ e. omega arith) (λ e. omega arith)

pub returns-in_default-2 : goal.returns-in_default-2
returns-in_default-2 c = leaf_none _ _ _ _ (λ e. omega arith) c.requires.1 (λ e. omega arith) (λ e. omega arith)
