use native.Mathlib.Omega.{arith}
use Rattle.unroller.proofs.Records.{leaf_read, leaf_literal, leaf_constant, leaf_none}
use Rattle.unroller.proofs.statement.write_leaf.Goals as goal

pub returns-in-16 : goal.returns-in-16
returns-in-16 c = leaf_read _ _ _ _ _ _ _ _ _ _ c.in-16.is c.write_read.ensures

pub returns-in-18 : goal.returns-in-18
returns-in-18 c = leaf_literal _ _ _ _ _ _ _ _ _ _ c.in-18.is c.write_literal.ensures

pub returns-in-19 : goal.returns-in-19
returns-in-19 c = leaf_constant _ _ _ _ _ _ _ _ _ _ c.in-19.is c.write_constant.ensures

pub returns-in_default : goal.returns-in_default
returns-in_default c = leaf_none _ _ _ _ _ _ _ _ _ _ (λ e. omega arith) (λ e. omega arith) (λ e. omega arith)
