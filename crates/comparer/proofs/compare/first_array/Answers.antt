use native.Mathlib.Omega.{arith}
use mathlib.Core.Path.{◌≡◌, refl, sym, ◌∙◌, subst}
use Prim.Native.Nat.{ℕ, ◌+◌}
use Rattle.comparer.specs.Comparing.{FirstArray}
use Rattle.comparer.proofs.Firsts.{arrays-many, array_end, array_skip, array-differs, array_more}
use Rattle.comparer.proofs.compare.first_array.Goals as goal
use Rattle.comparer.proofs.compare.first_array.Goals.{then-is_compared+else-c-size, else-is_compared}

pub returns-then-count-gt16 : goal.returns-then-count-gt16
returns-then-count-gt16 c = rw c.refused.ensures (arrays-many _ _ _ _ _ _ _ _ refl c.if-count-gt16.true _)

pub loop-a-init : goal.loop-a-init
loop-a-init c = (omega arith, λ x F. F)

pub returns-then-c-size : goal.returns-then-c-size
returns-then-c-size c = c.loop-a.invariant.1 _ (array-differs _ _ _ _ _ _ _ _ refl _ _ c.loop-a-test.true (sym c.if-is_compared.true ∙ c.is_compared.ensures) _ c.size_of-size.ensures.0 _ c.role_of-role.ensures _ c.first_cell-c.ensures c.if-c-size.true)

pub overflow_add-sum : goal.overflow_add-sum
overflow_add-sum c = omega (arith, c.loop-a.invariant.0, c.size_of-size.ensures.1)

pub loop-a-preserved : goal.loop-a-preserved
loop-a-preserved c =
    let a = c.args in
    let l = c.loop-a in
    elim c.if-is_compared.branch [
      | then-is_compared+else-c-size w ↦ (
        omega (arith, w.sum-is, w.size_of-size.ensures.1),
        λ x F. l.invariant.1 x
            (array_more a.list.now a.mask a.lefts.now a.rights.now a.left.now a.right.now a.terms.now _ refl l.a l.sum c.loop-a-test.true (sym w.if-is_compared.true ∙ c.is_compared.ensures) _ w.size_of-size.ensures.0 _ w.role_of-role.ensures _ w.first_cell-c.ensures w.if-c-size.false x
            (subst (λ (k : ℕ). FirstArray a.list.now a.mask a.lefts.now a.rights.now a.left.now a.right.now a.terms.now (l.a + 1) k x) (let e : c.if-is_compared.sum ≡ l.sum + w.size_of-size.result = omega (arith, w.sum-is) in e) F)),
      )
      | else-is_compared w ↦ (
        omega (arith, w.sum-is),
        λ x F. l.invariant.1 x
            (array_skip a.list.now a.mask a.lefts.now a.rights.now a.left.now a.right.now a.terms.now _ refl l.a l.sum c.loop-a-test.true (sym w.if-is_compared.false ∙ c.is_compared.ensures) x
            (subst (λ (k : ℕ). FirstArray a.list.now a.mask a.lefts.now a.rights.now a.left.now a.right.now a.terms.now (l.a + 1) k x) w.sum-is F)),
      )
    ]

pub returns : goal.returns
returns c = c.loop-a.invariant.1 _ (array_end _ _ _ _ _ _ _ _ refl _ _ c.loop-a-test.false)
