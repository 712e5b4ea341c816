use mathlib.Core.Path.{◌≡◌, refl, sym, ◌∙◌}
use mathlib.Core.Bool.{true, false}
use native.Mathlib.Omega.{arith}
use Rattle.unroller.proofs.CheckTable.{same_operators, head-bounds, head-operators, head_blank, head-arrays, head_all}
use Rattle.unroller.proofs.lists.header.Goals.{then-operators, else-operators, then-zeros, else-zeros}
use Rattle.unroller.proofs.lists.header.Goals as goal

pub returns-then-n-gt16 : goal.returns-then-n-gt16
returns-then-n-gt16 c = head-bounds _ _ _ c.requires.header_words_in_bounds refl refl c.then-n-gt16.either

pub returns-then-arrays_at : goal.returns-then-arrays_at
returns-then-arrays_at c =
    elim c.if-zeros.branch [
      | then-zeros w ↦ elim c.if-operators.branch [
        | then-operators v ↦
            let o = same_operators _ _ _ c.requires.header_words_in_bounds refl refl _ _ true (omega arith) c.operators.ensures v.if-operators.true in
            let z = sym v.zeros.ensures ∙ sym v.value-is ∙ w.if-zeros.true in
            let e : w.arrays_at.result ≡ true = sym w.value-is ∙ c.if-arrays_at.true in
            rw w.state-is
            (head_all _ _ _ c.requires.header_words_in_bounds refl refl c.if-n-gt16.false o z c.if-m-lt1.false c.if-m-gt16.false _ (rw e at w.arrays_at.ensures) _ c.zeros-then-arrays_at.ensures)
        | else-operators v ↦ absurd cc
      ]
      | else-zeros w ↦ absurd cc
    ]

pub returns-else-arrays_at : goal.returns-else-arrays_at
returns-else-arrays_at c =
    rw c.if-arrays_at.false
    (elim c.if-operators.branch [
      | else-operators v ↦ head-operators _ _ _ c.requires.header_words_in_bounds refl refl c.if-n-gt16.false (same_operators _ _ _ c.requires.header_words_in_bounds refl refl _ _ false (omega arith) c.operators.ensures v.if-operators.false)
      | then-operators v ↦
          let o = same_operators _ _ _ c.requires.header_words_in_bounds refl refl _ _ true (omega arith) c.operators.ensures v.if-operators.true in
          elim c.if-zeros.branch [
            | else-zeros w ↦ head_blank _ _ _ c.requires.header_words_in_bounds refl refl c.if-n-gt16.false o (sym v.zeros.ensures ∙ sym v.value-is ∙ w.if-zeros.false)
            | then-zeros w ↦
                let z = sym v.zeros.ensures ∙ sym v.value-is ∙ w.if-zeros.true in
                let e : w.arrays_at.result ≡ false = sym w.value-is ∙ c.if-arrays_at.false in
                head-arrays _ _ _ c.requires.header_words_in_bounds refl refl c.if-n-gt16.false o z c.if-m-lt1.false c.if-m-gt16.false (rw e at w.arrays_at.ensures)
          ]
    ])
