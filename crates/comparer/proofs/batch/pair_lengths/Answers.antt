use Rattle.std.proofs.Common.{arith, refl, ap, ◌∙◌, Err}
use Rattle.std.proofs.lemmas.Bool.Decides.{nat_tests}
use Rattle.std.proofs.lemmas.Result.{err_from_is_err_and}
use Rattle.comparer.specs.BatchSteps.{lengths_says}
use Rattle.comparer.proofs.BatchLaws.{left_long, right_long, both_are, no_byte, few_bytes, four_bytes}
use Rattle.comparer.proofs.batch.pair_lengths.Goals as goal

pub returns-then-is_empty : goal.returns-then-is_empty
returns-then-is_empty c = no_byte c.args.bytes.now (grind (arith, nat_tests))

pub returns-then-bytes-lt-LENGTHS_BYTES : goal.returns-then-bytes-lt-LENGTHS_BYTES
returns-then-bytes-lt-LENGTHS_BYTES c = few_bytes c.args.bytes.now (grind (arith, nat_tests)) (omega (arith, c.if-bytes-lt-LENGTHS_BYTES.true))

pub returns-in_err-left : goal.returns-in_err-left
returns-in_err-left c =
    let p = err_from_is_err_and c.from_residual.result c.from_residual.ensures.1 in
    let e = c.in_err-left.ensures.err in
    ap lengths_says (p.1 ∙ ap Err (p.2 ∙ e.0))
    ∙ four_bytes c.args.bytes.now c.pair.result _ _ (omega (arith, c.if-bytes-lt-LENGTHS_BYTES.false)) (omega (arith, c.pair.ensures)) refl (left_long _ _ e.1)

pub returns-in_err-right : goal.returns-in_err-right
returns-in_err-right c =
    let p = err_from_is_err_and c.from_residual-in_err-right.result c.from_residual-in_err-right.ensures.1 in
    let l = c.in_ok-left.ensures.ok in
    let e = c.in_err-right.ensures.err in
    ap lengths_says (p.1 ∙ ap Err (p.2 ∙ e.0))
    ∙ four_bytes c.args.bytes.now c.pair.result c.pair-2.result _ (omega (arith, c.if-bytes-lt-LENGTHS_BYTES.false)) (omega (arith, c.pair.ensures)) (omega (arith, c.pair-2.ensures)) (right_long _ _ l.1 e.1)

pub returns : goal.returns
returns c =
    let l = c.in_ok-left.ensures.ok in
    let r = c.in_ok-right.ensures.ok in
    four_bytes c.args.bytes.now c.pair.result c.pair-2.result _ (omega (arith, c.if-bytes-lt-LENGTHS_BYTES.false)) (omega (arith, c.pair.ensures)) (omega (arith, c.pair-2.ensures)) (both_are _ _ _ _ (omega (arith, l.0, c.pair.ensures)) (omega (arith, r.0, c.pair-2.ensures)) l.1 r.1)
