use Rattle.std.proofs.Common.{arith, refl}
use Rattle.std.proofs.lemmas.Result.{err_from_is_err_and}
use Rattle.comparer.proofs.ProgramEntries.{unframed, framed-long, framed-short, framed-whole}
use Rattle.comparer.proofs.programs.programs_in.Goals as goal

pub returns-then-input-lt2-clause-err : goal.returns-then-input-lt2-clause-err
returns-then-input-lt2-clause-err c mask = unframed mask c.args.input.now (omega (arith, c.if-input-lt2.true))

pub returns-in_err-length-clause-err : goal.returns-in_err-length-clause-err
returns-in_err-length-clause-err c =
    let p = err_from_is_err_and c.from_residual.result c.from_residual.ensures.1 in
    let e = c.in_err-length.ensures.err in
    rw (p.1, p.2, e.0) (λ mask. framed-long mask c.args.input.now c.pair.result (omega (arith, c.pair.ensures)) (omega (arith, c.if-input-lt2.false)) e.1)

pub returns-then-input-end-clause-err : goal.returns-then-input-end-clause-err
returns-then-input-end-clause-err c mask =
    let l = c.in_ok-length.ensures.ok in
    framed-short mask c.args.input.now c.in_ok-length.length (omega (arith, l.0, c.pair.ensures)) (omega (arith, c.if-input-lt2.false)) (omega (arith, l.0, l.1)) (omega (arith, c.if-input-end.true))

pub returns-clause-ok : goal.returns-clause-ok
returns-clause-ok c mask =
    let l = c.in_ok-length.ensures.ok in
    framed-whole mask c.args.input.now c.in_ok-length.length (omega (arith, l.0, c.pair.ensures)) (omega (arith, c.if-input-lt2.false)) _ (omega (arith, l.0, l.1)) (omega (arith, c.if-input-end.false)) refl
