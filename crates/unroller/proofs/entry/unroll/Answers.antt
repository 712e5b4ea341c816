use native.Mathlib.Omega.{arith}
use Rattle.unroller.proofs.Values.{handed}
use Rattle.unroller.proofs.UnrollLaws.{unroll_short, unroll_refused, unroll_run}
use Rattle.unroller.proofs.entry.unroll.Goals as goal

pub returns-then-list-lt-LIST_WORDS : goal.returns-then-list-lt-LIST_WORDS
returns-then-list-lt-LIST_WORDS c = let p = unroll_short _ _ (omega (arith, c.if-list-lt-LIST_WORDS.true)) in record { reply = p.0; leaves = p.1 }

pub returns-in_err-read_program : goal.returns-in_err-read_program
returns-in_err-read_program c =
    let p = unroll_refused _ _ (omega (arith, c.if-list-lt-LIST_WORDS.false)) _ c.read_program.ensures _ c.in_err-read_program.was _ c.clear.ensures in
    rw (handed c.from_residual.ensures) (record { reply = p.0; leaves = p.1 })

pub returns : goal.returns
returns c = let p = unroll_run _ _ (omega (arith, c.if-list-lt-LIST_WORDS.false)) _ c.read_program.ensures _ c.in_ok-read_program.was _ _ _ c.clear.ensures c.run.ensures in record { reply = p.0; leaves = p.1 }
