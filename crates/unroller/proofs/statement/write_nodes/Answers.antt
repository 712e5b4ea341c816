use native.Mathlib.Omega.{arith}
use Rattle.unroller.proofs.Values.{handed}
use Rattle.unroller.proofs.Prefix.{rest_end, rest_whole, rest_stop, rest_step, roomy_is}
use Rattle.unroller.proofs.statement.write_nodes.Goals as goal

pub loop-more-init : goal.loop-more-init
loop-more-init c = (omega arith, omega arith, omega arith, λ r l z. rest_whole _ _ _ _ _ 12 _ _ r l z)

pub returns-in_err-next-clause-says : goal.returns-in_err-next-clause-says
returns-in_err-next-clause-says c =
    let l = c.loop-more in
    rw (handed c.from_residual.ensures) (l.invariant.3 _ _ (rest_stop _ _ _ _ l.place l.more c.loop-more-test.true l.list l.end c.write_record.result _ c.write_record.ensures.says _ _ c.in_err-next.was))

pub overflow_add-end : goal.overflow_add-end
overflow_add-end c = let q = roomy_is _ _ c.write_record.result _ _ c.write_record.ensures.room c.in_ok-next.was in omega arith

pub overflow_add-more : goal.overflow_add-more
overflow_add-more c = let q = roomy_is _ _ c.write_record.result _ _ c.write_record.ensures.room c.in_ok-next.was in omega arith

pub loop-more-smaller : goal.loop-more-smaller
loop-more-smaller c = let q = roomy_is _ _ c.write_record.result _ _ c.write_record.ensures.room c.in_ok-next.was in omega arith

pub loop-more-preserved : goal.loop-more-preserved
loop-more-preserved c =
    let q = roomy_is _ _ c.write_record.result _ _ c.write_record.ensures.room c.in_ok-next.was in
    let l = c.loop-more in
    (omega arith, omega arith, omega arith, λ r m z. l.invariant.3 r m (rest_step _ _ _ _ l.place l.more c.loop-more-test.true l.list l.end c.write_record.result _ c.write_record.ensures.says _ _ c.in_ok-next.was r m z))

pub returns : goal.returns
returns c = let l = c.loop-more in record { says = l.invariant.3 _ _ (rest_end _ _ _ _ l.place l.more l.list l.end (omega arith)); ends = (l.invariant.0, l.invariant.1) }
