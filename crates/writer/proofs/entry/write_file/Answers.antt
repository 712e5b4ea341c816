use mathlib.Core.Path.{sym, ap, ◌∙◌}
use Rattle.unroller.proofs.Values.{handed}
use Rattle.unroller.specs.CheckAnswers.{checked_says}
use Rattle.writer.proofs.Wrapper.{checked-yes, unlisted-writes, accepted-writes}
use Rattle.writer.proofs.entry.write_file.Goals as goal

pub returns-in_err-check_list : goal.returns-in_err-check_list
returns-in_err-check_list c =
    let p = unlisted-writes c.args.list.now c.args.out.now _ (sym (ap checked_says c.in_err-check_list.was) ∙ c.check_list.ensures) in
    rw (handed c.from_residual.ensures) (record { reply = p.0; leaves = p.1 })

pub write_accepted-requires : goal.write_accepted-requires
write_accepted-requires c = (checked-yes c.args.list.now (sym (ap checked_says c.in_ok-check_list.was) ∙ c.check_list.ensures)).1

pub returns : goal.returns
returns c =
    let p = accepted-writes c.args.list.now c.args.out.now (checked-yes c.args.list.now (sym (ap checked_says c.in_ok-check_list.was) ∙ c.check_list.ensures)).0 c.write_accepted.result c.write_accepted.new.out c.write_accepted.ensures in
    record { reply = p.0; leaves = p.1 }
