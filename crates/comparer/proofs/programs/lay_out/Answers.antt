use Rattle.model.specs.Reply.{left, both}
use Rattle.comparer.proofs.ProgramEntries.{lays_out, lays_not, leaves-ended}
use Rattle.comparer.proofs.programs.lay_out.Goals as goal

pub returns-in-Ok : goal.returns-in-Ok
returns-in-Ok c = record { lays = lays_out c.args.program.now c.args.list.now c.requires _ c.unroll.new.list (λ i. (c.type_inv.program i).fits) (rw c.in-Ok.is at c.unroll.ensures.reply) c.unroll.ensures.leaves; ended = leaves-ended c.args.program.now c.args.list.now c.requires c.unroll.new.list (λ i. (c.type_inv.program i).fits) c.unroll.ensures.leaves }

pub returns-in-Err-Refused : goal.returns-in-Err-Refused
returns-in-Err-Refused c = record { lays = lays_not c.args.program.now c.args.list.now c.requires _ left c.unroll.new.list (rw c.in-Err-Refused.field-0-is at c.in-Err-Refused.ensures.reply); ended = leaves-ended c.args.program.now c.args.list.now c.requires c.unroll.new.list (λ i. (c.type_inv.program i).fits) c.unroll.ensures.leaves }

pub returns-in-Err-Short : goal.returns-in-Err-Short
returns-in-Err-Short c = record { lays = rw c.at.ensures (lays_not c.args.program.now c.args.list.now c.requires _ both c.unroll.new.list (rw c.in-Err-Short.field-0-is at c.in-Err-Short.ensures.reply)); ended = leaves-ended c.args.program.now c.args.list.now c.requires c.unroll.new.list (λ i. (c.type_inv.program i).fits) c.unroll.ensures.leaves }
