use Rattle.std.proofs.Common.{length}
use Rattle.comparer.specs.Laying.{mask_by}
use Rattle.comparer.proofs.ListEntries.{long}
use Rattle.comparer.proofs.Masks.{masks_are}
use Rattle.comparer.proofs.ProgramEntries.{lays_counted, left_not, right_not, both_out}
use Rattle.comparer.proofs.programs.unrolled_reply.Goals as goal

pub returns-in-Err-clause-result_value : goal.returns-in-Err-clause-result_value
returns-in-Err-clause-result_value c = rw c.refused.ensures (left_not c.args.left.now c.args.right.now (mask_by c.args.mask) _ c.lay_out.new.list c.in-Err.ensures.lays)

pub returns-in-Err-lay_out-clause-result_value : goal.returns-in-Err-lay_out-clause-result_value
returns-in-Err-lay_out-clause-result_value c = rw c.refused-in-Err-lay_out.ensures (right_not c.args.left.now c.args.right.now (mask_by c.args.mask) _ c.lay_out.new.list c.lay_out-2.new.list c.in_default.ensures.lays c.in-Err-lay_out.ensures.lays)

pub mask_of-bits-requires : goal.mask_of-bits-requires
mask_of-bits-requires c = lays_counted c.args.left.now c.lay_out.new.list c.in_default.ensures.lays

pub compared-requires : goal.compared-requires
compared-requires c = (lays_counted c.args.left.now c.lay_out.new.list c.in_default.ensures.lays, lays_counted c.args.right.now c.lay_out-2.new.list c.in_default-lay_out.ensures.lays)

pub returns-clause-result_value : goal.returns-clause-result_value
returns-clause-result_value c =
    let l = long (length c.args.left_list.now) (length c.args.right_list.now) (length c.args.cells.now) (length c.args.terms.now) c.requires in
    both_out c.args.left.now c.args.right.now (mask_by c.args.mask) c.lay_out.new.list c.lay_out-2.new.list c.args.cells.now c.args.terms.now _ _
    c.in_default.ensures.lays c.in_default-lay_out.ensures.lays (record { for_cells = l.2; for_terms = l.3 }) (masks_are _ _ _ c.mask_of-bits.ensures) c.compared.ensures
