use native.Mathlib.Omega.{arith}
use Rattle.std.proofs.Common.{rules, ◌≡◌, length}
use Rattle.unroller.proofs.HeaderWords.{row_put}
use Rattle.unroller.proofs.header.put_row.Goals as goal

pub returns : goal.returns
returns c = let k : length c.args.row ≡ 5 = search rules in row_put _ _ _ _ _ c.copy_from_slice.ensures.after (omega arith) (omega arith)
