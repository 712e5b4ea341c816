use Rattle.reader.proofs.Words.{before_led}
use Rattle.reader.proofs.forms.fewer_before.Goals as goal

pub returns : goal.returns
returns c = before_led c.args.s.now _ c.args.end c.requires.0 c.requires.1 (λ i. (c.type_inv.s i).fits) _ c.from_le_bytes.type_inv (rw c.copy_from_slice.ensures.after at c.from_le_bytes.ensures)
