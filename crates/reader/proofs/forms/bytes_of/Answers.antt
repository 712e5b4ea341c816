use Rattle.reader.proofs.Words.{bytes-eight}
use Rattle.reader.proofs.forms.bytes_of.Goals as goal

pub returns : goal.returns
returns c = bytes-eight c.args.w c.to_le_bytes-bytes.ensures c.i8_of.ensures c.i8_of-2.ensures c.i8_of-3.ensures c.i8_of-4.ensures c.i8_of-5.ensures c.i8_of-6.ensures c.i8_of-7.ensures c.i8_of-8.ensures
