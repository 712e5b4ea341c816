use borrow.Author.Rules.{rules}
use Rattle.writer.proofs.Frames.{word_is}
use Rattle.writer.proofs.records.put_word.Goals as goal

pub returns : goal.returns
returns c =
    let a = c.args in
    word_is a.out.now c.put_half.new.out c.put_half-2.new.out a.x (search rules) c.put_half.ensures c.put_half-2.ensures
