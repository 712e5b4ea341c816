use borrow.Author.Rules.{rules}
use Rattle.writer.proofs.Heading.{mark_is}
use Rattle.writer.proofs.head.write_mark.Goals as goal

pub returns : goal.returns
returns c =
    let a = c.args in
    let e = mark_is a.out.now c.put_half.new.out a.version (search rules) c.put_half.ensures in
    e
