use Rattle.std.proofs.Common.{refl}
use Rattle.comparer.proofs.Writing.{put_adds, put_full}
use Rattle.comparer.proofs.line.Line.put.Goals as goal

pub returns-then-self-lt-LINE_BYTES : goal.returns-then-self-lt-LINE_BYTES
returns-then-self-lt-LINE_BYTES c = put_adds c.args.self c.args.b _ refl refl c.if-self-lt-LINE_BYTES.true

pub returns-else-self-lt-LINE_BYTES : goal.returns-else-self-lt-LINE_BYTES
returns-else-self-lt-LINE_BYTES c = put_full c.args.self c.args.b c.if-self-lt-LINE_BYTES.false
