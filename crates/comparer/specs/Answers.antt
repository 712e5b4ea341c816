-- What the code's replies say, case by case.
use Rattle.model.specs.Reply as model
use Rattle.comparer.specs.declared.reply.Side.{Side}
use Rattle.comparer.specs.declared.reply.Side.TheVariants as side
use Rattle.comparer.specs.declared.reply.Reply.{Reply}
use Rattle.comparer.specs.declared.reply.Reply.TheVariants as reply

abbrev pub side_says : Side → model.Side
side_says side.Left = model.left
side_says side.Right = model.right
side_says side.Both = model.both
side_says side.Input = model.input

abbrev pub reply_says : Reply → model.Reply
reply_says (reply.Equal n) = model.equal n
reply_says (reply.Differs a e) = model.differs a e
reply_says (reply.Refused s k p) = model.refused (side_says s) k p
