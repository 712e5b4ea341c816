-- The numbers of the questions (docs/QUESTIONS.md).
use Rattle.std.specs.Prelude.{ℕ}
use Rattle.model.specs.declared.question.Question.{Question}
use Rattle.model.specs.declared.question.Question.TheVariants as question

abbrev pub number_of : Question → ℕ
number_of question.Frame = 1
number_of question.Length = 2
number_of question.Cut = 3
number_of question.Mark = 4
number_of question.Version = 5
number_of question.Operator = 6
number_of question.Array = 7
number_of question.Cells = 8
number_of question.Code = 9
number_of question.Index = 10
number_of question.Step = 11
number_of question.Depth = 12
number_of question.Target = 13
number_of question.Rest = 14
number_of question.Range = 15
number_of question.Subscript = 16
number_of question.Unwritten = 17
number_of question.Rounds = 18
number_of question.Updates = 19
number_of question.Nodes = 20
number_of question.Arrays = 22
number_of question.Operators = 23
number_of question.Terms = 24
number_of question.Memory = 25
number_of question.List = 26
number_of question.Difference = 27
number_of question.Literal = 28
number_of question.Output = 29
