-- What is said of a whole file.
use Rattle.std.specs.Prelude.{ℕ, Result, Ok, Err}
use Rattle.model.specs.Questions.{number_of}
use Rattle.model.specs.declared.question.Refusal.{Refusal}
use Rattle.model.specs.Reply as reply
use Rattle.reader.specs.Field.{Outcome, got, no}

-- a program alone is the left one
pub data Said : Type 0 where
  accepted : Said
  refused : reply.Side → ℕ → ℕ → Said

-- an outcome with its value and its end forgotten
unfoldable pub said : {A : Type 0} → Outcome A → Said
said (got a next) = accepted
said (no number at) = refused reply.left number at

abbrev pub verdict_says : Result (Unit {0}) Refusal → Said
verdict_says (Ok _) = accepted
verdict_says (Err e) = refused reply.left (number_of e.question) e.place
