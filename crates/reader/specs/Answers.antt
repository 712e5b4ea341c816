-- What the code's answers say, as the outcome of a reader.
use Rattle.std.specs.Prelude.{ℕ, Result, Ok, Err}
use Rattle.model.specs.Questions.{number_of}
use Rattle.model.specs.declared.question.Refusal.{Refusal}
use Rattle.reader.specs.Field.{Outcome, got, no, and_then}

-- an outcome with something made of its value
unfoldable pub through : {A B : Type 0} → (A → B) → Outcome A → Outcome B
through f m = and_then m (λ a next. got (f a) next)

-- an outcome with its value forgotten: 0 stands for it, as for that of a question
abbrev pub ended : {A : Type 0} → Outcome A → Outcome ℕ
ended m = through (λ _. 0) m

abbrev pub refusal_says : {A : Type 0} → Refusal → Outcome A
refusal_says e = no (number_of e.question) e.place

-- what was read, and the place past it
abbrev pub read_says : {A : Type 0} → Result (A × ℕ) Refusal → Outcome A
read_says (Ok r) = got r.0 r.1
read_says (Err e) = refusal_says e

-- the place past what was read
abbrev pub place_says : Result ℕ Refusal → Outcome ℕ
place_says (Ok next) = got 0 next
place_says (Err e) = refusal_says e
