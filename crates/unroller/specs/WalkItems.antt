-- Loops and guards of the walk: the parts of a loop's run, and what the private functions answer for them.
use Rattle.std.specs.Prelude.{ℕ, ◌+◌, ◌≤◌, ◌<◌, ◌≡◌, ◌&&◌, List, [], ◌∷◌, ◌++◌, length, leb, ℤ, pos, Result, Ok, Err, Option, Some, if◌then◌else◌}
use Rattle.model.specs.Questions.{number_of}
use Rattle.model.specs.declared.question.Refusal.{Refusal}
use Rattle.model.specs.declared.question.Question.TheVariants as question
use Rattle.reader.specs.Field.{got}
use Rattle.reader.specs.Syntax.{Form, Item, Items}
use Rattle.reader.specs.Grammar.{form, step, nested, body}
use Rattle.unroller.specs.Run.{Ran, ok, stop, ◌>>=◌, ask, value_at, fits16, Done, indices, rounds, run, runs}
use Rattle.unroller.specs.Scopes.{bytes, tables, bases, around}
use Rattle.unroller.specs.Walk.{Walk, Holds, Walked, Based}
use Rattle.unroller.specs.declared.walk.Scope.{Scope}
use Rattle.unroller.specs.declared.walk.Progress.{Progress}
use Rattle.unroller.specs.declared.items.Range.{Range}

-- the start and the end of a loop
pub record Ends : Type 0 where
  pub first : ℤ
  pub last : ℤ

-- do both lie in 16 signed bits? 15, for the loop whose code stands at p
unfoldable pub within16 : ℕ → ℤ → ℤ → Ran Ends
within16 p first last = do
  _ ← ask 15 p (fits16 first && fits16 last)
  ok (record { first = first; last = last })

-- one round of the loop at p
unfoldable pub round : ℕ → (Done → Ran Done) → Done → Ran Done
round p body d = do
  _ ← ask 18 p (leb (d.rounds + 1) 65536)
  body (record { rounds = d.rounds + 1; nodes = d.nodes; updates = d.updates })

-- an end of the loop at p, in 16 signed bits
abbrev pub Short : ℕ → ℤ → Result ℤ Refusal → Type 0
Short p v r = r ≡ (if fits16 v then Ok v else Err (record { question = question.Range; place = p }))

-- an answer that stands for these ends, the step z, and a body at `next`
abbrev pub RangeIs : Ran Ends → ℤ → ℕ → Result Range Refusal → Type 0
RangeIs (ok e) z next (Ok r) = r ≡ record { first = e.first; last = e.last; step = z; body = next }
RangeIs (ok e) z next (Err f) = ⊥
RangeIs (stop k q) z next (Ok r) = ⊥
RangeIs (stop k q) z next (Err f) = (number_of f.question ≡ k) × (f.place ≡ q)

-- The loop whose code stands at p: its start, end and step.
unfoldable pub Ranges : Scope → ℕ → Result Range Refusal → Type 0
Ranges scope p r =
    (f g : Form) (z : ℤ) (m n next : ℕ) → form scope.loops (bytes scope) (p + 1) ≡ got f m → form scope.loops (bytes scope) m ≡ got g n → step (bytes scope) n ≡ got z next
    → scope.loops ≤ 8 → length scope.indices ≡ 8 → RangeIs (within16 p (value_at f (around scope)) (value_at g (around scope))) z next r

-- no step is 0, whatever the bytes are
abbrev pub Moves : Result Range Refusal → Type 0
Moves (Ok r) = r.step ≡ pos 0 → ⊥
Moves (Err e) = Unit {0}

-- The loop or guard whose code stands at `at`.
unfoldable pub RunsNested : Scope → ℕ → ℕ → ℕ → Progress → List ℕ → List ℕ → Walk → List ℕ → List ℕ → Type 0
RunsNested scope at code left p list flags r list' flags' =
    (i : Item) (next : ℕ) (d : Done) → nested (tables scope) (length (bytes scope)) left scope.loops code at (bytes scope) (at + 1) ≡ got i next → scope.loops + left ≤ 8 → length scope.indices ≡ 8
    → Based (tables scope) (bases scope) → Holds (tables scope) d p list flags → Walked (tables scope) next (run i (tables scope) (around scope) d) r list' flags'

-- A round at this index, of the loop at `at` whose body stands at `from`, inside so many loops.
unfoldable pub RunsRound : Scope → ℕ → ℕ → ℕ → ℤ → Progress → List ℕ → List ℕ → Walk → List ℕ → List ℕ → Type 0
RunsRound scope at from left index p list flags r list' flags' =
    (js : Items) (next : ℕ) (d : Done) → body (tables scope) (length (bytes scope)) left (scope.loops + 1) (bytes scope) from ≡ got js next → scope.loops + left < 8 → length scope.indices ≡ 8
    → Based (tables scope) (bases scope) → Holds (tables scope) d p list flags → Walked (tables scope) next (round at (λ d'. runs js (tables scope) (around scope ++ (index ∷ [])) d') d) r list' flags'

-- The rounds from this index on, `most` at most. `past`: the place past the body, where a round has found it.
unfoldable pub RunsRounds : Scope → ℕ → ℕ → ℕ → ℤ → ℤ → ℕ → ℤ → Option ℕ → Progress → List ℕ → List ℕ → Walk → List ℕ → List ℕ → Type 0
RunsRounds scope at from left step last most index past p list flags r list' flags' =
    (js : Items) (next : ℕ) (d : Done) → body (tables scope) (length (bytes scope)) left (scope.loops + 1) (bytes scope) from ≡ got js next → scope.loops + left < 8 → length scope.indices ≡ 8
    → ((to : ℕ) → past ≡ Some to → to ≡ next) → Based (tables scope) (bases scope) → Holds (tables scope) d p list flags
    → Walked (tables scope) next (rounds (indices most step last index) at (λ i d'. runs js (tables scope) (around scope ++ (i ∷ [])) d') d) r list' flags'
