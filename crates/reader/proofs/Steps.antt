-- Steps of a proof that code answers what a reader says: at each call that the code matched on, the reader's first part was got or refused.
use mathlib.Core.Path.{◌≡◌, refl, sym, ap, ◌∙◌}
use Prim.Native.Nat.{ℕ, zero, suc, ◌+◌, ◌<◌, ◌≤◌}
use mathlib.Core.List.{List}
use mathlib.Core.Bool.{false≢true}
use native.Mathlib.Omega.{arith}
use Rattle.std.specs.Prelude.{Result, Ok, Err, IsErr, IsErrAnd}
use Rattle.model.specs.Questions.{number_of}
use Rattle.model.specs.declared.question.Refusal.{Refusal}
use Rattle.reader.specs.Field.{Outcome, got, no, Reader, and_then, times}
use Rattle.reader.specs.Answers.{through, ended, read_says, place_says}

-- a refusal that `?` hands on
pub handed : {A : Type 0} {r : Result A Refusal} {e : Refusal} → IsErr r × IsErrAnd r (λ f. f ≡ e) → r ≡ Err e
handed {r = Ok x} h = absurd (false≢true h.0)
handed {r = Err f} h = ap Err h.1

-- what a reader said, from the case of the answer that code matched on
module _ {A : Type 0} {m : Outcome A} {r : Result (A × ℕ) Refusal} (e : read_says r ≡ m) where
  pub read-got : {x : A} {next : ℕ} → r ≡ Ok (x, next) → m ≡ got x next
  read-got q = sym e ∙ ap read_says q

  pub read_no : {f : Refusal} → r ≡ Err f → m ≡ no (number_of f.question) f.place
  read_no q = sym e ∙ ap read_says q

module _ {m : Outcome ℕ} {r : Result ℕ Refusal} (e : place_says r ≡ m) where
  pub place-got : {next : ℕ} → r ≡ Ok next → m ≡ got 0 next
  place-got q = sym e ∙ ap place_says q

  pub place_no : {f : Refusal} → r ≡ Err f → m ≡ no (number_of f.question) f.place
  place_no q = sym e ∙ ap place_says q

-- an outcome from what was made of it, and back
module _ {A B : Type 0} (f : A → B) where
  pub through-got : (m : Outcome A) {b : B} {next : ℕ} → through f m ≡ got b next → (a : A) × (m ≡ got a next) × (f a ≡ b)
  unfolding through
  through-got (got a n) e = (a, cc, cc)
  through-got (no k l) e = absurd (let z : ◌≡◌ {A = ℕ} 0 1 = cc in omega arith)

  pub through_no : (m : Outcome A) {k p : ℕ} → through f m ≡ no k p → m ≡ no k p
  unfolding through
  through_no (got a n) e = absurd (let z : ◌≡◌ {A = ℕ} 0 1 = cc in omega arith)
  through_no (no k l) e = cc

  pub made : {m : Outcome A} {a : A} {next : ℕ} → m ≡ got a next → got (f a) next ≡ through f m
  unfolding through
  made e = sym (ap (through f) e)

  pub refused : {m : Outcome A} {k p : ℕ} → m ≡ no k p → no k p ≡ through f m
  unfolding through
  refused e = sym (ap (through f) e)

-- a part that was got, and what follows it; a part that was refused. `o` is what is made of the outcome
module _ {A B R : Type 0} (o : Outcome B → R) (m : Outcome A) (f : A → ℕ → Outcome B) {q : R} where
  pub step : {a : A} {next : ℕ} → m ≡ got a next → q ≡ o (f a next) → q ≡ o (and_then m f)
  step e h = rw e h

  pub stop : {k p : ℕ} → m ≡ no k p → q ≡ o (no k p) → q ≡ o (and_then m f)
  stop e h = rw e h

-- what is made of the last value that was got is forgotten with it
pub kept : {A B : Type 0} (m : Outcome A) (f : A → B) → ended m ≡ ended (and_then m (λ a next. got (f a) next))
unfolding through
kept (got a n) f = refl
kept (no k l) f = refl

-- a value forgotten, and the place of an answer
module _ {A : Type 0} (m : Outcome A) {r : Result ℕ Refusal} (e : place_says r ≡ ended m) where
  pub ended-got : {next : ℕ} → r ≡ Ok next → (a : A) × (m ≡ got a next)
  ended-got q = let g = through-got (λ _. 0) m (place-got e q) in (g.0, g.1)

  pub ended_no : {f : Refusal} → r ≡ Err f → m ≡ no (number_of f.question) f.place
  ended_no q = through_no (λ _. 0) m (place_no e q)

-- what is made of a value is known of the answer
module _ {A B : Type 0} (f : A → B) (m : Outcome A) {r : Result (B × ℕ) Refusal} (e : read_says r ≡ through f m) where
  pub made-got : {b : B} {next : ℕ} → r ≡ Ok (b, next) → (a : A) × (m ≡ got a next) × (f a ≡ b)
  made-got q = through-got f m (read-got e q)

  pub made_no : {g : Refusal} → r ≡ Err g → m ≡ no (number_of g.question) g.place
  made_no q = through_no f m (read_no e q)

-- things in a row, as a loop takes them: those that are left have the answer of all
module _ {A B : Type 0} (none : B) (more : A → B → B) (one : Reader A) (s : List ℕ) where
  pub times_end : (n at : ℕ) → n ≤ 0 → got 0 at ≡ ended (times none more one n s at)
  unfolding times through
  times_end zero at h = refl
  times_end (suc n) at h = absurd (omega arith)

  pub times_stop : (n at : ℕ) {r : Result ℕ Refusal} {f : Refusal} → 0 < n → place_says r ≡ ended (one s at) → r ≡ Err f → no (number_of f.question) f.place ≡ ended (times none more one n s at)
  unfolding times
  times_stop zero at h e q = absurd (omega arith)
  times_stop (suc n) at h e q = stop ended (one s at) _ (ended_no (one s at) e q) (refused _ refl)

  pub times_step : (n l at : ℕ) {r : Result ℕ Refusal} {next : ℕ} → n ≡ l + 1 → place_says r ≡ ended (one s at) → r ≡ Ok next →
      ended (times none more one l s next) ≡ ended (times none more one n s at)
  unfolding times
  times_step zero l at h e q = absurd (omega arith)
  times_step (suc n) l at {next = next} h e q =
      let i = ended-got (one s at) e q in
      let w : l ≡ n = omega arith in
      rw w (step ended (one s at) _ i.1 (kept (times none more one n s next) (more i.0)))

-- the same made of a value
pub through_same : {A B : Type 0} (f g : A → B) (m : Outcome A) → ((a : A) → f a ≡ g a) → through f m ≡ through g m
unfolding through
through_same f g (got a n) h = ap (λ (b : _). got b n) (h a)
through_same f g (no k l) h = refl

through-through : {A B C : Type 0} (f : A → B) (g : B → C) (m : Outcome A) → through (λ a. g (f a)) m ≡ through g (and_then m (λ a next. got (f a) next))
unfolding through
through-through f g (got a n) = refl
through-through f g (no k l) = refl

-- one that was made of the last value
pub remade : {A B C : Type 0} (f : A → B) (g : B → C) (h : A → C) (m : Outcome A) → ((a : A) → h a ≡ g (f a)) → through h m ≡ through g (and_then m (λ a next. got (f a) next))
remade f g h m e = through_same h (λ a. g (f a)) m e ∙ through-through f g m
