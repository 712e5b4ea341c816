-- Reading words from the front: a reader gets a value and the words left, or nothing.
use Rattle.std.specs.Prelude.{ℕ, zero, suc, List, [], ◌∷◌, Bool, true, false, length, eqb}

pub data Out (A : Type 0) : Type 0 where
  got : A → List ℕ → Out A
  none : Out A

abbrev pub Reader : Type 0 → Type 0
Reader A = List ℕ → Out A

infixl 10 ◌>>=◌
abbrev pub and_then : {A B : Type 0} → Out A → (A → Reader B) → Out B
and_then (got a rest) f = f a rest
and_then none f = none

abbrev pub ◌>>=◌ : {A B : Type 0} → Reader A → (A → Reader B) → Reader B
◌>>=◌ m f s = and_then (m s) f

abbrev pub give : {A : Type 0} → A → Reader A
give a s = got a s

abbrev pub refuse : {A : Type 0} → Reader A
refuse s = none

-- a question: where its answer is no, the words are refused
abbrev pub ask : Bool → Reader ℕ
ask true s = got 0 s
ask false s = none

abbrev pub word : Reader ℕ
word [] = none
word (x ∷ s) = got x s

-- n in a row, each read by `one`; `more` puts one before the rest
unfoldable pub times : {A B : Type 0} → B → (A → B → B) → Reader A → ℕ → Reader B
times empty more one zero = give empty
times empty more one (suc n) = do
  a ← one
  rest ← times empty more one n
  give (more a rest)

-- n words that are 0
unfoldable pub zeros : ℕ → Reader ℕ
zeros zero = give 0
zeros (suc n) = do
  x ← word
  _ ← ask (eqb x 0)
  zeros n

abbrev pub is_got : {A : Type 0} → Out A → Bool
is_got (got a rest) = true
is_got none = false

-- all of the words are 0
unfoldable pub all_zero : List ℕ → Bool
all_zero s = is_got (zeros (length s) s)
