-- Reading field by field. A reader takes the bytes and a place; it gets a value and the next place, or ends with a question's number and place.
use Rattle.std.specs.Prelude.{ℕ, zero, suc, ◌+◌, ◌*◌, ◌<◌, List, Bool, true, false, length, get_or, leb, ℤ, if◌then◌else◌}
use Rattle.std.specs.Int.{w8, w16}
use Rattle.std.proofs.Common.{to_z}

-- bytes, as a slice holds them
abbrev pub Bytes : List ℕ → Type 0
Bytes s = (i : ℕ) → get_or s i 0 < 256

pub data Outcome (A : Type 0) : Type 0 where
  got : A → ℕ → Outcome A
  no : ℕ → ℕ → Outcome A

abbrev pub Reader : Type 0 → Type 0
Reader A = List ℕ → ℕ → Outcome A

infixl 10 ◌>>=◌
-- what follows a value that was got; a "no" ends the work
abbrev pub and_then : {A B : Type 0} → Outcome A → (A → ℕ → Outcome B) → Outcome B
and_then (got a next) f = f a next
and_then (no number place) f = no number place

abbrev pub ◌>>=◌ : {A B : Type 0} → Reader A → (A → Reader B) → Reader B
◌>>=◌ m f s at = and_then (m s at) (λ a next. f a s next)

abbrev pub give : {A : Type 0} → A → Reader A
give a s at = got a at

abbrev pub refuse : {A : Type 0} → ℕ → ℕ → Reader A
refuse number place s at = no number place

-- where the next field begins
abbrev pub here : Reader ℕ
here s at = got at at

-- a question: where its answer is no, the reading ends with its number and place
abbrev pub ask : ℕ → ℕ → Bool → Reader ℕ
ask number place true s at = got 0 at
ask number place false s at = no number place

-- n bytes as a number, the lowest first
abbrev pub little_endian : ℕ → List ℕ → ℕ → ℕ
little_endian zero s at = 0
little_endian (suc n) s at = get_or s at 0 + 256 * little_endian n s (at + 1)

-- a field of n bytes. Is the whole field there? 3
unfoldable pub field : ℕ → Reader ℕ
field n s at = if leb (at + n) (length s) then got (little_endian n s at) (at + n) else no 3 at

unfoldable pub byte : Reader ℕ
byte = field 1

unfoldable pub u16 : Reader ℕ
u16 = field 2

unfoldable pub u32 : Reader ℕ
u32 = field 4

-- two's complement
unfoldable pub i8 : Reader ℤ
i8 = do
  b ← byte
  give (to_z w8 b)

unfoldable pub i16 : Reader ℤ
i16 = do
  w ← u16
  give (to_z w16 w)

-- n in a row, each read by `one`; `more` puts one before the rest
unfoldable pub times : {A B : Type 0} → B → (A → B → B) → Reader A → ℕ → Reader B
times none more one zero = give none
times none more one (suc n) = do
  a ← one
  rest ← times none more one n
  give (more a rest)
