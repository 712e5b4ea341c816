-- Forms worked out over arrays of eight numbers, as the code does.
use Rattle.std.specs.Prelude.{ℕ, zero, suc, ◌-◌, ◌%◌, ◌^◌, ◌≤◌, ◌<◌, ◌≡◌, List, length, get_or, take, ℤ, pos, negsuc, nat_abs, Result, Ok, Err, ◌+ℤ◌, ◌*ℤ◌}
use Rattle.std.specs.Int.{Width, w32}
use mir.Val.{bits, to_z}
use Rattle.reader.specs.Field.{got}
use Rattle.reader.specs.Syntax.{Form}
use Rattle.reader.specs.Grammar.{form}
use Rattle.reader.specs.Answers.{read_says}
use Rattle.model.specs.declared.question.Refusal.{Refusal}
use Rattle.reader.specs.Entries.{bytes_of}
use Rattle.unroller.specs.Run.{value_at}

-- z and the first n products
unfoldable pub form_sum : ℤ → List ℤ → List ℤ → ℕ → ℤ
form_sum z cs is zero = z
form_sum z cs is (suc n) = form_sum z cs is n +ℤ (get_or cs n (pos 0) *ℤ get_or is n (pos 0))

-- what so many bits keep of a number, as two's complement
unfoldable pub wrapped : Width → ℤ → ℤ
wrapped w (pos n) = to_z w (n % 2 ^ bits w)
wrapped w (negsuc n) = to_z w (2 ^ bits w - suc (n % 2 ^ bits w))

-- the same sum, of whose products and sums 32 bits are kept
unfoldable pub wrapped_sum : ℤ → List ℤ → List ℤ → ℕ → ℤ
wrapped_sum z cs is zero = z
wrapped_sum z cs is (suc n) = wrapped w32 (wrapped_sum z cs is n +ℤ wrapped w32 (get_or cs n (pos 0) *ℤ get_or is n (pos 0)))

-- the first eight numbers of a list are the bytes of w
unfoldable pub Packs : List ℤ → ℕ → Type 0
Packs cs w = (k : ℕ) → k < 8 → get_or (bytes_of 8 w) k (pos 0) ≡ get_or cs k (pos 0)

-- What working out the form that stands at a place answers: its value, and the place past it.
unfoldable pub Values : List ℕ → ℕ → ℕ → List ℤ → Result (ℤ × ℕ) Refusal → Type 0
Values s at loops is r =
    (f : Form) (next : ℕ) → form loops s at ≡ got f next → loops ≤ 8 → length is ≡ 8 → read_says r ≡ got (value_at f (take loops is)) next

-- no value is larger, whatever the bytes are
abbrev pub Small : Result (ℤ × ℕ) Refusal → Type 0
Small (Ok r) = nat_abs r.0 ≤ 33587200
Small (Err e) = Unit {0}
