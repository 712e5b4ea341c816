-- What the writer of a line has written: a text, zeros behind it, and the text's length.
use Rattle.std.specs.Prelude.{ℕ, zero, suc, ◌+◌, ◌*◌, ◌≤◌, ◌<◌, ◌≡◌, List, [], ◌∷◌, ◌++◌, length}
use Rattle.unroller.specs.Layout.{padded}
use Rattle.comparer.specs.Line.{digits}
use Rattle.comparer.specs.declared.line.Line.{Line}

-- the room for a line
abbrev pub line_bytes : ℕ
line_bytes = 160

-- the line's bytes are these and no others
pub record Holds (line : Line) (text : List ℕ) : Type 0 where
  pub bytes : line.bytes ≡ padded line_bytes text
  pub len : line.len ≡ length text
  pub room : line.len ≤ line_bytes

-- what is written behind any text that leaves room for it
unfoldable pub Adds : Line → List ℕ → Line → Type 0
Adds line more r = (text : List ℕ) → Holds line text → length text + length more ≤ line_bytes → Holds r (text ++ more)

-- powers of ten
abbrev pub tens : ℕ → ℕ
tens zero = 1
tens (suc k) = 10 * tens k

-- any limit of one digit or more that the number keeps within gives the same text
unfoldable pub AddsNumber : Line → ℕ → Line → Type 0
AddsNumber line n r = (k : ℕ) → n < tens (suc k) → Adds line (digits (suc k) n) r

-- all of this text but its end
unfoldable pub Begins : Line → List ℕ → Type 0
Begins r whole = (text : List ℕ) × Holds r text × (length text < line_bytes) × (text ++ (0x0A ∷ []) ≡ whole)
