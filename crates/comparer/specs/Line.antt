-- The line that the program prints (docs/FORMAT.md, "The program"), as ASCII codes.
use Rattle.std.specs.Prelude.{ℕ, zero, suc, ◌+◌, ◌/◌, ◌%◌, List, [], ◌∷◌, ◌++◌, true, false, ltb}
use Prim.Native.Char.{code}
use Prim.Native.String.{String, [] as end, ◌∷◌ as ◌then◌}
use Rattle.model.specs.Reply.{Reply, equal, differs, refused, Side, left, right, both, input}

-- the codes of a text
abbrev pub codes : String → List ℕ
codes end = []
codes (c then s) = code c ∷ codes s

-- a number in decimal, of at most k digits
abbrev pub digits : ℕ → ℕ → List ℕ
digits zero n = []
digits (suc k) n = elim (ltb n 10) [ true ↦ (48 + n) ∷ [] | false ↦ digits k (n / 10) ++ ((48 + n % 10) ∷ []) ]

-- a number of 64 bits has at most 20 digits
abbrev pub decimal : ℕ → List ℕ
decimal n = digits 20 n

abbrev pub side_text : Side → List ℕ
side_text left = codes "left"
side_text right = codes "right"
side_text both = codes "both"
side_text input = codes "input"

-- a blank, then the text
abbrev pub spaced : List ℕ → List ℕ
spaced text = 0x20 ∷ text

-- `equal N`, `differs A E` or `refused S K P`, and the line's end
unfoldable pub line_of : Reply → List ℕ
line_of (equal n) = codes "equal" ++ spaced (decimal n) ++ (0x0A ∷ [])
line_of (differs a e) = codes "differs" ++ spaced (decimal a) ++ spaced (decimal e) ++ (0x0A ∷ [])
line_of (refused s k p) = codes "refused" ++ spaced (side_text s) ++ spaced (decimal k) ++ spaced (decimal p) ++ (0x0A ∷ [])
