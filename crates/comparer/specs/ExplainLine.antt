-- The line of an explanation (docs/FORMAT.md, "The explanation"), as ASCII codes.
use Rattle.std.specs.Prelude.{ℕ, zero, suc, min, List, [], ◌∷◌, ◌++◌, get_or, ℤ, pos, negsuc}
use Rattle.model.specs.Reply as model
use Rattle.comparer.specs.Line.{codes, digits, decimal, spaced, line_of}
use Rattle.comparer.specs.Explain.{Answer, written, starting, refused, Explanation}

-- a number of 16 signed bits in decimal: it has at most 5 digits
abbrev pub signed : ℤ → List ℕ
signed (pos n) = digits 5 n
signed (negsuc n) = 0x2D ∷ digits 5 (suc n)

-- the first n numbers, a blank before each
abbrev pub spaced_first : ℕ → List ℤ → List ℕ
spaced_first zero is = []
spaced_first (suc n) is = spaced_first n is ++ spaced (signed (get_or is n (pos 0)))

-- `written A E`, followed by `more`; `starting A E`; `refused S K P`; and the line's end
abbrev pub answer_line : Answer → List ℕ → List ℕ
answer_line (written a e) more = codes "written" ++ spaced (decimal a) ++ spaced (decimal e) ++ more ++ (0x0A ∷ [])
answer_line (starting a e) more = codes "starting" ++ spaced (decimal a) ++ spaced (decimal e) ++ (0x0A ∷ [])
answer_line (refused s k p) more = line_of (model.refused s k p)

-- behind the element, where an update wrote it, the stretch and the index values
unfoldable pub explanation_line : Explanation → List ℕ
explanation_line x = answer_line x.answer (spaced (decimal x.from) ++ spaced (decimal x.to) ++ spaced_first (min x.count 8) x.indices)
