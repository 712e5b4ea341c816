-- Many pairs in one input: the pairs begun, their replies, the totals, and what is printed (docs/FORMAT.md, "Many pairs").
use Rattle.std.specs.Prelude.{ℕ, zero, suc, ◌+◌, List, [], ◌∷◌, ◌++◌, map, length, take, drop, leb, if◌then◌else◌}
use Rattle.model.specs.Test.{total}
use Rattle.model.specs.Reply.{Reply, Side, equal, differs, refused, left, right, input}
use Rattle.reader.specs.Field.{little_endian}
use Rattle.comparer.specs.Entry.{programs_reply, all_bits}
use Rattle.comparer.specs.Line.{codes, decimal, spaced, line_of}
use Rattle.comparer.specs.declared.batch.Totals.{Totals}

-- what the bytes of a pair's lengths say: there is no pair; a refusal's side and number, and the pair is the last; both lengths
pub data Lengths : Type 0 where
  ended : Lengths
  last : Side → ℕ → Lengths
  sizes : ℕ → ℕ → Lengths

-- Is the left at most 16,384 bytes, as stated? Is the right? 2
abbrev pub sized : ℕ → ℕ → Lengths
sized l r = if leb l 16384 then (if leb r 16384 then sizes l r else last right 2) else last left 2

-- A pair begins with its first byte. Are both lengths there? 1
unfoldable pub lengths_of : List ℕ → Lengths
lengths_of [] = ended
lengths_of (b ∷ s) = if leb 4 (length (b ∷ s)) then sized (little_endian 2 (b ∷ s) 0) (little_endian 2 (b ∷ s) 2) else last input 1

-- a pair that was begun: both programs; or side and number of the refusal of one that is the last
pub data Pair : Type 0 where
  whole : List ℕ → List ℕ → Pair
  broken : Side → ℕ → Pair

-- the bytes behind the lengths. Are there as many as both say? 1
abbrev pub body_of : ℕ → ℕ → List ℕ → Pair
body_of l r s = if leb (l + r) (length s) then whole (take l s) (take r (drop l s)) else broken input 1

-- behind a broken pair there is none
abbrev pub followed : Pair → (List ℕ → List Pair) → List ℕ → List Pair
followed (whole l r) more rest = whole l r ∷ more rest
followed (broken side number) more rest = broken side number ∷ []

abbrev pub pairs_by : Lengths → (List ℕ → List Pair) → List ℕ → List Pair
pairs_by ended more s = []
pairs_by (last side number) more s = broken side number ∷ []
pairs_by (sizes l r) more s = followed (body_of l r s) more (drop (l + r) s)

-- the pairs begun, at most n
unfoldable pub pairs : ℕ → List ℕ → List Pair
pairs zero s = []
pairs (suc n) s = pairs_by (lengths_of s) (pairs n) (drop 4 s)

-- at most 65,535 are taken
abbrev pub most_pairs : ℕ
most_pairs = 65535

abbrev pub begun : List ℕ → List Pair
begun s = pairs most_pairs s

-- two programs are compared with all bits of the mask set; the place of another refusal is 0
abbrev pub reply_of : Pair → Reply
reply_of (whole l r) = programs_reply all_bits l r
reply_of (broken side number) = refused side number 0

abbrev pub replies : List ℕ → List Reply
replies s = map reply_of (begun s)

-- 1 for a reply of the kind, 0 for another
abbrev pub one_equal : Reply → ℕ
one_equal (equal n) = 1
one_equal (differs a e) = 0
one_equal (refused s k p) = 0

abbrev pub one_differs : Reply → ℕ
one_differs (equal n) = 0
one_differs (differs a e) = 1
one_differs (refused s k p) = 0

abbrev pub one_refused : Reply → ℕ
one_refused (equal n) = 0
one_refused (differs a e) = 0
one_refused (refused s k p) = 1

-- the count of an equal reply
abbrev pub elements_of : Reply → ℕ
elements_of (equal n) = n
elements_of (differs a e) = 0
elements_of (refused s k p) = 0

-- N, E, D, R, C of an input: N from its pairs alone, the others from the replies
abbrev pub totals : List ℕ → Totals
totals s = record {
  pairs = length (begun s);
  equal = total one_equal (replies s);
  differs = total one_differs (replies s);
  refused = total one_refused (replies s);
  elements = total elements_of (replies s);
}

-- `pairs N equal E differs D refused R elements C`, and the line's end
unfoldable pub totals_line : Totals → List ℕ
totals_line t =
    codes "pairs" ++ spaced (decimal t.pairs)
    ++ codes " equal" ++ spaced (decimal t.equal)
    ++ codes " differs" ++ spaced (decimal t.differs)
    ++ codes " refused" ++ spaced (decimal t.refused)
    ++ codes " elements" ++ spaced (decimal t.elements) ++ (0x0A ∷ [])

-- the lines of replies, and behind them the last line
abbrev pub text : List Reply → List ℕ → List ℕ
text [] end = end
text (reply ∷ more) end = line_of reply ++ text more end

-- what is printed for an input
abbrev pub batch_text : List ℕ → List ℕ
batch_text s = text (replies s) (totals_line (totals s))
