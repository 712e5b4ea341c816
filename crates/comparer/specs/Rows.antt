-- The known pairs of docs/FORMAT.md: the ten starred rows, those with marks, those of all roles, and some pairs explained.
use Rattle.std.specs.Prelude.{ℕ, ◌/◌, ◌%◌, List, [], ◌∷◌, ◌++◌, length, set}
use Prim.Native.String.{String}
use Rattle.comparer.specs.Line.{codes}
use Rattle.comparer.specs.Explain.{Chosen, left_side, right_side}

-- program L, which copies two elements
abbrev pub L : List ℕ
L =
    0x41 ∷ 0x4C ∷ 0x50 ∷ 0x01 ∷ 0x00 ∷ 0x00 ∷ 0x02 ∷ 0x00 ∷ 0x01 ∷ 0x02 ∷ 0x00 ∷ 0x01 ∷ 0x01 ∷ 0x02 ∷ 0x00 ∷ 0x02 ∷ 0x00
    ∷ 0x00 ∷ 0x01 ∷ 0x00 ∷ 0x01 ∷ 0x00 ∷ 0x01 ∷ 0x01 ∷ 0x00 ∷ 0x00 ∷ 0x01 ∷ 0x10 ∷ 0x00 ∷ 0x00 ∷ 0x00 ∷ 0x01 ∷ 0x00 ∷ 0x00 ∷ []

-- standard input: the left's length in two bytes, the left, the right
abbrev pub framed : List ℕ → List ℕ → List ℕ
framed l r = length l % 256 ∷ length l / 256 ∷ (l ++ r)

-- a left, a right made from any bytes, and the line that is printed, with its end
pub record Row : Type 0 where
  pub one : List ℕ
  pub other : List ℕ → List ℕ
  pub line : List ℕ

abbrev pub row : List ℕ → List ℕ → String → Row
row l r text = record { one = l; other = λ any. r; line = codes text ++ (0x0A ∷ []) }

abbrev pub row_any : List ℕ → String → Row
row_any l text = record { one = l; other = λ any. any; line = codes text ++ (0x0A ∷ []) }

abbrev pub starred : List Row
starred =
    row L (set (set (set (set L 16 1) 18 0) 20 255) 21 255) "equal 2"
    ∷ row L (set (set L 29 1) 31 255) "differs 1 0"
    ∷ row L (set L 18 0) "differs 1 1"
    ∷ row L (set L 16 1) "differs 1 0"
    ∷ row (set L 16 2) (set L 16 2) "differs 1 0"
    ∷ row L (set L 16 2) "differs 1 0"
    ∷ row_any (set L 20 0) "refused left 11 20"
    ∷ row_any (set L 18 2) "refused left 16 22"
    ∷ row L (set L 28 1) "refused right 17 22"
    ∷ row_any (set L 23 0) "refused left 13 23" ∷ []

-- program M, of version 2: B[0] = f(f(A[0], A[1]), A[2]), where the arguments of f may swap
abbrev pub M : List ℕ
M =
    0x41 ∷ 0x4C ∷ 0x50 ∷ 0x02 ∷ 0x00 ∷ 0x01 ∷ 0x82 ∷ 0x02 ∷ 0x00 ∷ 0x01 ∷ 0x03 ∷ 0x00 ∷ 0x01 ∷ 0x01 ∷ 0x01 ∷ 0x00 ∷ 0x01 ∷ 0x01 ∷ 0x00
    ∷ 0x00 ∷ 0x11 ∷ 0x00 ∷ 0x11 ∷ 0x00 ∷ 0x10 ∷ 0x00 ∷ 0x00 ∷ 0x00 ∷ 0x10 ∷ 0x00 ∷ 0x01 ∷ 0x00 ∷ 0x10 ∷ 0x00 ∷ 0x02 ∷ 0x00 ∷ 0x00 ∷ []

-- known pairs with and without the mark, in both versions
abbrev pub marked : List Row
marked =
    row M (set (set M 26 1) 30 0) "equal 1"
    ∷ row M (set (set (set (set M 22 0x10) 24 2) 26 0x11) 34 0) "equal 1"
    ∷ row M (set (set (set M 22 0x10) 24 0) 26 0x11) "differs 1 0"
    ∷ row (set M 6 2) (set (set (set M 6 2) 26 1) 30 0) "differs 1 0"
    ∷ row (set (set M 3 1) 6 2) (set M 6 2) "equal 1"
    ∷ row (set M 6 2) M "refused both 23 0"
    ∷ row_any (set M 3 1) "refused left 6 6"
    ∷ row_any (set M 6 0x83) "refused left 6 6"
    ∷ row_any (set M 3 3) "refused left 5 3" ∷ []

-- program N, of all roles: B[0] = A[0], then C[0] = B[0], where A is in, B inout and C out; a local T is there too
abbrev pub N : List ℕ
N =
    0x41 ∷ 0x4C ∷ 0x50 ∷ 0x01 ∷ 0x00 ∷ 0x00 ∷ 0x04 ∷ 0x00 ∷ 0x01 ∷ 0x02 ∷ 0x00 ∷ 0x02 ∷ 0x01 ∷ 0x01 ∷ 0x00 ∷ 0x01 ∷ 0x01 ∷ 0x01 ∷ 0x00 ∷ 0x03
    ∷ 0x01 ∷ 0x01 ∷ 0x00 ∷ 0x01 ∷ 0x01 ∷ 0x00 ∷ 0x00 ∷ 0x10 ∷ 0x00 ∷ 0x00 ∷ 0x00 ∷ 0x01 ∷ 0x02 ∷ 0x00 ∷ 0x00 ∷ 0x10 ∷ 0x01 ∷ 0x00 ∷ 0x00 ∷ 0x00 ∷ []

-- a pair, a mask, and the line that the plain entry prints, then that under the mask, with their ends
pub record MaskedRow : Type 0 where
  pub one : List ℕ
  pub other : List ℕ
  pub mask : ℕ
  pub lines : List ℕ

abbrev pub row_masked : List ℕ → List ℕ → ℕ → String → String → MaskedRow
row_masked l r mask plain masked = record { one = l; other = r; mask = mask; lines = codes plain ++ (0x0A ∷ []) ++ (codes masked ++ (0x0A ∷ [])) }

-- known pairs of N: B is scratch, which the plain entry leaves out
abbrev pub scratch : List MaskedRow
scratch =
    row_masked N (set (set N 24 3) 36 3) 0xFFFF "equal 1" "differs 1 0"
    ∷ row_masked N (set (set N 24 3) 36 3) 4 "equal 1" "equal 1"
    ∷ row_masked N (set (set N 24 3) 36 3) 9 "equal 1" "equal 0"
    ∷ row_masked N (set N 29 1) 0xFFFF "differs 2 0" "differs 1 0"
    ∷ row_masked (set N 15 2) (set N 15 2) 0xFFFF "equal 0" "equal 2"
    ∷ row_masked (set N 15 2) (set (set (set N 15 2) 24 3) 36 3) 0xFFFF "equal 0" "differs 1 0"
    ∷ row_masked (set N 15 0) N 0 "refused left 13 32" "refused left 13 32" ∷ []

-- a pair, the side that is asked about, and the line of its explanation, with its end
pub record ExplainedRow : Type 0 where
  pub one : List ℕ
  pub other : List ℕ
  pub side : Chosen
  pub line : List ℕ

abbrev pub explains : List ℕ → List ℕ → Chosen → String → ExplainedRow
explains l r side text = record { one = l; other = r; side = side; line = codes text ++ (0x0A ∷ []) }

-- known pairs, explained
abbrev pub explained_pairs : List ExplainedRow
explained_pairs =
    explains L (set (set L 29 1) 31 255) left_side "written 1 0 22 32 0"
    ∷ explains L (set (set L 29 1) 31 255) right_side "written 1 0 22 32 0"
    ∷ explains L (set L 18 0) left_side "written 1 1 22 32 1"
    ∷ explains L (set L 18 0) right_side "starting 1 1"
    ∷ explains (set L 16 2) (set L 16 2) left_side "starting 1 0"
    ∷ explains (set L 16 2) (set L 16 2) right_side "starting 1 0"
    ∷ explains L L left_side "refused both 27 0"
    ∷ explains (set L 18 2) L right_side "refused left 16 22" ∷ []
