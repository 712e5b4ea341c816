-- The bytes of a list's tables, word by word, as the code writes them.
use Rattle.std.specs.Prelude.{ℕ, zero, suc, ◌+◌, ◌*◌, ◌≤◌, ◌<◌, ◌≡◌, List, [], ◌∷◌, ◌++◌, length, get_or, if◌then◌else◌}
use Rattle.model.specs.Test.{every}
use Rattle.model.specs.Tables.{operator_in}
use Rattle.reader.specs.Grammar.{mark}
use Rattle.writer.specs.File.{little_bytes, in_row, dimension_bytes}
use Rattle.writer.specs.Records.{extents_at}

-- n extents that stand at a word, as the bytes of dimensions
unfoldable pub dimensions_at : List ℕ → ℕ → ℕ → List ℕ
dimensions_at w at n = in_row dimension_bytes (extents_at w at n)

-- an array of five words: role, dimension count, extents
unfoldable pub array_bytes_at : List ℕ → ℕ → List ℕ
array_bytes_at w at = get_or w at 0 ∷ get_or w (at + 1) 0 ∷ dimensions_at w (at + 2) (get_or w (at + 1) 0)

unfoldable pub arrays_bytes_at : List ℕ → ℕ → ℕ → List ℕ
arrays_bytes_at w at zero = []
arrays_bytes_at w at (suc n) = array_bytes_at w at ++ arrays_bytes_at w (at + 5) n

unfoldable pub head_bytes : List ℕ → ℕ → List ℕ
head_bytes w version = mark ++ little_bytes 2 version ++ get_or w 0 0 ∷ extents_at w 1 (get_or w 0 0) ++ get_or w 17 0 ∷ arrays_bytes_at w 18 (get_or w 17 0)

-- the lowest version, by the operators' words
unfoldable pub version_at : List ℕ → ℕ
version_at w = if every (operator_in 1) (extents_at w 1 (get_or w 0 0)) then 1 else 2

-- what the five words of an accepted list's array have
pub record ArrayKnown (w : List ℕ) (at : ℕ) : Type 0 where
  pub there : at + 5 ≤ length w
  pub role : get_or w at 0 < 256
  pub three : get_or w (at + 1) 0 ≤ 3

abbrev pub ArraysKnown : List ℕ → ℕ → ℕ → Type 0
ArraysKnown w at n = (k : ℕ) → k < n → ArrayKnown w (at + 5 * k)

-- what the 98 words have
pub record HeadKnown (w : List ℕ) : Type 0 where
  pub long : 98 ≤ length w
  pub operators : get_or w 0 0 ≤ 16
  pub bytes : (k : ℕ) → k < get_or w 0 0 → get_or w (1 + k) 0 < 256
  pub count : get_or w 17 0 ≤ 16
  pub arrays : ArraysKnown w 18 (get_or w 17 0)

-- the length of the head's bytes, in whichever version
abbrev pub HeadSize : List ℕ → ℕ → Type 0
HeadSize w r = (version : ℕ) → r ≡ length (head_bytes w version)
