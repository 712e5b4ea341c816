-- Lent memory: the length that each slice has at least (question 25, docs/LAYOUT.md), in words of 32 bits.
use Rattle.std.specs.Prelude.{ℕ, List, Bool, length, replicate, if◌then◌else◌}

abbrev pub list_words : ℕ
list_words = 32768

-- of these, the words before the first record
abbrev pub header_words : ℕ
header_words = 98

abbrev pub cell_words : ℕ
cell_words = 4096

abbrev pub term_words : ℕ
term_words = 32768

-- all zeros
abbrev pub cleared : List ℕ → List ℕ
cleared m = replicate (length m) 0

-- what a call leaves in work memory; under 25 nothing is touched
abbrev pub work_left : Bool → List ℕ → List ℕ
work_left enough m = if enough then cleared m else m
