-- What is taken from a stream of frames, where the bytes that the input has left are known. A frame is a length of four bytes, the
-- lowest first, and so many bytes behind it.
use Rattle.std.specs.Prelude.{ℕ, ◌≡◌, ◌<◌, ◌≤◌, List, ◌++◌, length, take, None, Some}
use Rattle.std.specs.Io.KnownBytes.{Consumes}
use Rattle.std.specs.Int.{w32, from_le_bytes}
use Rattle.std.specs.declared.option.Option.{Option}

-- a length, or fewer than four bytes
abbrev pub Sized : Option (List ℕ) → Option (List ℕ) → Option ℕ → Type 0
Sized old new (Some n) = (head : List ℕ) × Consumes old new head × (length head ≡ 4) × (n ≡ from_le_bytes w32 head)
Sized old new None = (head : List ℕ) × Consumes old new head × (length head < 4)

-- a length, and at most so many bytes, which are the first of the slice; or bytes that are no length of a frame that fits into it
abbrev pub Framed : Option (List ℕ) → Option (List ℕ) → List ℕ → Option ℕ → Type 0
Framed old new buf (Some k) = (head : List ℕ) × Consumes old new (head ++ take k buf) × (length head ≡ 4) × (k ≤ from_le_bytes w32 head)
Framed old new buf None = (head : List ℕ) × Consumes old new head × (length head ≤ 4) × (length head ≡ 4 → length buf < from_le_bytes w32 head)
