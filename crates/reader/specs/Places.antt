-- The bytes of a program and a place in them, together.
use Rattle.std.specs.Prelude.{ℕ, List}
use Rattle.std.specs.Borrow.{Bor}
use Rattle.reader.specs.declared.cursor.Reader.{Reader}
use Rattle.reader.specs.declared.fields.Width.{Width}
use Rattle.reader.specs.declared.fields.Width.TheVariants as width

-- how many bytes a field of that width has
abbrev pub bytes_in : Width → ℕ
bytes_in width.One = 1
bytes_in width.Two = 2
bytes_in width.Three = 3
bytes_in width.Four = 4

-- the reader of these bytes that stands at that place
abbrev pub standing : Bor (List ℕ) → ℕ → Reader
standing src at = record { src = src; at = at }
