-- What a fill took from its input and put into the slice, where the bytes that the input has left are known: the first bytes of
-- the slice are the input's next, in their order, and nothing is left where the slice was not filled and no read failed.
use Rattle.std.specs.Prelude.{ℕ, ◌<◌, List, length, take, Result, Ok, Err}
use Rattle.std.specs.Io.KnownBytes.{Consumes, IsAtEnd}
use Rattle.std.specs.declared.option.Option.{Option}
use Rattle.source.specs.declared.ReadFailed.{ReadFailed}

abbrev pub Filled : Option (List ℕ) → Option (List ℕ) → List ℕ → Result ℕ ReadFailed → Type 0
Filled old new buf (Ok k) = Consumes old new (take k buf) × (k < length buf → IsAtEnd new)
Filled old new buf (Err e) = Consumes old new (take e.read buf)
