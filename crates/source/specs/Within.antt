-- How many bytes of a slice of n were filled.
use Rattle.std.specs.Prelude.{ℕ, ◌≤◌, ◌<◌, Result, Ok, Err}
use Rattle.source.specs.declared.ReadFailed.{ReadFailed}

abbrev pub Within : ℕ → Result ℕ ReadFailed → Type 0
Within n (Ok k) = k ≤ n
Within n (Err e) = e.read < n
