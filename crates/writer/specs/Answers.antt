-- What the answers of the functions say.
use Rattle.std.specs.Prelude.{ℕ, ◌+◌, ◌*◌, ◌≤◌, ◌<◌, ◌≡◌, List, [], ◌∷◌, ◌++◌, length, get_or, Result, Ok, Err}
use Rattle.std.proofs.lemmas.List.Edits.{sets}
use Rattle.model.specs.Reply.{left, both}
use Rattle.unroller.specs.Decode.{decode}
use Rattle.writer.specs.Records.{records_bytes, KnownAll, sized, wide, measured}
use Rattle.writer.specs.Head.{head_bytes, version_at}
use Rattle.writer.specs.Write.{Written, file, refused, answered_by, left_by}
use Rattle.unroller.specs.declared.lists.ListError.{ListError}
use Rattle.unroller.specs.declared.lists.ListError.TheVariants as list
use Rattle.writer.specs.declared.records.Size.{Size}
use Rattle.writer.specs.declared.records.WideLiteral.{WideLiteral}
use Rattle.writer.specs.declared.entry.WriteError.{WriteError}
use Rattle.writer.specs.declared.entry.WriteError.TheVariants as error

-- n records from a word on, none with code 0, and behind them no record with another code
pub record Ended (w : List ℕ) (at n : ℕ) : Type 0 where
  pub there : at + 3 * n ≤ length w
  pub codes : (k : ℕ) → k < n → get_or w (at + 3 * k) 0 ≡ 0 → ⊥
  pub behind : get_or w (at + 3 * n) 0 ≡ 0

-- Of n records from a word on, the first r were written, in so many bytes at the front of the output. Those from number `own` on belong
-- to one expression: none of them begins an update, and the record behind them does.
pub record Puts (w : List ℕ) (at n own : ℕ) (out : List ℕ) (r bytes : ℕ) (out' : List ℕ) : Type 0 where
  pub some : own ≤ r
  pub few : r ≤ n
  pub nodes : (k : ℕ) → own ≤ k → k < r → get_or w (at + 3 * k) 0 ≡ 1 → ⊥
  pub next : r < n → get_or w (at + 3 * r) 0 ≡ 1
  pub long : bytes ≡ length (records_bytes w at r)
  pub frame : out' ≡ sets out 0 (records_bytes w at r)

-- a list's records: how many there are, and that all are known
pub record Counted (w : List ℕ) : Type 0 where
  pub count : ℕ
  pub ended : Ended w 98 count
  pub known : KnownAll w 98 count

-- what measuring says of n records
abbrev pub MeasureSays : List ℕ → ℕ → Result Size WideLiteral → Type 0
MeasureSays w n (Ok e) = (e.records ≡ n) × (sized e.bytes ≡ measured w 98 n 0 0)
MeasureSays w n (Err e) = wide e.updates ≡ measured w 98 n 0 0

-- of those that the list has, however many
unfoldable pub Measures : List ℕ → Result Size WideLiteral → Type 0
Measures w r = (n : ℕ) → Ended w 98 n → MeasureSays w n r

-- the reply that each case stands for; a list alone is the left one
abbrev pub written_says : Result ℕ WriteError → Written
written_says (Ok n) = file n
written_says (Err error.Short) = refused both 25 0
written_says (Err error.Refused) = refused left 26 0
written_says (Err (error.Wide place)) = refused left 28 place
written_says (Err error.Long) = refused left 29 0

-- of a list that is refused before it is looked at
abbrev pub unlisted : ListError → WriteError
unlisted list.Short = error.Short
unlisted list.Refused = error.Refused

-- the whole file, word by word
unfoldable pub file_bytes : List ℕ → ℕ → List ℕ
file_bytes w n = head_bytes w (version_at w) ++ records_bytes w 98 n ++ 0 ∷ []

-- An accepted list: the reply to it, and what is left in the output.
pub record Writes (w out : List ℕ) (r : Result ℕ WriteError) (out' : List ℕ) : Type 0 where
  pub says : written_says r ≡ answered_by (decode w) (length out)
  pub leaves : out' ≡ left_by (decode w) (answered_by (decode w) (length out)) out
