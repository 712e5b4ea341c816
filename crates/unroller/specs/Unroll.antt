-- The unroller and the check of a list: their replies, and what they leave in the lent list.
use Rattle.std.specs.Prelude.{ℕ, List, length, replicate, leb, if◌then◌else◌}
use Rattle.model.specs.Tables.{Tables}
use Rattle.model.specs.Update.{Listed}
use Rattle.model.specs.Reply.{Side, left, both}
use Rattle.model.specs.Memory.{list_words}
use Rattle.reader.specs.Field.{Outcome, got, no}
use Rattle.reader.specs.Syntax.{Program}
use Rattle.reader.specs.Grammar.{read_program}
use Rattle.unroller.specs.Run.{Ran, ok, stop, Done, run_program}
use Rattle.unroller.specs.Layout.{layout}
use Rattle.unroller.specs.Decode.{accepted}

abbrev pub listed_by : Tables → Ran Done → Ran Listed
listed_by t (ok d) = ok (record { tables = t; updates = d.updates })
listed_by t (stop question place) = stop question place

-- running begins only when the whole file has been read without a "no"
abbrev pub unrolled_by : Outcome Program → Ran Listed
unrolled_by (got p next) = listed_by p.tables (run_program p)
unrolled_by (no question place) = stop question place

-- the update list of a program, or a number of 2 to 20 with its place
unfoldable pub unrolled : List ℕ → Ran Listed
unrolled bytes = unrolled_by (read_program bytes)

-- a program alone is the left one
pub data Unrolled : Type 0 where
  updates : ℕ → Unrolled
  refused : Side → ℕ → ℕ → Unrolled

abbrev pub unroll_reply_by : Ran Listed → Unrolled
unroll_reply_by (ok l) = updates (length l.updates)
unroll_reply_by (stop question place) = refused left question place

-- the reply to a program, for a lent list of n words
unfoldable pub unroll_reply : List ℕ → ℕ → Unrolled
unroll_reply bytes n = if leb list_words n then unroll_reply_by (unrolled bytes) else refused both 25 0

abbrev pub words_of : Ran Listed → ℕ → List ℕ
words_of (ok l) n = layout l n
words_of (stop question place) n = replicate n 0

-- what stays in the lent list: the layout with zeros after it; zeros on a refusal; what it held under 25
unfoldable pub unroll_leaves : List ℕ → List ℕ → List ℕ
unroll_leaves bytes list = if leb list_words (length list) then words_of (unrolled bytes) (length list) else list

pub data Checked : Type 0 where
  accepts : Checked
  refuses : Side → ℕ → ℕ → Checked

-- 25, then 26; a list alone is the left one
unfoldable pub check_reply : List ℕ → Checked
check_reply list = if leb list_words (length list) then (if accepted list then accepts else refuses left 26 0) else refuses both 25 0
