-- Where an element of one program was written last: the reply, and what the code's answer says.
use Rattle.std.specs.Prelude.{ℕ, ◌≡◌, List, [], length, leb, ℤ, pos, if◌then◌else◌, Result, Ok, Err, Option as Maybe, Some, None}
use Rattle.std.proofs.Math.Option.{Option, none, some}
use Rattle.model.specs.Questions.{number_of}
use Rattle.model.specs.Update.{Listed}
use Rattle.model.specs.Reply.{Side, left, both}
use Rattle.model.specs.Memory.{list_words}
use Rattle.reader.specs.Entries.{padded}
use Rattle.unroller.specs.Run.{Ran, ok, stop}
use Rattle.unroller.specs.Unroll.{unrolled}
use Rattle.unroller.specs.Executed.{Origin, origin_of}
use Rattle.unroller.specs.declared.entry.UnrollError.{UnrollError}
use Rattle.unroller.specs.declared.entry.UnrollError.TheVariants.{Refused, Short}
use Rattle.unroller.specs.declared.origins.Writer.{Writer}

-- what is known of an element: an update wrote it; none did; side, question's number and place
pub data Known : Type 0 where
  written : Known
  starting : Known
  refused : Side → ℕ → ℕ → Known

-- The reply: an origin's index values stand in eight places, zeros behind them.
pub record Told : Type 0 where
  pub known : Known
  pub from : ℕ
  pub to : ℕ
  pub count : ℕ
  pub indices : List ℤ

-- an empty stretch and no index values
abbrev pub unwritten : Known → Told
unwritten k = record { known = k; from = 0; to = 0; count = 0; indices = padded 8 (pos 0) [] }

abbrev pub told : Option Origin → Told
told none = unwritten starting
told (some o) = record { known = written; from = o.from; to = o.to; count = length o.values; indices = padded 8 (pos 0) o.values }

-- a program alone is the left one
abbrev pub told_of : Ran Listed → Option Origin → Told
told_of (ok l) o = told o
told_of (stop question place) o = unwritten (refused left question place)

-- 25, then 2 to 20; a and e: the element; n: the words of the lent list
unfoldable pub origin_reply : List ℕ → ℕ → ℕ → ℕ → Told
origin_reply s a e n = if leb list_words n then told_of (unrolled s) (origin_of s a e) else unwritten (refused both 25 0)

-- what each case of the code's answer says
abbrev pub writer_says : Maybe Writer → Told
writer_says None = unwritten starting
writer_says (Some w) = record { known = written; from = w.from; to = w.to; count = w.count; indices = w.indices }

abbrev pub origin_says : Result (Maybe Writer) UnrollError → Told
origin_says (Ok w) = writer_says w
origin_says (Err (Refused e)) = unwritten (refused left (number_of e.question) e.place)
origin_says (Err Short) = unwritten (refused both 25 0)

-- of an element of a program that unrolls
unfoldable pub Found : List ℕ → ℕ → ℕ → Maybe Writer → Type 0
Found s a e w = (l : Listed) → unrolled s ≡ ok l → writer_says w ≡ told (origin_of s a e)
