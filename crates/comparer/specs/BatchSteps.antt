-- A run over many pairs, step by step: what one call answers, and what the program prints that makes the calls in turn.
use Rattle.std.specs.Prelude.{ℕ, zero, suc, ◌+◌, min, List, ◌++◌, Bool, true, false, length, take, drop, leb, Result, Ok, Err, Option, Some, None}
use Rattle.model.specs.Reply.{Reply}
use Rattle.comparer.specs.Line.{line_of}
use Rattle.comparer.specs.Answers.{side_says}
use Rattle.comparer.specs.Batch as batch
use Rattle.comparer.specs.Batch.{lengths_of, ended, last, sizes, broken, body_of, reply_of, one_equal, one_differs, one_refused, elements_of, totals_line}
use Rattle.comparer.specs.declared.batch.LengthsError.{LengthsError}
use Rattle.comparer.specs.declared.batch.Totals.{Totals}

-- what the code's lengths say, case by case
abbrev pub lengths_says : Result (Option (ℕ × ℕ)) LengthsError → batch.Lengths
lengths_says (Ok None) = ended
lengths_says (Ok (Some lengths)) = sizes lengths.0 lengths.1
lengths_says (Err e) = last (side_says e.side) e.number

-- Do n bytes behind the lengths l and r hold the pair? If not, it is the last.
abbrev pub is_whole : ℕ → ℕ → ℕ → Bool
is_whole n l r = leb (l + r) n

-- the reply to the bytes behind the lengths l and r
abbrev pub body_reply : ℕ → ℕ → List ℕ → Reply
body_reply l r s = reply_of (body_of l r s)

-- up to 2^64 - 1
abbrev pub capped : ℕ → ℕ
capped n = min n 18446744073709551615

abbrev pub no_totals : Totals
no_totals = record { pairs = 0; equal = 0; differs = 0; refused = 0; elements = 0 }

-- the totals with one more reply
abbrev pub counted : Totals → Reply → Totals
counted t x = record {
  pairs = capped (t.pairs + 1);
  equal = capped (t.equal + one_equal x);
  differs = capped (t.differs + one_differs x);
  refused = capped (t.refused + one_refused x);
  elements = capped (t.elements + elements_of x);
}

-- the line of a reply, then the next turn if the pair is whole, else the last line
abbrev pub answered : Bool → Reply → Totals → (Totals → List ℕ) → List ℕ
answered true reply t more = line_of reply ++ more (counted t reply)
answered false reply t more = line_of reply ++ totals_line (counted t reply)

-- One turn, behind the bytes of the lengths: as many bytes are taken as these say, or all that are left. `more` is the next turn.
abbrev pub turn : batch.Lengths → Totals → List ℕ → (Totals → List ℕ → List ℕ) → List ℕ
turn ended t s more = totals_line t
turn (last side number) t s more = answered false (reply_of (broken side number)) t totals_line
turn (sizes l r) t s more =
    let body = take (l + r) s in
    answered (is_whole (length body) l r) (body_reply l r body) t (λ next. more next (drop (l + r) s))

-- n turns at most, each of which takes four bytes first
unfoldable pub turns : ℕ → Totals → List ℕ → List ℕ
turns zero t s = totals_line t
turns (suc n) t s = turn (lengths_of (take 4 s)) t (drop 4 s) (turns n)

-- how many bytes n turns look at
abbrev pub looked_by : batch.Lengths → (List ℕ → ℕ) → List ℕ → ℕ
looked_by ended more s = 0
looked_by (last side number) more s = 0
looked_by (sizes l r) more s = elim (leb (l + r) (length s)) [ true ↦ l + r + more (drop (l + r) s) | false ↦ l + r ]

unfoldable pub looked : ℕ → List ℕ → ℕ
looked zero s = 0
looked (suc n) s = 4 + looked_by (lengths_of s) (looked n) (drop 4 s)
