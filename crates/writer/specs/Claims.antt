-- What the writer promises of its definitions, each as a named type. That its code meets them is the contract of `write_file`.
use Rattle.std.specs.Prelude.{ℕ, ◌≤◌, ◌≡◌, List, ◌∷◌, ◌++◌, Bool, true, false, not, length, take, drop, if◌then◌else◌}
use Rattle.std.proofs.Math.Option.{some}
use Rattle.model.specs.Test.{every}
use Rattle.model.specs.Tables.{swaps}
use Rattle.model.specs.Update.{Update, Listed}
use Rattle.model.specs.Reply.{Side}
use Rattle.model.specs.Memory.{list_words}
use Rattle.reader.specs.Field.{Bytes, Outcome, got, no, little_endian}
use Rattle.reader.specs.Syntax.{Items, Program}
use Rattle.reader.specs.Syntax.Item.{statement, loop, guard}
use Rattle.reader.specs.Syntax.Items.{end, item}
use Rattle.reader.specs.Grammar.{read_program}
use Rattle.unroller.specs.Run.{ok}
use Rattle.unroller.specs.Allowed.{allowed}
use Rattle.unroller.specs.Decode.{decode}
use Rattle.unroller.specs.Unroll.{unrolled, unroll_leaves}
use Rattle.writer.specs.File.{version_of, file_in, file_of}
use Rattle.writer.specs.Write.{narrow_update, literals_fit, first_wide, file, refused, write_reply, write_leaves}

-- no loop and no guard
unfoldable pub straight : Items → Bool
straight end = true
straight (item (statement p a fs e) rest) = straight rest
straight (item (loop p s e step body) rest) = false
straight (item (guard p f body) rest) = false

abbrev pub straight_by : Outcome Program → Bool
straight_by (got p next) = straight p.items
straight_by (no question place) = false

-- a file that is read, and has no loop and no guard
unfoldable pub plain : List ℕ → Bool
plain bytes = straight_by (read_program bytes)

-- the field behind the mark
abbrev pub version_in : List ℕ → ℕ
version_in bytes = little_endian 2 bytes 3

-- a file without loops and guards that unrolls to the list
pub record Plainly (l : Listed) (bytes : List ℕ) : Type 0 where
  pub unrolls : unrolled bytes ≡ ok l
  pub no_loops : plain bytes ≡ true

-- Reading and unrolling the file returns the list. It is made of bytes, has no loops and guards, and the version that it should have.
pub record Back (l : Listed) : Type 0 where
  pub plainly : Plainly l (file_of l)
  pub version : version_in (file_of l) ≡ version_of l
  pub bytes : Bytes (file_of l)

abbrev pub FileReadBack : Type 0
FileReadBack = (l : Listed) → allowed l ≡ true → literals_fit l ≡ true → length (file_of l) ≤ 16384 → Back l

-- Of all files without loops and guards that unroll to the list in a version, there is no other,
abbrev pub FileOnlyIn : Type 0
FileOnlyIn = (l : Listed) (bytes : List ℕ) → Bytes bytes → Plainly l bytes → bytes ≡ file_in (version_in bytes) l

-- and so in its own version.
abbrev pub FileOnly : Type 0
FileOnly = (l : Listed) (bytes : List ℕ) → Bytes bytes → Plainly l bytes → version_in bytes ≡ version_of l → bytes ≡ file_of l

-- No file of a lower version unrolls to the list, with loops or without.
abbrev pub FileLowest : Type 0
FileLowest = (l : Listed) (bytes : List ℕ) → unrolled bytes ≡ ok l → version_of l ≤ version_in bytes

-- That version is 1 if no operator is marked, else 2.
abbrev pub FileMarked : Type 0
FileMarked = (l : Listed) → allowed l ≡ true → version_of l ≡ (if every (λ b. not (swaps b)) l.tables.operators then 1 else 2)

-- 28 and 29 have a "no" only where no file without loops and guards unrolls to the list, or none fits into the output: where one does,
-- in whichever version, a file of its length is written.
abbrev pub FileRefused : Type 0
FileRefused =
    (list : List ℕ) (n : ℕ) (l : Listed) (bytes : List ℕ) → list_words ≤ length list → decode list ≡ some l → Bytes bytes → Plainly l bytes → length bytes ≤ n
    → write_reply list n ≡ file (length bytes)

-- 28 names the first update with a literal that does not fit: so many fit before it.
pub record FirstIs (us : List Update) (place : ℕ) : Type 0 where
  pub earlier : List Update
  pub own : Update
  pub later : List Update
  pub split : us ≡ earlier ++ own ∷ later
  pub place_is : place ≡ length earlier
  pub narrow : every narrow_update earlier ≡ true
  pub wide : narrow_update own ≡ false

abbrev pub FileFirstWide : Type 0
FileFirstWide = (l : Listed) → literals_fit l ≡ false → FirstIs l.updates (first_wide l.updates)

-- A list that was written, n bytes long: these are its file, the output beyond them is as it was, they unroll to the list, and into a
-- slice as long as the list's they unroll to the same words.
pub record Sent (list out : List ℕ) (n : ℕ) : Type 0 where
  pub what : Listed
  pub is : decode list ≡ some what
  pub size : n ≡ length (file_of what)
  pub fits : n ≤ length out
  pub same_length : length (write_leaves list out) ≡ length out
  pub is_file : take n (write_leaves list out) ≡ file_of what
  pub beyond : drop n (write_leaves list out) ≡ drop n out
  pub unrolls : unrolled (take n (write_leaves list out)) ≡ ok what
  pub returns : (other : List ℕ) → length other ≡ length list → unroll_leaves (take n (write_leaves list out)) other ≡ list

abbrev pub FileReturns : Type 0
FileReturns = (list out : List ℕ) (n : ℕ) → write_reply list (length out) ≡ file n → Sent list out n

-- A refusal leaves the output as it was.
abbrev pub FileUntouched : Type 0
FileUntouched = (list out : List ℕ) (side : Side) (question place : ℕ) → write_reply list (length out) ≡ refused side question place → write_leaves list out ≡ out
