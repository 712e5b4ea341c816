-- The replies of the entries: two lists in words, two programs, framed input (docs/QUESTIONS.md, and docs/FORMAT.md, "The program").
use Rattle.std.specs.Prelude.{ℕ, ◌≡◌, List, Bool, ◌&&◌, length, take, drop, leb, if◌then◌else◌}
use Rattle.std.proofs.Math.Option.{Option, none, some}
use Rattle.model.specs.Update.{Listed}
use Rattle.model.specs.Reply.{Reply, Side, refused, left, right, both, input}
use Rattle.model.specs.Memory.{list_words, cell_words, term_words, work_left}
use Rattle.reader.specs.Field.{little_endian}
use Rattle.unroller.specs.Run.{Ran, ok, stop}
use Rattle.unroller.specs.Decode.{decode}
use Rattle.unroller.specs.Unroll.{unrolled}
use Rattle.comparer.specs.Match.{out_bits, lists_reply}

-- 26 of the left, 26 of the right, then 22 to 24
abbrev pub decoded_reply : ℕ → Option Listed → Option Listed → Reply
decoded_reply mask none r = refused left 26 0
decoded_reply mask (some l) none = refused right 26 0
decoded_reply mask (some l) (some r) = lists_reply mask l r

-- Is every slice long enough? For two lists and work memory of these lengths.
abbrev pub enough : ℕ → ℕ → ℕ → ℕ → Bool
enough one other cells terms = leb list_words one && (leb list_words other && (leb cell_words cells && leb term_words terms))

-- the same, of the slices themselves
abbrev pub enough_lent : List ℕ → List ℕ → List ℕ → List ℕ → Bool
enough_lent one other cells terms = enough (length one) (length other) (length cells) (length terms)

-- a reply, after 25
abbrev pub entry_reply : Bool → Reply → Reply
entry_reply long reply = if long then reply else refused both 25 0

-- What an entry answers that is lent two lists, cells and terms, by whether all four are long enough; and what it leaves in each.
abbrev pub EntryAnswers : {A : Type 0} → A → (Bool → A) → (one other cells terms one' other' cells' terms' : List ℕ) → Type 0
EntryAnswers result says one other cells terms one' other' cells' terms' =
    let long = enough_lent one other cells terms in
    (result ≡ says long) × (one' ≡ work_left long one) × (other' ≡ work_left long other) × (cells' ≡ work_left long cells) × (terms' ≡ work_left long terms)

-- The same of an entry that reads two lists, and is lent cells and terms. What it says knows the lengths.
abbrev pub ListsAnswer : {A : Type 0} → A → A → (one other cells terms cells' terms' : List ℕ) → Type 0
ListsAnswer result says one other cells terms cells' terms' =
    let long = enough_lent one other cells terms in
    (result ≡ says) × (cells' ≡ work_left long cells) × (terms' ≡ work_left long terms)

-- two lists in words, with work memory of these lengths
unfoldable pub words_reply : ℕ → List ℕ → List ℕ → ℕ → ℕ → Reply
words_reply mask l r cells terms = entry_reply (enough (length l) (length r) cells terms) (decoded_reply mask (decode l) (decode r))

abbrev pub side_reply : Side → Ran Listed → (Listed → Reply) → Reply
side_reply side (ok l) next = next l
side_reply side (stop question place) next = refused side question place

-- 2 to 20 of the left, then of the right, then 22 to 24, under a mask that the left's list may tell
unfoldable pub programs_by : (Listed → ℕ) → List ℕ → List ℕ → Reply
programs_by mask l r = side_reply left (unrolled l) (λ x. side_reply right (unrolled r) (λ y. lists_reply (mask x) x y))

-- under this mask
abbrev pub programs_reply : ℕ → List ℕ → List ℕ → Reply
programs_reply mask = programs_by (λ x. mask)

-- all bits are set
abbrev pub all_bits : ℕ
all_bits = 65535

-- the plain entry compares the out arrays, which behind 22 are those of both sides
abbrev pub out_mask : Listed → ℕ
out_mask l = out_bits l.tables.arrays

abbrev pub plain_reply : List ℕ → List ℕ → Reply
plain_reply = programs_by out_mask

-- the two programs of a framed input: behind the left length, so many bytes, and the rest
abbrev pub left_in : List ℕ → List ℕ
left_in s = take (little_endian 2 s 0) (drop 2 s)

abbrev pub right_in : List ℕ → List ℕ
right_in s = drop (little_endian 2 s 0) (drop 2 s)

-- the bytes behind the left length, which is n
abbrev pub framed_reply : (Listed → ℕ) → ℕ → List ℕ → Reply
framed_reply mask n s =
    if leb n 16384
    then (if leb n (length s) then programs_by mask (take n s) (drop n s) else refused input 1 0)
    else refused left 2 0

-- Does the input hold the left length and, if it is at most 16,384, so many bytes? 1. Is the left at most 16,384 bytes, as stated? 2
unfoldable pub input_by : (Listed → ℕ) → List ℕ → Reply
input_by mask s = if leb 2 (length s) then framed_reply mask (little_endian 2 s 0) (drop 2 s) else refused input 1 0

-- under this mask, and as the plain entry
abbrev pub input_masked : ℕ → List ℕ → Reply
input_masked mask = input_by (λ x. mask)

abbrev pub input_reply : List ℕ → Reply
input_reply = input_by out_mask
