-- Every promise of the product about its definitions, each as a named type. README.md says where each is proved.
-- That each entry's code meets these definitions is its contract.
use Rattle.std.specs.Prelude.{ℕ, suc, ◌+◌, ◌*◌, ◌/◌, ◌%◌, ◌^◌, ◌≤◌, ◌<◌, ◌≡◌, ◌⊎◌, ◌↔◌, List, [], ◌∷◌, ◌++◌, map, Bool, true, false, not, length, get_or, take, eqb, ℤ, ◌*ℤ◌, nat_abs}
use Rattle.std.proofs.Math.Option.{some}
use Rattle.model.specs.Test.{every, total}
use Rattle.model.specs.Tables.{Array}
use Rattle.model.specs.Update.{Tree, Listed, written}
use Rattle.model.specs.Update.Tree.{cell}
use Rattle.model.specs.Reply.{Reply, equal, differs, refused, is_refused, Side, left, right, both, input}
use Rattle.reader.specs.Field.{got}
use Rattle.reader.specs.Syntax.{Form, Program}
use Rattle.reader.specs.Grammar.{read_program}
use Rattle.terms.specs.Term.{alike, term_count}
use Rattle.unroller.specs.Run.{ok, value_at, signed, fits16, indices, run_program}
use Rattle.unroller.specs.Allowed.{fits32, allowed}
use Rattle.unroller.specs.Layout.{layout}
use Rattle.unroller.specs.Decode.{decode, accepted}
use Rattle.unroller.specs.Unroll.{unrolled}
use Rattle.unroller.specs.Forms.{form_sum, wrapped_sum}
use Rattle.unroller.specs.Fits.{narrow}
use Rattle.unroller.specs.Asking as Asking
use Rattle.unroller.specs.Executed.{Origin}
use Rattle.unroller.specs.Traced.{Traced, WrittenAt}
use Rattle.comparer.specs.Meaning.{Meaning, Respects, Content, value_of, after, free, values}
use Rattle.comparer.specs.Match.{compared_size, swapping, given, lists_reply}
use Rattle.comparer.specs.Entry.{enough, entry_reply, words_reply, side_reply, programs_by, programs_reply, all_bits, out_mask, plain_reply, left_in, right_in, input_by, input_masked, input_reply}
use Rattle.comparer.specs.Explain as Explain
use Rattle.comparer.specs.Explain.{Chosen, chosen, Explanation, plain, explained, explanation, input_masked_explanation, input_explanation}
use Rattle.comparer.specs.Batch as Batch
use Rattle.comparer.specs.Batch.{Pair, pairs, most_pairs, begun, reply_of, replies, totals, batch_text}
use Rattle.comparer.specs.BatchSteps.{no_totals, turns, looked}
use Rattle.comparer.specs.Line.{line_of}
use Rattle.comparer.specs.ExplainLine.{explanation_line}
use Rattle.comparer.specs.Told.{Compared, OutElement, out_size, Shared, Agree, Earlier, Told, ToldOut}
use Rattle.comparer.specs.Order.{NewOrder, reorder}
use Rattle.comparer.specs.Rows.{Row, framed, starred, marked, MaskedRow, scratch, ExplainedRow, explained_pairs}

-- Demand 2 for lists: of two allowed lists, a reply that is no refusal says exactly what every content and every meaning
-- that respects the marks say.
abbrev pub Demand2Lists : Type 1
Demand2Lists = (mask : ℕ) (l r : Listed) → allowed l ≡ true → allowed r ≡ true → is_refused (lists_reply mask l r) ≡ false → Told mask l r (lists_reply mask l r)

-- two slices that hold lists, and a reply that is told of these lists
pub record ToldOf (Tells : Listed → Listed → Reply → Type 1) (from : List ℕ → Listed → Type 0) (one other : List ℕ) (reply : Reply) : Type 1 where
  pub l : Listed
  pub r : Listed
  pub is_left : from one l
  pub is_right : from other r
  pub told : Tells l r reply

-- Demand 2 at the list entry, for any words and slice lengths.
abbrev pub Demand2Words : Type 1
Demand2Words =
    (mask : ℕ) (one other : List ℕ) (cells terms : ℕ) → is_refused (words_reply mask one other cells terms) ≡ false
    → ToldOf (Told mask) (λ w l. decode w ≡ some l) one other (words_reply mask one other cells terms)

-- Demand 2 for programs, for any bytes.
abbrev pub Demand2Programs : Type 1
Demand2Programs =
    (mask : ℕ) (one other : List ℕ) → is_refused (programs_reply mask one other) ≡ false
    → ToldOf (Told mask) (λ p l. unrolled p ≡ ok l) one other (programs_reply mask one other)

-- Demand 2 for the plain entry, for any bytes: over the elements of the out arrays, and no others.
abbrev pub Demand2Plain : Type 1
Demand2Plain =
    (one other : List ℕ) → is_refused (plain_reply one other) ≡ false → ToldOf ToldOut (λ p l. unrolled p ≡ ok l) one other (plain_reply one other)

-- Demand 2 for standard input: whatever it holds, if it is not refused. Over the out arrays,
abbrev pub Demand2Input : Type 1
Demand2Input =
    (s : List ℕ) → is_refused (input_reply s) ≡ false → ToldOf ToldOut (λ p l. unrolled p ≡ ok l) (left_in s) (right_in s) (input_reply s)

-- and under a mask.
abbrev pub Demand2Masked : Type 1
Demand2Masked =
    (mask : ℕ) (s : List ℕ) → is_refused (input_masked mask s) ≡ false
    → ToldOf (Told mask) (λ p l. unrolled p ≡ ok l) (left_in s) (right_in s) (input_masked mask s)

-- The plain entry replies as the masked one does under the bits of the out arrays.
abbrev pub PlainMasked : Type 0
PlainMasked = (one other : List ℕ) (l : Listed) → unrolled one ≡ ok l → plain_reply one other ≡ programs_reply (out_mask l) one other

-- A program without inout arrays gets the reply that all bits give.
abbrev pub PlainWithoutInout : Type 0
PlainWithoutInout =
    (one other : List ℕ) (l : Listed) → unrolled one ≡ ok l → every (λ (x : Array). not (eqb x.role 2)) l.tables.arrays ≡ true
    → plain_reply one other ≡ programs_reply all_bits one other

-- What is compared decides no refusal: the plain entry and every mask refuse the same pairs, at the same place.
abbrev pub RefusedAlike : Type 0
RefusedAlike =
    (mask : ℕ) (one other : List ℕ) (s : Side) (k p : ℕ) → (plain_reply one other ≡ refused s k p) ↔ (programs_reply mask one other ≡ refused s k p)

-- The first difference stays the first where its array alone is compared, so a mask of one bit explains it.
abbrev pub OneBit : Type 0
OneBit =
    (one other : List ℕ) (a e : ℕ) → ((mask : ℕ) → programs_reply mask one other ≡ differs a e → programs_reply (2 ^ a) one other ≡ differs a e)
    × (plain_reply one other ≡ differs a e → programs_reply (2 ^ a) one other ≡ differs a e)

-- What a new order keeps: accepted, as long; for every meaning, and two contents that are the same on in and inout arrays, the same
-- value in each cell that is written or in which the contents are the same; the same reply beside any third slice, on either side,
-- under any mask, with work memory of any lengths.
pub record Kept (old new : List ℕ) (l k : Listed) : Type 1 where
  pub accepts : decode new ≡ some k
  pub size : length new ≡ length old
  pub leaves : (S : Type 0) (m : Meaning S) (h g : Content S) → Shared l h g → (a c : ℕ)
      → (written l.updates a c ≡ false → h a c ≡ g a c) → after m k.updates h a c ≡ after m l.updates g a c
  pub on_left : (mask : ℕ) (third : List ℕ) (cells terms : ℕ) → words_reply mask new third cells terms ≡ words_reply mask old third cells terms
  pub on_right : (mask : ℕ) (third : List ℕ) (cells terms : ℕ) → words_reply mask third new cells terms ≡ words_reply mask third old cells terms

-- Demand 3, whole: for words that are accepted, and every new order of their updates that keeps conflicting updates in order.
abbrev pub Demand3 : Type 1
Demand3 =
    (old : List ℕ) (l : Listed) → decode old ≡ some l → (order : List ℕ) → NewOrder l.updates order
    → Kept old (layout (reorder l order) (length old)) l (reorder l order)

-- An allowed list is read back from its layout.
abbrev pub LayoutRead : Type 0
LayoutRead = (l : Listed) (n : ℕ) → allowed l ≡ true → decode (layout l n) ≡ some l

-- Words that are read lie as the layout says, and the list is allowed.
abbrev pub LayoutOnly : Type 0
LayoutOnly = (w : List ℕ) (l : Listed) → decode w ≡ some l → (w ≡ layout l (length w)) × (allowed l ≡ true)

-- No two lists give the same memory.
abbrev pub LayoutInjective : Type 0
LayoutInjective = (l m : Listed) (n k : ℕ) → allowed l ≡ true → allowed m ≡ true → layout l n ≡ layout m k → l ≡ m

-- Each list fits in every slice that is long enough for 25.
abbrev pub LayoutFits : Type 0
LayoutFits = (l : Listed) (n : ℕ) → allowed l ≡ true → 30818 ≤ n → length (layout l n) ≡ n

-- Question 26 as docs/QUESTIONS.md asks it: yes for what the layout gives for some allowed list, and for nothing else.
abbrev pub Question26 : Type 0
Question26 = (w : List ℕ) → (accepted w ≡ true) ↔ ((l : Listed) × (allowed l ≡ true) × (w ≡ layout l (length w)))

-- Every list that a program unrolls to is allowed, so its layout is accepted.
abbrev pub UnrolledAllowed : Type 0
UnrolledAllowed = (bytes : List ℕ) (l : Listed) → ((i : ℕ) → get_or bytes i 0 < 256) → unrolled bytes ≡ ok l → allowed l ≡ true

-- Each index value of a loop whose start and end passed 15 lies in 16 signed bits, whatever the step.
abbrev pub IndicesFit : Type 0
IndicesFit = (most : ℕ) (step first last : ℤ) → fits16 first ≡ true → fits16 last ≡ true → every fits16 (indices most step last first) ≡ true

-- A form that a file can hold, at such index values, is at most 32,768 + 8 times 128 times 32,768 in size,
abbrev pub FormsSmall : Type 0
FormsSmall = (f : Form) (is : List ℤ) → narrow f ≡ true → every (signed 32767) is ≡ true → nat_abs (value_at f is) ≤ 33587200

-- and so in 32 signed bits.
abbrev pub FormsFit : Type 0
FormsFit = (f : Form) (is : List ℤ) → narrow f ≡ true → every fits16 is ≡ true → fits32 (value_at f is) ≡ true

-- For every constant, all coefficients and all index values, whatever a run meets: no product is larger than that bound in size,
abbrev pub ProductsSmall : Type 0
ProductsSmall = (c i : ℤ) → signed 127 c ≡ true → signed 32767 i ≡ true → nat_abs (c *ℤ i) ≤ 33587200

-- and no partial sum, in the order in which the code adds them (`form_sum`): the constant, then a product for each loop, outermost first;
abbrev pub SumsSmall : Type 0
SumsSmall =
    (z : ℤ) (cs is : List ℤ) (k : ℕ) → signed 32767 z ≡ true → every (signed 127) cs ≡ true → every (signed 32767) is ≡ true → k ≤ 8
    → nat_abs (form_sum z cs is k) ≤ 33587200

-- so 32 signed bits are enough: where only these are kept of each product and each sum (`wrapped_sum`), eight products give the form's
-- value.
abbrev pub SumsExact : Type 0
SumsExact =
    (f : Form) (is : List ℤ) → narrow f ≡ true → every fits16 is ≡ true → wrapped_sum f.constant f.coefficients is 8 ≡ value_at f is

-- Question 21 is retired. For every file that was read, the run that asks it as each form is worked out (`Asking`) has the outcome of
-- the run that does not,
abbrev pub Question21 : Type 0
Question21 = (bytes : List ℕ) (p : Program) (next : ℕ) → read_program bytes ≡ got p next → Asking.run_program p ≡ run_program p

-- and every reply to two programs is what it was.
abbrev pub RepliesWithout21 : Type 0
RepliesWithout21 =
    (mask : Listed → ℕ) (one other : List ℕ)
    → side_reply left (Asking.unrolled one) (λ x. side_reply right (Asking.unrolled other) (λ y. lists_reply (mask x) x y)) ≡ programs_by mask one other

-- No input is answered otherwise for being cut behind byte 32,771, which is what the programs read, behind a mask or without one.
abbrev pub InputCut : Type 0
InputCut = (s : List ℕ) → (input_reply (take 32771 s) ≡ input_reply s) × ((mask : ℕ) → input_masked mask (take 32771 s) ≡ input_masked mask s)

-- For readers: an "equal" to framed input means that the two programs in it run, and leave the same value in each element of an
-- out array for every starting content and every meaning that respects the marks, with no other hypothesis.
pub record SameValues (one other : List ℕ) (n : ℕ) : Type 1 where
  pub l : Listed
  pub r : Listed
  pub is_left : unrolled one ≡ ok l
  pub is_right : unrolled other ≡ ok r
  pub count : n ≡ out_size l.tables.arrays
  pub agree : (a e : ℕ) → OutElement l a e → Agree l r a e

abbrev pub EqualInput : Type 1
EqualInput = (s : List ℕ) (n : ℕ) → input_reply s ≡ equal n → SameValues (left_in s) (right_in s) n

-- framed input of each row has the row's line
abbrev pub Printed : List Row → Type 0
Printed rows = (any : List ℕ) → map (λ (x : Row). line_of (input_reply (framed x.one (x.other any)))) rows ≡ map (λ (x : Row). x.line) rows

-- The ten starred rows, each with its line as docs/FORMAT.md prints it, for any right-hand bytes where that page says "any".
abbrev pub StarredRows : Type 0
StarredRows = Printed starred

-- The rows of program M, whose operator is marked, the same way.
abbrev pub MarkedRows : Type 0
MarkedRows = Printed marked

-- Pairs with in, out, inout and local arrays: framed input of each has the row's first line, and its second one under the row's mask.
abbrev pub ScratchRows : Type 0
ScratchRows =
    map (λ (x : MaskedRow). line_of (input_reply (framed x.one x.other)) ++ line_of (input_masked x.mask (framed x.one x.other))) scratch
    ≡ map (λ (x : MaskedRow). x.lines) scratch

-- The meaning of a term is the meaning of its expression: a value in the free meaning stands for all meanings.
abbrev pub FreeStandsForAll : Type 1
FreeStandsForAll =
    (S : Type 0) (m : Meaning S) (h : Content S) (t : Tree) (σ : Content Tree)
    → value_of m (value_of free t σ) h ≡ value_of m t (λ a c. value_of m (σ a c) h)

-- Terms are alike exactly where every content, and every meaning that respects the marks, give them the same value.
abbrev pub AlikeExactly : Type 1
AlikeExactly =
    (swaps : ℕ → Bool) (t u : Tree)
    → (alike swaps t u ≡ true) ↔ ((S : Type 0) (m : Meaning S) → Respects swaps m → (h : Content S) → value_of m t h ≡ value_of m u h)

-- the number of terms that the list writes, with their parts, those that are alike counted once
abbrev pub own_terms : Listed → ℕ
own_terms l = term_count (swapping l) (values l.updates cell)

-- every compared out element is written
abbrev pub AllGiven : ℕ → Listed → Type 0
AllGiven mask l = (a e : ℕ) → Compared mask l a e → given l a e ≡ true

-- the first compared out element that is not written
pub record FirstMissing (mask : ℕ) (l : Listed) (a e : ℕ) : Type 0 where
  pub here : Compared mask l a e
  pub missing : given l a e ≡ false
  pub before : (b d : ℕ) → Compared mask l b d → Earlier b d a e → given l b d ≡ true

-- A reply to a list beside a new order of itself: 24 exactly if the list has too many terms; if not, "equal" exactly if every
-- compared out element is written, else "differs" at the first that is not.
pub record Beside (mask : ℕ) (l : Listed) (reply : Reply) : Type 0 where
  pub many : (reply ≡ refused both 24 0) ↔ (4096 < own_terms l)
  pub whole : (n : ℕ) → (reply ≡ equal n) ↔ ((own_terms l ≤ 4096) × (n ≡ compared_size mask 0 l.tables.arrays) × AllGiven mask l)
  pub part : (a e : ℕ) → (reply ≡ differs a e) ↔ ((own_terms l ≤ 4096) × FirstMissing mask l a e)

-- A list beside a new order of itself, on either side; the old order is one of them.
abbrev pub BesideItself : Type 0
BesideItself =
    (mask : ℕ) (l : Listed) (order : List ℕ) → NewOrder l.updates order
    → Beside mask l (lists_reply mask l (reorder l order)) × Beside mask l (lists_reply mask (reorder l order) l)

-- The same at the list entry, for words that are accepted, in slices that are long enough.
abbrev pub BesideItselfWords : Type 0
BesideItselfWords =
    (old : List ℕ) (l : Listed) → decode old ≡ some l → (order : List ℕ) → NewOrder l.updates order
    → (mask cells terms : ℕ) → enough (length old) (length old) cells terms ≡ true
    → Beside mask l (words_reply mask old (layout (reorder l order) (length old)) cells terms)
    × Beside mask l (words_reply mask (layout (reorder l order) (length old)) old cells terms)

-- The traced run's updates are the run's: of a program that unrolls, one executed statement for each update, in order.
abbrev pub TracedUpdates : Type 0
TracedUpdates = (s : List ℕ) (l : Listed) → unrolled s ≡ ok l → Traced s l

-- "Written": both sides differ at this element, the chosen side unrolls, and what is handed over is the element's origin there. It is
-- that of the last update that writes the element, and its stretch is that update's statement (`WrittenAt`).
pub record WrittenIs (mask : ℕ) (side : Chosen) (one other : List ℕ) (a e : ℕ) (x : Explanation) : Type 0 where
  pub differ : programs_reply mask one other ≡ Reply.differs a e
  pub list : Listed
  pub unrolls : unrolled (chosen side one other) ≡ ok list
  pub origin : Origin
  pub handed : x ≡ explained a e (some origin)
  pub holds : WrittenAt (chosen side one other) list a e origin

abbrev pub WrittenExplained : Type 0
WrittenExplained =
    (long : Bool) (mask : ℕ) (side : Chosen) (one other : List ℕ) (a e : ℕ) → (explanation long mask side one other).answer ≡ Explain.written a e
    → WrittenIs mask side one other a e (explanation long mask side one other)

-- "Starting content": both sides differ at this element, and no update of the chosen side writes it.
pub record StartingIs (mask : ℕ) (side : Chosen) (one other : List ℕ) (a e : ℕ) (x : Explanation) : Type 0 where
  pub differ : programs_reply mask one other ≡ Reply.differs a e
  pub list : Listed
  pub unrolls : unrolled (chosen side one other) ≡ ok list
  pub never : written list.updates a e ≡ false
  pub handed : x ≡ plain (Explain.starting a e)

abbrev pub StartingExplained : Type 0
StartingExplained =
    (long : Bool) (mask : ℕ) (side : Chosen) (one other : List ℕ) (a e : ℕ) → (explanation long mask side one other).answer ≡ Explain.starting a e
    → StartingIs mask side one other a e (explanation long mask side one other)

-- And there it is the answer, in slices that are long enough: where both sides differ at an element that no update of the chosen side
-- writes.
abbrev pub UnwrittenExplained : Type 0
UnwrittenExplained =
    (mask : ℕ) (side : Chosen) (one other : List ℕ) (a e : ℕ) (l : Listed) → programs_reply mask one other ≡ differs a e → unrolled (chosen side one other) ≡ ok l
    → written l.updates a e ≡ false → explanation true mask side one other ≡ plain (Explain.starting a e)

-- A refusal is the comparison's, or 27 where that says "equal"; it hands over nothing.
abbrev pub RefusedExplained : Type 0
RefusedExplained =
    (long : Bool) (mask : ℕ) (side : Chosen) (one other : List ℕ) (s : Side) (k p : ℕ) → (explanation long mask side one other).answer ≡ Explain.refused s k p
    → (explanation long mask side one other ≡ plain (Explain.refused s k p))
    × ((entry_reply long (programs_reply mask one other) ≡ Reply.refused s k p)
    ⊎ ((n : ℕ) × (entry_reply long (programs_reply mask one other) ≡ equal n) × (s ≡ both) × (k ≡ 27) × (p ≡ 0)))

-- Of framed input that is not refused, the explanation is that of its two programs: of what the plain entry finds, under the bits of the
-- out arrays,
abbrev pub InputExplained : Type 0
InputExplained =
    (long : Bool) (side : Chosen) (s : List ℕ) (l : Listed) → unrolled (left_in s) ≡ ok l → is_refused (input_reply s) ≡ false
    → input_explanation long side s ≡ explanation long (out_mask l) side (left_in s) (right_in s)

-- and under a mask.
abbrev pub MaskedExplained : Type 0
MaskedExplained =
    (long : Bool) (mask : ℕ) (side : Chosen) (s : List ℕ) → is_refused (input_masked mask s) ≡ false
    → input_masked_explanation long mask side s ≡ explanation long mask side (left_in s) (right_in s)

-- No input is explained otherwise for being cut behind byte 32,771, which is what the programs read, behind a mask or without one.
abbrev pub ExplainedCut : Type 0
ExplainedCut =
    (long : Bool) (side : Chosen) (s : List ℕ)
    → (input_explanation long side (take 32771 s) ≡ input_explanation long side s)
    × ((mask : ℕ) → input_masked_explanation long mask side (take 32771 s) ≡ input_masked_explanation long mask side s)

-- Known pairs explained, each with its line as docs/FORMAT.md prints it.
abbrev pub ExplainedRows : Type 0
ExplainedRows = map (λ (x : ExplainedRow). explanation_line (explanation true all_bits x.side x.one x.other)) explained_pairs ≡ map (λ (x : ExplainedRow). x.line) explained_pairs

-- Many pairs. The counts that "equal" replies give:
abbrev pub equal_counts : List Reply → List ℕ
equal_counts [] = []
equal_counts (equal n ∷ more) = n ∷ equal_counts more
equal_counts (differs a e ∷ more) = equal_counts more
equal_counts (refused s k p ∷ more) = equal_counts more

-- E + D + R is N, the number of replies, and no more than 65,535; of the counts that "equal" replies give, E is the number and C the sum.
pub record Summed (s : List ℕ) : Type 0 where
  pub kinds : (totals s).equal + (totals s).differs + (totals s).refused ≡ (totals s).pairs
  pub number : (totals s).pairs ≡ length (replies s)
  pub most : (totals s).pairs ≤ 65535
  pub equals : (totals s).equal ≡ length (equal_counts (replies s))
  pub sum : (totals s).elements ≡ total (λ n. n) (equal_counts (replies s))

abbrev pub BatchSummed : Type 0
BatchSummed = (s : List ℕ) → Summed s

-- The steps, taken over an input, are the definition: the program's turns print the lines of the replies and that of the totals.
abbrev pub BatchSteps : Type 0
BatchSteps = (s : List ℕ) → turns most_pairs no_totals s ≡ batch_text s

-- two programs as an input of many pairs holds them
abbrev pub framed_pair : List ℕ → List ℕ → List ℕ
framed_pair l r = (length l % 256) ∷ (length l / 256) ∷ (length r % 256) ∷ (length r / 256) ∷ (l ++ r)

-- A pair that stands whole at the start is the first one, and the others are those of what follows it.
abbrev pub BatchFirst : Type 0
BatchFirst = (n : ℕ) (l r rest : List ℕ) → length l ≤ 16384 → length r ≤ 16384 → pairs (suc n) (framed_pair l r ++ rest) ≡ Batch.whole l r ∷ pairs n rest

-- A pair that is refused by its lengths, or whose bytes are cut, is the last.
abbrev pub BatchLast : Type 0
BatchLast = (s : List ℕ) (earlier later : List Pair) (side : Side) (number : ℕ) → begun s ≡ earlier ++ Batch.broken side number ∷ later → later ≡ []

-- What stands behind the bytes that the turns look at changes no pair,
abbrev pub BatchCut : Type 0
BatchCut = (s : List ℕ) (n : ℕ) → looked most_pairs s ≤ n → begun (take n s) ≡ begun s

-- and these are at most so many.
abbrev pub BatchBound : Type 0
BatchBound = (s : List ℕ) → looked most_pairs s ≤ 65535 * 32772

-- Demand 2 for many pairs: whatever the input holds, each reply that is no refusal is told of two programs in it.
pub record ToldPair (p : Pair) : Type 1 where
  pub one : List ℕ
  pub other : List ℕ
  pub is_pair : p ≡ Batch.whole one other
  pub told : ToldOf (Told all_bits) (λ q l. unrolled q ≡ ok l) one other (reply_of p)

abbrev pub Demand2Batch : Type 1
Demand2Batch = (s : List ℕ) (earlier later : List Pair) (p : Pair) → begun s ≡ earlier ++ p ∷ later → is_refused (reply_of p) ≡ false → ToldPair p

-- The numbers that a refusal of programs can have: 2 to 20 of one side, 22 to 24 of both, 1 of the input, at place 0.
abbrev pub Numbered : Reply → Type 0
Numbered (equal n) = Unit {0}
Numbered (differs a e) = Unit {0}
Numbered (refused left k p) = (2 ≤ k) × (k ≤ 20)
Numbered (refused right k p) = (2 ≤ k) × (k ≤ 20)
Numbered (refused both k p) = (22 ≤ k) × (k ≤ 24)
Numbered (refused input k p) = (k ≡ 1) × (p ≡ 0)

-- No reply to two programs has another, whatever is compared: never 21, 25 or 26.
abbrev pub ProgramNumbers : Type 0
ProgramNumbers = (mask : Listed → ℕ) (one other : List ℕ) → Numbered (programs_by mask one other)

-- The same of framed input,
abbrev pub InputNumbers : Type 0
InputNumbers = (mask : Listed → ℕ) (s : List ℕ) → Numbered (input_by mask s)

-- and of each of many pairs.
abbrev pub BatchNumbers : Type 0
BatchNumbers = (s : List ℕ) (earlier later : List Pair) (p : Pair) → begun s ≡ earlier ++ p ∷ later → Numbered (reply_of p)
