-- The known rows and the explained ones, computed; and examples that a wrong definition would fail.
use Prim.Native.Nat.{ℕ}
use mathlib.Core.Path.{◌≡◌, refl, ap, ap₂, ◌∙◌}
use mathlib.Core.List.{List, [], ◌∷◌, ◌++◌, map}
use mathlib.Core.Bool.{Bool, true, and-eq-true_iff}
use lib.ListN.{length}
use lib.Dec.{leb}
use borrow.Author.Tests.{leb-true}
use Rattle.model.specs.Test.{every}
use Rattle.model.specs.Tables.{swaps, operator_in, arity_of, swaps_at}
use Rattle.model.specs.Update.{Tree, Update, Listed}
use Rattle.model.specs.Update.Tree.{cell, operator}
use Rattle.model.specs.Update.Trees.{nil, cons}
use Rattle.model.specs.Reply.{equal, differs, refused, both}
use Rattle.reader.specs.Field.{field, byte, u16, u32, i8, i16, times}
use Rattle.reader.specs.Syntax.{count, counts}
use Rattle.reader.specs.Grammar as Grammar
use Rattle.unroller.specs.Run as Run
use Rattle.unroller.specs.Run.{run_program}
use Rattle.unroller.specs.Unroll.{unrolled}
use Rattle.unroller.specs.Executed.{executed, executeds, execution, writes_to, end_of, origin_of}
use Rattle.terms.specs.Term.{turned, alike, alikes, parts, parts_of, term_count}
use Rattle.comparer.specs.Meaning.{value_of, values_of}
use Rattle.comparer.specs.Match.{out_bits, lists_reply}
use Rattle.comparer.specs.Entry.{programs_by, programs_reply, all_bits, out_mask, plain_reply, input_by}
use Rattle.comparer.specs.Explain.{explanation}
use Rattle.comparer.specs.Line.{line_of}
use Rattle.comparer.specs.ExplainLine.{explanation_line}
use Rattle.comparer.specs.Rows.{Row, framed, starred, marked, MaskedRow, scratch}
use Rattle.comparer.specs.Claims.{Printed, StarredRows, MarkedRows, ScratchRows, ExplainedRows}
use Rattle.comparer.proofs.Input.{framed_programs}

starred_programs : (any : List ℕ) → map (λ (x : Row). line_of (plain_reply x.one (x.other any))) starred ≡ map (λ (x : Row). x.line) starred
unfolding field byte u16 u32 i8 i16 times Grammar.head swaps operator_in arity_of Grammar.operator_of Grammar.operators Grammar.extent Grammar.array Grammar.arrays Grammar.tables Grammar.form Grammar.subscripts Grammar.index Grammar.read_of Grammar.literal_of Grammar.constant_of Grammar.apply_of Grammar.node Grammar.applied Grammar.expression Grammar.statement_of Grammar.step Grammar.loop_of Grammar.guard_of Grammar.items Grammar.item_of Grammar.nested Grammar.body Grammar.program Grammar.read_program Run.cell_from Run.cell_at Run.tree Run.trees count counts Run.readable Run.readables Run.update Run.indices Run.rounds Run.run Run.runs run_program unrolled turned alike alikes parts parts_of term_count value_of values_of out_bits lists_reply programs_by line_of
starred_programs any = refl

marked_programs : (any : List ℕ) → map (λ (x : Row). line_of (plain_reply x.one (x.other any))) marked ≡ map (λ (x : Row). x.line) marked
unfolding field byte u16 u32 i8 i16 times Grammar.head swaps operator_in arity_of Grammar.operator_of Grammar.operators Grammar.extent Grammar.array Grammar.arrays Grammar.tables Grammar.form Grammar.subscripts Grammar.index Grammar.read_of Grammar.literal_of Grammar.constant_of Grammar.apply_of Grammar.node Grammar.applied Grammar.expression Grammar.statement_of Grammar.step Grammar.loop_of Grammar.guard_of Grammar.items Grammar.item_of Grammar.nested Grammar.body Grammar.program Grammar.read_program Run.cell_from Run.cell_at Run.tree Run.trees count counts Run.readable Run.readables Run.update Run.indices Run.rounds Run.run Run.runs run_program unrolled turned alike alikes swaps_at parts parts_of term_count value_of values_of out_bits lists_reply programs_by line_of
marked_programs any = refl

scratch_programs :
    map (λ (x : MaskedRow). line_of (plain_reply x.one x.other) ++ line_of (programs_reply x.mask x.one x.other)) scratch ≡ map (λ (x : MaskedRow). x.lines) scratch
unfolding field byte u16 u32 i8 i16 times Grammar.head swaps operator_in arity_of Grammar.operator_of Grammar.operators Grammar.extent Grammar.array Grammar.arrays Grammar.tables Grammar.form Grammar.subscripts Grammar.index Grammar.read_of Grammar.literal_of Grammar.constant_of Grammar.apply_of Grammar.node Grammar.applied Grammar.expression Grammar.statement_of Grammar.step Grammar.loop_of Grammar.guard_of Grammar.items Grammar.item_of Grammar.nested Grammar.body Grammar.program Grammar.read_program Run.cell_from Run.cell_at Run.tree Run.trees count counts Run.readable Run.readables Run.update Run.indices Run.rounds Run.run Run.runs run_program unrolled turned alike alikes swaps_at parts parts_of term_count value_of values_of out_bits lists_reply programs_by line_of
scratch_programs = refl

-- a frame around a left side within its limit
within_limit : List ℕ → Bool
within_limit l = leb (length l) 16384

framed_is : (mask : Listed → ℕ) (l r : List ℕ) → within_limit l ≡ true → line_of (input_by mask (framed l r)) ≡ line_of (programs_by mask l r)
unfolding within_limit
framed_is mask l r e = ap line_of (framed_programs mask l r (leb-true (length l) 16384 e))

map_same : {A B : Type 0} (f g : A → B) (p : A → Bool) (xs : List A) → every p xs ≡ true → ((x : A) → p x ≡ true → f x ≡ g x) → map f xs ≡ map g xs
map_same f g p [] e h = refl
map_same {B = B} f g p (x ∷ xs) e h =
    let q = (and-eq-true_iff (p x) (every p xs)).0 e in
    ap₂ {C = List B} ◌∷◌ (h x q.0) (map_same f g p xs q.1 h)

-- enough for a row whose left side is within its limit
printed : (rows : List Row) → every (λ (x : Row). within_limit x.one) rows ≡ true
    → ((any : List ℕ) → map (λ (x : Row). line_of (plain_reply x.one (x.other any))) rows ≡ map (λ (x : Row). x.line) rows) → Printed rows
printed rows e f any = map_same _ _ (λ (x : Row). within_limit x.one) rows e (λ x p. framed_is out_mask x.one (x.other any) p) ∙ f any

pub starred-rows : StarredRows
unfolding within_limit
starred-rows = printed starred refl starred_programs

pub marked-rows : MarkedRows
unfolding within_limit
marked-rows = printed marked refl marked_programs

pub scratch-rows : ScratchRows
unfolding within_limit
scratch-rows =
    map_same _ _ (λ (x : MaskedRow). within_limit x.one) scratch refl
    (λ x p. ap₂ (λ (k m : List ℕ). k ++ m) (framed_is out_mask x.one x.other p) (framed_is (λ l. x.mask) x.one x.other p))
    ∙ scratch_programs

pub explained-rows : ExplainedRows
unfolding field byte u16 u32 i8 i16 times Grammar.head swaps operator_in arity_of Grammar.operator_of Grammar.operators Grammar.extent Grammar.array Grammar.arrays Grammar.tables Grammar.form Grammar.subscripts Grammar.index Grammar.read_of Grammar.literal_of Grammar.constant_of Grammar.apply_of Grammar.node Grammar.applied Grammar.expression Grammar.statement_of Grammar.step Grammar.loop_of Grammar.guard_of Grammar.items Grammar.item_of Grammar.nested Grammar.body Grammar.program Grammar.read_program Run.cell_from Run.cell_at Run.tree Run.trees count counts Run.readable Run.readables Run.update Run.indices Run.rounds Run.run Run.runs run_program unrolled turned alike alikes parts parts_of term_count value_of values_of out_bits lists_reply programs_by line_of explanation origin_of end_of writes_to execution executed executeds explanation_line
explained-rows = refl

-- an in array and an out array of two cells each, and an operator of two arguments
abbrev list_with : ℕ → List Update → Listed
list_with byte us = record {
  tables = record { operators = byte ∷ []; arrays = record { role = 0; extents = 2 ∷ [] } ∷ record { role = 1; extents = 2 ∷ [] } ∷ [] };
  updates = us;
}

abbrev list_of : List Update → Listed
list_of us = list_with 2 us

-- the same, with an operator that may swap its arguments
abbrev swap_list : List Update → Listed
swap_list us = list_with 0x82 us

-- an inout array of two cells in place of the out array
abbrev inout_list : List Update → Listed
inout_list us = record {
  tables = record { operators = []; arrays = record { role = 0; extents = 2 ∷ [] } ∷ record { role = 2; extents = 2 ∷ [] } ∷ [] };
  updates = us;
}

abbrev write : ℕ → Tree → Update
write c x = record { array = 1; target = c; source = x }

-- out[0], so that it is written
abbrev first : Update
first = write 0 (cell 0 0)

abbrev f : Tree → Tree → Tree
f x y = operator 0 (cons x (cons y nil))

-- f(a, b) and f(b, a) differ: an operator without the mark has no laws
pub arguments_differ : lists_reply all_bits (list_of (first ∷ write 1 (f (cell 0 0) (cell 0 1)) ∷ [])) (list_of (first ∷ write 1 (f (cell 0 1) (cell 0 0)) ∷ [])) ≡ differs 1 1
unfolding lists_reply turned alike alikes swaps_at swaps parts parts_of term_count value_of values_of
arguments_differ = refl

-- a read is the value at that moment: out[0] = in[0]; out[1] = out[0]; out[0] = in[1] leaves in[0] in out[1]
pub read_at_that_moment :
    lists_reply all_bits (list_of (write 0 (cell 0 0) ∷ write 1 (cell 1 0) ∷ write 0 (cell 0 1) ∷ [])) (list_of (write 0 (cell 0 1) ∷ write 1 (cell 0 0) ∷ [])) ≡ equal 2
unfolding lists_reply turned alike alikes swaps_at swaps parts parts_of term_count value_of values_of
read_at_that_moment = refl

-- bits of the mask for arrays that are not compared mean nothing, and a bit that is not set leaves its array out
pub mask-bits : lists_reply 2 (list_of (write 0 (cell 0 0) ∷ [])) (list_of []) ∷ lists_reply 65533 (list_of (write 0 (cell 0 0) ∷ [])) (list_of []) ∷ [] ≡ differs 1 0 ∷ equal 0 ∷ []
unfolding lists_reply turned alike alikes swaps_at swaps parts parts_of term_count value_of values_of
mask-bits = refl

-- an out element that both sides leave unwritten is a difference, and so is one that one side leaves; an inout element that is left, or written with what it held, is none
pub unwritten-differs :
    lists_reply all_bits (list_of (first ∷ [])) (list_of (first ∷ [])) ∷ lists_reply all_bits (list_of (first ∷ write 1 (cell 0 0) ∷ [])) (list_of (first ∷ []))
    ∷ lists_reply all_bits (inout_list []) (inout_list []) ∷ lists_reply all_bits (inout_list (write 1 (cell 1 1) ∷ [])) (inout_list []) ∷ []
    ≡ differs 1 1 ∷ differs 1 1 ∷ equal 2 ∷ equal 2 ∷ []
unfolding lists_reply turned alike alikes swaps_at swaps parts parts_of term_count value_of values_of
unwritten-differs = refl

-- with the mark they are equal, at every depth: f(f(a, b), a) beside f(a, f(b, a))
pub arguments_swap :
    lists_reply all_bits (swap_list (first ∷ write 1 (f (f (cell 0 0) (cell 0 1)) (cell 0 0)) ∷ [])) (swap_list (first ∷ write 1 (f (cell 0 0) (f (cell 0 1) (cell 0 0))) ∷ [])) ≡ equal 2
unfolding lists_reply turned alike alikes swaps_at swaps parts parts_of term_count value_of values_of
arguments_swap = refl

-- and no more than that: f(f(a, a), b) beside f(f(a, b), a) differ, since no meaning need be associative
pub no_other_law :
    lists_reply all_bits (swap_list (first ∷ write 1 (f (f (cell 0 0) (cell 0 0)) (cell 0 1)) ∷ [])) (swap_list (first ∷ write 1 (f (f (cell 0 0) (cell 0 1)) (cell 0 0)) ∷ [])) ≡ differs 1 1
unfolding lists_reply turned alike alikes swaps_at swaps parts parts_of term_count value_of values_of
no_other_law = refl

-- the same arity with and without the mark: the tables differ
pub marks_differ : lists_reply all_bits (list_of []) (swap_list []) ≡ refused both 23 0
unfolding lists_reply turned alike alikes swaps_at swaps parts parts_of term_count value_of values_of
marks_differ = refl

-- f(a, b), f(b, a), a and b are three terms with the mark, and four without it
pub counted-once : term_count (swaps_at (0x82 ∷ [])) (f (cell 0 0) (cell 0 1) ∷ f (cell 0 1) (cell 0 0) ∷ []) ∷ term_count (swaps_at (2 ∷ [])) (f (cell 0 0) (cell 0 1) ∷ f (cell 0 1) (cell 0 0) ∷ []) ∷ [] ≡ 3 ∷ 4 ∷ []
unfolding term_count turned alike alikes swaps_at swaps parts parts_of
counted-once = refl
