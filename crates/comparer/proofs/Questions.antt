-- Which numbers a reply can have: those of a program for either side, 22 to 24 of a pair, 1 of framed input and of many pairs.
use Rattle.std.specs.Prelude.{if◌then◌else◌}
use Prim.Native.Nat.{ℕ, zero, suc, ◌≤◌}
use native.Mathlib.Omega.{arith}
use mathlib.Core.Path.{refl}
use mathlib.Core.List.{List, [], ◌∷◌}
use mathlib.Core.Bool.{Bool, true, false, cond}
use lib.ListN.{length, drop}
use lib.Dec.{leb, eqb}
use Rattle.model.specs.Tables.{Array, cells}
use Rattle.model.specs.Update.{Listed}
use Rattle.model.specs.Reply as model
use Rattle.reader.specs.Field.{little_endian}
use Rattle.terms.specs.Term.{term_count}
use Rattle.unroller.specs.Run.{Ran, ok, stop}
use Rattle.unroller.specs.Unroll.{unrolled}
use Rattle.unroller.proofs.Questions.{ProgramNumbered, unrolled_numbered}
use Rattle.comparer.specs.Match.{compared, first_cell, first_difference, agree_at, swapping, written_terms, compared_size, same_table, same_array, non_local, matched, operators_reply, lists_reply}
use Rattle.comparer.specs.Entry.{side_reply, programs_by, input_by}
use Rattle.comparer.specs.Claims.{Numbered, ProgramNumbers, InputNumbers}

-- ---- two lists: 22 to 24
numbered_cond : (b : Bool) (x y : model.Reply) → Numbered x → Numbered y → Numbered (cond b x y)
numbered_cond true x y h k = h
numbered_cond false x y h k = k

cell_numbered : (n c : ℕ) (agree : ℕ → Bool) (a : ℕ) (otherwise : model.Reply) → Numbered otherwise → Numbered (first_cell n c agree (model.differs a) otherwise)
cell_numbered zero c agree a otherwise h = h
cell_numbered (suc n) c agree a otherwise h = numbered_cond (agree c) _ (model.differs a c) (cell_numbered n (suc c) agree a otherwise h) tt

difference_numbered : (mask a : ℕ) (xs : List Array) (agree : ℕ → ℕ → Bool) (otherwise : model.Reply) → Numbered otherwise → Numbered (first_difference mask a xs agree otherwise)
difference_numbered mask a [] agree otherwise h = h
difference_numbered mask a (x ∷ xs) agree otherwise h =
    let r = difference_numbered mask (suc a) xs agree otherwise h in
    numbered_cond (compared mask a x) _ _ (cell_numbered (cells x.extents) 0 (agree a) a _ r) r

table_numbered : {A : Type 0} (equals : A → A → Bool) (question : ℕ) (agreed : model.Reply) → (22 ≤ question) × (question ≤ 24) → Numbered agreed
    → (k : ℕ) (xs ys : List A) → Numbered (same_table equals question agreed k xs ys)
table_numbered equals question agreed q h k [] [] = h
table_numbered equals question agreed q h k [] (y ∷ ys) = (omega (arith, q.0), omega (arith, q.1))
table_numbered equals question agreed q h k (x ∷ xs) [] = (omega (arith, q.0), omega (arith, q.1))
table_numbered equals question agreed q h k (x ∷ xs) (y ∷ ys) = numbered_cond (equals x y) _ (model.refused model.both question k) (table_numbered equals question agreed q h (suc k) xs ys)
    (omega (arith, q.0), omega (arith, q.1))

matched_numbered : (mask : ℕ) (l r : Listed) → Numbered (matched mask l r)
matched_numbered mask l r =
    numbered_cond (leb (term_count (swapping l) (written_terms l r)) 4096) (first_difference mask 0 l.tables.arrays (agree_at l r) (model.equal (compared_size mask 0 l.tables.arrays))) (model.refused model.both 24 0)
    (difference_numbered mask 0 l.tables.arrays (agree_at l r) (model.equal (compared_size mask 0 l.tables.arrays)) tt) (omega arith, omega arith)

lists_numbered : (mask : ℕ) (l r : Listed) → Numbered (lists_reply mask l r)
unfolding lists_reply
lists_numbered mask l r =
    table_numbered same_array 22 (operators_reply mask l r) (omega arith, omega arith)
    (table_numbered eqb 23 (matched mask l r) (omega arith, omega arith) (matched_numbered mask l r) 0 l.tables.operators r.tables.operators)
    0 (non_local l.tables.arrays) (non_local r.tables.arrays)

left_numbered : (m : Ran Listed) (next : Listed → model.Reply) → ProgramNumbered m → ((l : Listed) → Numbered (next l)) → Numbered (side_reply model.left m next)
left_numbered (ok l) next h k = k l
left_numbered (stop question place) next h k = (omega (arith, h.0), omega (arith, h.1))

right_numbered : (m : Ran Listed) (next : Listed → model.Reply) → ProgramNumbered m → ((l : Listed) → Numbered (next l)) → Numbered (side_reply model.right m next)
right_numbered (ok l) next h k = k l
right_numbered (stop question place) next h k = (omega (arith, h.0), omega (arith, h.1))

pub program_numbers : ProgramNumbers
unfolding programs_by
program_numbers mask one other = left_numbered (unrolled one) _ (unrolled_numbered one) λ x. right_numbered (unrolled other) _ (unrolled_numbered other) λ y. lists_numbered (mask x) x y

-- ---- framed input: 1, and 2 of the left as stated
numbered_if : (b : Bool) (x y : model.Reply) → Numbered x → Numbered y → Numbered (if b then x else y)
numbered_if true x y h k = h
numbered_if false x y h k = k

pub input_numbers : InputNumbers
unfolding input_by
input_numbers mask s =
    numbered_if (leb 2 (length s)) _ (model.refused model.input 1 0)
    (numbered_if (leb (little_endian 2 s 0) 16384) _ (model.refused model.left 2 0)
    (numbered_if (leb (little_endian 2 s 0) (length (drop 2 s))) _ (model.refused model.input 1 0) (program_numbers mask _ _) (refl, refl))
    (omega arith, omega arith))
    (refl, refl)
