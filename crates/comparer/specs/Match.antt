-- The match of two update lists (docs/FORMAT.md, "The match"), with questions 22 to 24.
use Rattle.std.specs.Prelude.{ℕ, zero, suc, ◌+◌, ◌*◌, ◌/◌, ◌%◌, ◌^◌, List, [], ◌∷◌, ◌++◌, Bool, true, false, ◌&&◌, ◌||◌, cond, leb, eqb}
use Rattle.model.specs.Tables.{Array, cells, array_at, local, starts, swaps_at}
use Rattle.model.specs.Update.{Tree, Listed, written}
use Rattle.model.specs.Update.Tree.{cell}
use Rattle.model.specs.Reply.{Reply, equal, differs, refused, both}
use Rattle.terms.specs.Term.{alike, term_count}
use Rattle.comparer.specs.Meaning.{after, free, values}

abbrev pub bit : ℕ → ℕ → Bool
bit mask k = eqb (mask / (2 ^ k) % 2) 1

-- an out or inout array whose bit is set
abbrev pub compared : ℕ → ℕ → Array → Bool
compared mask a x = (eqb x.role 1 || eqb x.role 2) && bit mask a

-- the sum of the sizes of the compared arrays, from array number a on
abbrev pub compared_size : ℕ → ℕ → List Array → ℕ
compared_size mask a [] = 0
compared_size mask a (x ∷ xs) = cond (compared mask a x) (cells x.extents) 0 + compared_size mask (suc a) xs

-- an out array
abbrev pub out : Array → Bool
out x = eqb x.role 1

-- the mask in which the bits of the out arrays are set, and no others
unfoldable pub out_bits : List Array → ℕ
out_bits [] = 0
out_bits (x ∷ xs) = cond (out x) 1 0 + 2 * out_bits xs

-- the first of n cells, from c on, that does not agree, or `otherwise`
abbrev pub first_cell : ℕ → ℕ → (ℕ → Bool) → (ℕ → Reply) → Reply → Reply
first_cell zero c agree found otherwise = otherwise
first_cell (suc n) c agree found otherwise = let r = first_cell n (suc c) agree found otherwise in cond (agree c) r (found c)

-- the first compared element, by array number from a on, then cell number, that does not agree, or `otherwise`
abbrev pub first_difference : ℕ → ℕ → List Array → (ℕ → ℕ → Bool) → Reply → Reply
first_difference mask a [] agree otherwise = otherwise
first_difference mask a (x ∷ xs) agree otherwise =
    let rest = first_difference mask (suc a) xs agree otherwise in
    cond (compared mask a x) (first_cell (cells x.extents) 0 (agree a) (differs a) rest) rest

-- the operators of the list that may swap their arguments
abbrev pub swapping : Listed → ℕ → Bool
swapping l = swaps_at l.tables.operators

-- the list gives this element: it lies in an in or inout array, which starts alike on both sides, or an update writes it
abbrev pub given : Listed → ℕ → ℕ → Bool
given l a c = starts (array_at l.tables.arrays a) || written l.updates a c

-- both lists give this element, and leave terms in it that are alike; started from `cell`, each cell holds its own starting term
abbrev pub agree_at : Listed → Listed → ℕ → ℕ → Bool
agree_at l r a c = given l a c && (given r a c && alike (swapping l) (after free l.updates cell a c) (after free r.updates cell a c))

-- the terms written on either side
abbrev pub written_terms : Listed → Listed → List Tree
written_terms l r = values l.updates cell ++ values r.updates cell

-- At most 4,096 terms, those that are alike counted once? 24. Then the first difference, or the number of elements compared.
abbrev pub matched : ℕ → Listed → Listed → Reply
matched mask l r =
    cond (leb (term_count (swapping l) (written_terms l r)) 4096)
    (first_difference mask 0 l.tables.arrays (agree_at l r) (equal (compared_size mask 0 l.tables.arrays)))
    (refused both 24 0)

abbrev pub same_numbers : List ℕ → List ℕ → Bool
same_numbers [] [] = true
same_numbers [] (y ∷ ys) = false
same_numbers (x ∷ xs) [] = false
same_numbers (x ∷ xs) (y ∷ ys) = eqb x y && same_numbers xs ys

abbrev pub same_array : Array → Array → Bool
same_array x y = eqb x.role y.role && same_numbers x.extents y.extents

abbrev pub non_local : List Array → List Array
non_local [] = []
non_local (x ∷ xs) = let r = non_local xs in cond (local x) r (x ∷ r)

-- a question of two tables: refused at the first number, from k on, at which they differ, else `agreed`
module _ {A : Type 0} (equals : A → A → Bool) (question : ℕ) (agreed : Reply) where
  abbrev pub same_table : ℕ → List A → List A → Reply
  same_table k [] [] = agreed
  same_table k [] (y ∷ ys) = refused both question k
  same_table k (x ∷ xs) [] = refused both question k
  same_table k (x ∷ xs) (y ∷ ys) = let r = same_table (suc k) xs ys in cond (equals x y) r (refused both question k)

-- Same operator tables, marks included? 23
abbrev pub operators_reply : ℕ → Listed → Listed → Reply
operators_reply mask l r = let match = matched mask l r in same_table eqb 23 match 0 l.tables.operators r.tables.operators

-- Same non-local arrays? 22
unfoldable pub lists_reply : ℕ → Listed → Listed → Reply
lists_reply mask l r = let operators = operators_reply mask l r in same_table same_array 22 operators 0 (non_local l.tables.arrays) (non_local r.tables.arrays)
