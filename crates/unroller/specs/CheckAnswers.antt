-- What the code answers of what a reader does at a place of the words.
use Rattle.std.specs.Prelude.{ℕ, zero, suc, ◌+◌, ◌*◌, ◌≤◌, ◌≡◌, List, [], ◌∷◌, Bool, true, false, drop, take, get_or, set, eqb, if◌then◌else◌, Option, Some, None, Result, Ok, Err}
use Rattle.model.specs.Test.{within}
use Rattle.model.specs.Tables.{cells, Array, Tables}
use Rattle.model.specs.Update.{Tree, Trees, size, sizes, Update}
use Rattle.model.specs.Reply.{left, both}
use Rattle.unroller.specs.Words.{Out, got, none, Reader, is_got}
use Rattle.unroller.specs.Decode.{array, arrays, tables, node, update, updates}
use Rattle.unroller.specs.Unroll as Unroll
use Rattle.unroller.specs.State.{State, Small, readable_in, writable_in, spot}
use Rattle.unroller.specs.declared.lists.ListError.{ListError}
use Rattle.unroller.specs.declared.lists.ListError.TheVariants.{Refused, Short}

-- the reply that each answer stands for; a list alone is the left one
abbrev pub checked_says : Result (Unit {0}) ListError → Unroll.Checked
checked_says (Ok _) = Unroll.accepts
checked_says (Err Refused) = Unroll.refuses left 26 0
checked_says (Err Short) = Unroll.refuses both 25 0

-- the factor that a word adds to an array's size
unfoldable pub factor_of : Bool → ℕ → Option ℕ
factor_of true x = if within 1 1024 x then Some x else None
factor_of false x = if eqb x 0 then Some 1 else None

abbrev pub Declares : List ℕ → ℕ → Option (ℕ × ℕ) → Type 0
Declares s at (Some d) = (x : Array) × (array (drop at s) ≡ got x (drop (at + 5) s)) × (x.role ≡ d.0) × (cells x.extents ≡ d.1) × (d.0 ≤ 3) × (d.1 ≤ 1073741824)
Declares s at None = array (drop at s) ≡ none

abbrev pub Arrays : List ℕ → ℕ → List ℕ → Bool → Type 0
Arrays s m st true = (xs : List Array) × (arrays m false 0 (drop 18 s) ≡ got xs (drop (18 + 5 * m) s)) × Small xs × State xs [] st
Arrays s m st false = arrays m false 0 (drop 18 s) ≡ none

abbrev pub Header : List ℕ → List ℕ → Bool → Type 0
Header s st true =
    (t : Tables) × (tables s ≡ got t (drop 98 s)) × (get_or s 0 0 ≤ 16) × (t.operators ≡ take (get_or s 0 0) (drop 1 s)) × Small t.arrays × State t.arrays [] st
Header s st false = tables s ≡ none

-- a record that is no operator's
abbrev pub Leaf : (ℕ → ℕ → Bool) → ℕ → ℕ → ℕ → Bool → Type 0
Leaf reads code x y true =
    (t : Tree) × (size t ≡ 1) × ((ops : List ℕ) (f : ℕ → Reader Tree) (rest : List ℕ) → node ops reads f (code ∷ x ∷ y ∷ rest) ≡ got t rest)
Leaf reads code x y false =
    (ops : List ℕ) (f : ℕ → Reader Tree) (rest : List ℕ) → node ops reads f (code ∷ x ∷ y ∷ rest) ≡ none

-- what reading an expression finds: the place past it, or nothing. The code answers the place itself, or 0: an expression takes three
-- words or more, so no place past one is 0
pub data Answer : Type 0 where
  Got : ℕ → Answer
  No : Answer

abbrev pub answer_of : ℕ → Answer
answer_of zero = No
answer_of (suc n) = Got (suc n)

-- a tree whose words begin at `from`, all of them, or behind its first record
abbrev pub Reads : List ℕ → ℕ → Out Tree → Answer → Type 0
Reads s from o (Got next) = (t : Tree) × (o ≡ got t (drop next s)) × (next ≡ from + 3 * size t)
Reads s from o No = o ≡ none

abbrev pub Follows : List ℕ → ℕ → Out Tree → Answer → Type 0
Follows s from o (Got next) = (t : Tree) × (o ≡ got t (drop next s)) × (next + 3 ≡ from + 3 * size t)
Follows s from o No = o ≡ none

abbrev pub ReadsAll : List ℕ → ℕ → Out Trees → Answer → Type 0
ReadsAll s from o (Got next) = (ts : Trees) × (o ≡ got ts (drop next s)) × (next ≡ from + 3 * sizes ts)
ReadsAll s from o No = o ≡ none

abbrev pub Updates : List ℕ → ℕ → List ℕ → List ℕ → ℕ → List ℕ → Option (ℕ × ℕ) → Type 0
Updates s at ops st count st' (Some m) =
    (u : Update) × (update ops (writable_in st) (readable_in st) count (drop at s) ≡ got u (drop m.0 s)) × (m.1 ≡ count + size u.source) × (m.1 ≤ 8192) × (writable_in st u.array u.target ≡ true) × (st' ≡ set st (spot u.array u.target) 2)
Updates s at ops st count st' None = update ops (writable_in st) (readable_in st) count (drop at s) ≡ none

-- the updates from word 98 on, for any tables that the operators and the state belong to
abbrev pub Follow : List ℕ → List ℕ → List ℕ → Bool → Type 0
Follow s ops st r =
    (t : Tables) → t.operators ≡ ops → Small t.arrays → State t.arrays [] st → r ≡ is_got (updates t 2048 [] (drop 98 s))
