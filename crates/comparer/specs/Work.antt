-- Working out the updates of a list as terms of a store: what cells and store hold, and what each function does to them.
use Rattle.std.specs.Prelude.{ℕ, ◌+◌, ◌≤◌, ◌<◌, ◌≡◌, ◌⊎◌, List, [], ◌∷◌, Option, None, Some, Bool, true, false, length, get_or}
use Rattle.model.specs.Tables.{arity_of, swaps_at}
use Rattle.model.specs.Update.{Tree, Trees, Update}
use Rattle.model.specs.Update.Tree.{cell}
use Rattle.terms.specs.Term.{parts, parts_of, parts_of_all}
use Rattle.terms.specs.declared.Kept.{Kept}
use Rattle.terms.specs.Store.{node_of}
use Rattle.terms.specs.Stored.{Ref, Args, Means, Stored, Outcome}
use Rattle.unroller.specs.Stands.{Proper, many, TreeAt, TreesAt, UpdatesAt}
use Rattle.comparer.specs.declared.evaluate.Step.{Step}
use Rattle.comparer.specs.Meaning.{Content, value_of, values_of, free, trees_of, after, values}

-- the header's words of the operators
pub record Operators (list ops : List ℕ) : Type 0 where
  pub few : length ops ≤ 16
  pub word : (o : ℕ) → o < 16 → get_or list (1 + o) 0 ≡ get_or ops o 0

-- the code's array of 17, `table`, begins with the bases, of which the last is at most the number of slots
pub record Table (table bases : List ℕ) (room : ℕ) : Type 0 where
  pub short : length bases ≤ 17
  pub few : room ≤ 4096
  pub word : (a : ℕ) → a < length bases → get_or table a 0 ≡ get_or bases a 0
  pub fits : (a : ℕ) → a < length bases → get_or bases a 0 ≤ room
  pub sorted : (a b : ℕ) → a ≤ b → b < length bases → get_or bases a 0 ≤ get_or bases b 0

-- the slot of a cell
abbrev pub slot_of : List ℕ → ℕ → ℕ → ℕ
slot_of bases a c = get_or bases a 0 + c

-- the slot, if there is one
unfoldable pub Finds : List ℕ → ℕ → ℕ → Option ℕ → Type 0
Finds table a c r = a < 17 → get_or table a 0 ≤ 4096 → r ≡ Some (get_or table a 0 + c)

-- ---- answers: a number of terms that have room, or none, of which is said what is said of 4,097 terms
unfoldable pub Counts : (ℕ → Type 0) → Option ℕ → Type 0
Counts P None = P 4097
Counts P (Some count) = (count ≤ 4096) × P count

-- with an id
unfoldable pub Keeps : (ℕ → ℕ → Type 0) → Option Kept → Type 0
Keeps P None = P 4097 0
Keeps P (Some k) = (k.count ≤ 4096) × P k.count k.id

-- a node that is the tree t over those stored: t is stored, once
unfoldable pub Puts : List ℕ → ℕ → ℕ → ℕ → List ℕ → ℕ → ℕ → List ℕ → Type 0
Puts m count kind payload ids count' id m' =
    (swaps : ℕ → Bool) (ts : List Tree) (t : Tree) → Stored swaps m count ts → Means swaps ts (node_of kind payload ids) t
    → Outcome swaps ts (t ∷ []) m' count' (λ us. Ref swaps us id t)

-- with a place, and an id or several
unfoldable pub Steps : {A : Type 0} → (ℕ → ℕ → A → Type 0) → Option (Step A) → Type 0
Steps {A} P None = (id : A) → P 0 4097 id
Steps P (Some s) = (s.count ≤ 4096) × P s.at s.count s.id

-- the one, or the other
abbrev pub Picks : Bool → ℕ → ℕ → ℕ → Type 0
Picks here id other r = (here ≡ true → r ≡ id) × (here ≡ false → r ≡ other)

-- r is 0 and t the starting value s, or r is t's id plus 1
abbrev pub Shows : (ℕ → Bool) → List Tree → ℕ → Tree → Tree → Type 0
Shows swaps ts r s t = ((r ≡ 0) × (t ≡ s)) ⊎ Ref swaps ts r t

abbrev pub CellsHold : (ℕ → Bool) → List ℕ → List ℕ → List Tree → Content Tree → Type 0
CellsHold swaps bases cells ts h = (a c : ℕ) → Proper bases a c → Shows swaps ts (get_or cells (slot_of bases a c) 0) (cell a c) (h a c)

-- the table has the slots of the cells, which hold the content h
abbrev pub Holding : (ℕ → Bool) → List ℕ → List ℕ → List ℕ → List Tree → Content Tree → Type 0
Holding swaps table bases cells ts h = Table table bases (length cells) × CellsHold swaps bases cells ts h

-- all is well: memory holds the trees ts, and the cells the content h
pub record Ready (swaps : ℕ → Bool) (table bases cells m : List ℕ) (count : ℕ) (ts : List Tree) (h : Content Tree) : Type 0 where
  pub slots : Table table bases (length cells)
  pub stored : Stored swaps m count ts
  pub holds : CellsHold swaps bases cells ts h

-- the values of arguments
abbrev pub worked : Trees → Content Tree → Trees
worked us h = trees_of (values_of free us h)

-- the byte of operator o, if there is one
unfoldable pub Byte : List ℕ → ℕ → ℕ → Type 0
Byte list o byte = o < 16 → byte ≡ get_or list (1 + o) 0

-- n is the number of arguments of an operator of this byte, if there is one
pub record Arity (byte n : ℕ) : Type 0 where
  pub few : n ≤ 4
  pub is : arity_of byte ≤ 4 → n ≡ arity_of byte

-- the cell's value is stored, with its parts, and the content stays
unfoldable pub Reads : List ℕ → List ℕ → List ℕ → ℕ → ℕ → ℕ → ℕ → ℕ → List ℕ → List ℕ → Type 0
Reads table cells m count a c count' id cells' m' =
    (swaps : ℕ → Bool) (bases : List ℕ) (ts : List Tree) (h : Content Tree) → Ready swaps table bases cells m count ts h → Proper bases a c
    → Outcome swaps ts (parts (h a c)) m' count' (λ us. Ref swaps us id (h a c) × Holding swaps table bases cells' us h)

-- the tree at `at`: its value is stored, with its parts
unfoldable pub Works : List ℕ → List ℕ → ℕ → ℕ → List ℕ → List ℕ → ℕ → ℕ → ℕ → ℕ → List ℕ → List ℕ → Type 0
Works table list left at cells m count at' count' id cells' m' =
    (ops bases : List ℕ) (t : Tree) (to : ℕ) (ts : List Tree) (h : Content Tree) → Operators list ops → TreeAt ops bases list t left at to
    → Ready (swaps_at ops) table bases cells m count ts h
    → Outcome (swaps_at ops) ts (parts (value_of free t h)) m' count' (λ us. (at' ≡ to) × Ref (swaps_at ops) us id (value_of free t h) × Holding (swaps_at ops) table bases cells' us h)

unfoldable pub WorksLeaf : List ℕ → List ℕ → ℕ → List ℕ → List ℕ → ℕ → ℕ → ℕ → ℕ → List ℕ → List ℕ → Type 0
WorksLeaf table list at cells m count at' count' id cells' m' =
    (left : ℕ) → (get_or list at 0 ≡ 17 → ⊥) → Works table list left at cells m count at' count' id cells' m'

-- the trees at `at`: their values are stored, and their ids follow those below k
unfoldable pub WorksAll : List ℕ → List ℕ → ℕ → ℕ → List ℕ → List ℕ → ℕ → ℕ → ℕ → List ℕ → ℕ → ℕ → List ℕ → List ℕ → List ℕ → Type 0
WorksAll table list left at cells m count k n ids at' count' ids' cells' m' =
    (ops bases : List ℕ) (us : Trees) (to : ℕ) (ts : List Tree) (h : Content Tree) → Operators list ops → TreesAt ops bases list us left at to
    → many us + k ≡ n → length ids ≡ 4 → ((j : ℕ) → k ≤ j → get_or ids j 0 ≡ 0) → Ready (swaps_at ops) table bases cells m count ts h
    → Outcome (swaps_at ops) ts (parts_of (worked us h)) m' count'
    (λ vs. (at' ≡ to) × ((j : ℕ) → j < k → get_or ids' j 0 ≡ get_or ids j 0) × Args (swaps_at ops) vs ids' k (worked us h) × Holding (swaps_at ops) table bases cells' vs h)

-- the updates at `at`: the cells hold what they leave, and memory every part of every value written
unfoldable pub Applies : List ℕ → List ℕ → ℕ → List ℕ → List ℕ → ℕ → ℕ → List ℕ → List ℕ → Type 0
Applies table list at cells m count count' cells' m' =
    (ops bases : List ℕ) (us : List Update) (ts : List Tree) (h : Content Tree) → Operators list ops → UpdatesAt ops bases list us at
    → Ready (swaps_at ops) table bases cells m count ts h → Outcome (swaps_at ops) ts (parts_of_all (values us h)) m' count' (λ vs. CellsHold (swaps_at ops) bases cells' vs (after free us h))
