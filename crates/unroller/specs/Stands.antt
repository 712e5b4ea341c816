-- Where the parts of an update list stand in words (docs/LAYOUT.md): what a walk over a checked list finds, place by place.
use Rattle.std.specs.Prelude.{ℕ, suc, ◌+◌, ◌*◌, ◌≤◌, ◌<◌, ◌≡◌, List, [], ◌∷◌, length, get_or}
use Rattle.std.specs.Int.{w32}
use Rattle.std.proofs.Common.{SFits, of_z}
use Rattle.model.specs.Tables.{Array, Tables, cells, array_at, arity_at}
use Rattle.model.specs.Update.{Tree, Trees, Update, Listed}
use Rattle.model.specs.Update.Tree.{cell, number, constant, operator}
use Rattle.model.specs.Update.Trees.{nil, cons}

-- the cells before each array, where `before` came before the first; last, the number of all
abbrev pub bases_from : ℕ → List Array → List ℕ
bases_from before [] = before ∷ []
bases_from before (x ∷ xs) = before ∷ bases_from (before + cells x.extents) xs

-- the number of a cell among the cells of all arrays is its array's base and its own number
unfoldable pub bases_of : List Array → List ℕ
bases_of xs = bases_from 0 xs

-- cell c of array a is declared, told by the bases
pub record Proper (bases : List ℕ) (a c : ℕ) : Type 0 where
  pub array : a + 1 < length bases
  pub inside : get_or bases a 0 + c < get_or bases (a + 1) 0

-- the record at `at`
pub record Three (list : List ℕ) (at x y z : ℕ) : Type 0 where
  pub room : at + 3 ≤ length list
  pub code : get_or list at 0 ≡ x
  pub one : get_or list (at + 1) 0 ≡ y
  pub two : get_or list (at + 2) 0 ≡ z

-- the five words of an array; an unused extent is 0
pub record ArrayAt (list : List ℕ) (at : ℕ) (x : Array) : Type 0 where
  pub role : get_or list at 0 ≡ x.role
  pub dimensions : get_or list (at + 1) 0 ≡ length x.extents
  pub extent : (d : ℕ) → d < 3 → get_or list (at + 2 + d) 0 ≡ get_or x.extents d 0

-- the 98 words of the tables; an unused operator is 0
pub record HeaderAt (list : List ℕ) (t : Tables) : Type 0 where
  pub room : 98 ≤ length list
  pub operators : get_or list 0 0 ≡ length t.operators
  pub word : (o : ℕ) → o < 16 → get_or list (1 + o) 0 ≡ get_or t.operators o 0
  pub count : get_or list 17 0 ≡ length t.arrays
  pub array : (a : ℕ) → a < length t.arrays → ArrayAt list (18 + 5 * a) (array_at t.arrays a)

unfoldable pub many : Trees → ℕ
many nil = 0
many (cons t ts) = suc (many ts)

module _ (operators bases list : List ℕ) where
  -- a tree stands at `at` and ends before `to`; operators nest at most `left` deep
  unfoldable mutual
    pub TreeAt : Tree → ℕ → ℕ → ℕ → Type 0
    TreeAt (cell a c) left at to = Three list at 16 a c × Proper bases a c × (to ≡ at + 3)
    TreeAt (number z) left at to = Three list at 18 (of_z w32 z) 0 × SFits w32 z × (to ≡ at + 3)
    TreeAt (constant n) left at to = Three list at 19 n 0 × (to ≡ at + 3)
    TreeAt (operator o us) left at to =
        Three list at 17 o 0 × (o < length operators) × (arity_at operators o ≡ many us) × (many us ≤ 4) × ((l : ℕ) × (left ≡ l + 1) × TreesAt us l (at + 3) to)

    pub TreesAt : Trees → ℕ → ℕ → ℕ → Type 0
    TreesAt nil left at to = to ≡ at
    TreesAt (cons t us) left at to = (m : ℕ) × TreeAt t left at m × TreesAt us left m to

  -- behind the last update there is no record that begins with 1
  unfoldable pub UpdatesAt : List Update → ℕ → Type 0
  UpdatesAt [] at = at + 3 ≤ length list → get_or list at 0 ≡ 1 → ⊥
  UpdatesAt (u ∷ us) at =
      Three list at 1 u.array u.target × Proper bases u.array u.target × ((m : ℕ) × TreeAt u.source 12 (at + 3) m × UpdatesAt us m)

-- the whole list
pub record Stands (list : List ℕ) (l : Listed) : Type 0 where
  pub header : HeaderAt list l.tables
  pub updates : UpdatesAt l.tables.operators (bases_of l.tables.arrays) list l.updates 98
