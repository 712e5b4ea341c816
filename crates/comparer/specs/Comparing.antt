-- What each function of the comparison answers.
use Rattle.std.specs.Prelude.{ℕ, ◌+◌, ◌-◌, ◌*◌, ◌≤◌, ◌<◌, ◌≡◌, List, Bool, true, ◌&&◌, ◌||◌, not, cond, length, get_or, drop, eqb, ltb, leb}
use Rattle.model.specs.Tables.{Tables, cells, array_at, starts}
use Rattle.model.specs.Update.{Tree, Listed}
use Rattle.model.specs.Update.Tree.{cell}
use Rattle.model.specs.Reply as model
use Rattle.terms.specs.Term.{alike}
use Rattle.terms.specs.Stored.{Stored}
use Rattle.unroller.specs.Allowed.{allowed_tables}
use Rattle.unroller.specs.Stands.{HeaderAt}
use Rattle.comparer.specs.Meaning.{Content, after, free}
use Rattle.comparer.specs.Match.{bit, compared, compared_size, given, first_cell, first_difference}
use Rattle.comparer.specs.Answers.{reply_says}
use Rattle.comparer.specs.Work.{Shows}
use Rattle.comparer.specs.declared.reply.Reply.{Reply}

-- ---- header words
-- the words of array a begin here
abbrev pub record_at : ℕ → ℕ
record_at a = 18 + 5 * a

abbrev pub role_at : List ℕ → ℕ → ℕ
role_at list a = get_or list (record_at a) 0

-- array a is compared, by its role's word
unfoldable pub compared_at : List ℕ → ℕ → ℕ → Bool
compared_at list mask a = (eqb (role_at list a) 1 || eqb (role_at list a) 2) && bit mask a

-- a factor of an array's size: an extent that is used, or 1
unfoldable pub extent_or_one : Bool → ℕ → ℕ
extent_or_one used x = cond used (cond (leb x 1024) x 0) 1

-- the size of array a, by its words
unfoldable pub size_at : List ℕ → ℕ → ℕ
size_at list a =
    extent_or_one true (get_or list (record_at a + 2) 0)
    * extent_or_one (ltb 1 (get_or list (record_at a + 1) 0)) (get_or list (record_at a + 3) 0)
    * extent_or_one (ltb 2 (get_or list (record_at a + 1) 0)) (get_or list (record_at a + 4) 0)

-- the cells before each array; behind the last one, of all
pub record Sums (list table : List ℕ) : Type 0 where
  pub long : length table ≡ 17
  pub first : get_or table 0 0 ≡ 0
  pub next : (a : ℕ) → a < 16 → get_or table (a + 1) 0 ≡ get_or table a 0 + size_at list a

-- ---- cells
-- x and y show terms that are alike, or not
unfoldable pub Agrees : List ℕ → ℕ → ℕ → ℕ → ℕ → Bool → Type 0
Agrees m x y a c b =
    (swaps : ℕ → Bool) (count : ℕ) (ts : List Tree) (t u : Tree) → Stored swaps m count ts → Shows swaps ts x (cell a c) t → Shows swaps ts y (cell a c) u → b ≡ alike swaps t u

-- a cell is given: in an inout array whatever its slot holds, in an out array if the slot is filled
abbrev pub filled : Bool → ℕ → Bool
filled inout x = inout || not (eqb x 0)

-- x and y show terms of given cells that are alike, or not
unfoldable pub BothGiven : List ℕ → Bool → ℕ → ℕ → ℕ → ℕ → Bool → Type 0
BothGiven m inout x y a c b =
    (swaps : ℕ → Bool) (count : ℕ) (ts : List Tree) (t u : Tree) → Stored swaps m count ts → Shows swaps ts x (cell a c) t → Shows swaps ts y (cell a c) u
    → b ≡ (filled inout x && (filled inout y && alike swaps t u))

-- what a side leaves: which cells it gives, and a term in each
abbrev pub Final : Type 0
Final = (ℕ → ℕ → Bool) × Content Tree

abbrev pub final : Listed → Final
final l = (given l, after free l.updates cell)

-- the contents of array a on both sides, in one store: on the left from slot p on, on the right from slot q on
pub record Sides (swaps : ℕ → Bool) (left right m : List ℕ) (inout : Bool) (p q a size : ℕ) (l r : Final) : Type 0 where
  pub count : ℕ
  pub ts : List Tree
  pub stored : Stored swaps m count ts
  pub left_room : p + size ≤ length left
  pub right_room : q + size ≤ length right
  pub left_given : (c : ℕ) → c < size → l.0 a c ≡ filled inout (get_or left (p + c) 0)
  pub right_given : (c : ℕ) → c < size → r.0 a c ≡ filled inout (get_or right (q + c) 0)
  pub left_shows : (c : ℕ) → c < size → Shows swaps ts (get_or left (p + c) 0) (cell a c) (l.1 a c)
  pub right_shows : (c : ℕ) → c < size → Shows swaps ts (get_or right (q + c) 0) (cell a c) (r.1 a c)

abbrev pub agree : (ℕ → Bool) → Final → Final → ℕ → ℕ → Bool
agree swaps l r a c = l.0 a c && (r.0 a c && alike swaps (l.1 a c) (r.1 a c))

-- d is the first cell from c on at which the sides differ; `size` or more: there is none
unfoldable pub FirstCell : List ℕ → List ℕ → List ℕ → Bool → ℕ → ℕ → ℕ → ℕ → ℕ → ℕ → Type 0
FirstCell left right m inout p q a size c d =
    (swaps : ℕ → Bool) (l r : Final) → Sides swaps left right m inout p q a size l r → (found : ℕ → model.Reply) (none : model.Reply)
    → first_cell (size - c) c (agree swaps l r a) found none ≡ cond (ltb d size) (found d) none

-- the reply on the arrays from a on, where `sum` elements were compared before
unfoldable pub FirstArray : List ℕ → ℕ → List ℕ → List ℕ → List ℕ → List ℕ → List ℕ → ℕ → ℕ → Reply → Type 0
FirstArray list mask lefts rights left right m a sum reply =
    (swaps : ℕ → Bool) (t : Tables) (l r : Final) → HeaderAt list t → allowed_tables t ≡ true
    → ((b : ℕ) → b < length t.arrays → compared mask b (array_at t.arrays b) ≡ true
    → Sides swaps left right m (starts (array_at t.arrays b)) (get_or lefts b 0) (get_or rights b 0) b (cells (array_at t.arrays b).extents) l r)
    → reply_says reply ≡ first_difference mask a (drop a t.arrays) (agree swaps l r) (model.equal (sum + compared_size mask a (drop a t.arrays)))
