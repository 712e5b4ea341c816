-- New orders of an update list (docs/FORMAT.md, "The reordering rule").
use Rattle.std.specs.Prelude.{ℕ, ◌<◌, ◌≡◌, List, map, Bool, true, ◌||◌, length, get_or, pos}
use Rattle.model.specs.Update.{Update, Listed, writes, reads_cell}
use Rattle.model.specs.Update.Tree.{number}

-- the update reads or writes this cell
abbrev pub touches : Update → ℕ → ℕ → Bool
touches u a c = writes u a c || reads_cell u.source a c

-- one writes a cell that the other reads or writes
abbrev pub conflict : Update → Update → Bool
conflict u v = touches v u.array u.target || touches u v.array v.target

-- the update at this position of the list
abbrev pub at : List Update → ℕ → Update
at us i = get_or us i (record { array = 0; target = 0; source = number (pos 0) })

-- the updates in a new order, given by their old positions
abbrev pub in_order : List Update → List ℕ → List Update
in_order us order = map (at us) order

-- any permutation of the positions that keeps every two conflicting updates in order
pub record NewOrder (us : List Update) (order : List ℕ) : Type 0 where
  pub count : length order ≡ length us
  pub inside : (i : ℕ) → i < length order → get_or order i 0 < length us
  pub once : (i j : ℕ) → i < j → j < length order → get_or order i 0 ≡ get_or order j 0 → ⊥
  pub keeps : (i j : ℕ) → i < j → j < length order → conflict (at us (get_or order i 0)) (at us (get_or order j 0)) ≡ true → get_or order i 0 < get_or order j 0

-- the tables are kept
abbrev pub reorder : Listed → List ℕ → Listed
reorder l order = record { tables = l.tables; updates = in_order l.updates order }
