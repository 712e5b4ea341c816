-- The code's own table of cells: a byte for each array and cell, at 2048 * array + cell.
-- 0 no such cell, 1 not yet to be read, 2 may be read and written, 3 may be read only.
use Rattle.std.specs.Prelude.{ℕ, ◌+◌, ◌*◌, ◌≤◌, ◌<◌, ◌≡◌, List, [], ◌∷◌, Bool, ◌&&◌, ◌||◌, length, get_or, ltb, leb, eqb, if◌then◌else◌}
use Rattle.model.specs.Tables.{Array, cells, inside, array_at}
use Rattle.model.specs.Update.{Update, written}

-- what `array_at` gives where no array is declared
abbrev pub nowhere : Array
nowhere = record { role = 3; extents = 0 ∷ [] }

-- what a cell of an array of this role has
abbrev pub state_of : ℕ → Bool → ℕ
state_of role done = if eqb role 0 then 3 else if eqb role 2 || done then 2 else 1

unfoldable pub state_at : List Array → List Update → ℕ → ℕ → ℕ
state_at xs before a c = if inside xs a c then state_of (array_at xs a).role (written before a c) else 0

abbrev pub spot : ℕ → ℕ → ℕ
spot a c = 2048 * a + c

pub record State (xs : List Array) (before : List Update) (st : List ℕ) : Type 0 where
  pub long : length st ≡ 32768
  pub holds : (a c : ℕ) → a < 16 → c < 2048 → get_or st (spot a c) 0 ≡ state_at xs before a c

-- arrays that have room in it
pub record Small (xs : List Array) : Type 0 where
  pub few : length xs ≤ 16
  pub fits : (a : ℕ) → cells (array_at xs a).extents ≤ 2048

abbrev pub known : ℕ → ℕ → Bool
known a c = ltb a 16 && ltb c 2048

unfoldable pub readable_in : List ℕ → ℕ → ℕ → Bool
readable_in st a c = known a c && leb 2 (get_or st (spot a c) 0)

unfoldable pub writable_in : List ℕ → ℕ → ℕ → Bool
writable_in st a c = known a c && (leb 1 (get_or st (spot a c) 0) && leb (get_or st (spot a c) 0) 2)

-- n elements from `from` on are v, and the others are as they were
pub record Filled (old : List ℕ) (from n v : ℕ) (new : List ℕ) : Type 0 where
  pub same_length : length new ≡ length old
  pub within : (i : ℕ) → from ≤ i → i < from + n → get_or new i 0 ≡ v
  pub below : (i : ℕ) → i < from → get_or new i 0 ≡ get_or old i 0
  pub above : (i : ℕ) → from + n ≤ i → get_or new i 0 ≡ get_or old i 0
