-- Parts of the head of a file, as private functions of the code answer them.
use Rattle.std.specs.Prelude.{ℕ, ◌+◌, ◌*◌, ◌≤◌, List, [], ◌∷◌, Bool, false, ◌&&◌, ◌||◌, not, length, get_or, set, leb, eqb}
use Rattle.model.specs.Test.{within}
use Rattle.model.specs.Tables.{Array, cells}
use Rattle.reader.specs.Field.{Reader, ◌>>=◌, give, here, ask, byte}
use Rattle.reader.specs.Grammar.{arrays}
use Rattle.reader.specs.Entries.{padded}
use Rattle.reader.specs.declared.tables.Tables.{Tables as Packed}
use Rattle.reader.specs.declared.header.Extents.{Extents}
use Rattle.reader.specs.declared.header.Array.{Array as Filled}

-- a byte with a question of its own
unfoldable pub checked : ℕ → (ℕ → Bool) → Reader ℕ
checked number test = do
  p ← here
  x ← byte
  _ ← ask number p (test x)
  give x

-- a role that may stand here, where a local came just before it or not
abbrev pub role_test : Bool → ℕ → Bool
role_test after x = leb x 3 && (not after || eqb x 3)

-- the number of arrays, and the arrays
unfoldable pub array_table : Reader (List Array)
array_table = do
  p ← here
  n ← byte
  _ ← ask 7 p (within 1 16 n)
  arrays n false 0

-- extents as the code holds them, and an array
abbrev pub extents_in : List ℕ → Extents
extents_in l = record { extents = padded 3 0 l; size = cells l }

abbrev pub array_in : Array → Filled
array_in x = record { role = x.role; dimensions = length x.extents; extents = padded 3 0 x.extents; size = cells x.extents }

-- the cells of all
unfoldable pub sizes : List Array → ℕ
sizes [] = 0
sizes (x ∷ xs) = cells x.extents + sizes xs

-- at most three dimensions each
unfoldable pub Small : List Array → Type 0
Small [] = Unit {0}
Small (x ∷ xs) = (length x.extents ≤ 3) × Small xs

-- one array more, as number k; `total` cells with it
unfoldable pub with_array : Packed → ℕ → Filled → ℕ → Packed
with_array t k x total =
    record {
      operators = t.operators;
      bytes = t.bytes;
      arrays = k + 1;
      roles = set t.roles k x.role;
      dimensions = set t.dimensions k x.dimensions;
      extents = set (set (set t.extents (3 * k) (get_or x.extents 0 0)) (3 * k + 1) (get_or x.extents 1 0)) (3 * k + 2) (get_or x.extents 2 0);
      bases = set t.bases (k + 1) total;
    }

-- more arrays, from number k on, with `before` cells before them
abbrev pub stored : Packed → ℕ → ℕ → List Array → Packed
stored t k before [] = t
stored t k before (x ∷ xs) = stored (with_array t k (array_in x) (before + cells x.extents)) (k + 1) (before + cells x.extents) xs
