-- Files that compute: paper 01's program L without its loop; three dimensions; a marked operator, a literal below 0 and a constant.
use mathlib.Core.Path.{◌≡◌, refl}
use mathlib.Core.List.{[], ◌∷◌}
use lib.IntN.{pos, negsuc}
use Rattle.model.specs.Tables.{swaps, operator_in}
use Rattle.model.specs.Update.{Listed}
use Rattle.model.specs.Update.Tree.{cell, number, constant, operator}
use Rattle.model.specs.Update.Trees.{nil, cons}
use Rattle.model.specs.Reply.{left}
use Rattle.writer.specs.File.{little_bytes, subscripts_of, form_bytes, cell_bytes, tree_bytes, trees_bytes, update_bytes, array_bytes, table_bytes, file_in, version_of, file_of}
use Rattle.writer.specs.Write.{narrow, literals_fit, first_wide, file_fits, file, refused, written_by}

copies : Listed
copies =
    record {
      tables = record {
        operators = [];
        arrays = record { role = 0; extents = 2 ∷ [] } ∷ record { role = 1; extents = 2 ∷ [] } ∷ [];
      };
      updates = record { array = 1; target = 0; source = cell 0 0 } ∷ record { array = 1; target = 1; source = cell 0 1 } ∷ [];
    }

copied : file_of copies ≡
    0x41 ∷ 0x4C ∷ 0x50 ∷ 1 ∷ 0 ∷ 0 ∷ 2 ∷ 0 ∷ 1 ∷ 2 ∷ 0 ∷ 1 ∷ 1 ∷ 2 ∷ 0
    ∷ 1 ∷ 1 ∷ 0 ∷ 0 ∷ 0x10 ∷ 0 ∷ 0 ∷ 0
    ∷ 1 ∷ 1 ∷ 1 ∷ 0 ∷ 0x10 ∷ 0 ∷ 1 ∷ 0
    ∷ 0 ∷ []
unfolding copies file_of file_in version_of operator_in swaps table_bytes array_bytes little_bytes update_bytes cell_bytes form_bytes subscripts_of tree_bytes trees_bytes
copied = refl

subscripts : subscripts_of (2 ∷ 3 ∷ 4 ∷ []) 23 ≡ 1 ∷ 2 ∷ 3 ∷ []
unfolding subscripts_of
subscripts = refl

sums : Listed
sums =
    record {
      tables = record { operators = 0x82 ∷ []; arrays = record { role = 1; extents = 2 ∷ 3 ∷ [] } ∷ [] };
      updates = record { array = 0; target = 5; source = operator 0 (cons (number (negsuc 0)) (cons (constant 0x01020304) nil)) } ∷ [];
    }

summed : file_of sums ≡
    0x41 ∷ 0x4C ∷ 0x50 ∷ 2 ∷ 0 ∷ 1 ∷ 0x82 ∷ 1 ∷ 1 ∷ 2 ∷ 2 ∷ 0 ∷ 3 ∷ 0
    ∷ 1 ∷ 0 ∷ 1 ∷ 0 ∷ 2 ∷ 0 ∷ 0x11 ∷ 0 ∷ 0x12 ∷ 0xFF ∷ 0xFF ∷ 0x13 ∷ 4 ∷ 3 ∷ 2 ∷ 1
    ∷ 0 ∷ []
unfolding sums file_of file_in version_of operator_in swaps table_bytes array_bytes little_bytes update_bytes cell_bytes form_bytes subscripts_of tree_bytes trees_bytes
summed = refl

-- the last byte that is needed, and the first literal that does not fit
wide : Listed
wide = record { tables = sums.tables; updates = record { array = 0; target = 0; source = number (pos 32767) } ∷ record { array = 0; target = 0; source = number (pos 32768) } ∷ [] }

replies : (written_by sums 31 ≡ file 31) × (written_by sums 30 ≡ refused left 29 0) × (written_by wide 99 ≡ refused left 28 1)
unfolding sums wide written_by literals_fit first_wide file_fits narrow file_of file_in version_of operator_in swaps table_bytes array_bytes little_bytes update_bytes cell_bytes form_bytes subscripts_of tree_bytes trees_bytes
replies = (refl, refl, refl)
