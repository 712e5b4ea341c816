-- The writer's reply, and what it leaves in the lent output.
use Rattle.std.specs.Prelude.{ℕ, suc, List, [], ◌∷◌, ◌++◌, Bool, true, ◌&&◌, length, drop, leb, if◌then◌else◌}
use Rattle.std.proofs.Math.Option.{Option, some}
use Rattle.std.proofs.Math.Option.Option.{none as nothing}
use Rattle.model.specs.Test.{every}
use Rattle.model.specs.Update.{Tree, Trees, Update, Listed}
use Rattle.model.specs.Update.Tree.{cell, number, constant, operator}
use Rattle.model.specs.Update.Trees.{nil, cons}
use Rattle.model.specs.Reply.{Side, left, both}
use Rattle.model.specs.Memory.{list_words}
use Rattle.unroller.specs.Run.{fits16}
use Rattle.unroller.specs.Decode.{decode}
use Rattle.writer.specs.File.{file_of}

-- every literal fits in 16 signed bits
unfoldable mutual
  pub narrow : Tree → Bool
  narrow (cell a c) = true
  narrow (number z) = fits16 z
  narrow (constant n) = true
  narrow (operator o ts) = narrows ts

  pub narrows : Trees → Bool
  narrows nil = true
  narrows (cons t ts) = narrow t && narrows ts

abbrev pub narrow_update : Update → Bool
narrow_update u = narrow u.source

-- does every literal fit in 16 signed bits? 28
unfoldable pub literals_fit : Listed → Bool
literals_fit l = every narrow_update l.updates

-- the first update that has a literal which does not fit, from 0
unfoldable pub first_wide : List Update → ℕ
first_wide [] = 0
first_wide (u ∷ us) = if narrow_update u then suc (first_wide us) else 0

-- is the file at most 16,384 bytes and no longer than the lent output? 29
unfoldable pub file_fits : Listed → ℕ → Bool
file_fits l n = leb (length (file_of l)) 16384 && leb (length (file_of l)) n

pub data Written : Type 0 where
  file : ℕ → Written
  refused : Side → ℕ → ℕ → Written

-- 28, then 29, of a list, for an output of n bytes
unfoldable pub written_by : Listed → ℕ → Written
written_by l n =
    if literals_fit l
    then (if file_fits l n then file (length (file_of l)) else refused left 29 0)
    else refused left 28 (first_wide l.updates)

abbrev pub answered_by : Option Listed → ℕ → Written
answered_by (some l) n = written_by l n
answered_by nothing n = refused left 26 0

-- 25, then 26, then 28 and 29; the reply to a list, for an output of n bytes
unfoldable pub write_reply : List ℕ → ℕ → Written
write_reply list n = if leb list_words (length list) then answered_by (decode list) n else refused both 25 0

-- the file, and the output beyond it
abbrev pub laid_over : List ℕ → List ℕ → List ℕ
laid_over bytes out = bytes ++ drop (length bytes) out

abbrev pub left_by : Option Listed → Written → List ℕ → List ℕ
left_by (some l) (file n) out = laid_over (file_of l) out
left_by (some l) (refused side question place) out = out
left_by nothing reply out = out

-- what stays in the lent output: the file, and beyond it what was there; all that was there on a refusal
unfoldable pub write_leaves : List ℕ → List ℕ → List ℕ
write_leaves list out = left_by (decode list) (write_reply list (length out)) out
