-- What the unroller's answer says, and what its private functions leave in the lent list.
use Rattle.std.specs.Prelude.{ℕ, zero, suc, ◌+◌, ◌*◌, ◌≡◌, List, [], ◌∷◌, ◌++◌, length, get_or, Result, Ok, Err}
use Rattle.model.specs.Questions.{number_of}
use Rattle.model.specs.Reply.{left, both}
use Rattle.model.specs.Memory.{cleared}
use Rattle.reader.specs.Field.{got}
use Rattle.reader.specs.Syntax.{Program}
use Rattle.reader.specs.Grammar.{read_program}
use Rattle.reader.specs.Entries.{cut, unpacked}
use Rattle.reader.specs.declared.tables.Tables.{Tables as Packed}
use Rattle.unroller.specs.Run.{run_program}
use Rattle.unroller.specs.Unroll as Unroll
use Rattle.unroller.specs.declared.entry.UnrollError.{UnrollError}
use Rattle.unroller.specs.declared.entry.UnrollError.TheVariants.{Refused, Short}

-- the reply that each case stands for; a program alone is the left one
abbrev pub unrolled_says : Result ℕ UnrollError → Unroll.Unrolled
unrolled_says (Ok n) = Unroll.updates n
unrolled_says (Err (Refused e)) = Unroll.refused left (number_of e.question) e.place
unrolled_says (Err Short) = Unroll.refused both 25 0

-- five words for each of n arrays, from number k on
unfoldable pub rows : ℕ → ℕ → List ℕ → List ℕ → List ℕ → List ℕ
rows zero k roles dimensions extents = []
rows (suc n) k roles dimensions extents =
    get_or roles k 0 ∷ get_or dimensions k 0 ∷ get_or extents (3 * k) 0 ∷ get_or extents (3 * k + 1) 0 ∷ get_or extents (3 * k + 2) 0 ∷ rows n (k + 1) roles dimensions extents

-- the 98 words of the header, as the code's tables hold them
unfoldable pub head_words : Packed → List ℕ
head_words t = length (unpacked t).operators ∷ cut 16 0 t.bytes ++ length (unpacked t).arrays ∷ rows 16 0 t.roles t.dimensions t.extents

-- An accepted program, unrolled into a cleared list.
unfoldable pub Unrolls : List ℕ → List ℕ → Result ℕ UnrollError → List ℕ → Type 0
Unrolls s list r list' =
    (p : Program) (next : ℕ) → read_program s ≡ got p next → list ≡ cleared list
    → (unrolled_says r ≡ Unroll.unroll_reply_by (Unroll.listed_by p.tables (run_program p))) × (list' ≡ Unroll.words_of (Unroll.listed_by p.tables (run_program p)) (length list))
