-- The tables of two lists, word by word: what the code finds of questions 22 and 23, and the bits of the out arrays.
use Rattle.std.specs.Prelude.{ℕ, zero, suc, ◌+◌, ◌*◌, ◌≤◌, ◌<◌, ◌≡◌, List, Result, Ok, Err, true, cond, length, get_or, eqb}
use Rattle.model.specs.Tables as model
use Rattle.model.specs.Reply.{Reply, refused, both}
use Rattle.unroller.specs.Allowed.{allowed_tables}
use Rattle.unroller.specs.Stands.{HeaderAt}
use Rattle.comparer.specs.Match.{same_array, non_local, same_table}
use Rattle.comparer.specs.declared.tables.Unequal.{Unequal}
use Rattle.comparer.specs.declared.tables.Unequal.TheVariants as unequal

-- the words hold tables that the file allows
pub record Heads (list : List ℕ) (t : model.Tables) : Type 0 where
  pub header : HeaderAt list t
  pub allows : allowed_tables t ≡ true

-- both tables lie within the header
pub record Counted (list : List ℕ) : Type 0 where
  pub room : 98 ≤ length list
  pub operators : get_or list 0 0 ≤ 16
  pub arrays : get_or list 17 0 ≤ 16

-- the bits of the out arrays among n from number a on, whose bit is the lowest, by the words of their roles
unfoldable pub bits_from : List ℕ → ℕ → ℕ → ℕ
bits_from list a zero = 0
bits_from list a (suc n) = cond (eqb (get_or list (18 + 5 * a) 0) 1) 1 0 + 2 * bits_from list (suc a) n

-- n arrays stand before the first local one
pub record Leads (list : List ℕ) (n : ℕ) : Type 0 where
  pub most : n ≤ get_or list 17 0
  pub before : (a : ℕ) → a < n → get_or list (18 + 5 * a) 0 ≡ 3 → ⊥
  pub ends : n < get_or list 17 0 → get_or list (18 + 5 * n) 0 ≡ 3

-- the first word of `from` to `to` that differs is number i, or i is `to`
pub record FirstApart (left right : List ℕ) (from to i : ℕ) : Type 0 where
  pub low : from ≤ i
  pub high : i ≤ to
  pub same : (j : ℕ) → from ≤ j → j < i → get_or left j 0 ≡ get_or right j 0
  pub apart : i < to → get_or left i 0 ≡ get_or right i 0 → ⊥

-- the reply that an answer stands for, where it is `agreed` for tables that agree
abbrev pub told_reply : Reply → Result Unit Unequal → Reply
told_reply agreed (Ok _) = agreed
told_reply agreed (Err (unequal.Arrays a)) = refused both 22 a
told_reply agreed (Err (unequal.Operators o)) = refused both 23 o

unfoldable pub ArraysTell : List ℕ → List ℕ → Result Unit Unequal → Type 0
ArraysTell left right r =
    (x y : model.Tables) → Heads left x → Heads right y → (agreed : Reply) → same_table same_array 22 agreed 0 (non_local x.arrays) (non_local y.arrays) ≡ told_reply agreed r

unfoldable pub OperatorsTell : List ℕ → List ℕ → Result Unit Unequal → Type 0
OperatorsTell left right r = (x y : model.Tables) → Heads left x → Heads right y → (agreed : Reply) → same_table eqb 23 agreed 0 x.operators y.operators ≡ told_reply agreed r

-- 22, then 23
abbrev pub tables_reply : Reply → model.Tables → model.Tables → Reply
tables_reply agreed x y = same_table same_array 22 (same_table eqb 23 agreed 0 x.operators y.operators) 0 (non_local x.arrays) (non_local y.arrays)

unfoldable pub TablesTell : List ℕ → List ℕ → Result Unit Unequal → Type 0
TablesTell left right r = (x y : model.Tables) → Heads left x → Heads right y → (agreed : Reply) → tables_reply agreed x y ≡ told_reply agreed r
