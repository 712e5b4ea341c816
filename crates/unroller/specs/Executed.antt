-- The statements that a program executes, in order, each with the index values of its loops; and the one that wrote an element last.
use Rattle.std.specs.Prelude.{ℕ, ◌+◌, List, [], ◌∷◌, ◌++◌, Bool, true, false, ◌&&◌, length, eqb, ℤ, pos, if◌then◌else◌}
use Rattle.std.proofs.Math.Option.{Option, none, some}
use Rattle.std.specs.Int.Signed.{le_z}
use Rattle.model.specs.Tables.{Tables}
use Rattle.reader.specs.Field.{Outcome, got, no}
use Rattle.reader.specs.Syntax.{Form, Expr, Item, Items, Program}
use Rattle.reader.specs.Syntax.Item.{statement, loop, guard}
use Rattle.reader.specs.Syntax.Items.{end, item}
use Rattle.reader.specs.Grammar.{statement_of, read_program}
use Rattle.unroller.specs.Run.{Ran, ok, stop, value_at, cell_at, indices}

-- An executed statement: the place of its code byte, the index values of its loops, outermost first, and what it says.
pub record Executed : Type 0 where
  pub place : ℕ
  pub values : List ℤ
  pub array : ℕ
  pub subscripts : List Form
  pub source : Expr

-- what f gives for each index value, in order
abbrev pub each : {A : Type 0} → (ℤ → List A) → List ℤ → List A
each f [] = []
each f (i ∷ is) = f i ++ each f is

-- The traced run: items run in order, and no question is asked. Of a program that runs without a "no" these make its updates (`Happens`).
unfoldable mutual
  pub executed : Item → List ℤ → List Executed
  executed (statement p a fs e) is = record { place = p; values = is; array = a; subscripts = fs; source = e } ∷ []
  executed (loop p s e step body) is = each (λ i. executeds body (is ++ (i ∷ []))) (indices 65536 step (value_at e is) (value_at s is))
  executed (guard p f body) is = elim (le_z (pos 0) (value_at f is)) as (λ b. List Executed) [ true ↦ executeds body is | false ↦ [] ]

  pub executeds : Items → List ℤ → List Executed
  executeds end is = []
  executeds (item i rest) is = executed i is ++ executeds rest is

-- the statements of a whole program
unfoldable pub execution : Program → List Executed
execution p = executeds p.items []

abbrev pub hits : Ran ℕ → ℕ → Bool
hits (ok c) e = eqb c e
hits (stop question place) e = false

-- it writes cell e of array a
unfoldable pub writes_to : Tables → ℕ → ℕ → Executed → Bool
writes_to t a e x = eqb x.array a && hits (cell_at t x.place x.values x.array x.subscripts) e

module _ {A : Type 0} where
  abbrev pub or_else : Option A → Option A → Option A
  or_else (some x) y = some x
  or_else none y = y

  -- the last that f holds of
  abbrev pub last : (A → Bool) → List A → Option A
  last f [] = none
  last f (x ∷ xs) = let rest = last f xs in or_else rest (if f x then some x else none)

-- The origin of an update: the place of its statement's code byte, the place past its expression, and the index values, outermost first.
pub record Origin : Type 0 where
  pub from : ℕ
  pub to : ℕ
  pub values : List ℤ

abbrev pub end_in : {A : Type 0} → ℕ → Outcome A → ℕ
end_in p (got a next) = next
end_in p (no question place) = p

-- the place past the statement, read again where it stands, inside as many loops as it has index values
unfoldable pub end_of : List ℕ → Tables → Executed → ℕ
end_of s t x = end_in x.place (statement_of t (length x.values) x.place s (x.place + 1))

abbrev pub origin_by : List ℕ → Tables → Executed → Origin
origin_by s t x = record { from = x.place; to = end_of s t x; values = x.values }

abbrev pub origin_at : List ℕ → Tables → Option Executed → Option Origin
origin_at s t none = none
origin_at s t (some x) = some (origin_by s t x)

abbrev pub origin_in : List ℕ → Outcome Program → ℕ → ℕ → Option Origin
origin_in s (got p next) a e = origin_at s p.tables (last (writes_to p.tables a e) (execution p))
origin_in s (no question place) a e = none

-- The origin of an element, cell e of array a: that of the last update that writes it; none where no update does.
unfoldable pub origin_of : List ℕ → ℕ → ℕ → Option Origin
origin_of s a e = origin_in s (read_program s) a e
