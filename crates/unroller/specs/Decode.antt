-- The list that words lay out, if any. Each line is a word, or a part of question 26.
use Rattle.std.specs.Prelude.{ℕ, zero, suc, ◌+◌, ◌-◌, ◌*◌, List, [], ◌∷◌, ◌++◌, Bool, false, ◌&&◌, ◌||◌, not, length, ltb, leb, eqb, if◌then◌else◌}
use Rattle.std.proofs.Math.Option.{Option, some}
use Rattle.std.proofs.Math.Option.Option.{none as nothing}
use Rattle.std.specs.Int.{w32}
use Rattle.std.proofs.Common.{to_z}
use Rattle.model.specs.Test.{within}
use Rattle.model.specs.Tables.{Array, Tables, cells, array_at, local, starts, inside, operator_byte, arity_at}
use Rattle.model.specs.Update.{Tree, Update, Listed, size, nodes, written}
use Rattle.model.specs.Update.Tree.{cell, number, constant, operator}
use Rattle.model.specs.Update.Trees.{nil, cons}
use Rattle.unroller.specs.Words.{Out, got, none, Reader, and_then, ◌>>=◌, give, refuse, ask, word, times, zeros, is_got, all_zero}
use Rattle.unroller.specs.Allowed.{may_write}

-- a word that passes a test
abbrev pub tested : (ℕ → Bool) → Reader ℕ
tested test = do
  x ← word
  _ ← ask (test x)
  give x

-- a word from low to high
abbrev pub between : ℕ → ℕ → Reader ℕ
between low high = tested (within low high)

unfoldable pub operators : ℕ → Reader (List ℕ)
operators n = times [] ◌∷◌ (tested operator_byte) n

unfoldable pub extents : ℕ → Reader (List ℕ)
extents n = do
  es ← times [] ◌∷◌ (between 1 1024) n
  _ ← zeros (3 - n)
  give es

unfoldable pub array : Reader Array
array = do
  role ← between 0 3
  dimensions ← between 1 3
  es ← extents dimensions
  give (record { role = role; extents = es })

-- n arrays, where a local came just before or not, and so many cells before
unfoldable pub arrays : ℕ → Bool → ℕ → Reader (List Array)
arrays zero after before = give []
arrays (suc n) after before = do
  x ← array
  _ ← ask (not after || local x)
  _ ← ask (leb (before + cells x.extents) 2048)
  xs ← arrays n (local x) (before + cells x.extents)
  give (x ∷ xs)

unfoldable pub tables : Reader Tables
tables = do
  n ← between 0 16
  ops ← operators n
  _ ← zeros (16 - n)
  m ← between 1 16
  xs ← arrays m false 0
  _ ← zeros (5 * (16 - m))
  give (record { operators = ops; arrays = xs })

-- a declared cell of an in or inout array, or written before
unfoldable pub may_read : List Array → List Update → ℕ → ℕ → Bool
may_read xs before a c = inside xs a c && (starts (array_at xs a) || written before a c)

-- expressions over these operators, and cells that may be read
module _ (ops : List ℕ) (reads : ℕ → ℕ → Bool) where
  unfoldable pub applied : Reader Tree → ℕ → Reader Tree
  applied one o = do
    _ ← ask (ltb o (length ops))
    ts ← times nil cons one (arity_at ops o)
    give (operator o ts)

  -- a record of three words; `operates` reads what follows an operator's
  unfoldable pub node : (ℕ → Reader Tree) → Reader Tree
  node operates = do
    code ← word
    x ← word
    y ← word
    if eqb code 16 then (do
      _ ← ask (reads x y)
      give (cell x y))
        else if eqb code 17 then (do
          _ ← ask (eqb y 0)
          operates x)
        else if eqb code 18 then (do
          _ ← ask (ltb x 4294967296 && eqb y 0)
          give (number (to_z w32 x)))
        else if eqb code 19 then (do
          _ ← ask (ltb x 4294967296 && eqb y 0)
          give (constant x))
        else refuse

  -- operators may nest `left` deep
  unfoldable pub operates : ℕ → ℕ → Reader Tree
  operates zero o = refuse
  operates (suc left) o = applied (node (operates left)) o

  unfoldable pub expr : ℕ → Reader Tree
  expr left = node (operates left)

-- an update behind others that have so many nodes
unfoldable pub update : List ℕ → (ℕ → ℕ → Bool) → (ℕ → ℕ → Bool) → ℕ → Reader Update
update ops writes reads count = do
  code ← word
  a ← word
  c ← word
  _ ← ask (eqb code 1 && writes a c)
  t ← expr ops reads 12
  _ ← ask (leb (count + size t) 8192)
  give (record { array = a; target = c; source = t })

-- updates behind `before`, at most `left` of them, and then zeros
unfoldable pub updates : Tables → ℕ → List Update → Reader (List Update)
updates t zero before s = if all_zero s then got before [] else none
updates t (suc left) before s =
    if all_zero s then got before [] else
    and_then (update t.operators (may_write t.arrays) (may_read t.arrays before) (nodes before) s) (λ u. updates t left (before ++ (u ∷ [])))

unfoldable pub list : Reader Listed
list = do
  t ← tables
  us ← updates t 2048 []
  give (record { tables = t; updates = us })

abbrev pub list_of : Out Listed → Option Listed
list_of (got l rest) = some l
list_of none = nothing

-- question 26 has a yes where this has a value
unfoldable pub decode : List ℕ → Option Listed
decode w = list_of (list w)

-- question 26
unfoldable pub accepted : List ℕ → Bool
accepted w = is_got (list w)
