-- The grammar of a program file (docs/FORMAT.md, "The file"), with the questions 2 to 14 at their fields.
use Rattle.std.specs.Prelude.{ℕ, zero, suc, ◌+◌, List, [], ◌∷◌, Bool, true, false, ◌&&◌, ◌||◌, not, length, ltb, leb, eqb, ℤ, pos, negsuc, if◌then◌else◌}
use Rattle.model.specs.Test.{within}
use Rattle.model.specs.Tables.{Array, Tables, cells, array_at, local, operator_in, arity_at}
use Rattle.reader.specs.Field.{Outcome, got, no, Reader, ◌>>=◌, give, refuse, here, ask, little_endian, field, byte, u16, u32, i8, i16, times}
use Rattle.reader.specs.Syntax.{Form, Expr, Item, Items, Program}
use Rattle.reader.specs.Syntax.Expr.{read, apply, literal, named}
use Rattle.reader.specs.Syntax.Exprs.{none, more}
use Rattle.reader.specs.Syntax.Item.{statement, loop, guard}
use Rattle.reader.specs.Syntax.Items.{end, item}

abbrev pub mark : List ℕ
mark = 0x41 ∷ 0x4C ∷ 0x50 ∷ []

-- the version, 1 or 2
unfoldable pub head : Reader ℕ
head = do
  p ← here
  m ← field 3
  _ ← ask 4 p (eqb m (little_endian 3 mark 0))
  q ← here
  version ← u16
  _ ← ask 5 q (within 1 2 version)
  give version

unfoldable pub operator_of : ℕ → Reader ℕ
operator_of version = do
  p ← here
  b ← byte
  _ ← ask 6 p (operator_in version b)
  give b

unfoldable pub operators : ℕ → Reader (List ℕ)
operators version = do
  p ← here
  n ← byte
  _ ← ask 6 p (leb n 16)
  times [] ◌∷◌ (operator_of version) n

unfoldable pub extent : Reader ℕ
extent = do
  p ← here
  e ← u16
  _ ← ask 7 p (within 1 1024 e)
  give e

-- an array, where a local came just before it or not, and so many cells before it
unfoldable pub array : Bool → ℕ → Reader Array
array after before = do
  p ← here
  role ← byte
  _ ← ask 7 p (leb role 3 && (not after || eqb role 3))
  q ← here
  dimensions ← byte
  _ ← ask 7 q (within 1 3 dimensions)
  extents ← times [] ◌∷◌ extent dimensions
  _ ← ask 8 p (leb (before + cells extents) 2048)
  give (record { role = role; extents = extents })

unfoldable pub arrays : ℕ → Bool → ℕ → Reader (List Array)
arrays zero after before = give []
arrays (suc n) after before = do
  x ← array after before
  xs ← arrays n (local x) (before + cells x.extents)
  give (x ∷ xs)

unfoldable pub tables : Reader Tables
tables = do
  version ← head
  ops ← operators version
  p ← here
  n ← byte
  _ ← ask 7 p (within 1 16 n)
  xs ← arrays n false 0
  give (record { operators = ops; arrays = xs })

-- a form inside so many loops
unfoldable pub form : ℕ → Reader Form
form loops = do
  constant ← i16
  coefficients ← times [] ◌∷◌ i8 loops
  give (record { constant = constant; coefficients = coefficients })

-- one form for each dimension of array a
unfoldable pub subscripts : Tables → ℕ → ℕ → Reader (List Form)
subscripts t loops a = times [] ◌∷◌ (form loops) (length (array_at t.arrays a).extents)

-- the number of one of n arrays or operators. Is it declared? 10
unfoldable pub index : ℕ → Reader ℕ
index n = do
  p ← here
  x ← byte
  _ ← ask 10 p (ltb x n)
  give x

module _ (t : Tables) (loops : ℕ) where
  unfoldable pub read_of : Reader Expr
  read_of = do
    a ← index (length t.arrays)
    fs ← subscripts t loops a
    give (read a fs)

  unfoldable pub literal_of : Reader Expr
  literal_of = do
    f ← form loops
    give (literal f)

  unfoldable pub constant_of : Reader Expr
  constant_of = do
    n ← u32
    give (named n)

  -- an operator and its arguments, each read by `one`
  unfoldable pub apply_of : Reader Expr → Reader Expr
  apply_of one = do
    o ← index (length t.operators)
    es ← times none more one (arity_at t.operators o)
    give (apply o es)

  -- a code byte and what follows it; `applied p` reads what follows an operator's code at p
  unfoldable pub node : (ℕ → Reader Expr) → Reader Expr
  node applied = do
    p ← here
    code ← byte
    if eqb code 0x10 then read_of
        else if eqb code 0x11 then applied p
        else if eqb code 0x12 then literal_of
        else if eqb code 0x13 then constant_of
        else refuse 9 p

  -- operators may nest `left` deep, the one whose code stands at p counted
  unfoldable pub applied : ℕ → ℕ → Reader Expr
  applied zero p = refuse 12 p
  applied (suc left) p = apply_of (node (applied left))

  unfoldable pub expression : Reader Expr
  expression = node (applied 12)

  -- a statement whose code stands at p
  unfoldable pub statement_of : ℕ → Reader Item
  statement_of p = do
    q ← here
    a ← index (length t.arrays)
    _ ← ask 13 q (not (eqb (array_at t.arrays a).role 0))
    fs ← subscripts t loops a
    e ← expression
    give (statement p a fs e)

abbrev is_zero : ℤ → Bool
is_zero (pos zero) = true
is_zero (pos (suc n)) = false
is_zero (negsuc n) = false

-- a loop's step, not 0
unfoldable pub step : Reader ℤ
step = do
  p ← here
  z ← i16
  _ ← ask 11 p (not (is_zero z))
  give z

unfoldable pub loop_of : ℕ → Reader Items → ℕ → Reader Item
loop_of loops body p = do
  s ← form loops
  e ← form loops
  z ← step
  is ← body
  give (loop p s e z is)

unfoldable pub guard_of : ℕ → Reader Items → ℕ → Reader Item
guard_of loops body p = do
  f ← form loops
  is ← body
  give (guard p f is)

-- Items up to their closing 00; `one` reads what follows a code byte. Each takes a byte at least, so there are no more than bytes.
unfoldable pub items : (ℕ → ℕ → Reader Item) → ℕ → Reader Items
items one zero = do
  p ← here
  refuse 3 p
items one (suc most) = do
  p ← here
  code ← byte
  if eqb code 0 then give end else (do
    i ← one code p
    is ← items one most
    give (item i is))

module _ (t : Tables) (most : ℕ) where
  -- what follows the code of an item at p; `nested` reads what follows a loop's or a guard's
  unfoldable pub item_of : (ℕ → ℕ → Reader Item) → ℕ → ℕ → ℕ → Reader Item
  item_of nested loops code p =
      if eqb code 1 then statement_of t loops p
      else if eqb code 2 || eqb code 3 then nested code p
      else refuse 9 p

  -- loops and guards may nest `left` deep, the one whose code stands at p counted
  unfoldable pub nested : ℕ → ℕ → ℕ → ℕ → Reader Item
  nested zero loops code p = refuse 12 p
  nested (suc left) loops code p =
      if eqb code 2
      then loop_of loops (items (item_of (nested left (suc loops)) (suc loops)) most) p
      else guard_of loops (items (item_of (nested left loops) loops) most) p

  -- the items inside so many loops, where loops and guards may still nest `left` deep
  unfoldable pub body : ℕ → ℕ → Reader Items
  body left loops = items (item_of (nested left loops) loops) most

abbrev pub size_of : Reader ℕ
size_of s at = got (length s) at

unfoldable pub program : Reader Program
program = do
  t ← tables
  n ← size_of
  is ← body t n 8 0
  p ← here
  _ ← ask 14 p (eqb p n)
  give (record { tables = t; items = is })

-- Is the program at most 16,384 bytes? 2
abbrev pub sized : {A : Type 0} → Reader A → List ℕ → Outcome A
sized reader s = if leb (length s) 16384 then reader s 0 else no 2 0

unfoldable pub read_program : List ℕ → Outcome Program
read_program s = sized program s
