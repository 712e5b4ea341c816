-- What holds of the traced run and of an element's origin; the claims cite these.
use Rattle.std.specs.Prelude.{ℕ, suc, ◌+◌, ◌-◌, ◌≤◌, ◌<◌, ◌≡◌, ◌⊎◌, List, [], ◌∷◌, ◌++◌, true, false, length, get_or, take, drop}
use Rattle.model.specs.Tables.{Tables}
use Rattle.model.specs.Update.{Update, Listed, writes, written}
use Rattle.reader.specs.Field.{got}
use Rattle.reader.specs.Syntax.{Form, Expr, Item, Items, Program}
use Rattle.reader.specs.Syntax.Item.{statement, loop, guard}
use Rattle.reader.specs.Syntax.Items.{end, item}
use Rattle.reader.specs.Grammar.{statement_of, read_program}
use Rattle.unroller.specs.Run.{ok, cell_at, tree}
use Rattle.unroller.specs.Executed.{Executed, execution, Origin, origin_by}

-- the update that an executed statement makes
pub record Does (t : Tables) (x : Executed) (u : Update) : Type 0 where
  pub into : u.array ≡ x.array
  pub cell : cell_at t x.place x.values x.array x.subscripts ≡ ok u.target
  pub value : tree x.source t x.place x.values ≡ ok u.source

-- one update for each executed statement, in order
abbrev pub Happens : Tables → List Executed → List Update → Type 0
Happens t [] [] = Unit {0}
Happens t [] (u ∷ us) = ⊥
Happens t (x ∷ xs) [] = ⊥
Happens t (x ∷ xs) (u ∷ us) = Does t x u × Happens t xs us

-- a program, and the updates of its traced run
pub record Traced (s : List ℕ) (l : Listed) : Type 0 where
  pub program : Program
  pub next : ℕ
  pub is_read : read_program s ≡ got program next
  pub tables : l.tables ≡ program.tables
  pub happens : Happens program.tables (execution program) l.updates

-- The origin is that of the last update that writes the element: one executed statement and its update, as many before each, and no
-- later update that writes it.
pub record Last (s : List ℕ) (p : Program) (us : List Update) (a e : ℕ) (o : Origin) : Type 0 where
  pub before : List Executed
  pub executed : Executed
  pub behind : List Executed
  pub earlier : List Update
  pub update : Update
  pub later : List Update
  pub ran : execution p ≡ before ++ executed ∷ behind
  pub made : us ≡ earlier ++ update ∷ later
  pub same_number : length before ≡ length earlier
  pub does : Does p.tables executed update
  pub writes_it : writes update a e ≡ true
  pub no_later : written later a e ≡ false
  pub origin : o ≡ origin_by s p.tables executed

-- item i is j, or stands in it inside n of its loops
unfoldable mutual
  pub Inside : Item → ℕ → Item → Type 0
  Inside i n (statement p a fs e) = (n ≡ 0) × (i ≡ statement p a fs e)
  Inside i n (loop p f g z body) = (m : ℕ) × (n ≡ suc m) × InsideAny i m body
  Inside i n (guard p f body) = InsideAny i n body

  pub InsideAny : Item → ℕ → Items → Type 0
  InsideAny i n end = ⊥
  InsideAny i n (item j rest) = Inside i n j ⊎ InsideAny i n rest

-- the bytes of an origin's stretch
abbrev pub stretch_of : List ℕ → Origin → List ℕ
stretch_of s o = take (o.to - o.from) (drop o.from s)

-- The stretch lies in the file and begins with the code byte 01. In the file, and alone, it reads as exactly one statement, inside as
-- many loops as there are index values, and so many loops of the program are around it. At these index values that statement writes
-- cell e of array a.
pub record Stretch (s : List ℕ) (p : Program) (a e : ℕ) (o : Origin) : Type 0 where
  pub subscripts : List Form
  pub source : Expr
  pub some_bytes : o.from < o.to
  pub in_bytes : o.to ≤ length s
  pub code : get_or s o.from 0 ≡ 1
  pub first : get_or (stretch_of s o) 0 0 ≡ 1
  pub reads : statement_of p.tables (length o.values) o.from s (o.from + 1) ≡ got (statement o.from a subscripts source) o.to
  pub alone : statement_of p.tables (length o.values) o.from (stretch_of s o) 1 ≡ got (statement o.from a subscripts source) (length (stretch_of s o))
  pub around : InsideAny (statement o.from a subscripts source) (length o.values) p.items
  pub few : length o.values ≤ 8
  pub cell : cell_at p.tables o.from o.values a subscripts ≡ ok e

-- an element of a program that unrolls, and its origin
pub record WrittenAt (s : List ℕ) (l : Listed) (a e : ℕ) (o : Origin) : Type 0 where
  pub traced : Traced s l
  pub last : Last s traced.program l.updates a e o
  pub stretch : Stretch s traced.program a e o
