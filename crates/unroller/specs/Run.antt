-- The run of a program (docs/FORMAT.md, "The run"): its updates in order, or the first of the questions 15 to 20 whose answer is no.
use Rattle.std.specs.Prelude.{ℕ, zero, suc, ◌+◌, ◌*◌, List, [], ◌∷◌, ◌++◌, Bool, true, false, ◌&&◌, ◌||◌, length, ltb, leb, ℤ, pos, negsuc, ◌+ℤ◌, ◌*ℤ◌}
use Rattle.std.specs.Int.Signed.{le_z}
use Rattle.model.specs.Tables.{Array, Tables, array_at, starts}
use Rattle.model.specs.Update.{Tree, Trees, Update, written}
use Rattle.model.specs.Update.Tree.{cell, number, constant, operator}
use Rattle.model.specs.Update.Trees.{nil, cons}
use Rattle.reader.specs.Syntax.{Form, Expr, Exprs, Item, Items, Program, count}
use Rattle.reader.specs.Syntax.Expr.{read, apply, literal, named}
use Rattle.reader.specs.Syntax.Exprs.{none, more}
use Rattle.reader.specs.Syntax.Item.{statement, loop, guard}
use Rattle.reader.specs.Syntax.Items.{end, item}

pub data Ran (A : Type 0) : Type 0 where
  ok : A → Ran A
  stop : ℕ → ℕ → Ran A

infixl 10 ◌>>=◌
-- what follows; a "no" ends the work
abbrev pub ◌>>=◌ : {A B : Type 0} → Ran A → (A → Ran B) → Ran B
◌>>=◌ (ok a) f = f a
◌>>=◌ (stop question place) f = stop question place

abbrev pub ask : ℕ → ℕ → Bool → Ran ℕ
ask question place true = ok 0
ask question place false = stop question place

-- the coefficients times the index values, outermost first
abbrev pub products : List ℤ → List ℤ → ℤ
products [] is = pos 0
products (c ∷ cs) [] = pos 0
products (c ∷ cs) (i ∷ is) = c *ℤ i +ℤ products cs is

abbrev pub value_at : Form → List ℤ → ℤ
value_at f is = f.constant +ℤ products f.coefficients is

-- is a subscript inside its extent? 16
abbrev pub in_extent : ℕ → ℕ → ℤ → Ran ℕ
in_extent p e (pos v) = do
  _ ← ask 16 p (ltb v e)
  ok v
in_extent p e (negsuc v) = stop 16 p

-- the cell at these subscripts, last fastest; n is the number made of the subscripts before them
unfoldable pub cell_from : ℕ → List ℤ → ℕ → List ℕ → List Form → Ran ℕ
cell_from p is n [] fs = ok n
cell_from p is n (e ∷ es) [] = ok n
cell_from p is n (e ∷ es) (f ∷ fs) = do
  k ← in_extent p e (value_at f is)
  cell_from p is (n * e + k) es fs

unfoldable pub cell_at : Tables → ℕ → List ℤ → ℕ → List Form → Ran ℕ
cell_at t p is a fs = cell_from p is 0 (array_at t.arrays a).extents fs

unfoldable mutual
  pub tree : Expr → Tables → ℕ → List ℤ → Ran Tree
  tree (read a fs) t p is = do
    c ← cell_at t p is a fs
    ok (cell a c)
  tree (apply o es) t p is = do
    ts ← trees es t p is
    ok (operator o ts)
  tree (literal f) t p is = ok (number (value_at f is))
  tree (named n) t p is = ok (constant n)

  pub trees : Exprs → Tables → ℕ → List ℤ → Ran Trees
  trees none t p is = ok nil
  trees (more e es) t p is = do
    x ← tree e t p is
    xs ← trees es t p is
    ok (cons x xs)

-- each cell read from an out or local array is written by an earlier update
unfoldable mutual
  pub readable : Tree → List Array → List Update → Bool
  readable (cell a c) xs us = starts (array_at xs a) || written us a c
  readable (number z) xs us = true
  readable (constant n) xs us = true
  readable (operator o ts) xs us = readables ts xs us

  pub readables : Trees → List Array → List Update → Bool
  readables nil xs us = true
  readables (cons t ts) xs us = readable t xs us && readables ts xs us

-- what the run has done so far
pub record Done : Type 0 where
  pub rounds : ℕ
  pub nodes : ℕ
  pub updates : List Update

-- an executed statement: 19, 20, 16 of target and reads, 17
unfoldable pub update : Tables → ℕ → List ℤ → ℕ → List Form → Expr → Done → Ran Done
update t p is a fs e d = do
  _ ← ask 19 p (leb (length d.updates + 1) 2048)
  _ ← ask 20 p (leb (d.nodes + count e) 8192)
  c ← cell_at t p is a fs
  x ← tree e t p is
  _ ← ask 17 p (readable x t.arrays d.updates)
  ok (record { rounds = d.rounds; nodes = d.nodes + count e; updates = d.updates ++ (record { array = a; target = c; source = x } ∷ []) })

-- the index is not above the end, for a step above 0, or not below it
abbrev pub goes_on : ℤ → ℤ → ℤ → Bool
goes_on (pos n) last i = le_z i last
goes_on (negsuc n) last i = le_z last i

-- the index values of a loop: first, first + step, and so on. Both ends lie in 16 signed bits, so there are 65,536 at most.
unfoldable pub indices : ℕ → ℤ → ℤ → ℤ → List ℤ
indices zero step last i = []
indices (suc most) step last i = elim (goes_on step last i) [ true ↦ i ∷ indices most step last (i +ℤ step) | false ↦ [] ]

-- one round for each index value, of all loops together at most 65,536
unfoldable pub rounds : List ℤ → ℕ → (ℤ → Done → Ran Done) → Done → Ran Done
rounds [] p body d = ok d
rounds (i ∷ is) p body d = do
  _ ← ask 18 p (leb (d.rounds + 1) 65536)
  d' ← body i (record { rounds = d.rounds + 1; nodes = d.nodes; updates = d.updates })
  rounds is p body d'

-- at least −m − 1 and at most m
abbrev pub signed : ℕ → ℤ → Bool
signed m z = le_z (negsuc m) z && le_z z (pos m)

-- lies in 16 signed bits
abbrev pub fits16 : ℤ → Bool
fits16 = signed 32767

unfoldable mutual
  pub run : Item → Tables → List ℤ → Done → Ran Done
  run (statement p a fs e) t is d = update t p is a fs e d
  run (loop p s e step body) t is d = do
    _ ← ask 15 p (fits16 (value_at s is) && fits16 (value_at e is))
    rounds (indices 65536 step (value_at e is) (value_at s is)) p (λ i d'. runs body t (is ++ (i ∷ [])) d') d
  run (guard p f body) t is d = elim (le_z (pos 0) (value_at f is)) as (λ b. Ran Done) [ true ↦ runs body t is d | false ↦ ok d ]

  pub runs : Items → Tables → List ℤ → Done → Ran Done
  runs end t is d = ok d
  runs (item i rest) t is d = do
    d' ← run i t is d
    runs rest t is d'

abbrev pub nothing : Done
nothing = record { rounds = 0; nodes = 0; updates = [] }

-- the whole program
unfoldable pub run_program : Program → Ran Done
run_program p = runs p.items p.tables [] nothing
