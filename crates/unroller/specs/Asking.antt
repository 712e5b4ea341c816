-- The run with question 21, which is retired: does each form's value fit in 32 signed bits, asked as it is worked out? The answer is
-- always yes, so this run has the outcomes of `Run`'s (`Question21` on the claims page). But for `worked`, each definition is that of
-- the same name in `Run` or `Unroll`, with every value taken from `worked`.
use Rattle.std.specs.Prelude.{ℕ, ◌+◌, ◌*◌, List, [], ◌∷◌, ◌++◌, true, false, ◌&&◌, length, leb, ℤ, pos}
use Rattle.std.specs.Int.Signed.{le_z}
use Rattle.model.specs.Tables.{Tables, array_at}
use Rattle.model.specs.Update.{Tree, Trees, Listed}
use Rattle.model.specs.Update.Tree.{cell, number, constant, operator}
use Rattle.model.specs.Update.Trees.{nil, cons}
use Rattle.reader.specs.Field.{Outcome, got, no}
use Rattle.reader.specs.Syntax.{Form, Expr, Exprs, Item, Items, Program, count}
use Rattle.reader.specs.Syntax.Expr.{read, apply, literal, named}
use Rattle.reader.specs.Syntax.Exprs.{none, more}
use Rattle.reader.specs.Syntax.Item.{statement, loop, guard}
use Rattle.reader.specs.Syntax.Items.{end, item}
use Rattle.reader.specs.Grammar.{read_program}
use Rattle.unroller.specs.Run.{Ran, ok, stop, ◌>>=◌, ask, value_at, fits16, in_extent, readable, Done, indices, rounds, nothing}
use Rattle.unroller.specs.Allowed.{fits32}
use Rattle.unroller.specs.Unroll.{listed_by}

-- the value of a form, for the item whose code stands at p
unfoldable pub worked : ℕ → List ℤ → Form → Ran ℤ
worked p is f = do
  _ ← ask 21 p (fits32 (value_at f is))
  ok (value_at f is)

unfoldable pub cell_from : ℕ → List ℤ → ℕ → List ℕ → List Form → Ran ℕ
cell_from p is n [] fs = ok n
cell_from p is n (e ∷ es) [] = ok n
cell_from p is n (e ∷ es) (f ∷ fs) = do
  v ← worked p is f
  k ← in_extent p e v
  cell_from p is (n * e + k) es fs

unfoldable pub cell_at : Tables → ℕ → List ℤ → ℕ → List Form → Ran ℕ
cell_at t p is a fs = cell_from p is 0 (array_at t.arrays a).extents fs

unfoldable mutual
  pub tree : Expr → Tables → ℕ → List ℤ → Ran Tree
  tree (read a fs) t p is = do
    c ← cell_at t p is a fs
    ok (cell a c)
  tree (apply o es) t p is = do
    ts ← trees es t p is
    ok (operator o ts)
  tree (literal f) t p is = do
    v ← worked p is f
    ok (number v)
  tree (named n) t p is = ok (constant n)

  pub trees : Exprs → Tables → ℕ → List ℤ → Ran Trees
  trees none t p is = ok nil
  trees (more e es) t p is = do
    x ← tree e t p is
    xs ← trees es t p is
    ok (cons x xs)

unfoldable pub update : Tables → ℕ → List ℤ → ℕ → List Form → Expr → Done → Ran Done
update t p is a fs e d = do
  _ ← ask 19 p (leb (length d.updates + 1) 2048)
  _ ← ask 20 p (leb (d.nodes + count e) 8192)
  c ← cell_at t p is a fs
  x ← tree e t p is
  _ ← ask 17 p (readable x t.arrays d.updates)
  ok (record { rounds = d.rounds; nodes = d.nodes + count e; updates = d.updates ++ (record { array = a; target = c; source = x } ∷ []) })

unfoldable mutual
  pub run : Item → Tables → List ℤ → Done → Ran Done
  run (statement p a fs e) t is d = update t p is a fs e d
  run (loop p s e step body) t is d = do
    first ← worked p is s
    last ← worked p is e
    _ ← ask 15 p (fits16 first && fits16 last)
    rounds (indices 65536 step last first) p (λ i d'. runs body t (is ++ (i ∷ [])) d') d
  run (guard p f body) t is d = do
    v ← worked p is f
    elim (le_z (pos 0) v) as (λ b. Ran Done) [ true ↦ runs body t is d | false ↦ ok d ]

  pub runs : Items → Tables → List ℤ → Done → Ran Done
  runs end t is d = ok d
  runs (item i rest) t is d = do
    d' ← run i t is d
    runs rest t is d'

unfoldable pub run_program : Program → Ran Done
run_program p = runs p.items p.tables [] nothing

abbrev pub unrolled_by : Outcome Program → Ran Listed
unrolled_by (got p next) = listed_by p.tables (run_program p)
unrolled_by (no question place) = stop question place

unfoldable pub unrolled : List ℕ → Ran Listed
unrolled bytes = unrolled_by (read_program bytes)
