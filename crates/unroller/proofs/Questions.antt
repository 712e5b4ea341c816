-- Which numbers a program can be refused with: 15 to 20 while it runs, so 2 to 20 in all.
use Prim.Native.Nat.{ℕ, ◌+◌, ◌*◌, ◌≤◌}
use native.Mathlib.Omega.{arith}
use mathlib.Core.List.{List, [], ◌∷◌, ◌++◌}
use mathlib.Core.Bool.{Bool, true, false, ◌&&◌}
use lib.ListN.{length}
use lib.Dec.{leb, ltb}
use lib.IntN.{ℤ, pos, negsuc}
use lib.Signed.{le_z}
use Rattle.model.specs.Tables.{Tables, array_at}
use Rattle.reader.specs.Field.{Outcome, got, no}
use Rattle.reader.specs.Syntax.{Form, Expr, Exprs, Item, Items, Program, count}
use Rattle.reader.specs.Syntax.Expr.{read, apply, literal, named}
use Rattle.reader.specs.Syntax.Exprs.{none, more}
use Rattle.reader.specs.Syntax.Item.{statement, loop, guard}
use Rattle.reader.specs.Syntax.Items.{end, item}
use Rattle.reader.specs.Grammar.{read_program}
use Rattle.reader.proofs.Questions.{FileNumbered, file_numbered}
use Rattle.unroller.specs.Run.{Ran, ok, stop, ◌>>=◌, ask, value_at, in_extent, cell_from, cell_at, tree, trees, readable, Done, update, indices, rounds, fits16, run, runs, nothing, run_program}
use Rattle.unroller.specs.Unroll.{listed_by, unrolled_by, unrolled}

-- a "no" has one of these numbers
abbrev pub RunNumbered : {A : Type 0} → Ran A → Type 0
RunNumbered (ok a) = Unit {0}
RunNumbered (stop k p) = (15 ≤ k) × (k ≤ 20)

numbered_then : {A B : Type 0} (m : Ran A) (f : A → Ran B) → RunNumbered m → ((a : A) → RunNumbered (f a)) → RunNumbered (m >>= f)
numbered_then (ok a) f h g = g a
numbered_then (stop k p) f h g = h

numbered_ask : {B : Type 0} (k p : ℕ) (t : Bool) (f : ℕ → Ran B) → (15 ≤ k) × (k ≤ 20) → RunNumbered (f 0) → RunNumbered (ask k p t >>= f)
numbered_ask k p true f h g = g
numbered_ask k p false f h g = h

extent_numbered : (p e : ℕ) (v : ℤ) → RunNumbered (in_extent p e v)
extent_numbered p e (pos v) = numbered_ask 16 p (ltb v e) (λ _. ok v) (omega arith, omega arith) tt
extent_numbered p e (negsuc v) = (omega arith, omega arith)

module _ (p : ℕ) (is : List ℤ) where
  cells_numbered : (n : ℕ) (es : List ℕ) (fs : List Form) → RunNumbered (cell_from p is n es fs)
  unfolding cell_from
  cells_numbered n [] fs = tt
  cells_numbered n (e ∷ es) [] = tt
  cells_numbered n (e ∷ es) (f ∷ fs) =
      numbered_then (in_extent p e (value_at f is)) (λ k. cell_from p is (n * e + k) es fs) (extent_numbered p e (value_at f is)) (λ k. cells_numbered (n * e + k) es fs)

  module _ (t : Tables) where
    cell_numbered : (a : ℕ) (fs : List Form) → RunNumbered (cell_at t p is a fs)
    unfolding cell_at
    cell_numbered a fs = cells_numbered 0 (array_at t.arrays a).extents fs

    mutual
      unfolding tree trees

      tree_numbered : (e : Expr) → RunNumbered (tree e t p is)
      tree_numbered (read a fs) = numbered_then (cell_at t p is a fs) _ (cell_numbered a fs) (λ c. tt)
      tree_numbered (apply o es) = numbered_then (trees es t p is) _ (trees_numbered es) (λ ts. tt)
      tree_numbered (literal f) = tt
      tree_numbered (named n) = tt

      trees_numbered : (es : Exprs) → RunNumbered (trees es t p is)
      trees_numbered none = tt
      trees_numbered (more e es) = numbered_then (tree e t p is) _ (tree_numbered e) (λ x. numbered_then (trees es t p is) _ (trees_numbered es) (λ xs. tt))

    update_numbered : (a : ℕ) (fs : List Form) (e : Expr) (d : Done) → RunNumbered (update t p is a fs e d)
    unfolding update
    update_numbered a fs e d =
        numbered_ask 19 p (leb (length d.updates + 1) 2048) _ (omega arith, omega arith)
        (numbered_ask 20 p (leb (d.nodes + count e) 8192) _ (omega arith, omega arith)
        (numbered_then (cell_at t p is a fs) _ (cell_numbered a fs) λ c.
        numbered_then (tree e t p is) _ (tree_numbered e) λ x.
        numbered_ask 17 p (readable x t.arrays d.updates) _ (omega arith, omega arith) tt))

rounds_numbered : (is : List ℤ) (p : ℕ) (body : ℤ → Done → Ran Done) → ((i : ℤ) (d : Done) → RunNumbered (body i d)) → (d : Done) → RunNumbered (rounds is p body d)
unfolding rounds
rounds_numbered [] p body h d = tt
rounds_numbered (i ∷ is) p body h d =
    numbered_ask 18 p (leb (d.rounds + 1) 65536) _ (omega arith, omega arith) (numbered_then (body i _) _ (h i _) λ d'. rounds_numbered is p body h d')

-- a guard's items, or nothing
guard_numbered : (b : Bool) (m : Ran Done) (d : Done) → RunNumbered m → RunNumbered {A = Done} (elim b as (λ b. Ran Done) [ true ↦ m | false ↦ ok d ])
guard_numbered true m d h = h
guard_numbered false m d h = tt

mutual
  unfolding run runs

  run_numbered : (i : Item) (t : Tables) (is : List ℤ) (d : Done) → RunNumbered (run i t is d)
  run_numbered (statement p a fs e) t is d = update_numbered p is t a fs e d
  run_numbered (loop p s e step body) t is d =
      numbered_ask 15 p (fits16 (value_at s is) && fits16 (value_at e is)) _ (omega arith, omega arith)
      (rounds_numbered (indices 65536 step (value_at e is) (value_at s is)) p _ (λ i d'. runs_numbered body t (is ++ (i ∷ [])) d') d)
  run_numbered (guard p f body) t is d = guard_numbered (le_z (pos 0) (value_at f is)) (runs body t is d) d (runs_numbered body t is d)

  runs_numbered : (js : Items) (t : Tables) (is : List ℤ) (d : Done) → RunNumbered (runs js t is d)
  runs_numbered end t is d = tt
  runs_numbered (item i rest) t is d = numbered_then (run i t is d) _ (run_numbered i t is d) (λ d'. runs_numbered rest t is d')

-- whatever was read
pub program_numbered : (q : Program) → RunNumbered (run_program q)
unfolding run_program
program_numbered q = runs_numbered q.items q.tables [] nothing

-- ---- the file, then its run
abbrev pub ProgramNumbered : {A : Type 0} → Ran A → Type 0
ProgramNumbered (ok a) = Unit {0}
ProgramNumbered (stop k p) = (2 ≤ k) × (k ≤ 20)

listed_numbered : (t : Tables) (m : Ran Done) → RunNumbered m → ProgramNumbered (listed_by t m)
listed_numbered t (ok d) h = tt
listed_numbered t (stop k p) h = (omega (arith, h.0), h.1)

unrolled_by_numbered : (m : Outcome Program) → FileNumbered m → ProgramNumbered (unrolled_by m)
unrolled_by_numbered (got q next) h = listed_numbered q.tables (run_program q) (program_numbered q)
unrolled_by_numbered (no k p) h = (h.0, omega (arith, h.1))

pub unrolled_numbered : (s : List ℕ) → ProgramNumbered (unrolled s)
unfolding unrolled
unrolled_numbered s = unrolled_by_numbered (read_program s) (file_numbered s)
