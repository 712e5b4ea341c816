-- What the functions that write one update answer and leave in the list. Each speaks of whatever stands at a place by the grammar:
-- s the bytes, t the tables, is the index values in eight places, p the place of the statement's code.
use Rattle.std.specs.Prelude.{ℕ, zero, suc, ◌+◌, ◌*◌, ◌≤◌, ◌<◌, ◌≡◌, List, [], ◌∷◌, ◌++◌, Bool, true, ◌&&◌, ◌||◌, not, length, get_or, drop, take, set, ltb, leb, eqb, ℤ, if◌then◌else◌, Result, Ok, Err}
use Rattle.std.proofs.lemmas.List.Edits.{sets}
use Rattle.model.specs.Tables.{Tables, array_at, starts}
use Rattle.model.specs.Update.{Update}
use Rattle.reader.specs.Field.{Reader, got, refuse, times, byte}
use Rattle.reader.specs.Syntax.{Form, Expr, count}
use Rattle.reader.specs.Grammar.{form, subscripts, read_of, literal_of, constant_of, node, applied, expression}
use Rattle.model.specs.Questions.{number_of}
use Rattle.model.specs.declared.question.Refusal.{Refusal}
use Rattle.unroller.specs.Run.{Ran, ok, stop, ◌>>=◌, value_at, in_extent, cell_from, cell_at, tree, Done, update}
use Rattle.unroller.specs.Allowed.{allowed_tables}
use Rattle.unroller.specs.Layout.{tree_words, update_words}
use Rattle.unroller.specs.Walk.{Walk, Based, Holds, Walked}
use Rattle.unroller.specs.Scopes.{bytes, tables, bases, around}
use Rattle.unroller.specs.declared.walk.Scope.{Scope}
use Rattle.unroller.specs.declared.walk.Progress.{Progress}
use Rattle.unroller.specs.declared.statement.Target.{Target}

-- two numbers, or a refusal: a cell and the place past its subscripts, the place past an expression and the word past its records, or
-- the place past a record's bytes and the number of its arguments
abbrev pub Part : Type 0
Part = Result (ℕ × ℕ) Refusal

-- cells
abbrev pub CellIs : Ran ℕ → ℕ → Part → Type 0
CellIs (ok c) next (Ok r) = (r.0 ≡ c) × (r.1 ≡ next)
CellIs (ok c) next (Err k) = ⊥
CellIs (stop question place) next (Ok r) = ⊥
CellIs (stop question place) next (Err e) = number_of e.question ≡ question

abbrev pub Below : ℕ → Part → Type 0
Below e (Ok r) = r.0 < e
Below e (Err k) = Unit {0}

unfoldable pub InExtent : ℕ → ℤ → ℕ → Part → Type 0
InExtent e v next r = (p : ℕ) → CellIs (in_extent p e v) next r

unfoldable pub Subscript : List ℕ → ℕ → ℕ → List ℤ → ℕ → Part → Type 0
Subscript s at loops is e r =
    (f : Form) (next p : ℕ) → form loops s at ≡ got f next → loops ≤ 8 → length is ≡ 8 → CellIs (in_extent p e (value_at f (take loops is))) next r

-- the subscripts at `at`, one for each of the extents es; n is made of those before them
unfoldable pub CellsFrom : List ℕ → ℕ → ℕ → List ℤ → ℕ → List ℕ → Part → Type 0
CellsFrom s at loops is n es r =
    (fs : List Form) (next p : ℕ) → times [] ◌∷◌ (form loops) (length es) s at ≡ got fs next → loops ≤ 8 → length is ≡ 8
    → CellIs (cell_from p (take loops is) n es fs) next r

-- the cell of a declared array, at the subscripts that stand at `at`
unfoldable pub CellOf : List ℕ → ℕ → Tables → ℕ → List ℤ → ℕ → Part → Type 0
CellOf s at t loops is a r = a < length t.arrays → CellsFrom s at loops is 0 (array_at t.arrays a).extents r

-- what is written of an expression from word `to` on
abbrev pub WroteIs : {A : Type 0} → (A → List ℕ) → List ℕ → ℕ → ℕ → Ran A → Part → List ℕ → Type 0
WroteIs words list to next (ok x) (Ok r) list' = (r.0 ≡ next) × (r.1 ≡ to + length (words x)) × (list' ≡ sets list to (words x))
WroteIs words list to next (ok x) (Err k) list' = ⊥
WroteIs words list to next (stop question place) (Ok r) list' = ⊥
WroteIs words list to next (stop question place) (Err e) list' = number_of e.question ≡ question

module _ (s : List ℕ) (at : ℕ) (t : Tables) (loops : ℕ) (is : List ℤ) where
  -- an expression that `one` reads
  abbrev pub Writes : Reader Expr → List ℕ → ℕ → Part → List ℕ → Type 0
  Writes one list to r list' =
      (e : Expr) (next p : ℕ) → one s at ≡ got e next → loops ≤ 8 → length is ≡ 8 → allowed_tables t ≡ true → to + 3 * count e ≤ length list
      → WroteIs tree_words list to next (tree e t p (take loops is)) r list'

  unfoldable pub WritesRead : List ℕ → ℕ → Part → List ℕ → Type 0
  WritesRead list to r list' = Writes (read_of t loops) list to r list'

  -- what follows a code that is no operator's
  abbrev pub leaf_of : ℕ → ℕ → Reader Expr
  leaf_of code q =
      if eqb code 0x10 then read_of t loops
      else if eqb code 0x12 then literal_of t loops
      else if eqb code 0x13 then constant_of t loops
      else refuse 9 q

  unfoldable pub WritesLeaf : ℕ → List ℕ → ℕ → Part → List ℕ → Type 0
  WritesLeaf code list to r list' = (q : ℕ) → Writes (leaf_of code q) list to r list'

  unfoldable pub WritesNode : ℕ → List ℕ → ℕ → Part → List ℕ → Type 0
  WritesNode left list to r list' = Writes (node t loops (applied t loops left)) list to r list'

-- these two do not hang on the tables, and a constant on no loop either
unfoldable pub WritesLiteral : List ℕ → ℕ → ℕ → List ℤ → List ℕ → ℕ → Part → List ℕ → Type 0
WritesLiteral s at loops is list to r list' = (t : Tables) → Writes s at t loops is (literal_of t loops) list to r list'

unfoldable pub WritesConstant : List ℕ → ℕ → List ℕ → ℕ → Part → List ℕ → Type 0
WritesConstant s at list to r list' = (t : Tables) (loops : ℕ) (is : List ℤ) → Writes s at t loops is (constant_of t loops) list to r list'

-- ---- an expression node by node, in prefix order
-- the nodes of all
unfoldable pub total : List Expr → ℕ
total [] = 0
total (e ∷ es) = count e + total es

module _ (s : List ℕ) (t : Tables) (loops : ℕ) (is : List ℤ) where
  -- these expressions stand one behind the other from `at` on and end before `next`, however deep each may nest
  unfoldable pub Chain : ℕ → List Expr → ℕ → Type 0
  Chain at [] next = at ≡ next
  Chain at (e ∷ es) next = (left : ℕ) × (mid : ℕ) × (node t loops (applied t loops left) s at ≡ got e mid) × Chain mid es next

  -- the words of them all
  unfoldable pub forest : List Expr → ℕ → Ran (List ℕ)
  forest [] p = ok []
  forest (e ∷ es) p = do
    x ← tree e t p (take loops is)
    ws ← forest es p
    ok (tree_words x ++ ws)

  -- n expressions from `at` on, still to be written
  unfoldable pub WritesRest : ℕ → ℕ → List ℕ → ℕ → Part → List ℕ → Type 0
  WritesRest at n list to r list' =
      (es : List Expr) (next p : ℕ) → Chain at es next → length es ≡ n → loops ≤ 8 → length is ≡ 8 → allowed_tables t ≡ true → to + 3 * total es ≤ length list
      → WroteIs (λ ws. ws) list to next (forest es p) r list'

  -- the record of the node at `at`, the first of n + 1 expressions: its m arguments take its place
  unfoldable pub WritesRecord : ℕ → List ℕ → ℕ → Part → List ℕ → Type 0
  WritesRecord at list to (Err k) list1 = (n : ℕ) (list' : List ℕ) → WritesRest at (suc n) list to (Err k) list'
  WritesRecord at list to (Ok p) list1 = (n : ℕ) (r : Part) (list' : List ℕ) → WritesRest p.0 (p.1 + n) list1 (to + 3) r list' → WritesRest at (suc n) list to r list'

-- the same behind an operator's code, wherever that stands
unfoldable pub WritesOperator : List ℕ → ℕ → Tables → List ℕ → ℕ → Part → List ℕ → Type 0
WritesOperator s at t list to r list' = (place loops : ℕ) (is : List ℤ) → byte s place ≡ got 17 at → WritesRecord s t loops is place list to r list'

-- whatever the bytes are: a record has its room in a list of so many words, and at most four arguments
abbrev pub Roomy : ℕ → ℕ → Part → Type 0
Roomy to room (Ok r) = (to + 3 ≤ room) × (r.1 ≤ 4)
Roomy to room (Err k) = Unit {0}

-- and so has an expression
abbrev pub Ends : ℕ → ℕ → Part → Type 0
Ends to room (Ok r) = (to ≤ r.1) × (r.1 ≤ room)
Ends to room (Err k) = Unit {0}

-- the number of a cell among the cells of all arrays
abbrev pub spot : List ℕ → ℕ → ℕ → ℕ
spot bases a c = if ltb 16 a || (ltb 2048 (get_or bases a 0) || ltb 2048 c) then 2048 else get_or bases a 0 + c

unfoldable pub may_read : Tables → List ℕ → List ℕ → ℕ → ℕ → Bool
may_read t bases flags a c = starts (array_at t.arrays a) || (ltb (spot bases a c) 2048 && eqb (get_or flags (spot bases a c) 0) 1)

-- a record is no read, or one of a cell with the property f
abbrev pub record_fine : (ℕ → ℕ → Bool) → List ℕ → Bool
record_fine f ws = not (eqb (get_or ws 0 0) 16) || f (get_or ws 1 0) (get_or ws 2 0)

unfoldable pub scanned : (ℕ → ℕ → Bool) → ℕ → List ℕ → Bool
scanned f zero ws = true
scanned f (suc n) ws = record_fine f ws && scanned f n (drop 3 ws)

unfoldable pub Marks : List ℕ → ℕ → List ℕ → Type 0
Marks flags k flags' = k < 2048 → flags' ≡ set flags k 1

-- an update of array a: its target's subscripts at `at`, its expression behind them
abbrev pub UpdateIs : List ℕ → ℕ → ℕ → Ran Update → Result Target Refusal → List ℕ → Type 0
UpdateIs list to next (ok u) (Ok r) list' = (r.cell ≡ u.target) × (r.next ≡ next) × (r.end ≡ to + length (update_words u)) × (list' ≡ sets list to (update_words u))
UpdateIs list to next (ok u) (Err e) list' = ⊥
UpdateIs list to next (stop question place) (Ok r) list' = ⊥
UpdateIs list to next (stop question place) (Err e) list' = number_of e.question ≡ question

abbrev pub Within : ℕ → ℕ → Result Target Refusal → Type 0
Within to room (Ok r) = (to + 3 ≤ r.end) × (r.end ≤ room)
Within to room (Err e) = Unit {0}

abbrev pub update_of : Tables → ℕ → List ℤ → ℕ → List Form → Expr → Ran Update
update_of t p is a fs e = do
  c ← cell_at t p is a fs
  x ← tree e t p is
  ok (record { array = a; target = c; source = x })

-- the target's subscripts and the expression behind them
pub record Stated (s : List ℕ) (at source : ℕ) (t : Tables) (loops : ℕ) (is : List ℤ) (a : ℕ) (fs : List Form) (e : Expr) (next : ℕ) : Type 0 where
  pub target : subscripts t loops a s at ≡ got fs source
  pub behind : expression t loops s source ≡ got e next
  pub few_loops : loops ≤ 8
  pub eight : length is ≡ 8
  pub declared : a < length t.arrays

unfoldable pub WritesUpdate : List ℕ → ℕ → ℕ → Tables → ℕ → List ℤ → List ℕ → ℕ → Result Target Refusal → List ℕ → Type 0
WritesUpdate s a at t loops is list to r list' =
    (fs : List Form) (source : ℕ) (e : Expr) (next p : ℕ) → Stated s at source t loops is a fs e next → allowed_tables t ≡ true → to + 3 + 3 * count e ≤ length list
    → UpdateIs list to next (update_of t p (take loops is) a fs e) r list'

-- the nodes of the expression behind a target's subscripts
unfoldable pub Sources : List ℕ → ℕ → Tables → ℕ → ℕ → Result ℕ Refusal → Type 0
Sources s at t loops a r =
    (fs : List Form) (source : ℕ) (e : Expr) (next : ℕ) → subscripts t loops a s at ≡ got fs source → expression t loops s source ≡ got e next
    → loops ≤ 8 → r ≡ Ok (count e)

-- question 20: n nodes before it, and those of that expression
unfoldable pub FewNodes : List ℕ → ℕ → Tables → ℕ → ℕ → ℕ → Bool → Type 0
FewNodes s at t loops a n r =
    (fs : List Form) (source : ℕ) (e : Expr) (next : ℕ) → subscripts t loops a s at ≡ got fs source → expression t loops s source ≡ got e next
    → loops ≤ 8 → r ≡ leb (n + count e) 8192

-- the statement whose code stands at p, where 19 and 20 had a yes
unfoldable pub RunsUpdate : Scope → ℕ → ℕ → ℕ → Progress → List ℕ → List ℕ → Walk → List ℕ → List ℕ → Type 0
RunsUpdate scope p a at progress list flags r list' flags' =
    (fs : List Form) (source : ℕ) (e : Expr) (next : ℕ) (d : Done) → Stated (bytes scope) at source (tables scope) scope.loops scope.indices a fs e next → progress.nodes + count e ≤ 8192
    → Based (tables scope) (bases scope) → Holds (tables scope) d progress list flags
    → Walked (tables scope) next (update (tables scope) p (around scope) a fs e d) r list' flags'
