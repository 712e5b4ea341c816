-- How the walk over an accepted file's bytes stands beside the run of its items. The contracts of the unroller's private functions cite these.
use Rattle.std.specs.Prelude.{ℕ, ◌+◌, ◌≤◌, ◌<◌, ◌≡◌, List, true, length, get_or, eqb, Result, Ok, Err}
use Rattle.model.specs.Tables.{Tables, inside}
use Rattle.model.specs.Update.{nodes, written}
use Rattle.model.specs.Memory.{list_words}
use Rattle.model.specs.Questions.{number_of}
use Rattle.model.specs.declared.question.Refusal.{Refusal}
use Rattle.reader.specs.Field.{Reader, got}
use Rattle.reader.specs.Syntax.{Item, Items}
use Rattle.reader.specs.Grammar.{statement_of, item_of, nested, items}
use Rattle.unroller.specs.Run.{Ran, ok, stop, Done, run, runs}
use Rattle.unroller.specs.Allowed.{allowed_tables}
use Rattle.unroller.specs.Layout.{layout}
use Rattle.unroller.specs.Stands.{bases_of}
use Rattle.unroller.specs.Scopes.{bytes, tables, bases, around}
use Rattle.unroller.specs.declared.walk.Scope.{Scope}
use Rattle.unroller.specs.declared.walk.Progress.{Progress}

-- the place past what was run with the counts there, or a refusal
abbrev pub Walk : Type 0
Walk = Result (ℕ × Progress) Refusal

-- the place that a walk answers, with the counts that it leaves
abbrev pub with_counts : Result ℕ Refusal → Progress → Walk
with_counts (Ok next) p = Ok (next, p)
with_counts (Err e) p = Err e

-- what the run has done so far, as the code keeps it: counts, the list laid out in its slice, and a flag for each cell written
pub record Holds (t : Tables) (d : Done) (p : Progress) (list flags : List ℕ) : Type 0 where
  pub tables-allowed : allowed_tables t ≡ true
  pub rounds : p.rounds ≡ d.rounds
  pub count : p.nodes ≡ d.nodes
  pub updates : p.updates ≡ length d.updates
  pub counted : nodes d.updates ≡ d.nodes
  pub few : length d.updates ≤ 2048
  pub small : d.nodes ≤ 8192
  pub few-rounds : d.rounds ≤ 65536
  pub long : list_words ≤ length list
  pub lies : list ≡ layout (record { tables = t; updates = d.updates }) (length list)
  pub flags_long : length flags ≡ 2048
  pub marked : (a c : ℕ) → inside t.arrays a c ≡ true → eqb (get_or flags (get_or (bases_of t.arrays) a 0 + c) 0) 1 ≡ written d.updates a c

-- what a walk answers that stands for this run, and ends before `next`
abbrev pub Walked : Tables → ℕ → Ran Done → Walk → List ℕ → List ℕ → Type 0
Walked t next (ok d) (Ok r) list flags = (r.0 ≡ next) × Holds t d r.1 list flags
Walked t next (ok d) (Err e) list flags = ⊥
Walked t next (stop k q) (Ok r) list flags = ⊥
Walked t next (stop k q) (Err e) list flags = (number_of e.question ≡ k) × (e.place ≡ q)

-- the bases kept beside the tables are theirs
abbrev pub Based : Tables → List ℕ → Type 0
Based t bases = (a : ℕ) → a < length t.arrays → get_or bases a 0 ≡ get_or (bases_of t.arrays) a 0

-- The statement whose code stands at `at`.
unfoldable pub RunsStatement : Scope → ℕ → Progress → List ℕ → List ℕ → Walk → List ℕ → List ℕ → Type 0
RunsStatement scope at p list flags r list' flags' =
    (i : Item) (next : ℕ) (d : Done) → statement_of (tables scope) scope.loops at (bytes scope) (at + 1) ≡ got i next → scope.loops ≤ 8 → length scope.indices ≡ 8
    → Based (tables scope) (bases scope) → Holds (tables scope) d p list flags → Walked (tables scope) next (run i (tables scope) (around scope) d) r list' flags'

-- the reader of an item, where loops and guards may nest `left` deep
abbrev pub item_in : Scope → ℕ → ℕ → ℕ → Reader Item
item_in scope left code place = item_of (tables scope) (length (bytes scope)) (nested (tables scope) (length (bytes scope)) left scope.loops) scope.loops code place

-- The item whose code stands at `at`, where loops and guards may nest `left` deep.
unfoldable pub RunsItem : Scope → ℕ → ℕ → ℕ → Progress → List ℕ → List ℕ → Walk → List ℕ → List ℕ → Type 0
RunsItem scope at code left p list flags r list' flags' =
    (i : Item) (next : ℕ) (d : Done) → item_in scope left code at (bytes scope) (at + 1) ≡ got i next → scope.loops + left ≤ 8 → length scope.indices ≡ 8
    → Based (tables scope) (bases scope) → Holds (tables scope) d p list flags → Walked (tables scope) next (run i (tables scope) (around scope) d) r list' flags'

-- The items from `at` on.
unfoldable pub RunsItems : Scope → ℕ → ℕ → Progress → List ℕ → List ℕ → Walk → List ℕ → List ℕ → Type 0
RunsItems scope at left p list flags r list' flags' =
    (js : Items) (next most : ℕ) (d : Done) → items (item_in scope left) most (bytes scope) at ≡ got js next → scope.loops + left ≤ 8 → length scope.indices ≡ 8
    → Based (tables scope) (bases scope) → Holds (tables scope) d p list flags → Walked (tables scope) next (runs js (tables scope) (around scope) d) r list' flags'
