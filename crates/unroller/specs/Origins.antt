-- The walk for an element's last writer, beside the executed statements. The contracts of its private functions cite these.
use Rattle.std.specs.Prelude.{ℕ, ◌+◌, ◌≤◌, ◌<◌, ◌≡◌, List, [], ◌∷◌, ◌++◌, Bool, length, take, ℤ, pos, if◌then◌else◌, Option as Maybe, Some, None}
use Rattle.std.proofs.Math.Option.{Option, none, some}
use Rattle.model.specs.Tables.{Tables}
use Rattle.reader.specs.Field.{got}
use Rattle.reader.specs.Syntax.{Expr, Item, Items}
use Rattle.reader.specs.Grammar.{expression, statement_of, nested, items, body}
use Rattle.reader.specs.Entries.{padded}
use Rattle.unroller.specs.Run.{ok, Done, indices, rounds, run, runs}
use Rattle.unroller.specs.Executed.{Executed, each, executed, executeds, writes_to, or_else, last, Origin, origin_at}
use Rattle.unroller.specs.Scopes.{bytes, tables, around}
use Rattle.unroller.specs.Walk.{item_in}
use Rattle.unroller.specs.declared.walk.Scope.{Scope}
use Rattle.unroller.specs.declared.origins.Element.{Element}
use Rattle.unroller.specs.declared.origins.Writer.{Writer}

-- the last writer as the code keeps it, its index values in eight places
abbrev pub writer_is : Option Origin → Maybe Writer
writer_is none = None
writer_is (some o) = Some (record { from = o.from; to = o.to; count = length o.values; indices = padded 8 (pos 0) o.values })

-- Behind these statements the last writer is the last of them that writes the element, or else the one before them.
unfoldable pub Seen : List ℕ → Tables → ℕ → ℕ → List Executed → Maybe Writer → Maybe Writer → Type 0
Seen s t a e xs w w' = (o : Option Origin) → w ≡ writer_is o → w' ≡ writer_is (or_else (origin_at s t (last (writes_to t a e) xs)) o)

-- the place past these statements is answered, and they are seen
pub record Passed (s : List ℕ) (t : Tables) (a e next : ℕ) (xs : List Executed) (w : Maybe Writer) (r : Maybe ℕ) (w' : Maybe Writer) : Type 0 where
  pub to : r ≡ Some next
  pub seen : Seen s t a e xs w w'

-- so many index values in eight places, and zeros
pub record Eight (loops : ℕ) (is : List ℤ) : Type 0 where
  pub long : length is ≡ 8
  pub zeros : is ≡ padded 8 (pos 0) (take loops is)

-- the expression at `source`, of the statement at `at`, which writes the element or not
unfoldable pub PastIs : Scope → ℕ → ℕ → Bool → Maybe Writer → Maybe ℕ → Maybe Writer → Type 0
PastIs scope at source hit w r w' =
    (x : Expr) (next : ℕ) → expression (tables scope) scope.loops (bytes scope) source ≡ got x next → scope.loops ≤ 8 → (r ≡ Some next)
    × (w' ≡ (if hit then Some (record { from = at; to = next; count = scope.loops; indices = scope.indices }) else w))

-- The statement whose code stands at `at`, of a run that goes well.
unfoldable pub TracesStatement : Scope → ℕ → Element → Maybe Writer → Maybe ℕ → Maybe Writer → Type 0
TracesStatement scope at element w r w' =
    (i : Item) (next : ℕ) (d d' : Done) → statement_of (tables scope) scope.loops at (bytes scope) (at + 1) ≡ got i next → scope.loops ≤ 8 → Eight scope.loops scope.indices
    → run i (tables scope) (around scope) d ≡ ok d' → Passed (bytes scope) (tables scope) element.array element.cell next (executed i (around scope)) w r w'

-- the item whose code stands at `at`
unfoldable pub TracesItem : Scope → ℕ → ℕ → ℕ → Element → Maybe Writer → Maybe ℕ → Maybe Writer → Type 0
TracesItem scope at code left element w r w' =
    (i : Item) (next : ℕ) (d d' : Done) → item_in scope left code at (bytes scope) (at + 1) ≡ got i next → scope.loops + left ≤ 8 → Eight scope.loops scope.indices
    → run i (tables scope) (around scope) d ≡ ok d' → Passed (bytes scope) (tables scope) element.array element.cell next (executed i (around scope)) w r w'

-- the items from `at` on
unfoldable pub TracesItems : Scope → ℕ → ℕ → Element → Maybe Writer → Maybe ℕ → Maybe Writer → Type 0
TracesItems scope at left element w r w' =
    (js : Items) (next most : ℕ) (d d' : Done) → items (item_in scope left) most (bytes scope) at ≡ got js next → scope.loops + left ≤ 8 → Eight scope.loops scope.indices
    → runs js (tables scope) (around scope) d ≡ ok d' → Passed (bytes scope) (tables scope) element.array element.cell next (executeds js (around scope)) w r w'

-- the loop or guard whose code stands at `at`
unfoldable pub TracesNested : Scope → ℕ → ℕ → ℕ → Element → Maybe Writer → Maybe ℕ → Maybe Writer → Type 0
TracesNested scope at code left element w r w' =
    (i : Item) (next : ℕ) (d d' : Done) → nested (tables scope) (length (bytes scope)) left scope.loops code at (bytes scope) (at + 1) ≡ got i next → scope.loops + left ≤ 8 → Eight scope.loops scope.indices
    → run i (tables scope) (around scope) d ≡ ok d' → Passed (bytes scope) (tables scope) element.array element.cell next (executed i (around scope)) w r w'

-- a round at this index, of a loop whose items stand at `from`
unfoldable pub TracesRound : Scope → ℕ → ℕ → ℤ → Element → Maybe Writer → Maybe ℕ → Maybe Writer → Type 0
TracesRound scope from left index element w r w' =
    (js : Items) (next : ℕ) (d d' : Done) → body (tables scope) (length (bytes scope)) left (scope.loops + 1) (bytes scope) from ≡ got js next → scope.loops + left < 8 → Eight scope.loops scope.indices
    → runs js (tables scope) (around scope ++ (index ∷ [])) d ≡ ok d' → Passed (bytes scope) (tables scope) element.array element.cell next (executeds js (around scope ++ (index ∷ []))) w r w'

-- the rounds from this index on, `most` at most; `past`: the place past the items, where a round has found it
unfoldable pub TracesRounds : Scope → ℕ → ℕ → ℤ → ℤ → ℕ → ℤ → Maybe ℕ → Element → Maybe Writer → Maybe ℕ → Maybe Writer → Type 0
TracesRounds scope from left step final most index past element w r w' =
    (js : Items) (next p : ℕ) (d d' : Done) → body (tables scope) (length (bytes scope)) left (scope.loops + 1) (bytes scope) from ≡ got js next → scope.loops + left < 8 → Eight scope.loops scope.indices
    → ((to : ℕ) → past ≡ Some to → to ≡ next) → rounds (indices most step final index) p (λ i d. runs js (tables scope) (around scope ++ (i ∷ [])) d) d ≡ ok d'
    → Passed (bytes scope) (tables scope) element.array element.cell next (each (λ i. executeds js (around scope ++ (i ∷ []))) (indices most step final index)) w r w'
