-- The terms that memory holds, and what a step of work does to them: all that callers of the store go by.
-- Terms that are alike up to swaps have one id: all of this is up to `alike swaps`.
use Rattle.std.specs.Prelude.{◌≡◌, ℕ, suc, ◌-◌, ◌<◌, ◌≤◌, Bool, true, cond, ◌&&◌, ◌⊎◌, List, [], ◌∷◌, ◌++◌, length, take, FitsSigned, nat_lt, slice_index, slice_index_or}
use Rattle.std.specs.Int.{w32}
use Rattle.std.proofs.Common.{of_z}
use Rattle.model.specs.Update.{Tree, Trees}
use Rattle.model.specs.Update.Tree.{cell, number, constant, operator}
use Rattle.model.specs.Update.Trees.{nil, cons}
use Rattle.terms.specs.declared.Node.{Node}
use Rattle.terms.specs.declared.Kept.{Kept}
use Rattle.terms.specs.Term.{alike, among}
use Rattle.terms.specs.Store.{Says, gives, refused, node_of, args_of}
use Rattle.terms.specs.Holds.{Holds, term}

-- the tree of an id
abbrev pub tree : List Tree → ℕ → Tree
tree ts i = slice_index_or ts i (constant 0)

module _ (swaps : ℕ → Bool) where
  -- a tree alike to x is in the list
  abbrev pub In : Tree → List Tree → Type 0
  In x l = among swaps x l ≡ true

  -- r is the id of t, plus 1
  pub record Ref (ts : List Tree) (r : ℕ) (t : Tree) : Type 0 where
    pub some : 0 < r
    pub within : r ≤ length ts
    pub is : alike swaps t (tree ts (r - 1)) ≡ true

  -- from place k on, ids are those of us, each plus 1, and zeros
  unfoldable pub Args : List Tree → List ℕ → ℕ → Trees → Type 0
  Args ts ids k nil = (j : ℕ) → k ≤ j → slice_index ids j ≡ 0
  Args ts ids k (cons u us) = Ref ts (slice_index ids k) u × Args ts ids (suc k) us

  -- ids are those of the arguments us of operator o, in an order that keeps the operator alike
  pub record Arguments (ts : List Tree) (ids : List ℕ) (o : ℕ) (us : Trees) : Type 0 where
    pub order : Trees
    pub like : alike swaps (operator o us) (operator o order) ≡ true
    pub args : Args ts ids 0 order

  -- the node n, over the trees ts, is t; an operator that may swap has the smaller id first
  unfoldable pub Means : List Tree → Node → Tree → Type 0
  Means ts n (cell a c) = n ≡ node_of 16 a (c ∷ [])
  Means ts n (number z) = FitsSigned w32 z × (n ≡ node_of 18 (of_z w32 z) [])
  Means ts n (constant m) = n ≡ node_of 19 m []
  Means ts n (operator o us) =
      (n.kind ≡ 17) × (n.payload ≡ o) × (swaps o ≡ true → n.a0 ≤ n.a1) × Arguments ts (args_of n) o us

  -- no two alike
  abbrev pub Once : List Tree → Type 0
  Once ts = (i j : ℕ) → i < length ts → j < length ts → alike swaps (tree ts i) (tree ts j) ≡ true → i ≡ j

  -- each node is its tree over the earlier ones
  pub record Known (ns : List Node) (ts : List Tree) : Type 0 where
    pub long : length ns ≡ length ts
    pub means : (i : ℕ) → i < length ts → Means (take i ts) (term ns i) (tree ts i)
    pub once : Once ts

  -- memory holds these trees, by id
  pub record Stored (m : List ℕ) (count : ℕ) (ts : List Tree) : Type 0 where
    pub nodes : List Node
    pub held : Holds m count nodes
    pub known : Known nodes ts

  -- us is ts with others behind them: together, those of ts and of vs
  pub record Grown (ts vs us : List Tree) : Type 0 where
    pub more : List Tree
    pub longer : us ≡ ts ++ more
    pub only : (x : Tree) → In x us → In x ts ⊎ In x vs
    pub all : (x : Tree) → In x vs → In x us

  -- more than 4,096 different trees are in ts and vs
  pub record Over (ts vs : List Tree) : Type 0 where
    pub these : List Tree
    pub once : Once these
    pub many : 4096 < length these
    pub among : (x : Tree) → In x these → In x ts ⊎ In x vs

  -- where memory held ts, and vs were put: full, or memory holds them all, and P of what it holds
  pub data Outcome (ts vs : List Tree) (m : List ℕ) (count : ℕ) (P : List Tree → Type 0) : Type 0 where
    full : 4096 < count → Over ts vs → Outcome ts vs m count P
    fine : (us : List Tree) → Stored m count us → Grown ts vs us → P us → Outcome ts vs m count P

  -- the same of an answer: full, or memory holds them all, as many as the answer counts, and P of the answer and what it holds
  abbrev pub Answered : {A : Type 0} → List Tree → List Tree → List ℕ → (A → ℕ) → (A → List Tree → Type 0) → Says A → Type 0
  Answered ts vs m count P (gives a) = (us : List Tree) × Stored m (count a) us × Grown ts vs us × P a us
  Answered ts vs m count P (refused question) = Over ts vs

-- the ids of an operator's arguments as they are stored: where it may swap, the smaller of the two first
unfoldable pub sorted : Bool → List ℕ → List ℕ
sorted swap ids =
    cond (swap && nat_lt (slice_index ids 1) (slice_index ids 0)) (slice_index ids 1 ∷ slice_index ids 0 ∷ slice_index ids 2 ∷ slice_index ids 3 ∷ []) ids

-- in memory that holds trees, a node that is the tree t over them: t is stored, once, whatever operators may swap
unfoldable pub Puts : List ℕ → ℕ → ℕ → ℕ → List ℕ → Says Kept → List ℕ → Type 0
Puts m count kind payload ids answer m' =
    (swaps : ℕ → Bool) (ts : List Tree) (t : Tree) → Stored swaps m count ts → Means swaps ts (node_of kind payload ids) t
    → Answered swaps ts (t ∷ []) m' (λ k. k.count) (λ k us. Ref swaps us k.id t) answer

-- whether the term with id plus 1 = r is the starting cell c of array a
unfoldable pub Starts : List ℕ → ℕ → ℕ → ℕ → Bool → Type 0
Starts m r a c b = (swaps : ℕ → Bool) (count : ℕ) (ts : List Tree) (t : Tree) → Stored swaps m count ts → Ref swaps ts r t → b ≡ alike swaps t (cell a c)
