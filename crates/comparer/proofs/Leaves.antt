-- What `read` and `leaf` answer.
use mathlib.Core.Path.{◌≡◌, refl, sym, ap₂, subst, subst₂}
use Rattle.std.specs.Prelude.{Option, None, Some, Result, Ok, Err}
use Rattle.std.specs.Result.{result_ok}
use mathlib.Core.Logic.{⊎_elim}
use mathlib.Core.Bool.{Bool}
use mathlib.Core.List.{List, [], ◌∷◌}
use Prim.Native.Nat.{ℕ, ◌+◌, ◌≤◌, ◌<◌}
use native.Mathlib.Omega.{arith}
use lib.ListN.{length, get_or, set, replicate}
use Rattle.model.specs.Tables.{swaps_at}
use Rattle.model.specs.Update.{Tree}
use Rattle.model.specs.Update.Tree.{cell, number, constant, operator}
use Rattle.terms.specs.Term.{parts}
use Rattle.terms.specs.Store.{gives, refused, says_of, out, node_of, intern_of}
use Rattle.terms.specs.declared.InternError.{InternError}
use Rattle.terms.specs.declared.InternError.TheVariants.{Full, Short}
use Rattle.terms.proofs.Laws.{few, puts}
use Rattle.terms.specs.Stored.{Ref, Means, Stored, Over, Outcome, full, fine, Puts as Placed}
use Rattle.terms.proofs.Sets.{closed, grown_none, ref_in, is_full}
use Rattle.unroller.specs.Stands.{Proper, TreeAt}
use Rattle.terms.specs.declared.Kept.{Kept}
use Rattle.comparer.specs.Meaning.{Content, value_of, free}
use Rattle.comparer.specs.Work.{Puts, Keeps, Finds, Shows, Holding, Ready, Reads, Works, WorksLeaf}
use Rattle.comparer.proofs.Slots.{slot_in, slot_is, slot_none, cells-on, holding_set, outcome_on}

pub read_none : (table cells m : List ℕ) (count a c : ℕ) → Finds table a c None → (count' id : ℕ) (cells' m' : List ℕ) → Reads table cells m count a c count' id cells' m'
unfolding Reads
read_none table cells m count a c f count' id cells' m' swaps bases ts h R p = absurd (slot_none table bases (length cells) R.slots a c p f)

module _ (table cells m : List ℕ) (count a c k : ℕ) (f : Finds table a c (Some k)) where
  pub read_out : length cells ≤ k → (count' id : ℕ) (cells' m' : List ℕ) → Reads table cells m count a c count' id cells' m'
  unfolding Reads
  read_out l count' id cells' m' swaps bases ts h R p =
      absurd (omega (arith, slot_in table bases (length cells) R.slots a c p, slot_is table bases (length cells) R.slots a c p k f))

  -- what the cell shows
  showing : (swaps : ℕ → Bool) (bases : List ℕ) (ts : List Tree) (h : Content Tree) → Ready swaps table bases cells m count ts h → Proper bases a c
      → Shows swaps ts (get_or cells k 0) (cell a c) (h a c)
  showing swaps bases ts h R p =
      subst (λ (i : ℕ). Shows swaps ts (get_or cells i 0) (cell a c) (h a c)) (sym (slot_is table bases (length cells) R.slots a c p k f)) (R.holds a c p)

  pub read-written : (get_or cells k 0 ≡ 0 → ⊥) → Reads table cells m count a c count (get_or cells k 0) cells m
  unfolding Reads
  read-written w swaps bases ts h R p =
      ⊎_elim (λ (e : (get_or cells k 0 ≡ 0) × (h a c ≡ cell a c)). absurd (w e.0))
      (λ (r : Ref swaps ts (get_or cells k 0) (h a c)). fine ts R.stored
      (grown_none swaps ts (parts (h a c)) (λ x q. closed swaps R.stored.nodes ts R.stored.known x (h a c) (ref_in swaps ts (get_or cells k 0) (h a c) r) q))
      (r, (R.slots, R.holds)))
      (showing swaps bases ts h R p)

  pub read_start : get_or cells k 0 ≡ 0 → (count' id : ℕ) (m' : List ℕ) → Puts m count 16 a (c ∷ 0 ∷ 0 ∷ 0 ∷ []) count' id m'
      → Reads table cells m count a c count' id (set cells k id) m'
  unfolding Reads Puts Means parts
  read_start w count' id m' P swaps bases ts h R p =
      ⊎_elim (λ (e : (get_or cells k 0 ≡ 0) × (h a c ≡ cell a c)).
      outcome_on swaps ts (parts (h a c)) m' count' (λ us. Ref swaps us id (h a c)) (λ us. Ref swaps us id (h a c) × Holding swaps table bases (set cells k id) us h)
      (λ us g r. (
        r,
        holding_set swaps table bases cells a c k id us h R.slots p (slot_is table bases (length cells) R.slots a c p k f) r (cells-on swaps bases cells ts (parts (h a c)) us h g R.holds),
      ))
      (subst (λ (t : Tree). Outcome swaps ts (parts t) m' count' (λ us. Ref swaps us id t)) (sym e.1) (P swaps ts (cell a c) R.stored refl)))
      (λ (r : Ref swaps ts (get_or cells k 0) (h a c)). absurd (omega (arith, r.some)))
      (showing swaps bases ts h R p)

  -- no room for the starting cell
  pub read_full : get_or cells k 0 ≡ 0 → (count' id : ℕ) (m' : List ℕ) → 4096 < count' → Puts m count 16 a (c ∷ 0 ∷ 0 ∷ 0 ∷ []) count' id m' → Reads table cells m count a c count' id cells m'
  unfolding Reads Puts Means parts
  read_full w count' id m' g P swaps bases ts h R p =
      full g
      (⊎_elim (λ (e : (get_or cells k 0 ≡ 0) × (h a c ≡ cell a c)).
      subst (λ (t : Tree). Over swaps ts (parts t)) (sym e.1) (is_full swaps m' count' (λ us. Ref swaps us id (cell a c)) ts (parts (cell a c)) g (P swaps ts (cell a c) R.stored refl)))
      (λ (r : Ref swaps ts (get_or cells k 0) (h a c)). absurd (omega (arith, r.some)))
      (showing swaps bases ts h R p))

module _ (table list : List ℕ) (at : ℕ) (cells m : List ℕ) (count count' id : ℕ) (m' : List ℕ) where
  pub leaf_read : get_or list at 0 ≡ 16 → (cells' : List ℕ) → Reads table cells m count (get_or list (at + 1) 0) (get_or list (at + 2) 0) count' id cells' m'
      → WorksLeaf table list at cells m count (at + 3) count' id cells' m'
  unfolding WorksLeaf Works Reads TreeAt value_of
  leaf_read e cells' r left w ops bases (cell a c) to ts h O T R =
      outcome_on (swaps_at ops) ts (parts (h a c)) m' count' (λ us. Ref (swaps_at ops) us id (h a c) × Holding (swaps_at ops) table bases cells' us h)
      (λ us. (at + 3 ≡ to) × Ref (swaps_at ops) us id (h a c) × Holding (swaps_at ops) table bases cells' us h) (λ us g s. (sym T.2, s.0, s.1))
      (subst₂ (λ (x y : ℕ). Reads table cells m count x y count' id cells' m') T.0.one T.0.two r (swaps_at ops) bases ts h R T.1)
  leaf_read e cells' r left w ops bases (number z) to ts h O T R = absurd (omega (arith, T.0.code))
  leaf_read e cells' r left w ops bases (constant n) to ts h O T R = absurd (omega (arith, T.0.code))
  leaf_read e cells' r left w ops bases (operator o us) to ts h O T R = absurd (omega (arith, T.0.code))

  placed : (ops bases : List ℕ) (to : ℕ) (ts vs : List Tree) (h : Content Tree) (t : Tree) → to ≡ at + 3 → Ready (swaps_at ops) table bases cells m count ts h
      → Outcome (swaps_at ops) ts vs m' count' (λ us. Ref (swaps_at ops) us id t) → Outcome (swaps_at ops) ts vs m' count' (λ us. (at + 3 ≡ to) × Ref (swaps_at ops) us id t × Holding (swaps_at ops) table bases cells us h)
  placed ops bases to ts vs h t q R =
      outcome_on (swaps_at ops) ts vs m' count' (λ us. Ref (swaps_at ops) us id t) (λ us. (at + 3 ≡ to) × Ref (swaps_at ops) us id t × Holding (swaps_at ops) table bases cells us h)
      (λ us g s. (sym q, s, (R.slots, cells-on (swaps_at ops) bases cells ts vs us h g R.holds)))

  pub leaf_put : (get_or list at 0 ≡ 16 → ⊥) → Puts m count (get_or list at 0) (get_or list (at + 1) 0) (replicate 4 0) count' id m'
      → WorksLeaf table list at cells m count (at + 3) count' id cells m'
  unfolding WorksLeaf Works Puts TreeAt value_of parts Means
  leaf_put e P left w ops bases (cell a c) to ts h O T R = absurd (e T.0.code)
  leaf_put e P left w ops bases (number z) to ts h O T R =
      placed ops bases to ts (number z ∷ []) h (number z) T.2 R (P (swaps_at ops) ts (number z) R.stored (T.1, ap₂ (λ (x y : ℕ). node_of x y (replicate 4 0)) T.0.code T.0.one))
  leaf_put e P left w ops bases (constant n) to ts h O T R =
      placed ops bases to ts (constant n ∷ []) h (constant n) T.1 R (P (swaps_at ops) ts (constant n) R.stored (ap₂ (λ (x y : ℕ). node_of x y (replicate 4 0)) T.0.code T.0.one))
  leaf_put e P left w ops bases (operator o us) to ts h O T R = absurd (w T.0.code)

pub node_leaf : (table list : List ℕ) (left at : ℕ) (cells m : List ℕ) (count at' count' id : ℕ) (cells' m' : List ℕ) → (get_or list at 0 ≡ 17 → ⊥)
    → WorksLeaf table list at cells m count at' count' id cells' m' → Works table list left at cells m count at' count' id cells' m'
unfolding WorksLeaf
node_leaf table list left at cells m count at' count' id cells' m' w W = W left w

-- where there is no room, place and id don't matter
pub works_over : (table list : List ℕ) (left at : ℕ) (cells m : List ℕ) (count at' count' id at1 id1 : ℕ) (cells' cells1 m' : List ℕ) → 4096 < count'
    → Works table list left at cells m count at' count' id cells' m' → Works table list left at cells m count at1 count' id1 cells1 m'
unfolding Works
works_over table list left at cells m count at' count' id at1 id1 cells' cells1 m' l W ops bases t to ts h O T R =
    full l (is_full (swaps_at ops) m' count' (λ us. (at' ≡ to) × Ref (swaps_at ops) us id (value_of free t h) × Holding (swaps_at ops) table bases cells' us h) ts (parts (value_of free t h)) l (W ops bases t to ts h O T R))

-- ---- what `put` answers
pub kept_some : (m : List ℕ) (count kind payload : ℕ) (ids : List ℕ) (r : Result Kept InternError) (m' : List ℕ) → out (says_of r) m' ≡ intern_of m count (node_of kind payload ids)
    → Keeps (λ count' id. Puts m count kind payload ids count' id m') (result_ok r)
unfolding Keeps Puts Placed
kept_some m count kind payload ids (Ok k) m' e = (few m count (node_of kind payload ids) k m' e, λ swaps ts t S M. let a = puts m count kind payload ids (gives k) m' e swaps ts t S M in fine a.0 a.1 a.2 a.3)
kept_some m count kind payload ids (Err f) m' e = λ swaps ts t S M. full (omega arith) (over f e swaps ts t S M)
  where
    over : (f : InternError) → out (says_of (Err f)) m' ≡ intern_of m count (node_of kind payload ids) → (swaps : ℕ → Bool) (ts : List Tree) (t : Tree) → Stored swaps m count ts
        → Means swaps ts (node_of kind payload ids) t → Over swaps ts (t ∷ [])
    over Full e swaps ts t S M = puts m count kind payload ids (refused 24) m' e swaps ts t S M
    over Short e swaps ts t S M = puts m count kind payload ids (refused 25) m' e swaps ts t S M

pub kept_as : (m : List ℕ) (count kind payload : ℕ) (ids stored : List ℕ) (m' : List ℕ) (r : Option Kept) → stored ≡ ids → Keeps (λ count' id. Puts m count kind payload stored count' id m') r
    → Keeps (λ count' id. Puts m count kind payload ids count' id m') r
kept_as m count kind payload ids stored m' r e k = subst (λ (l : List ℕ). Keeps (λ count' id. Puts m count kind payload l count' id m') r) e k

pub kept_by : {P Q : ℕ → ℕ → Type 0} (r : Option Kept) → ((count id : ℕ) → P count id → Q count id) → Keeps P r → Keeps Q r
unfolding Keeps
kept_by None f k = f 4097 0 k
kept_by (Some x) f k = (k.0, f x.count x.id k.1)
