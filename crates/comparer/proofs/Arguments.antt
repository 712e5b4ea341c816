-- What `node` and `args` answer.
use mathlib.Core.Path.{◌≡◌, refl, sym, ap, ◌∙◌, subst, subst₂}
use mathlib.Core.Logic.{⊎_elim}
use mathlib.Core.Bool.{Bool, true, false}
use mathlib.Core.List.{List, [], ◌∷◌, ◌++◌}
use Prim.Native.Nat.{ℕ, zero, suc, ◌+◌, ◌-◌, ◌≤◌, ◌<◌}
use native.Mathlib.Numerals.{add-one}
use native.Mathlib.Omega.{arith}
use lib.ListN.{length, get_or, set, replicate, length-set, get_or-eq_default, get_or-replicate}
use lib.Seq.{get_or-set_same, get_or-set_other}
use lib.Dec.{ltb, eqb}
use borrow.Author.Tests.{ltb-true, ltb-false, ne_eqb}
use Rattle.model.specs.Tables.{swaps, arity_of, arity_at, swaps_at}
use Rattle.model.proofs.Operators.{swaps_two}
use Rattle.model.specs.Update.{Tree, Trees}
use Rattle.model.specs.Update.Tree.{cell, number, constant, operator}
use Rattle.model.specs.Update.Trees.{nil, cons}
use Rattle.terms.specs.Term.{alike, parts, parts_of}
use Rattle.terms.specs.Stored.{In, Ref, Args, Means, Outcome, full, fine, sorted}
use Rattle.terms.specs.Store.{node_of}
use Rattle.terms.proofs.Sorted.{Two, sorted-means}
use Rattle.terms.proofs.Sets.{in_none, in_head, in_tail, in_cons, in_one, in_left, in_right, in_either, grown_none, grown_ref, over_more, after_grown, same_set, is_full, is_fine}
use Rattle.unroller.specs.Stands.{many, TreeAt, TreesAt}
use Rattle.comparer.specs.Meaning.{Content, value_of, values_of, free}
use Rattle.comparer.specs.Work.{Puts, Operators, Picks, Byte, Arity, Holding, Ready, worked, Works, WorksAll}
use Rattle.comparer.proofs.Slots.{cells-on, outcome_on}

-- ---- places
module _ (ops bases list : List ℕ) where
  pub tree-room : (t : Tree) (left at to : ℕ) → TreeAt ops bases list t left at to → at + 3 ≤ length list
  unfolding TreeAt
  tree-room (cell a c) left at to T = T.0.room
  tree-room (number z) left at to T = T.0.room
  tree-room (constant n) left at to T = T.0.room
  tree-room (operator o us) left at to T = T.0.room

  mutual
    unfolding TreeAt TreesAt

    pub tree_past : (t : Tree) (left at to : ℕ) → TreeAt ops bases list t left at to → at < to
    tree_past (cell a c) left at to T = omega (arith, T.2)
    tree_past (number z) left at to T = omega (arith, T.2)
    tree_past (constant n) left at to T = omega (arith, T.1)
    tree_past (operator o us) left at to T = omega (arith, trees_past us T.4.0 (at + 3) to T.4.2)

    trees_past : (us : Trees) (left at to : ℕ) → TreesAt ops bases list us left at to → at ≤ to
    trees_past nil left at to T = omega arith
    trees_past (cons t us) left at to T = omega (arith, tree_past t left at T.0 T.1, trees_past us left T.0 to T.2)

-- ---- the four ids of a node
abbrev four : List ℕ → List ℕ
four ids = get_or ids 0 0 ∷ get_or ids 1 0 ∷ get_or ids 2 0 ∷ get_or ids 3 0 ∷ []

four_at : (ids : List ℕ) (j : ℕ) → j < 4 → get_or (four ids) j 0 ≡ get_or ids j 0
four_at ids zero l = refl
four_at ids (suc zero) l = refl
four_at ids (suc (suc zero)) l = refl
four_at ids (suc (suc (suc zero))) l = refl
four_at ids (suc (suc (suc (suc j)))) l = absurd (omega arith)

four-zero : (ids : List ℕ) (j : ℕ) → get_or ids j 0 ≡ 0 → get_or (four ids) j 0 ≡ 0
four-zero ids j h = go (ltb j 4) refl
  where
    go : (b : Bool) → ltb j 4 ≡ b → get_or (four ids) j 0 ≡ 0
    go true e = four_at ids j (ltb-true j 4 e) ∙ h
    go false e = get_or-eq_default (four ids) 0 (ltb-false j 4 e)

abbrev pub none4 : List ℕ
none4 = replicate 4 0

none4-zero : (j : ℕ) → get_or none4 j 0 ≡ 0
none4-zero j = go (ltb j 4) refl
  where
    go : (b : Bool) → ltb j 4 ≡ b → get_or none4 j 0 ≡ 0
    go true w = get_or-replicate 4 j 0 0 (ltb-true j 4 w)
    go false w = get_or-eq_default none4 0 (ltb-false j 4 w)

args-four : (swaps : ℕ → Bool) (ts : List Tree) (ids : List ℕ) (us : Trees) (k : ℕ) → many us + k ≤ 4 → Args swaps ts ids k us → Args swaps ts (four ids) k us
unfolding Args many
args-four swaps ts ids nil k l h = λ j m. four-zero ids j (h j m)
args-four swaps ts ids (cons u us) k l h =
    (subst (λ (r : ℕ). Ref swaps ts r u) (sym (four_at ids k (omega arith))) h.0, args-four swaps ts ids us (suc k) (omega arith) h.1)

many-worked : (us : Trees) (h : Content Tree) → many (worked us h) ≡ many us
unfolding many values_of
many-worked nil h = refl
many-worked (cons u us) h = ap suc (many-worked us h)

-- a member of a list with v behind, and with v in front
module _ (swaps : ℕ → Bool) (v : Tree) (l : List Tree) (x : Tree) where
  last_first : In swaps x (l ++ (v ∷ [])) → In swaps x (v ∷ l)
  last_first i =
      ⊎_elim (λ (j : In swaps x l). in_tail swaps x v l j) (λ (j : In swaps x (v ∷ [])). in_head swaps x v l (in_one swaps x v j)) (in_either swaps x l (v ∷ []) i)

  first_last : In swaps x (v ∷ l) → In swaps x (l ++ (v ∷ []))
  first_last i =
      ⊎_elim (λ (j : alike swaps x v ≡ true). in_right swaps x l (v ∷ []) (in_head swaps x v [] j)) (λ (j : In swaps x l). in_left swaps x l (v ∷ []) j) (in_cons swaps x v l i)

-- an operator that may swap has two arguments
two_trees : (us : Trees) → many us ≡ 2 → Two us
unfolding many
two_trees nil e = absurd (omega arith)
two_trees (cons x nil) e = absurd (omega arith)
two_trees (cons x (cons y nil)) e = record { one = x; other = y; are = refl }
two_trees (cons x (cons y (cons z us))) e = absurd (omega arith)

marked_two : (ops : List ℕ) (o : ℕ) → swaps_at ops o ≡ true → arity_at ops o ≡ 2
unfolding swaps_at
marked_two ops o e = swaps_two (get_or ops o 0) e

-- ---- node
-- what is said of a value's place and id, and of the cells
abbrev pub Got : (ℕ → Bool) → List ℕ → List ℕ → List ℕ → Content Tree → ℕ → ℕ → ℕ → Tree → List Tree → Type 0
Got swaps table bases cells h at to id v us = (at ≡ to) × Ref swaps us id v × Holding swaps table bases cells us h

module _ (table list : List ℕ) (left at : ℕ) (cells m : List ℕ) (count : ℕ) where
  -- no tree stands here
  pub node-short : length list < at + 3 → (at' count' id : ℕ) (cells' m' : List ℕ) → Works table list left at cells m count at' count' id cells' m'
  unfolding Works
  node-short l at' count' id cells' m' ops bases t to ts h O T R = absurd (omega (arith, tree-room ops bases list t left at to T))

  module _ (e : get_or list at 0 ≡ 17) where
    -- an operator stands here: it is enough to show of it what is to be shown
    by_operator : (at' count' id : ℕ) (cells' m' : List ℕ)
        → ((ops bases : List ℕ) (o : ℕ) (us : Trees) (to : ℕ) (ts : List Tree) (h : Content Tree) → Operators list ops
        → TreeAt ops bases list (operator o us) left at to → Ready (swaps_at ops) table bases cells m count ts h
        → Outcome (swaps_at ops) ts (operator o (worked us h) ∷ parts_of (worked us h)) m' count' (Got (swaps_at ops) table bases cells' h at' to id (operator o (worked us h))))
        → Works table list left at cells m count at' count' id cells' m'
    unfolding Works TreeAt value_of parts
    by_operator at' count' id cells' m' f ops bases (cell a c) to ts h O T R = absurd (omega (arith, T.0.code))
    by_operator at' count' id cells' m' f ops bases (number z) to ts h O T R = absurd (omega (arith, T.0.code))
    by_operator at' count' id cells' m' f ops bases (constant n) to ts h O T R = absurd (omega (arith, T.0.code))
    by_operator at' count' id cells' m' f ops bases (operator o us) to ts h O T R = f ops bases o us to ts h O T R

    pub node_deep : left ≡ 0 → (at' count' id : ℕ) (cells' m' : List ℕ) → Works table list left at cells m count at' count' id cells' m'
    unfolding TreeAt
    node_deep l at' count' id cells' m' = by_operator at' count' id cells' m' (λ ops bases o us to ts h O T R. absurd (omega (arith, T.4.1)))

    module _ (byte : ℕ) (x : Byte list (get_or list (at + 1) 0) byte) (n : ℕ) (q : Arity byte n) (at1 count1 : ℕ) (ids1 cells1 m1 : List ℕ)
        (A : WorksAll table list (left - 1) (at + 3) cells m count 0 n none4 at1 count1 ids1 cells1 m1) where
      abbrev GotAll : List ℕ → List ℕ → Content Tree → ℕ → Trees → List Tree → Type 0
      GotAll ops bases h to ws vs =
          (at1 ≡ to) × ((j : ℕ) → j < 0 → get_or ids1 j 0 ≡ get_or none4 j 0) × Args (swaps_at ops) vs ids1 0 ws × Holding (swaps_at ops) table bases cells1 vs h

      -- the byte that was looked up is the operator's
      own_byte : (ops bases : List ℕ) (o : ℕ) (us : Trees) (to : ℕ) → Operators list ops → TreeAt ops bases list (operator o us) left at to → byte ≡ get_or ops o 0
      unfolding TreeAt Byte
      own_byte ops bases o us to O T =
          let l : o < 16 = omega (arith, T.1, O.few) in
          subst (λ (k : ℕ). Byte list k byte) T.0.one x l ∙ O.word o l

      args_of : (ops bases : List ℕ) (o : ℕ) (us : Trees) (to : ℕ) (ts : List Tree) (h : Content Tree) → Operators list ops
          → TreeAt ops bases list (operator o us) left at to → Ready (swaps_at ops) table bases cells m count ts h
          → Outcome (swaps_at ops) ts (parts_of (worked us h)) m1 count1 (GotAll ops bases h to (worked us h))
      unfolding WorksAll TreeAt
      args_of ops bases o us to ts h O T R =
          let d : left - 1 ≡ T.4.0 = omega (arith, T.4.1) in
          let w : arity_of byte ≡ many us = ap arity_of (own_byte ops bases o us to O T) ∙ T.2 in
          let a : n ≡ many us = q.is (omega (arith, w, T.3)) ∙ w in
          A ops bases us to ts h O (subst (λ (x : ℕ). TreesAt ops bases list us x (at + 3) to) (sym d) T.4.2) (omega arith)
          refl (λ j i. none4-zero j) R

      pub node-full : 4096 < count1 → (at' count' id : ℕ) (cells' m' : List ℕ) → 4096 < count' → Works table list left at cells m count at' count' id cells' m'
      node-full l at' count' id cells' m' g =
          by_operator at' count' id cells' m'
          (λ ops bases o us to ts h O T R.
          let w = worked us h in
          full g (over_more (swaps_at ops) ts (parts_of w) (operator o w ∷ parts_of w) (λ x i. in_tail (swaps_at ops) x (operator o w) (parts_of w) i)
          (is_full (swaps_at ops) m1 count1 (GotAll ops bases h to w) ts (parts_of w) l (args_of ops bases o us to ts h O T R))))

      -- the node that is put is the operator over the values of its arguments
      node-means : (ops bases : List ℕ) (o : ℕ) (us : Trees) (to : ℕ) (h : Content Tree) → Operators list ops → TreeAt ops bases list (operator o us) left at to
          → (ts : List Tree) → Args (swaps_at ops) ts ids1 0 (worked us h) → Means (swaps_at ops) ts (node_of 17 (get_or list (at + 1) 0) (sorted (swaps byte) ids1)) (operator o (worked us h))
      unfolding TreeAt swaps_at
      node-means ops bases o us to h O T ts A =
          let y : swaps byte ≡ swaps_at ops o = ap swaps (own_byte ops bases o us to O T) in
          subst₂ (λ (k : ℕ) (b : Bool). Means (swaps_at ops) ts (node_of 17 k (sorted b ids1)) (operator o (worked us h))) (sym T.0.one) (sym y)
          (sorted-means (swaps_at ops) ts o ids1 (worked us h) (λ e. two_trees (worked us h) (many-worked us h ∙ sym T.2 ∙ marked_two ops o e))
          (args-four (swaps_at ops) ts ids1 (worked us h) 0 (omega (arith, many-worked us h, T.3)) A))

      pub node_put : count1 ≤ 4096 → (count' id : ℕ) (m' : List ℕ) → Puts m1 count1 17 (get_or list (at + 1) 0) (sorted (swaps byte) ids1) count' id m'
          → Works table list left at cells m count at1 count' id cells1 m'
      unfolding Puts TreeAt
      node_put l count' id m' P =
          by_operator at1 count' id cells1 m'
          (λ ops bases o us to ts h O T R.
          let w = worked us h in
          let v = operator o w in
          let Q : List Tree → Type 0 = Got (swaps_at ops) table bases cells1 h at1 to id v in
          let F = is_fine (swaps_at ops) m1 count1 (GotAll ops bases h to w) ts (parts_of w) l (args_of ops bases o us to ts h O T R) in
          same_set (swaps_at ops) m' count' Q ts (parts_of w ++ (v ∷ [])) (v ∷ parts_of w) (λ x. last_first (swaps_at ops) v (parts_of w) x) (λ x. first_last (swaps_at ops) v (parts_of w) x)
          (after_grown (swaps_at ops) m' count' Q ts (parts_of w) F.0 (v ∷ []) F.2
          (outcome_on (swaps_at ops) F.0 (v ∷ []) m' count' (λ us. Ref (swaps_at ops) us id v) Q
          (λ us g s. (F.3.0, s, (F.3.3.0, cells-on (swaps_at ops) bases cells1 F.0 (v ∷ []) us h g F.3.3.1)))
          (P (swaps_at ops) F.0 v F.1 (node-means ops bases o us to h O T F.0 F.3.2)))))

-- ---- four ids, each picked anew
pub four_picked : (x y z w k id p q r s : ℕ) → Picks (eqb k 0) id x p → Picks (eqb k 1) id y q → Picks (eqb k 2) id z r → Picks (eqb k 3) id w s
    → p ∷ q ∷ r ∷ s ∷ [] ≡ set (x ∷ y ∷ z ∷ w ∷ []) k id
four_picked x y z w zero id p q r s a b c d = rw (a.0 refl, b.1 refl, c.1 refl, d.1 refl)
four_picked x y z w (suc zero) id p q r s a b c d = rw (a.1 refl, b.0 refl, c.1 refl, d.1 refl)
four_picked x y z w (suc (suc zero)) id p q r s a b c d = rw (a.1 refl, b.1 refl, c.0 refl, d.1 refl)
four_picked x y z w (suc (suc (suc zero))) id p q r s a b c d = rw (a.1 refl, b.1 refl, c.1 refl, d.0 refl)
four_picked x y z w (suc (suc (suc (suc k)))) id p q r s a b c d =
    let n : ℕ = suc (suc (suc (suc k))) in
    rw (a.1 (ne_eqb n 0 (λ h. omega arith)), b.1 (ne_eqb n 1 (λ h. omega arith)), c.1 (ne_eqb n 2 (λ h. omega arith)), d.1 (ne_eqb n 3 (λ h. omega arith)))

-- ---- args
module _ (table list : List ℕ) (left at : ℕ) (cells m : List ℕ) (count k n : ℕ) (ids : List ℕ) where
  abbrev GotRow : List ℕ → List ℕ → List ℕ → Content Tree → ℕ → List ℕ → ℕ → Trees → List Tree → Type 0
  GotRow ops bases cells' h at' ids' to ws vs =
      (at' ≡ to) × ((j : ℕ) → j < k → get_or ids' j 0 ≡ get_or ids j 0) × Args (swaps_at ops) vs ids' k ws × Holding (swaps_at ops) table bases cells' vs h

  pub all_none : n ≤ k → WorksAll table list left at cells m count k n ids at count ids cells m
  unfolding WorksAll TreesAt many values_of parts_of Args
  all_none l ops bases nil to ts h O T c y z R = fine ts R.stored (grown_none (swaps_at ops) ts [] (λ x i. absurd (in_none (swaps_at ops) x i))) (sym T, λ j i. refl, z, (R.slots, R.holds))
  all_none l ops bases (cons t us) to ts h O T c y z R = absurd (omega arith)

  module _ (l : k < n) (at1 count1 id1 : ℕ) (cells1 m1 : List ℕ) (W : Works table list left at cells m count at1 count1 id1 cells1 m1) where
    pub all_full : 4096 < count1 → (at' : ℕ) (ids' : List ℕ) → WorksAll table list left at cells m count k n ids at' count1 ids' cells1 m1
    unfolding WorksAll TreesAt many values_of parts_of Works
    all_full g at' ids' ops bases nil to ts h O T c y z R = absurd (omega arith)
    all_full g at' ids' ops bases (cons t us) to ts h O T c y z R =
        let v = value_of free t h in
        let w = parts_of (worked us h) in
        full g
        (over_more (swaps_at ops) ts (parts v) (parts v ++ w) (λ x i. in_left (swaps_at ops) x (parts v) w i)
        (is_full (swaps_at ops) m1 count1 (Got (swaps_at ops) table bases cells1 h at1 T.0 id1 v) ts (parts v) g (W ops bases t T.0 ts h O T.1 R)))

    pub all_step : count1 ≤ 4096 → n ≤ 4 → (at' count' : ℕ) (ids' cells' m' : List ℕ)
        → WorksAll table list left at1 cells1 m1 count1 (k + 1) n (set ids k id1) at' count' ids' cells' m'
        → WorksAll table list left at cells m count k n ids at' count' ids' cells' m'
    unfolding WorksAll TreesAt many values_of parts_of Works Args
    all_step g i at' count' ids' cells' m' A ops bases nil to ts h O T c y z R = absurd (omega arith)
    all_step g i at' count' ids' cells' m' A ops bases (cons t us) to ts h O T c y z R =
        let v = value_of free t h in
        let w = worked us h in
        let F = is_fine (swaps_at ops) m1 count1 (Got (swaps_at ops) table bases cells1 h at1 T.0 id1 v) ts (parts v) g (W ops bases t T.0 ts h O T.1 R) in
        let R1 : Ready (swaps_at ops) table bases cells1 m1 count1 F.0 h = record { slots = F.3.2.0; stored = F.1; holds = F.3.2.1 } in
        let z1 : (j : ℕ) → k + 1 ≤ j → get_or (set ids k id1) j 0 ≡ 0 = λ j q. get_or-set_other ids k j id1 0 (omega arith) ∙ z j (omega arith) in
        let Q : List Tree → Type 0 = λ vs. (at' ≡ to) × ((j : ℕ) → j < k + 1 → get_or ids' j 0 ≡ get_or (set ids k id1) j 0) × Args (swaps_at ops) vs ids' (k + 1) w × Holding (swaps_at ops) table bases cells' vs h in
        after_grown (swaps_at ops) m' count' (GotRow ops bases cells' h at' ids' to (cons v w)) ts (parts v) F.0 (parts_of w) F.2
        (outcome_on (swaps_at ops) F.0 (parts_of w) m' count' Q (GotRow ops bases cells' h at' ids' to (cons v w))
        (λ vs g q. (
          q.0,
          λ j i. q.1 j (omega arith) ∙ get_or-set_other ids k j id1 0 (omega arith),
          (
            subst (λ (r : ℕ). Ref (swaps_at ops) vs r v) (sym (q.1 k (omega arith) ∙ get_or-set_same ids k id1 0 (omega arith))) (grown_ref (swaps_at ops) F.0 (parts_of w) vs g id1 v F.3.1),
            subst (λ (x : ℕ). Args (swaps_at ops) vs ids' x w) (add-one k) q.2,
          ),
          q.3,
        ))
        (A ops bases us to F.0 h O (subst (λ (x : ℕ). TreesAt ops bases list us left x to) (sym F.3.0) T.2) (omega arith) (length-set ids k id1 ∙ y) z1 R1))

    pub all_picked : count1 ≤ 4096 → n ≤ 4 → (ids1 : List ℕ) → (length ids ≡ 4 → ids1 ≡ set ids k id1) → (at' count' : ℕ) (ids' cells' m' : List ℕ)
        → WorksAll table list left at1 cells1 m1 count1 (k + 1) n ids1 at' count' ids' cells' m'
        → WorksAll table list left at cells m count k n ids at' count' ids' cells' m'
    unfolding WorksAll
    all_picked g i ids1 e at' count' ids' cells' m' A ops bases us to ts h O T c y z R =
        all_step g i at' count' ids' cells' m' (subst (λ (l : List ℕ). WorksAll table list left at1 cells1 m1 count1 (k + 1) n l at' count' ids' cells' m') (e y) A) ops bases us to ts h O T c y z R
