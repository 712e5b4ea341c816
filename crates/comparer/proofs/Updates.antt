-- What a round of `apply_updates` does: what finishes the rest finishes the whole.
use mathlib.Core.Path.{◌≡◌, refl, sym, ap, ap₂, ◌∙◌, subst, subst₂}
use Rattle.std.specs.Prelude.{None, Some}
use mathlib.Core.Logic.{inr}
use mathlib.Core.Bool.{Bool, true, false, ◌&&◌, cond}
use mathlib.Core.List.{List, [], ◌∷◌, ◌++◌}
use Prim.Native.Nat.{ℕ, ◌+◌, ◌≤◌, ◌<◌}
use native.Mathlib.Omega.{arith}
use lib.ListN.{length, get_or, set, length-set}
use lib.Seq.{get_or-set_same, get_or-set_other}
use lib.Dec.{eqb}
use borrow.Author.Tests.{eqb-true, eqb-false}
use Rattle.model.specs.Tables.{swaps_at}
use Rattle.model.specs.Update.{Tree, Update}
use Rattle.model.specs.Update.Tree.{cell}
use Rattle.terms.specs.Term.{parts, parts_of_all}
use Rattle.terms.specs.Stored.{Ref, Outcome, full, fine}
use Rattle.terms.proofs.Sets.{in_none, in_left, grown_none, over_more, after_grown, is_full, is_fine}
use Rattle.unroller.specs.Stands.{Proper, Three, TreeAt, UpdatesAt}
use Rattle.comparer.specs.Meaning.{Content, value_of, free, updated, after, values}
use Rattle.comparer.specs.Work.{Operators, Table, slot_of, Finds, Shows, CellsHold, Ready, Works, Applies}
use Rattle.comparer.proofs.Slots.{slot_in, slot_is, slot_none, slot_apart}
use Rattle.comparer.proofs.Arguments.{tree_past, Got}

-- ---- a cell is written
module _ (swaps : ℕ → Bool) (table bases cells : List ℕ) (k id : ℕ) (ts : List Tree) (h : Content Tree) (u : Update) where
  holds-update : Table table bases (length cells) → Proper bases u.array u.target → k ≡ slot_of bases u.array u.target
      → Ref swaps ts id (value_of free u.source h) → CellsHold swaps bases cells ts h → CellsHold swaps bases (set cells k id) ts (updated free h u)
  holds-update t p e r H b d q = go (eqb u.array b) (eqb u.target d) refl refl
    where
      v : Tree
      v = value_of free u.source h

      Goal : Tree → Type 0
      Goal w = Shows swaps ts (get_or (set cells k id) (slot_of bases b d) 0) (cell b d) w

      here : u.array ≡ b → u.target ≡ d → Goal v
      here x y =
          let s : slot_of bases b d ≡ k = sym (e ∙ ap₂ (slot_of bases) x y) in
          let w : get_or (set cells k id) (slot_of bases b d) 0 ≡ id =
          ap (λ (i : ℕ). get_or (set cells k id) i 0) s ∙ get_or-set_same cells k id 0 (omega (arith, e, slot_in table bases (length cells) t u.array u.target p)) in
          inr (subst (λ (i : ℕ). Ref swaps ts i v) (sym w) r)

      other : (slot_of bases b d ≡ k → ⊥) → Goal (h b d)
      other n =
          subst (λ (i : ℕ). Shows swaps ts i (cell b d) (h b d)) (sym (get_or-set_other cells k (slot_of bases b d) id 0 n)) (H b d q)

      apart : slot_of bases b d ≡ k → (u.array ≡ b) × (u.target ≡ d)
      apart s = slot_apart table bases (length cells) t u.array u.target b d p q (sym (s ∙ e))

      go : (x y : Bool) → eqb u.array b ≡ x → eqb u.target d ≡ y → Goal (cond (x && y) v (h b d))
      go true true f g = here (eqb-true u.array b f) (eqb-true u.target d g)
      go true false f g = other (λ s. eqb-false u.target d g (apart s).1)
      go false true f g = other (λ s. eqb-false u.array b f (apart s).0)
      go false false f g = other (λ s. eqb-false u.array b f (apart s).0)

module _ (table list : List ℕ) (at : ℕ) (cells m : List ℕ) (n : ℕ) where
  pub upd_end : (at + 3 ≤ length list → get_or list at 0 ≡ 1 → ⊥) → Applies table list at cells m n n cells m
  unfolding Applies UpdatesAt
  upd_end w ops bases [] ts h O T R = fine ts R.stored (grown_none (swaps_at ops) ts [] (λ x i. absurd (in_none (swaps_at ops) x i))) R.holds
  upd_end w ops bases (u ∷ us) ts h O T R = absurd (w T.0.room T.0.code)

  -- no update has no slot
  pub upd_none : at + 3 ≤ length list → get_or list at 0 ≡ 1 → Finds table (get_or list (at + 1) 0) (get_or list (at + 2) 0) None → (r : ℕ) (cells' m' : List ℕ) → Applies table list at cells m n r cells' m'
  unfolding Applies UpdatesAt
  upd_none room e f r cells' m' ops bases [] ts h O T R = absurd (T room e)
  upd_none room e f r cells' m' ops bases (u ∷ us) ts h O T R =
      absurd (slot_none table bases (length cells) R.slots u.array u.target T.1 (subst₂ (λ (x y : ℕ). Finds table x y None) T.0.one T.0.two f))

  module _ (room : at + 3 ≤ length list) (e : get_or list at 0 ≡ 1) (at1 count1 id1 : ℕ) (cells1 m1 : List ℕ)
      (W : Works table list 12 (at + 3) cells m n at1 count1 id1 cells1 m1) where
    -- an update stands here, and its value was worked out: it is enough to show of it what is to be shown
    by_update : (r : ℕ) (cells' m' : List ℕ)
        → ((ops bases : List ℕ) (u : Update) (us : List Update) (ts : List Tree) (h : Content Tree) (to : ℕ) → Operators list ops
        → Three list at 1 u.array u.target → Proper bases u.array u.target
        → TreeAt ops bases list u.source 12 (at + 3) to → UpdatesAt ops bases list us to → Ready (swaps_at ops) table bases cells m n ts h
        → Outcome (swaps_at ops) ts (parts (value_of free u.source h)) m1 count1 (Got (swaps_at ops) table bases cells1 h at1 to id1 (value_of free u.source h))
        → Outcome (swaps_at ops) ts (parts (value_of free u.source h) ++ parts_of_all (values us (updated free h u))) m' r (λ vs. CellsHold (swaps_at ops) bases cells' vs (after free us (updated free h u))))
        → Applies table list at cells m n r cells' m'
    unfolding Applies UpdatesAt Works
    by_update r cells' m' f ops bases [] ts h O T R = absurd (T room e)
    by_update r cells' m' f ops bases (u ∷ us) ts h O T R =
        f ops bases u us ts h T.2.0 O T.0 T.1 T.2.1 T.2.2 R (W ops bases u.source T.2.0 ts h O T.2.1 R)

    pub upd_full : 4096 < count1 → (cells' : List ℕ) → Applies table list at cells m n 4097 cells' m1
    upd_full g cells' =
        by_update 4097 cells' m1
        (λ ops bases u us ts h to O w p T U R X.
        let v = value_of free u.source h in
        let rest = parts_of_all (values us (updated free h u)) in
        full (omega arith)
        (over_more (swaps_at ops) ts (parts v) (parts v ++ rest) (λ x i. in_left (swaps_at ops) x (parts v) rest i) (is_full (swaps_at ops) m1 count1 (Got (swaps_at ops) table bases cells1 h at1 to id1 v) ts (parts v) g X)))

    pub upd_stuck : count1 ≤ 4096 → at1 ≤ at → (r : ℕ) (cells' m' : List ℕ) → Applies table list at cells m n r cells' m'
    upd_stuck g l r cells' m' =
        by_update r cells' m'
        (λ ops bases u us ts h to O w p T U R X.
        let F = is_fine (swaps_at ops) m1 count1 (Got (swaps_at ops) table bases cells1 h at1 to id1 (value_of free u.source h)) ts (parts (value_of free u.source h)) g X in
        absurd (omega (arith, tree_past ops bases list u.source 12 (at + 3) to T, F.3.0)))

    module _ (k : ℕ) (f : Finds table (get_or list (at + 1) 0) (get_or list (at + 2) 0) (Some k)) where
      -- the slot of the update that stands here
      slot_of_lem : (bases : List ℕ) (u : Update) → Table table bases (length cells) → Three list at 1 u.array u.target → Proper bases u.array u.target
          → k ≡ slot_of bases u.array u.target
      slot_of_lem bases u t w p =
          slot_is table bases (length cells) t u.array u.target p k (subst₂ (λ (x y : ℕ). Finds table x y (Some k)) w.one w.two f)

      pub upd_wild : count1 ≤ 4096 → length cells1 ≤ k → (r : ℕ) (cells' m' : List ℕ) → Applies table list at cells m n r cells' m'
      upd_wild g l r cells' m' =
          by_update r cells' m'
          (λ ops bases u us ts h to O w p T U R X.
          let F = is_fine (swaps_at ops) m1 count1 (Got (swaps_at ops) table bases cells1 h at1 to id1 (value_of free u.source h)) ts (parts (value_of free u.source h)) g X in
          absurd (omega (arith, slot_of_lem bases u R.slots w p, slot_in table bases (length cells1) F.3.2.0 u.array u.target p)))

      pub upd_step : count1 ≤ 4096 → (r : ℕ) (cells' m' : List ℕ) → Applies table list at1 (set cells1 k id1) m1 count1 r cells' m'
          → Applies table list at cells m n r cells' m'
      unfolding Applies
      upd_step g r cells' m' A =
          by_update r cells' m'
          (λ ops bases u us ts h to O w p T U R X.
          let v = value_of free u.source h in
          let h1 : Content Tree = updated free h u in
          let F = is_fine (swaps_at ops) m1 count1 (Got (swaps_at ops) table bases cells1 h at1 to id1 v) ts (parts v) g X in
          after_grown (swaps_at ops) m' r (λ vs. CellsHold (swaps_at ops) bases cells' vs (after free us h1)) ts (parts v) F.0 (parts_of_all (values us h1)) F.2
          (A ops bases us F.0 h1 O (subst (λ (x : ℕ). UpdatesAt ops bases list us x) (sym F.3.0) U) (record {
            slots = subst (λ (x : ℕ). Table table bases x) (sym (length-set cells1 k id1)) F.3.2.0;
            stored = F.1;
            holds = holds-update (swaps_at ops) table bases cells1 k id1 F.0 h u F.3.2.0 p (slot_of_lem bases u R.slots w p) F.3.1 F.3.2.1;
          })))
