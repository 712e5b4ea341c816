-- An operator whose ids are sorted where it may swap: the node that stands for it.
use Rattle.std.proofs.Common.{◌≡◌, ℕ, ◌<◌, ◌≤◌, Bool, true, false, cond, ◌&&◌, ltb, List, [], ◌∷◌, get_or, sym, refl, ◌∙◌, subst, inr, arith, ltb-false, ltb-true, le-ltb, lt-ltb}
use mathlib.Core.Bool.{false≢true}
use Rattle.model.specs.Update.{Tree, Trees}
use Rattle.model.specs.Update.Tree.{operator}
use Rattle.model.specs.Update.Trees.{nil, cons}
use Rattle.terms.specs.Term.{turned, alike, alikes}
use Rattle.terms.specs.Store.{node_of, args_of}
use Rattle.terms.specs.Stored.{Args, Means, sorted}
use Rattle.terms.proofs.Alike.{alike_refl, alikes_refl, alike-operators}
use Rattle.terms.proofs.Trees.{args-turned}

-- two trees
pub record Two (us : Trees) : Type 0 where
  pub one : Tree
  pub other : Tree
  pub are : us ≡ cons one (cons other nil)

module _ (swaps : ℕ → Bool) (ts : List Tree) (o : ℕ) where
  -- a swap is alike
  swap_alike : (x y : Tree) → swaps o ≡ true → alike swaps (operator o (cons x (cons y nil))) (operator o (cons y (cons x nil))) ≡ true
  swap_alike x y e = alike-operators swaps o (cons x (cons y nil)) (cons y (cons x nil)) (inr (e, turn))
    where
      turn : alikes swaps (cons x (cons y nil)) (turned (cons y (cons x nil))) ≡ true
      turn = unfold turned in alikes_refl swaps (cons x (cons y nil))

  in_order_lem : (ids : List ℕ) (us : Trees) → (swaps o ≡ true → get_or ids 0 0 ≤ get_or ids 1 0) → Args swaps ts (args_of (node_of 17 o ids)) 0 us → Means swaps ts (node_of 17 o ids) (operator o us)
  unfolding Means
  in_order_lem ids us l h = (refl, refl, l, record { order = us; like = alike_refl swaps (operator o us); args = h })

  turned-order : (ids : List ℕ) (x y : Tree) → swaps o ≡ true → get_or ids 1 0 ≤ get_or ids 0 0 → Args swaps ts (args_of (node_of 17 o ids)) 0 (cons x (cons y nil))
      → Means swaps ts (node_of 17 o (get_or ids 1 0 ∷ get_or ids 0 0 ∷ get_or ids 2 0 ∷ get_or ids 3 0 ∷ [])) (operator o (cons x (cons y nil)))
  unfolding Means
  turned-order ids x y e l h =
      (refl, refl, (λ q. l), record { order = cons y (cons x nil); like = swap_alike x y e; args = args-turned swaps ts (node_of 17 o ids) x y h })

  -- the node with sorted ids is the operator over the arguments in their own order
  pub sorted-means : (ids : List ℕ) (us : Trees) → (swaps o ≡ true → Two us) → Args swaps ts (args_of (node_of 17 o ids)) 0 us → Means swaps ts (node_of 17 o (sorted (swaps o) ids)) (operator o us)
  unfolding sorted
  sorted-means ids us w h = go (swaps o) refl (ltb (get_or ids 1 0) (get_or ids 0 0)) refl
    where
      flip : List ℕ
      flip = get_or ids 1 0 ∷ get_or ids 0 0 ∷ get_or ids 2 0 ∷ get_or ids 3 0 ∷ []

      go : (b : Bool) → swaps o ≡ b → (c : Bool) → ltb (get_or ids 1 0) (get_or ids 0 0) ≡ c → Means swaps ts (node_of 17 o (cond (swaps o && ltb (get_or ids 1 0) (get_or ids 0 0)) flip ids)) (operator o us)
      go false e c f = rw e (in_order_lem ids us (λ q. absurd (false≢true (sym e ∙ q))) h)
      go true e false f = rw (e, f) (in_order_lem ids us (λ q. ltb-false (get_or ids 1 0) (get_or ids 0 0) f) h)
      go true e true f =
          let t = w e in
          let l = ltb-true (get_or ids 1 0) (get_or ids 0 0) f in
          rw (e, f)
          (subst (λ (v : Trees). Means swaps ts (node_of 17 o flip) (operator o v)) (sym t.are)
          (turned-order ids t.one t.other e (omega arith) (subst (λ (v : Trees). Args swaps ts (args_of (node_of 17 o ids)) 0 v) t.are h)))

-- the ids as they are stored, case by case
module _ (swap : Bool) (ids : List ℕ) where
  pub sorted-turned : swap ≡ true → get_or ids 1 0 < get_or ids 0 0 → get_or ids 1 0 ∷ get_or ids 0 0 ∷ get_or ids 2 0 ∷ get_or ids 3 0 ∷ [] ≡ sorted swap ids
  unfolding sorted
  sorted-turned e l = rw (e, lt-ltb (get_or ids 1 0) (get_or ids 0 0) l)

  pub sorted_same : swap ≡ true → get_or ids 0 0 ≤ get_or ids 1 0 → ids ≡ sorted swap ids
  unfolding sorted
  sorted_same e l = rw (e, le-ltb (get_or ids 1 0) (get_or ids 0 0) l)

  pub sorted-plain : swap ≡ false → ids ≡ sorted swap ids
  unfolding sorted
  sorted-plain e = rw e
