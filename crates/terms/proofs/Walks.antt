-- What one look at a chain says: at its end, above the top, and at an id.
use Rattle.std.specs.Prelude.{if◌then◌else◌}
use Rattle.std.proofs.Common.{Some, None, ◌≡◌, ℕ, zero, suc, ◌-◌, ◌<◌, ◌≤◌, Bool, true, false, List, sym, refl, ap, ◌∙◌, ⊎_elim, le_of_suc-le-suc, not-suc-le-zero, eq-or-lt_of_le, arith, eq-eqb, ne_eqb}
use mathlib.Core.Bool.{false≢true}
use lib.Dec.{eqb-zero-suc}
use Rattle.terms.specs.declared.Node.{Node}
use Rattle.terms.specs.Chain.{look}
use Rattle.terms.specs.Store.{find_of, node_at, link_at, eq_node}

module _ (test : ℕ → Bool) (link : ℕ → ℕ) where
  pub look_end : (k : ℕ) → look test link k 0 ≡ None
  unfolding look
  look_end zero = refl
  look_end (suc k) = rw (eqb-zero-suc k) (look_end k)

  pub look_over : (k at : ℕ) → k < at → look test link k at ≡ None
  unfolding look
  look_over zero at h = refl
  look_over (suc k) at h = rw (ne_eqb at (suc k) (omega arith)) (look_over k at (omega arith))

  pub look_past : (k at : ℕ) → at ≤ k → look test link (suc k) at ≡ look test link k at
  unfolding look
  look_past k at l = rw (ne_eqb at (suc k) (omega arith))

  pub look-here : (k i : ℕ) → i < k → look test link k (suc i) ≡ (if test i then Some (suc i) else look test link i (link i))
  unfolding look
  look-here zero i h = absurd (not-suc-le-zero h)
  look-here (suc k) i h =
      ⊎_elim
      (λ (e : i ≡ k). rw (eq-eqb (suc i) (suc k) (ap suc e)) (rw e refl))
      (λ (l : i < k). rw (ne_eqb (suc i) (suc k) (omega arith)) (look-here k i l))
      (eq-or-lt_of_le (le_of_suc-le-suc h))

  -- the same at a cursor, as code has it
  pub look-on : (k at : ℕ) → 0 < at → at ≤ k
      → look test link k at ≡ (if test (at - 1) then Some at else look test link (at - 1) (link (at - 1)))
  look-on k at p h =
      let e : suc (at - 1) ≡ at = omega arith in
      ap (look test link k) (sym e)
      ∙ look-here k (at - 1) (omega arith)
      ∙ ap (λ (r : ℕ). if test (at - 1) then Some r else look test link (at - 1) (link (at - 1))) e

module _ (m : List ℕ) (n : Node) where
  pub find_end : (k : ℕ) → find_of m 0 k n ≡ None
  unfolding find_of
  find_end k = look_end _ _ k

  pub find_over : (k at : ℕ) → k < at → find_of m at k n ≡ None
  unfolding find_of
  find_over k at h = look_over _ _ k at h

  -- i is the id of the cursor, and b says whether n stands there
  module _ (k at i : ℕ) (b : Bool) (p : 0 < at) (h : at ≤ k) (e : i ≡ at - 1) (q : b ≡ eq_node (node_at m i) n) where
    tested : (t : Bool) → b ≡ t → eq_node (node_at m (at - 1)) n ≡ t
    tested t r = ap (λ (j : ℕ). eq_node (node_at m j) n) (sym e) ∙ sym q ∙ r

    -- a test that fails where b is false
    pub find_hit : (b ≡ false → false ≡ true) → find_of m at k n ≡ Some at
    unfolding find_of
    find_hit r = look-on (λ j. eq_node (node_at m j) n) (λ j. link_at m j) k at p h ∙ rw (tested true (go b refl))
      where
        go : (t : Bool) → b ≡ t → b ≡ true
        go true s = s
        go false s = absurd (false≢true (r s))

    -- and one that fails where b is true
    pub find_next : (b ≡ true → false ≡ true) → find_of m at k n ≡ find_of m (link_at m i) (at - 1) n
    unfolding find_of
    find_next r = look-on (λ j. eq_node (node_at m j) n) (λ j. link_at m j) k at p h ∙ rw (tested false (go b refl), e)
      where
        go : (t : Bool) → b ≡ t → b ≡ false
        go true s = absurd (false≢true (r s))
        go false s = s
