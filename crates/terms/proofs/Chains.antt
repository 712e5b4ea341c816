-- A chain whose links are `last_in` meets each id of its bucket: a look along it finds what a look at every id finds.
-- Nothing here is about memory or about the mix.
use Rattle.std.specs.Prelude.{if◌then◌else◌}
use Rattle.std.proofs.Common.{Option, Some, None, ◌≡◌, ℕ, zero, suc, ◌<◌, ◌≤◌, Bool, true, false, eqb, sym, refl, ap, ◌∙◌, ⊎_elim, le_of_suc-le-suc, not-suc-le-zero, eq-or-lt_of_le, arith, eq-eqb, ne_eqb, eqb-true}
use borrow.Author.Tests.{eqb-false}
use Rattle.terms.specs.Chain.{look}
use Rattle.terms.specs.Holds.{last_in, seek}
use Rattle.terms.proofs.Walks.{look-here, look_past}

module _ (g : ℕ → ℕ) (b : ℕ) where
  pub last_here : (k : ℕ) → g k ≡ b → last_in g b (suc k) ≡ suc k
  unfolding last_in
  last_here k e = rw (eq-eqb (g k) b e)

  pub last_past : (k : ℕ) → (g k ≡ b → ⊥) → last_in g b (suc k) ≡ last_in g b k
  unfolding last_in
  last_past k e = rw (ne_eqb (g k) b e)

  last_le : (k : ℕ) → last_in g b k ≤ k
  unfolding last_in
  last_le zero = omega arith
  last_le (suc k) = go (eqb (g k) b) (last_le k)
    where
      go : (t : Bool) → last_in g b k ≤ k → (if t then suc k else last_in g b k) ≤ suc k
      go true h = omega arith
      go false h = omega arith

-- only the buckets below k matter
pub last_same : (g h : ℕ → ℕ) (b k : ℕ) → ((i : ℕ) → i < k → g i ≡ h i) → last_in g b k ≡ last_in h b k
unfolding last_in
last_same g h b zero e = refl
last_same g h b (suc k) e = rw (e k (omega arith), last_same g h b k (λ i l. e i (omega arith)))

module _ (test : ℕ → Bool) where
  seek-here : (k : ℕ) → test k ≡ true → seek test (suc k) ≡ Some (suc k)
  unfolding seek
  seek-here k e = rw e

  seek_past : (k : ℕ) → test k ≡ false → seek test (suc k) ≡ seek test k
  unfolding seek
  seek_past k e = rw e

  pub seek_none : (k : ℕ) → ((i : ℕ) → i < k → test i ≡ false) → seek test k ≡ None
  seek_none zero h = unfold seek in refl
  seek_none (suc k) h = seek_past k (h k (omega arith)) ∙ seek_none k (λ i l. h i (omega arith))

  pub seek_one : (k i : ℕ) → i < k → test i ≡ true → ((j : ℕ) → j < k → test j ≡ true → j ≡ i) → seek test k ≡ Some (suc i)
  seek_one zero i l e u = absurd (not-suc-le-zero l)
  seek_one (suc k) i l e u =
      ⊎_elim
      (λ (p : i ≡ k). seek-here k (ap test (sym p) ∙ e) ∙ ap (λ (j : ℕ). Some (suc j)) (sym p))
      (λ (m : i < k). seek_past k (go m (test k) refl) ∙ seek_one k i m e (λ j q t. u j (omega arith) t))
      (eq-or-lt_of_le (le_of_suc-le-suc l))
    where
      go : i < k → (t : Bool) → test k ≡ t → test k ≡ false
      go m true q = let z : k ≡ i = u k (omega arith) q in absurd (omega arith)
      go m false q = q

seek-suc : (test : ℕ → Bool) (k : ℕ) → seek test (suc k) ≡ (if test k then Some (suc k) else seek test k)
unfolding seek
seek-suc test k = refl

-- The links are the last earlier ids of the same bucket, and what passes the test is in the bucket b: the chain of b finds what there is
pub look_last : (test : ℕ → Bool) (link g : ℕ → ℕ) (b k : ℕ)
    → ((i : ℕ) → i < k → link i ≡ last_in g (g i) i)
    → ((i : ℕ) → i < k → test i ≡ true → g i ≡ b)
    → look test link k (last_in g b k) ≡ seek test k
look_last test link g b zero h q = unfold look last_in seek in refl
look_last test link g b (suc k) h q =
    go (eqb (g k) b) refl (look_last test link g b k (λ i l. h i (omega arith)) (λ i l. q i (omega arith)))
  where
    off : (t : Bool) → test k ≡ t → (g k ≡ b → ⊥) → test k ≡ false
    off true e d = absurd (d (q k (omega arith) e))
    off false e d = e

    at_top : g k ≡ b → look test link k (last_in g b k) ≡ seek test k → look test link (suc k) (suc k) ≡ seek test (suc k)
    at_top e ih =
        look-here test link (suc k) k (omega arith)
        ∙ ap (λ (f : Option ℕ). if test k then Some (suc k) else f) (ap (look test link k) (h k (omega arith) ∙ ap (λ (x : ℕ). last_in g x k) e) ∙ ih)
        ∙ sym (seek-suc test k)

    go : (t : Bool) → eqb (g k) b ≡ t → look test link k (last_in g b k) ≡ seek test k → look test link (suc k) (last_in g b (suc k)) ≡ seek test (suc k)
    go true e ih =
        ap (look test link (suc k)) (last_here g b k (eqb-true (g k) b e)) ∙ at_top (eqb-true (g k) b e) ih
    go false e ih =
        ap (look test link (suc k)) (last_past g b k (eqb-false (g k) b e))
        ∙ look_past test link k (last_in g b k) (last_le g b k)
        ∙ ih
        ∙ sym (seek_past test k (off (test k) refl (eqb-false (g k) b e)))
