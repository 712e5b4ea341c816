-- Question 17, asked of the records of an expression, and the flags of cells written.
use mathlib.Core.Path.{◌≡◌, refl, sym, ap, ap₂, ◌∙◌}
use Prim.Native.Nat.{ℕ, zero, suc, ◌+◌, ◌≤◌, ◌<◌}
use native.Mathlib.Omega.{arith}
use mathlib.Core.List.{List, [], ◌∷◌, ◌++◌, append_assoc}
use mathlib.Core.Bool.{Bool, true, false, ◌&&◌, ◌||◌, and_assoc, and-true, or_assoc, or-false, or-true}
use lib.ListN.{length, get_or, drop, set}
use lib.Seq.{drop-drop, get_or-set_same, get_or-set_other}
use lib.Dec.{ltb, eqb}
use borrow.Author.Tests.{ltb-true, ltb-false, le-ltb, lt-ltb, eqb-true, eqb-false}
use Rattle.model.specs.Tables.{Tables, array_at, starts, inside}
use Rattle.model.specs.Update.{Tree, Trees, Update, size, sizes, writes, written}
use Rattle.model.specs.Update.Tree.{cell, number, constant, operator}
use Rattle.model.specs.Update.Trees.{nil, cons}
use Rattle.unroller.specs.Run.{readable, readables}
use Rattle.unroller.specs.Layout.{tree_words, trees_words}
use Rattle.unroller.specs.Stands.{bases_of}
use Rattle.unroller.specs.Walk.{Based}
use Rattle.unroller.specs.Writes.{spot, may_read, record_fine, scanned}
use Rattle.unroller.proofs.Parts.{within-high, TablesParts}
use Rattle.unroller.proofs.Accepted.{Declared, DeclaredAll}
use Rattle.unroller.proofs.Stands.{bases-length, bases-sorted, proper-inside}
use Rattle.unroller.proofs.Records.{spot-below}

module _ (f : ℕ → ℕ → Bool) where
  -- a record of the list
  module _ (list : List ℕ) (at : ℕ) where
    -- the loop over n records
    pub scan_end : (n : ℕ) → n ≡ 0 → true ≡ scanned f n (drop at list)
    unfolding scanned
    scan_end zero e = refl
    scan_end (suc n) e = absurd (omega arith)

    pub scan_stop : (n : ℕ) → 0 < n → false ≡ record_fine f (drop at list) → false ≡ scanned f n (drop at list)
    unfolding scanned
    scan_stop zero h e = absurd (omega arith)
    scan_stop (suc n) h e = ap (λ (b : Bool). b && scanned f n (drop 3 (drop at list))) e

    pub scan_step : (n m next : ℕ) → n ≡ suc m → next ≡ at + 3 → true ≡ record_fine f (drop at list) → scanned f m (drop next list) ≡ scanned f n (drop at list)
    unfolding scanned
    scan_step zero m next h g e = absurd (omega arith)
    scan_step (suc n) m next h g e =
        let w : m ≡ n = omega arith in
        ap₂ (scanned f) w (ap (λ (i : ℕ). drop i list) g ∙ sym (drop-drop 3 at list)) ∙ ap (λ (b : Bool). b && scanned f n (drop 3 (drop at list))) e

  -- all reads of a tree have the property
  unfoldable mutual
    pub fine : Tree → Bool
    fine (cell a c) = f a c
    fine (number z) = true
    fine (constant n) = true
    fine (operator o ts) = fines ts

    pub fines : Trees → Bool
    fines nil = true
    fines (cons t ts) = fine t && fines ts

  mutual
    unfolding scanned tree_words trees_words size sizes fine fines

    pub scan_tree : (x : Tree) (m : ℕ) (ws : List ℕ) → scanned f (size x + m) (tree_words x ++ ws) ≡ (fine x && scanned f m ws)
    scan_tree (cell a c) m ws = let e : 1 + m ≡ suc m = omega arith in rw e refl
    scan_tree (number z) m ws = let e : 1 + m ≡ suc m = omega arith in rw e refl
    scan_tree (constant n) m ws = let e : 1 + m ≡ suc m = omega arith in rw e refl
    scan_tree (operator o ts) m ws = let e : suc (sizes ts) + m ≡ suc (sizes ts + m) = omega arith in rw e (scan_trees ts m ws)

    pub scan_trees : (xs : Trees) (m : ℕ) (ws : List ℕ) → scanned f (sizes xs + m) (trees_words xs ++ ws) ≡ (fines xs && scanned f m ws)
    scan_trees nil m ws = let e : 0 + m ≡ m = omega arith in rw e refl
    scan_trees (cons t ts) m ws =
        let e : size t + sizes ts + m ≡ size t + (sizes ts + m) = omega arith in
        rw (e, append_assoc (tree_words t) (trees_words ts) ws)
        (scan_tree t (sizes ts + m) (trees_words ts ++ ws) ∙ ap (λ (b : Bool). fine t && b) (scan_trees ts m ws) ∙ sym (and_assoc (fine t) (fines ts) (scanned f m ws)))

  pub scan_whole : (x : Tree) (n : ℕ) (ws : List ℕ) → n ≡ size x → scanned f n (tree_words x ++ ws) ≡ fine x
  unfolding scanned
  scan_whole x n ws e = let z : n ≡ size x + 0 = omega arith in rw z (scan_tree x 0 ws ∙ and-true (fine x))

  -- for cells that are declared the property is question 17's
  module _ (t : Tables) (us : List Update) (h : (a c : ℕ) → inside t.arrays a c ≡ true → f a c ≡ (starts (array_at t.arrays a) || written us a c)) where
    mutual
      unfolding fine fines readable readables Declared DeclaredAll

      pub fine-readable : (x : Tree) → Declared x t → fine x ≡ readable x t.arrays us
      fine-readable (cell a c) p = h a c p
      fine-readable (number z) p = refl
      fine-readable (constant n) p = refl
      fine-readable (operator o ts) p = fines_readable ts p

      fines_readable : (xs : Trees) → DeclaredAll xs t → fines xs ≡ readables xs t.arrays us
      fines_readable nil p = refl
      fines_readable (cons x xs) p = ap₂ ◌&&◌ (fine-readable x p.0) (fines_readable xs p.1)

-- flags
module _ (t : Tables) (bases : List ℕ) (parts : TablesParts t) (based : Based t bases) where
  abbrev at : ℕ → ℕ → ℕ
  at a c = get_or (bases_of t.arrays) a 0 + c

  pub spot_is : (a c : ℕ) → inside t.arrays a c ≡ true → spot bases a c ≡ at a c
  spot_is a c h =
      let q = proper-inside t.arrays a c h in
      let l = bases-length t.arrays in
      let few = within-high 1 16 (length t.arrays) parts.count in
      let k = spot-below t a c parts h in
      let e = based a (omega (arith, q.array)) in
      let few_arrays : a ≤ 16 = omega (arith, q.array) in
      let few_bases : get_or bases a 0 ≤ 2048 = omega arith in
      let few_cells : c ≤ 2048 = omega arith in
      rw (le-ltb 16 a few_arrays, le-ltb 2048 (get_or bases a 0) few_bases, le-ltb 2048 c few_cells, e) refl

  pub may_is : (flags : List ℕ) (us : List Update) → ((a c : ℕ) → inside t.arrays a c ≡ true → eqb (get_or flags (at a c) 0) 1 ≡ written us a c) →
      (a c : ℕ) → inside t.arrays a c ≡ true → may_read t bases flags a c ≡ (starts (array_at t.arrays a) || written us a c)
  unfolding may_read
  may_is flags us m a c h =
      let k = spot-below t a c parts h in
      rw (spot_is a c h, lt-ltb (at a c) 2048 k) (ap (λ (b : Bool). starts (array_at t.arrays a) || b) (m a c h))

  -- different cells have different numbers
  apart : (a c b d : ℕ) → inside t.arrays a c ≡ true → inside t.arrays b d ≡ true → a < b → at a c ≡ at b d → ⊥
  apart a c b d h g l e =
      let p = proper-inside t.arrays a c h in
      let q = proper-inside t.arrays b d g in
      let n = bases-length t.arrays in
      let s = bases-sorted t.arrays (a + 1) b (omega arith) (omega (arith, q.array)) in
      omega (arith, p.inside)

  same_array_lem : (a c b d : ℕ) → inside t.arrays a c ≡ true → inside t.arrays b d ≡ true → at a c ≡ at b d → a ≡ b
  same_array_lem a c b d h g e = go (ltb a b) (ltb b a) refl refl
    where
      go : (x y : Bool) → ltb a b ≡ x → ltb b a ≡ y → a ≡ b
      go true y q r = absurd (apart a c b d h g (ltb-true a b q) e)
      go false true q r = absurd (apart b d a c g h (ltb-true b a r) (sym e))
      go false false q r = let x = ltb-false a b q in let y = ltb-false b a r in omega arith

  written_snoc : (us : List Update) (u : Update) (a c : ℕ) → written (us ++ (u ∷ [])) a c ≡ (written us a c || writes u a c)
  written_snoc [] u a c = or-false (writes u a c)
  written_snoc (v ∷ us) u a c = ap (λ (b : Bool). writes v a c || b) (written_snoc us u a c) ∙ sym (or_assoc (writes v a c) (written us a c) (writes u a c))

  module _ (flags : List ℕ) (us : List Update) (long : length flags ≡ 2048)
      (m : (a c : ℕ) → inside t.arrays a c ≡ true → eqb (get_or flags (at a c) 0) 1 ≡ written us a c) (u : Update) (w : inside t.arrays u.array u.target ≡ true) where
    -- the flag of the target is set, and no other
    pub marked_more : (flags' : List ℕ) → flags' ≡ set flags (at u.array u.target) 1 →
        (a c : ℕ) → inside t.arrays a c ≡ true → eqb (get_or flags' (at a c) 0) 1 ≡ written (us ++ (u ∷ [])) a c
    marked_more flags' e a c h = rw e (go (eqb u.array a) (eqb u.target c) refl refl ∙ sym (written_snoc us u a c))
      where
        k : ℕ
        k = at u.array u.target

        other : (at a c ≡ k → ⊥) → writes u a c ≡ false → eqb (get_or (set flags k 1) (at a c) 0) 1 ≡ (written us a c || writes u a c)
        other x y = rw (get_or-set_other flags k (at a c) 1 0 x, y, or-false (written us a c)) (m a c h)

        go : (x y : Bool) → eqb u.array a ≡ x → eqb u.target c ≡ y → eqb (get_or (set flags k 1) (at a c) 0) 1 ≡ (written us a c || writes u a c)
        go true true p q =
            let i = eqb-true u.array a p in
            let j = eqb-true u.target c q in
            let s : at a c ≡ k = ap₂ at (sym i) (sym j) in
            let b = spot-below t u.array u.target parts w in
            rw (s, get_or-set_same flags k 1 0 (omega arith), p, q) (sym (or-true (written us a c)))
        go true false p q =
            let i = eqb-true u.array a p in
            let j = eqb-false u.target c q in
            other (λ s. j (let v = ap (λ (n : ℕ). get_or (bases_of t.arrays) n 0) i in omega arith)) (rw (p, q) refl)
        go false y p q =
            other (λ s. eqb-false u.array a p (sym (same_array_lem a c u.array u.target h w s))) (rw p refl)
