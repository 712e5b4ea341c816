-- In an array that does not start alike on both sides an element is written exactly where its slot is filled: no term is made of such cells.
use Prim.Native.Nat.{ℕ}
use native.Mathlib.Omega.{arith}
use mathlib.Core.Path.{◌≡◌, refl, sym, ap, ◌∙◌, subst}
use mathlib.Core.Logic.{◌⊎◌, inl, inr, ⊎_elim}
use mathlib.Core.List.{List, [], ◌∷◌, ◌++◌}
use mathlib.Core.Bool.{Bool, true, false, ◌&&◌, ◌||◌, not, cond, true≢false, false≢true, and-eq-true_iff, or_assoc, or-false, or-true}
use lib.Dec.{eqb}
use borrow.Author.Tests.{eqb-true, eq-eqb, ne_eqb}
use Rattle.model.specs.Tables.{Array, array_at, starts}
use Rattle.model.specs.Update.{Tree, Trees, Update, writes, written}
use Rattle.model.specs.Update.Tree.{cell, number, constant, operator}
use Rattle.model.specs.Update.Trees.{nil, cons}
use Rattle.terms.specs.Term.{alike, parts, parts_of, parts_of_all}
use Rattle.terms.specs.Stored.{In, Ref}
use Rattle.terms.proofs.Sets.{in_none, in_one, in_either, ref_in}
use Rattle.unroller.specs.Run.{readable, readables}
use Rattle.unroller.specs.Allowed.{read_all}
use Rattle.comparer.specs.Meaning.{Content, value_of, values_of, updated, after, trees_of, free, values}
use Rattle.comparer.specs.Work.{Shows}
use Rattle.comparer.specs.Comparing.{filled}
use Rattle.comparer.proofs.Alike.{written_snoc, unwritten_after}

module _ (xs : List Array) where
  -- made of cells of in and inout arrays
  unfoldable mutual
    clean : Tree → Bool
    clean (cell a c) = starts (array_at xs a)
    clean (number z) = true
    clean (constant n) = true
    clean (operator o ts) = cleans ts

    cleans : Trees → Bool
    cleans nil = true
    cleans (cons t ts) = clean t && cleans ts

  -- all that may be read after `done` is
  abbrev Clean : List Update → Content Tree → Type 0
  Clean done h = (a c : ℕ) → (starts (array_at xs a) || written done a c) ≡ true → clean (h a c) ≡ true

  module _ (done : List Update) (h : Content Tree) (all : Clean done h) where
    mutual
      unfolding readable readables value_of values_of clean cleans

      clean_value : (x : Tree) → readable x xs done ≡ true → clean (value_of free x h) ≡ true
      clean_value (cell a c) e = all a c e
      clean_value (number z) e = refl
      clean_value (constant n) e = refl
      clean_value (operator o ts) e = clean_values ts e

      clean_values : (ts : Trees) → readables ts xs done ≡ true → cleans (trees_of (values_of free ts h)) ≡ true
      clean_values nil e = refl
      clean_values (cons x zs) e =
          let p = (and-eq-true_iff (readable x xs done) (readables zs xs done)).0 e in
          (and-eq-true_iff (clean (value_of free x h)) (cleans (trees_of (values_of free zs h)))).1 (clean_value x p.0, clean_values zs p.1)

    clean_next : (u : Update) → readable u.source xs done ≡ true → Clean (done ++ (u ∷ [])) (updated free h u)
    clean_next u e a c q = go (writes u a c) refl
      where
        go : (b : Bool) → writes u a c ≡ b → clean (cond (writes u a c) (value_of free u.source h) (h a c)) ≡ true
        go true w = rw w (clean_value u.source e)
        go false w = rw w (all a c (sym (ap (λ (b : Bool). starts (array_at xs a) || b) (written_snoc done u a c ∙ ap (λ (b : Bool). written done a c || b) w ∙ or-false (written done a c))) ∙ q))

  clean_after : (us done : List Update) (h : Content Tree) → Clean done h → read_all xs done us ≡ true
      → (a c : ℕ) → (starts (array_at xs a) || (written done a c || written us a c)) ≡ true → clean (after free us h a c) ≡ true
  clean_after [] done h all e a c q = all a c (ap (λ (b : Bool). starts (array_at xs a) || b) (sym (or-false (written done a c))) ∙ q)
  clean_after (u ∷ us) done h all e a c q =
      let p = (and-eq-true_iff (readable u.source xs done) (read_all xs (done ++ (u ∷ [])) us)).0 e in
      clean_after us (done ++ (u ∷ [])) (updated free h u) (clean_next done h all u p.0) p.1 a c
      (ap (λ (b : Bool). starts (array_at xs a) || b) (ap (λ (b : Bool). b || written us a c) (written_snoc done u a c) ∙ or_assoc (written done a c) (writes u a c) (written us a c)) ∙ q)

  own : Clean [] cell
  own = unfold clean in λ b d f. sym (or-false (starts (array_at xs b))) ∙ f

  module _ (swaps : ℕ → Bool) (a c : ℕ) where
    cell-alike : (b d : ℕ) → alike swaps (cell a c) (cell b d) ≡ true → a ≡ b
    unfolding alike
    cell-alike b d e = eqb-true a b ((and-eq-true_iff (eqb a b) (eqb c d)).0 e).0

    -- the cell is no part of what is made of others
    mutual
      unfolding clean cleans parts parts_of alike

      clean_parts : (t : Tree) → clean t ≡ true → In swaps (cell a c) (parts t) → starts (array_at xs a) ≡ true
      clean_parts (cell b d) e i = rw (cell-alike b d (in_one swaps (cell a c) (cell b d) i)) e
      clean_parts (number z) e i = absurd (false≢true (in_one swaps (cell a c) (number z) i))
      clean_parts (constant n) e i = absurd (false≢true (in_one swaps (cell a c) (constant n) i))
      clean_parts (operator o ts) e i = clean_parts_of ts e i

      clean_parts_of : (ts : Trees) → cleans ts ≡ true → In swaps (cell a c) (parts_of ts) → starts (array_at xs a) ≡ true
      clean_parts_of nil e i = absurd (in_none swaps (cell a c) i)
      clean_parts_of (cons t ts) e i =
          let p = (and-eq-true_iff (clean t) (cleans ts)).0 e in
          ⊎_elim (λ j. clean_parts t p.0 j) (λ j. clean_parts_of ts p.1 j) (in_either swaps (cell a c) (parts t) (parts_of ts) i)

    parts-written : (us done : List Update) (h : Content Tree) → Clean done h → read_all xs done us ≡ true → In swaps (cell a c) (parts_of_all (values us h)) → starts (array_at xs a) ≡ true
    parts-written [] done h all e i = absurd (in_none swaps (cell a c) i)
    parts-written (u ∷ us) done h all e i =
        let p = (and-eq-true_iff (readable u.source xs done) (read_all xs (done ++ (u ∷ [])) us)).0 e in
        let v = value_of free u.source h in
        let h1 : Content Tree = updated free h u in
        ⊎_elim (λ j. clean_parts v (clean_value done h all u.source p.0) j)
        (λ j. parts-written us (done ++ (u ∷ [])) h1 (clean_next done h all u p.0) p.1 j)
        (in_either swaps (cell a c) (parts v) (parts_of_all (values us h1)) i)

    module _ (us : List Update) (e : read_all xs [] us ≡ true) where
      -- the list stores no cell of an array that does not start alike on both sides
      pub not-stored : starts (array_at xs a) ≡ false → In swaps (cell a c) (parts_of_all (values us cell)) → ⊥
      not-stored s i = true≢false (sym (parts-written us [] cell own e i) ∙ s)

      module _ (ts : List Tree) (x : ℕ) where
        slot_filled : starts (array_at xs a) ≡ false → (In swaps (cell a c) ts → ⊥) → Shows swaps ts x (cell a c) (after free us cell a c) → written us a c ≡ not (eqb x 0)
        slot_filled s none w = go (written us a c) refl w
          where
            term : Tree
            term = after free us cell a c

            go : (b : Bool) → written us a c ≡ b → ((x ≡ 0) × (term ≡ cell a c)) ⊎ Ref swaps ts x term → b ≡ not (eqb x 0)
            go true f (inl g) = absurd (true≢false (sym (clean_after us [] cell own e a c (rw f (or-true (starts (array_at xs a))))) ∙ ap clean g.1 ∙ (unfold clean in s)))
            go true f (inr g) = rw (ne_eqb x 0 (λ z. omega (arith, g.some)))
            go false f (inl g) = rw (eq-eqb x 0 g.0)
            go false f (inr g) = absurd (none (subst (λ (t : Tree). In swaps t ts) (unwritten_after free us cell a c f) (ref_in swaps ts x term g)))

        -- whether a cell is given is seen in its slot
        pub given_is : (starts (array_at xs a) ≡ false → In swaps (cell a c) ts → ⊥) → Shows swaps ts x (cell a c) (after free us cell a c)
            → (starts (array_at xs a) || written us a c) ≡ filled (starts (array_at xs a)) x
        given_is none w = go (starts (array_at xs a)) refl
          where
            go : (b : Bool) → starts (array_at xs a) ≡ b → (b || written us a c) ≡ filled b x
            go true s = refl
            go false s = slot_filled s (none s) w
