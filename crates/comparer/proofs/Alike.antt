-- An update list does not see what stands in a cell that it may not read.
use Prim.Native.Nat.{ℕ}
use mathlib.Core.Path.{◌≡◌, refl, sym, ap, ap₂, ◌∙◌}
use mathlib.Core.List.{List, [], ◌∷◌, ◌++◌}
use mathlib.Core.Bool.{Bool, true, false, ◌||◌, cond, true≢false, and-eq-true_iff, or_assoc, or-false}
use Rattle.model.specs.Tables.{Array, array_at, starts}
use Rattle.model.specs.Update.{Tree, Trees, Update, writes, written}
use Rattle.model.specs.Update.Tree.{cell, number, constant, operator}
use Rattle.model.specs.Update.Trees.{nil, cons}
use Rattle.unroller.specs.Run.{readable, readables}
use Rattle.unroller.specs.Allowed.{read_all}
use Rattle.comparer.specs.Meaning.{Meaning, Content, value_of, values_of, updated, after}

pub or_split : (a b : Bool) → (a || b) ≡ false → (a ≡ false) × (b ≡ false)
or_split true b e = absurd (true≢false e)
or_split false b e = (refl, e)

pub written_snoc : (us : List Update) (u : Update) (a c : ℕ) → written (us ++ (u ∷ [])) a c ≡ written us a c || writes u a c
written_snoc [] u a c = or-false (writes u a c)
written_snoc (v ∷ us) u a c = ap (λ (b : Bool). writes v a c || b) (written_snoc us u a c) ∙ sym (or_assoc (writes v a c) (written us a c) (writes u a c))

-- a cell that no update writes keeps what it held
pub unwritten_after : {S : Type 0} (m : Meaning S) (us : List Update) (h : Content S) (a c : ℕ) → written us a c ≡ false → after m us h a c ≡ h a c
unwritten_after m [] h a c e = refl
unwritten_after m (u ∷ us) h a c e = let p = or_split (writes u a c) (written us a c) e in unwritten_after m us (updated m h u) a c p.1 ∙ rw p.0

module _ {S : Type 0} (m : Meaning S) (xs : List Array) where
  -- the two contents agree on all that may be read after `done`
  abbrev pub Alike : List Update → Content S → Content S → Type 0
  Alike done h k = (a c : ℕ) → (starts (array_at xs a) || written done a c) ≡ true → h a c ≡ k a c

  module _ (done : List Update) (h k : Content S) (alike : Alike done h k) where
    mutual
      unfolding readable readables value_of values_of

      pub readable-value : (x : Tree) → readable x xs done ≡ true → value_of m x h ≡ value_of m x k
      readable-value (cell a c) e = alike a c e
      readable-value (number z) e = refl
      readable-value (constant n) e = refl
      readable-value (operator o ts) e = ap (m.operate o) (readable-values ts e)

      pub readable-values : (ts : Trees) → readables ts xs done ≡ true → values_of m ts h ≡ values_of m ts k
      readable-values nil e = refl
      readable-values (cons x zs) e =
          let p = (and-eq-true_iff (readable x xs done) (readables zs xs done)).0 e in
          ap₂ {C = List S} ◌∷◌ (readable-value x p.0) (readable-values zs p.1)

    updated-alike : (u : Update) → readable u.source xs done ≡ true → (a c : ℕ) → (writes u a c ≡ false → h a c ≡ k a c) → updated m h u a c ≡ updated m k u a c
    updated-alike u e a c f = go (writes u a c) f
      where
        go : (b : Bool) → (b ≡ false → h a c ≡ k a c) → cond b (value_of m u.source h) (h a c) ≡ cond b (value_of m u.source k) (k a c)
        go true g = readable-value u.source e
        go false g = g refl

    alike_next : (u : Update) → readable u.source xs done ≡ true → Alike (done ++ (u ∷ [])) (updated m h u) (updated m k u)
    alike_next u e a c q = updated-alike u e a c (λ n. alike a c (sym (ap (λ (b : Bool). starts (array_at xs a) || b) (written_snoc done u a c ∙ ap (λ (b : Bool). written done a c || b) n ∙ or-false (written done a c))) ∙ q))

  pub after-alike : (us done : List Update) (h k : Content S) → Alike done h k → read_all xs done us ≡ true → (a c : ℕ) → (written us a c ≡ false → h a c ≡ k a c) → after m us h a c ≡ after m us k a c
  after-alike [] done h k alike e a c p = p refl
  after-alike (u ∷ us) done h k alike e a c p =
      let q = (and-eq-true_iff (readable u.source xs done) (read_all xs (done ++ (u ∷ [])) us)).0 e in
      after-alike us (done ++ (u ∷ [])) (updated m h u) (updated m k u) (alike_next done h k alike u q.0) q.1 a c
      (λ f. updated-alike done h k alike u q.0 a c (λ n. p (ap₂ ◌||◌ n f)))
