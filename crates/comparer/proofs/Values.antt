-- The meaning of a value is the meaning of its expression, and so of what a list leaves.
use Prim.Native.Nat.{ℕ}
use mathlib.Core.Path.{◌≡◌, refl, ap, ap₂, ◌∙◌, fun_ext}
use mathlib.Core.List.{List, [], ◌∷◌}
use mathlib.Core.Bool.{Bool, true, false, cond}
use Rattle.model.specs.Update.{Tree, Trees, Update, writes}
use Rattle.model.specs.Update.Tree.{cell, number, constant, operator}
use Rattle.model.specs.Update.Trees.{nil, cons}
use Rattle.comparer.specs.Meaning.{Meaning, Content, value_of, values_of, updated, after, trees_of, free}

module _ {S : Type 0} (m : Meaning S) (h : Content S) where
  -- what the cells of σ, themselves values, come to
  abbrev pub meant : Content Tree → Content S
  meant σ a c = value_of m (σ a c) h

  mutual
    unfolding value_of values_of

    pub meaning_of_value : (t : Tree) (σ : Content Tree) → value_of m (value_of free t σ) h ≡ value_of m t (meant σ)
    meaning_of_value (cell a c) σ = refl
    meaning_of_value (number z) σ = refl
    meaning_of_value (constant n) σ = refl
    meaning_of_value (operator o ts) σ = ap (m.operate o) (meaning_of_values ts σ)

    pub meaning_of_values : (ts : Trees) (σ : Content Tree) → values_of m (trees_of (values_of free ts σ)) h ≡ values_of m ts (meant σ)
    meaning_of_values nil σ = refl
    meaning_of_values (cons t ts) σ = ap₂ {C = List S} ◌∷◌ (meaning_of_value t σ) (meaning_of_values ts σ)

  meant-cond : (b : Bool) (t u : Tree) → cond b (value_of m t h) (value_of m u h) ≡ value_of m (cond b t u) h
  meant-cond true t u = refl
  meant-cond false t u = refl

  meant-updated : (σ : Content Tree) (u : Update) → updated m (meant σ) u ≡ meant (updated free σ u)
  meant-updated σ u = fun_ext (λ a. fun_ext (λ c. rw (← meaning_of_value u.source σ) (meant-cond (writes u a c) (value_of free u.source σ) (σ a c))))

  pub meant-after : (us : List Update) (σ : Content Tree) → after m us (meant σ) ≡ meant (after free us σ)
  meant-after [] σ = refl
  meant-after (u ∷ us) σ = ap (after m us) (meant-updated σ u) ∙ meant-after us (updated free σ u)

  -- the substitution law: what a list leaves is the meaning of the value that it leaves
  pub after_law : (us : List Update) (a c : ℕ) → after m us h a c ≡ value_of m (after free us cell a c) h
  unfolding value_of values_of
  after_law us a c = ap (λ (k : Content S). k a c) (meant-after us cell)
