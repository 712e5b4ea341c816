-- How many different trees a list has depends only on which trees, up to swaps, occur in it.
use Rattle.std.proofs.Common.{◌≡◌, ℕ, suc, ◌≤◌, Bool, true, false, cond, not, ◌&&◌, ◌||◌, List, [], ◌∷◌, ◌++◌, length, sym, refl, ap, ◌∙◌, ap₂, true≢false, arith}
use mathlib.Core.Bool.{false≢true, and-eq-true_iff, or_assoc, or-true}
use borrow.Author.Tests.{not-true}
use Rattle.model.specs.Update.{Tree}
use Rattle.terms.specs.Term.{alike, among, distinct}
use Rattle.terms.proofs.Alike.{alike_refl, alike_sym, alike_trans, alike_class}

module _ (swaps : ℕ → Bool) where
  pub among_append : (t : Tree) (xs ys : List Tree) → among swaps t (xs ++ ys) ≡ among swaps t xs || among swaps t ys
  among_append t [] ys = refl
  among_append t (x ∷ xs) ys = ap (λ (b : Bool). alike swaps t x || b) (among_append t xs ys) ∙ sym (or_assoc (alike swaps t x) (among swaps t xs) (among swaps t ys))

  -- terms that are alike occur in the same lists
  pub among_class : (t u : Tree) (xs : List Tree) → alike swaps t u ≡ true → among swaps t xs ≡ among swaps u xs
  among_class t u [] e = refl
  among_class t u (x ∷ xs) e = ap₂ ◌||◌ (alike_class swaps t u x e) (among_class t u xs e)

  among-distinct : (t : Tree) (xs : List Tree) → among swaps t (distinct swaps xs) ≡ among swaps t xs
  among-distinct t [] = refl
  among-distinct t (x ∷ xs) = go (among swaps x (distinct swaps xs)) refl (alike swaps t x) refl (among-distinct t xs)
    where
      r : List Tree
      r = distinct swaps xs

      go : (b : Bool) → among swaps x r ≡ b → (c : Bool) → alike swaps t x ≡ c → among swaps t r ≡ among swaps t xs → among swaps t (cond (among swaps x r) r (x ∷ r)) ≡ alike swaps t x || among swaps t xs
      go false e c f ih = rw e (ap (λ (b : Bool). alike swaps t x || b) ih)
      go true e true f ih = rw (e, f) (among_class t x r f ∙ e)
      go true e false f ih = rw (e, f) ih

  abbrev pub nodup : List Tree → Bool
  nodup [] = true
  nodup (x ∷ xs) = not (among swaps x xs) && nodup xs

  nodup-distinct : (xs : List Tree) → nodup (distinct swaps xs) ≡ true
  nodup-distinct [] = refl
  nodup-distinct (x ∷ xs) = go (among swaps x (distinct swaps xs)) refl (nodup-distinct xs)
    where
      r : List Tree
      r = distinct swaps xs

      go : (b : Bool) → among swaps x r ≡ b → nodup r ≡ true → nodup (cond (among swaps x r) r (x ∷ r)) ≡ true
      go true e ih = rw e ih
      go false e ih = rw e (rw e ih)

  -- the list without the first that is alike to x
  abbrev less : Tree → List Tree → List Tree
  less x [] = []
  less x (y ∷ ys) = cond (alike swaps x y) ys (y ∷ less x ys)

  less_length : (x : Tree) (ys : List Tree) → among swaps x ys ≡ true → length ys ≡ suc (length (less x ys))
  less_length x [] e = absurd (false≢true e)
  less_length x (y ∷ ys) e = go (alike swaps x y) refl (λ f. less_length x ys f)
    where
      go : (b : Bool) → alike swaps x y ≡ b → (among swaps x ys ≡ true → length ys ≡ suc (length (less x ys))) → suc (length ys) ≡ suc (length (cond (alike swaps x y) ys (y ∷ less x ys)))
      go true f ih = rw f
      go false f ih = rw f (ap suc (ih (rw f at e)))

  less_among : (x t : Tree) (ys : List Tree) → (alike swaps t x ≡ true → ⊥) → among swaps t ys ≡ true → among swaps t (less x ys) ≡ true
  less_among x t [] n e = e
  less_among x t (y ∷ ys) n e = go (alike swaps x y) refl (alike swaps t y) refl (λ f. less_among x t ys n f)
    where
      go : (b : Bool) → alike swaps x y ≡ b → (c : Bool) → alike swaps t y ≡ c → (among swaps t ys ≡ true → among swaps t (less x ys) ≡ true) → among swaps t (cond (alike swaps x y) ys (y ∷ less x ys)) ≡ true
      go true f true g ih = absurd (n (alike_trans swaps t y x g (alike_sym swaps x y f)))
      go true f false g ih = rw f (rw g at e)
      go false f true g ih = rw (f, g)
      go false f false g ih = rw (f, g) (ih (rw g at e))

  subset_length : (xs ys : List Tree) → nodup xs ≡ true → ((t : Tree) → among swaps t xs ≡ true → among swaps t ys ≡ true) → length xs ≤ length ys
  subset_length [] ys e f = omega arith
  subset_length (x ∷ xs) ys e f =
      let p = (and-eq-true_iff (not (among swaps x xs)) (nodup xs)).0 e in
      let q : among swaps x xs ≡ false = not-true (among swaps x xs) p.0 in
      let n : length ys ≡ suc (length (less x ys)) = less_length x ys (f x (rw (alike_refl swaps x))) in
      let ih : length xs ≤ length (less x ys) = subset_length xs (less x ys) p.1 (λ t g. less_among x t ys (λ z. true≢false (sym g ∙ among_class t x xs z ∙ q)) (f t (rw g (or-true (alike swaps t x))))) in
      omega arith

  pub same_count : (xs ys : List Tree) → ((t : Tree) → among swaps t xs ≡ among swaps t ys) → length (distinct swaps xs) ≡ length (distinct swaps ys)
  same_count xs ys f =
      let p : length (distinct swaps xs) ≤ length (distinct swaps ys) = subset_length (distinct swaps xs) (distinct swaps ys) (nodup-distinct xs) (λ t e. among-distinct t ys ∙ sym (f t) ∙ sym (among-distinct t xs) ∙ e) in
      let q : length (distinct swaps ys) ≤ length (distinct swaps xs) = subset_length (distinct swaps ys) (distinct swaps xs) (nodup-distinct ys) (λ t e. among-distinct t xs ∙ f t ∙ sym (among-distinct t ys) ∙ e) in
      omega arith

  -- for a store: it holds as many terms as there are different ones, if it holds each once, those and no others
  pub count_of : (xs ys : List Tree) → nodup xs ≡ true → ((t : Tree) → among swaps t xs ≡ among swaps t ys) → length xs ≡ length (distinct swaps ys)
  count_of xs ys e f =
      let p : length xs ≤ length (distinct swaps ys) = subset_length xs (distinct swaps ys) e (λ t g. among-distinct t ys ∙ sym (f t) ∙ g) in
      let q : length (distinct swaps ys) ≤ length xs = subset_length (distinct swaps ys) xs (nodup-distinct ys) (λ t g. f t ∙ sym (among-distinct t ys) ∙ g) in
      omega arith

  -- and if it is to hold more than there is room for, so would the whole
  pub count_over : (xs ys : List Tree) → nodup xs ≡ true → ((t : Tree) → among swaps t xs ≡ true → among swaps t ys ≡ true) → length xs ≤ length (distinct swaps ys)
  count_over xs ys e f = subset_length xs (distinct swaps ys) e (λ t g. among-distinct t ys ∙ f t g)
