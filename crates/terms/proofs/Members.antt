-- Membership decided; a list without repeats as a test and as a fact.
use Rattle.std.proofs.Common.{◌≡◌, ℕ, suc, ◌<◌, Bool, true, false, ◌⊎◌, List, [], ◌∷◌, ◌++◌, length, sym, refl, ap, ◌∙◌, inl, inr, true≢false, append_assoc, arith}
use Rattle.model.specs.Update.{Tree}
use Rattle.terms.specs.Term.{alike, among, parts, parts_of_all}
use Rattle.terms.specs.Stored.{In, tree, Once}
use Rattle.terms.proofs.Count.{nodup}
use Rattle.terms.proofs.Sets.{place}

-- not true is false
pub untrue : (b : Bool) → (b ≡ true → ⊥) → b ≡ false
untrue true n = absurd (n refl)
untrue false n = refl

module _ (swaps : ℕ → Bool) where
  pub same_members : (xs ys : List Tree) → ((x : Tree) → In swaps x xs → In swaps x ys) → ((x : Tree) → In swaps x ys → In swaps x xs) → (x : Tree) → among swaps x xs ≡ among swaps x ys
  same_members xs ys f g x = go (among swaps x ys) refl
    where
      go : (b : Bool) → among swaps x ys ≡ b → among swaps x xs ≡ among swaps x ys
      go true e = g x e ∙ sym e
      go false e = untrue (among swaps x xs) (λ h. true≢false (sym (f x h) ∙ e)) ∙ sym e

  -- where a tree is, if it is there
  pub in_or_not : (t : Tree) (ts : List Tree) → ((i : ℕ) × (i < length ts) × (alike swaps t (tree ts i) ≡ true)) ⊎ (In swaps t ts → ⊥)
  in_or_not t ts = go (among swaps t ts) refl
    where
      go : (b : Bool) → among swaps t ts ≡ b → ((i : ℕ) × (i < length ts) × (alike swaps t (tree ts i) ≡ true)) ⊎ (In swaps t ts → ⊥)
      go true e = inl (place swaps t ts e)
      go false e = inr (λ h. true≢false (sym h ∙ e))

  once-tail : (t : Tree) (r : List Tree) → Once swaps (t ∷ r) → Once swaps r
  once-tail t r o i j l m e = let p : suc i ≡ suc j = o (suc i) (suc j) (omega arith) (omega arith) e in omega arith

  once-head : (t : Tree) (r : List Tree) → Once swaps (t ∷ r) → In swaps t r → ⊥
  once-head t r o h =
      let p = place swaps t r h in
      let q : 0 ≡ suc p.0 = o 0 (suc p.0) (omega arith) (omega (arith, p.1)) p.2 in
      omega arith

  pub once-nodup : (ts : List Tree) → Once swaps ts → nodup swaps ts ≡ true
  once-nodup [] o = refl
  once-nodup (t ∷ ts) o = rw (untrue (among swaps t ts) (once-head t ts o)) (once-nodup ts (once-tail t ts o))

pub parts_append : (xs ys : List Tree) → parts_of_all (xs ++ ys) ≡ parts_of_all xs ++ parts_of_all ys
parts_append [] ys = refl
parts_append (x ∷ xs) ys = ap (λ (l : List Tree). parts x ++ l) (parts_append xs ys) ∙ sym (append_assoc (parts x) (parts_of_all xs) (parts_of_all ys))
