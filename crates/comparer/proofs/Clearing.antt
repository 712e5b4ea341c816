-- Clearing a list that was unrolled: up to the first record that begins with 0.
use mathlib.Core.Path.{◌≡◌, refl, sym, ap, ap₂, ◌∙◌, subst}
use Prim.Native.Nat.{ℕ, zero, suc, ◌+◌, ◌-◌, ◌*◌, ◌≤◌, ◌<◌}
use native.Mathlib.Omega.{arith}
use mathlib.Core.List.{List, [], ◌∷◌, ◌++◌, append_assoc}
use mathlib.Core.Bool.{true}
use lib.ListN.{length, get_or, take, drop, replicate, length-append, length-drop, length-replicate, get_or-eq_default}
use lib.Seq.{get_or-append-add, length-take-le}
use borrow.Rule.Slice.PartMut.{put_mid}
use Rattle.model.specs.Memory.{cleared}
use Rattle.model.specs.Update.{Tree, Trees, Update, Listed}
use Rattle.model.specs.Update.Tree.{cell, number, constant, operator}
use Rattle.model.specs.Update.Trees.{nil, cons}
use Rattle.unroller.specs.Allowed.{allowed}
use Rattle.unroller.specs.Layout.{table_words, tree_words, trees_words, updates_words, words, layout}
use Rattle.unroller.proofs.Parts.{list-parts}
use Rattle.unroller.proofs.Laws.{table_length, words_fit, layout-length}
use Rattle.unroller.proofs.Stands.{zero-behind}
use Rattle.comparer.specs.Laying.{Ended, emptied, Empties}

-- ---- words emptied from the front
emptied-length : (n : ℕ) (l : List ℕ) → n ≤ length l → length (emptied n l) ≡ length l
emptied-length zero l h = refl
emptied-length (suc n) [] h = absurd (omega arith)
emptied-length (suc n) (x ∷ l) h = ap suc (emptied-length n l (omega arith))

emptied_at : (n : ℕ) (l : List ℕ) (j : ℕ) → n ≤ length l → n ≤ j → get_or (emptied n l) j 0 ≡ get_or l j 0
emptied_at zero l j h k = refl
emptied_at (suc n) [] j h k = absurd (omega arith)
emptied_at (suc n) (x ∷ l) zero h k = absurd (omega arith)
emptied_at (suc n) (x ∷ l) (suc j) h k = emptied_at n l j (omega arith) (omega arith)

pub emptied_to : (words l : List ℕ) (i j : ℕ) → l ≡ emptied j words → i ≡ j → l ≡ emptied i words
emptied_to words l i j e f = rw f e

pub emptied_again : (n : ℕ) (l : List ℕ) → n ≤ length l → emptied n l ≡ emptied n (emptied n l)
emptied_again zero l h = refl
emptied_again (suc n) [] h = absurd (omega arith)
emptied_again (suc n) (x ∷ l) h = ap (λ (r : List ℕ). 0 ∷ r) (emptied_again n l (omega arith))

all_zero_lem : (l : List ℕ) → ((j : ℕ) → get_or l j 0 ≡ 0) → l ≡ cleared l
all_zero_lem [] h = refl
all_zero_lem (x ∷ l) h = ap₂ (λ (x : ℕ) (r : List ℕ). x ∷ r) (h 0) (all_zero_lem l (λ j. h (suc j)))

emptied_all : (n : ℕ) (l : List ℕ) → n ≤ length l → ((j : ℕ) → n ≤ j → get_or l j 0 ≡ 0) → emptied n l ≡ cleared l
emptied_all zero l h z = all_zero_lem l (λ j. z j (omega arith))
emptied_all (suc n) [] h z = absurd (omega arith)
emptied_all (suc n) (x ∷ l) h z = ap (λ (r : List ℕ). 0 ∷ r) (emptied_all n l (omega arith) (λ j k. z (suc j) (omega arith)))

-- n words are filled with 0, behind those that are emptied
put-emptied : (from n : ℕ) (l : List ℕ) → from ≤ length l → put_mid from n (emptied from l) (replicate n 0) ≡ emptied (from + n) l
put-emptied zero n l h = let z : n ≡ 0 + n = omega arith in ap (λ (k : ℕ). emptied k l) z
put-emptied (suc from) n [] h = absurd (omega arith)
put-emptied (suc from) n (x ∷ l) h = let z : suc (from + n) ≡ suc from + n = omega arith in ap (λ (r : List ℕ). 0 ∷ r) (put-emptied from n l (omega arith)) ∙ ap (λ (k : ℕ). emptied k (x ∷ l)) z

pub empties_filled : (from n k : ℕ) (l filled : List ℕ) → from + n ≤ length l → k ≡ n → filled ≡ replicate (length (take k (drop from l))) 0 → Empties from n l (put_mid from k l filled)
empties_filled from n k l filled h e f words w b =
    let z : length (take k (drop from l)) ≡ n = length-take-le k (drop from l) (omega (arith, length-drop from l)) ∙ e in
    rw (f, z, e, b) (put-emptied from n words w)

-- where the loop ends: l the list, l₁ with its header cleared, l₂ with the words below `at` cleared
module _ (l l₁ l₂ : List ℕ) (at : ℕ) (ends : Ended l) (h : l₁ ≡ emptied 98 l) (e : l₂ ≡ emptied at l₁) (low : 98 ≤ at) (high : at ≤ 30818) where
  long₁ : length l₁ ≡ length l
  long₁ = let k = ends.long in ap length h ∙ emptied-length 98 l (omega arith)

  same₁ : (j : ℕ) → 98 ≤ j → get_or l₁ j 0 ≡ get_or l j 0
  same₁ j k = let m = ends.long in ap (λ (r : List ℕ). get_or r j 0) h ∙ emptied_at 98 l j (omega arith) k

  rest_cleared : ((j : ℕ) → at ≤ j → get_or l j 0 ≡ 0) → l₂ ≡ cleared l
  rest_cleared z =
      let k = ends.long in
      let m = long₁ in
      e ∙ emptied_all at l₁ (omega arith) (λ j q. same₁ j (omega arith) ∙ z j q) ∙ ap (λ (n : ℕ). replicate n 0) m

  pub ended_all : 30818 ≤ at → l₂ ≡ cleared l
  ended_all k = rest_cleared (λ j q. ends.beyond j (omega arith))

  pub ended_here : (i : ℕ) → at ≡ 98 + 3 * i → get_or l₂ at 0 ≡ 0 → l₂ ≡ cleared l
  ended_here i p z =
      let k = ends.long in
      let m = long₁ in
      let g : get_or l at 0 ≡ 0 = sym (ap (λ (r : List ℕ). get_or r at 0) e ∙ emptied_at at l₁ at (omega arith) (omega arith) ∙ same₁ at low) ∙ z in
      rest_cleared (λ j q. ends.behind i j (subst (λ (n : ℕ). get_or l n 0 ≡ 0) p g) (omega arith))

-- ---- what the unroller leaves
-- records of three words, none of which begins with 0
abbrev Heads : List ℕ → Type 0
Heads [] = Unit {0}
Heads (x ∷ []) = ⊥
Heads (x ∷ y ∷ []) = ⊥
Heads (x ∷ y ∷ z ∷ l) = (0 < x) × Heads l

heads_append : (l r : List ℕ) → Heads l → Heads r → Heads (l ++ r)
heads_append [] r a b = b
heads_append (x ∷ []) r a b = absurd a
heads_append (x ∷ y ∷ []) r a b = absurd a
heads_append (x ∷ y ∷ z ∷ l) r a b = (a.0, heads_append l r a.1 b)

heads_at : (l r : List ℕ) (i : ℕ) → Heads l → get_or (l ++ r) (3 * i) 0 ≡ 0 → length l ≤ 3 * i
heads_at [] r i a e = omega arith
heads_at (x ∷ []) r i a e = absurd a
heads_at (x ∷ y ∷ []) r i a e = absurd a
heads_at (x ∷ y ∷ z ∷ l) r zero a e = absurd (let h = a.0 in omega arith)
heads_at (x ∷ y ∷ z ∷ l) r (suc i) a e =
    let p : 3 * suc i ≡ suc (suc (suc (3 * i))) = omega arith in
    let q = heads_at l r i a.1 (rw p at e) in
    omega arith

mutual
  unfolding tree_words trees_words

  tree_heads : (t : Tree) → Heads (tree_words t)
  tree_heads (cell a c) = (omega arith, tt)
  tree_heads (number z) = (omega arith, tt)
  tree_heads (constant n) = (omega arith, tt)
  tree_heads (operator o ts) = (omega arith, trees_heads ts)

  trees_heads : (ts : Trees) → Heads (trees_words ts)
  trees_heads nil = tt
  trees_heads (cons t ts) = heads_append (tree_words t) (trees_words ts) (tree_heads t) (trees_heads ts)

updates_heads : (us : List Update) → Heads (updates_words us)
updates_heads [] = tt
updates_heads (u ∷ us) = (omega arith, heads_append (tree_words u.source) (updates_words us) (tree_heads u.source) (updates_heads us))

zeros-behind : (l : List ℕ) (n j : ℕ) → length l ≤ j → get_or (l ++ replicate n 0) j 0 ≡ 0
zeros-behind l n j h = zero-behind l n j ∙ get_or-eq_default l 0 h

pub ended-layout : (l : Listed) (n : ℕ) → 30818 ≤ n → allowed l ≡ true → Ended (layout l n)
unfolding layout words
ended-layout l n h a =
    let t : List ℕ = table_words l.tables in
    let u : List ℕ = updates_words l.updates in
    let z : List ℕ = replicate (n - length (t ++ u)) 0 in
    let fit = words_fit l a in
    let long = length-append t u in
    let m = table_length l.tables (list-parts l a).tables-allowed in
    record {
      long = let k = layout-length l n a h in omega arith;
      behind = λ i j e k.
          let f : get_or (u ++ z) (3 * i) 0 ≡ 0 = sym (ap₂ (λ (r : List ℕ) (q : ℕ). get_or r (q + 3 * i) 0) (append_assoc t u z) (sym m) ∙ get_or-append-add t (u ++ z) (3 * i) 0) ∙ e in
          let g = heads_at u z i (updates_heads l.updates) f in
          zeros-behind (t ++ u) (n - length (t ++ u)) j (omega arith);
      beyond = λ j k. zeros-behind (t ++ u) (n - length (t ++ u)) j (omega arith);
    }

pub ended-zeros : (n : ℕ) → 30818 ≤ n → Ended (replicate n 0)
ended-zeros n h = record {
  long = let k = length-replicate {A = ℕ} n 0 in omega arith;
  behind = λ i j e k. zero-behind [] n j;
  beyond = λ j k. zero-behind [] n j;
}
