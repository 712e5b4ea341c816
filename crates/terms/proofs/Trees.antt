-- Nodes and trees: a node over stored trees is one tree up to swaps, and trees that are alike are one node.
use Rattle.std.proofs.Common.{◌≡◌, ℕ, zero, suc, ◌-◌, ◌<◌, ◌≤◌, Bool, true, eqb, List, [], ◌∷◌, ◌++◌, length, get_or, take, drop, ℤ, sym, refl, ap, ◌∙◌, subst, inl, ⊎_elim, eq-or-lt_of_le, arith, length-append, take-append-drop, to_z-of_z, w32, to_z, of_z, eqb-true}
use mathlib.Core.Bool.{false≢true, and-eq-true_iff}
use lib.ListN.{get_or-append}
use Rattle.model.specs.Update.{Tree, Trees}
use Rattle.model.specs.Update.Tree.{cell, number, constant, operator}
use Rattle.model.specs.Update.Trees.{nil, cons}
use Rattle.terms.specs.declared.Node.{Node}
use Rattle.terms.specs.Term.{turned, alike, alikes}
use Rattle.terms.specs.Store.{args_of}
use Rattle.terms.specs.Holds.{term}
use Rattle.terms.specs.Stored.{tree, Ref, Args, Means, Once, Known}
use Rattle.terms.proofs.Alike.{same_z_sound, alike_refl, alike_sym, alike_trans, alike_same, operators-alike, alike-operators}

module _ (swaps : ℕ → Bool) where
  -- ---- ids stay as the list grows
  pub ref_grow : (ts us : List Tree) (r : ℕ) (t : Tree) → Ref swaps ts r t → Ref swaps (ts ++ us) r t
  ref_grow ts us r t h = record {
    some = h.some;
    within = omega (arith, h.within, length-append ts us);
    is = ap (alike swaps t) (get_or-append ts us (constant 0) (r - 1) (omega (arith, h.some, h.within))) ∙ h.is;
  }

  args_grow : (ts us : List Tree) (ids : List ℕ) (k : ℕ) (vs : Trees) → Args swaps ts ids k vs → Args swaps (ts ++ us) ids k vs
  unfolding Args
  args_grow ts us ids k nil h = h
  args_grow ts us ids k (cons v vs) h = (ref_grow ts us (get_or ids k 0) v h.0, args_grow ts us ids (suc k) vs h.1)

  means_grow : (ts us : List Tree) (n : Node) (t : Tree) → Means swaps ts n t → Means swaps (ts ++ us) n t
  unfolding Means
  means_grow ts us n (cell a c) h = h
  means_grow ts us n (number z) h = h
  means_grow ts us n (constant m) h = h
  means_grow ts us n (operator o vs) h = (h.0, h.1, h.2, record { order = h.3.order; like = h.3.like; args = args_grow ts us (args_of n) 0 h.3.order h.3.args })

  -- over all that is stored, where it was over the earlier ones
  pub means_all : (ns : List Node) (ts : List Tree) → Known swaps ns ts → (i : ℕ) → i < length ts → Means swaps ts (term ns i) (tree ts i)
  means_all ns ts K i l =
      subst (λ (us : List Tree). Means swaps us (term ns i) (tree ts i)) (take-append-drop i ts)
      (means_grow (take i ts) (drop i ts) (term ns i) (tree ts i) (K.means i l))

  -- ---- trees that are alike
  ref_alike : (ts : List Tree) (r : ℕ) (t u : Tree) → alike swaps u t ≡ true → Ref swaps ts r t → Ref swaps ts r u
  ref_alike ts r t u e h = record { some = h.some; within = h.within; is = alike_trans swaps u t (tree ts (r - 1)) e h.is }

  args-alike : (ts : List Tree) (ids : List ℕ) (k : ℕ) (us vs : Trees) → alikes swaps vs us ≡ true → Args swaps ts ids k us → Args swaps ts ids k vs
  unfolding Args alikes
  args-alike ts ids k nil nil e h = h
  args-alike ts ids k nil (cons v vs) e h = absurd (false≢true e)
  args-alike ts ids k (cons u us) nil e h = absurd (false≢true e)
  args-alike ts ids k (cons u us) (cons v vs) e h =
      let p = (and-eq-true_iff (alike swaps v u) (alikes swaps vs us)).0 e in
      (ref_alike ts (get_or ids k 0) u v p.0 h.0, args-alike ts ids (suc k) us vs p.1 h.1)

  -- a node is every tree that is alike to one that it is
  pub means-alike : (ts : List Tree) (n : Node) (t u : Tree) → alike swaps u t ≡ true → Means swaps ts n t → Means swaps ts n u
  unfolding Means alike
  means-alike ts n (cell a c) (cell b d) e h =
      let p = (and-eq-true_iff (eqb b a) (eqb d c)).0 e in
      let x = eqb-true b a p.0 in
      let y = eqb-true d c p.1 in
      rw (x, y) h
  means-alike ts n (cell a c) (number y) e h = absurd (false≢true e)
  means-alike ts n (cell a c) (constant k) e h = absurd (false≢true e)
  means-alike ts n (cell a c) (operator p us) e h = absurd (false≢true e)
  means-alike ts n (number z) (cell b d) e h = absurd (false≢true e)
  means-alike ts n (number z) (number y) e h = let x = same_z_sound y z e in rw x h
  means-alike ts n (number z) (constant k) e h = absurd (false≢true e)
  means-alike ts n (number z) (operator p us) e h = absurd (false≢true e)
  means-alike ts n (constant m) (cell b d) e h = absurd (false≢true e)
  means-alike ts n (constant m) (number y) e h = absurd (false≢true e)
  means-alike ts n (constant m) (constant k) e h = let x = eqb-true k m e in rw x h
  means-alike ts n (constant m) (operator p us) e h = absurd (false≢true e)
  means-alike ts n (operator o us) (cell b d) e h = absurd (false≢true e)
  means-alike ts n (operator o us) (number y) e h = absurd (false≢true e)
  means-alike ts n (operator o us) (constant k) e h = absurd (false≢true e)
  means-alike ts n (operator o us) (operator p vs) e h =
      let w : p ≡ o = (operators-alike swaps p o vs us e).one in (
        h.0,
        h.1 ∙ sym w,
        (λ q. h.2 (sym (ap swaps w) ∙ q)),
        record {
          order = h.3.order;
          like = subst (λ (i : ℕ). alike swaps (operator p vs) (operator i h.3.order) ≡ true) (sym w) (alike_trans swaps (operator p vs) (operator o us) (operator o h.3.order) e h.3.like);
          args = h.3.args;
        },
      )

  -- ---- one node, one tree
  pub ref_same : (ts : List Tree) (r : ℕ) (t u : Tree) → Ref swaps ts r t → Ref swaps ts r u → alike swaps t u ≡ true
  ref_same ts r t u g h = alike_trans swaps t (tree ts (r - 1)) u g.is (alike_sym swaps u (tree ts (r - 1)) h.is)

  pub args_same : (ts : List Tree) (ids : List ℕ) (k : ℕ) (us vs : Trees) → Args swaps ts ids k us → Args swaps ts ids k vs → alikes swaps us vs ≡ true
  unfolding Args alikes
  args_same ts ids k nil nil g h = refl
  args_same ts ids k nil (cons v vs) g h = absurd (omega (arith, g k (omega arith), h.0.some))
  args_same ts ids k (cons u us) nil g h = absurd (omega (arith, h k (omega arith), g.0.some))
  args_same ts ids k (cons u us) (cons v vs) g h =
      (and-eq-true_iff (alike swaps u v) (alikes swaps us vs)).1 (ref_same ts (get_or ids k 0) u v g.0 h.0, args_same ts ids (suc k) us vs g.1 h.1)

  -- the kind of a node that is t
  kind_of : Tree → ℕ
  kind_of (cell a c) = 16
  kind_of (number z) = 18
  kind_of (constant m) = 19
  kind_of (operator o us) = 17

  means_kind : (ts : List Tree) (n : Node) (t : Tree) → Means swaps ts n t → n.kind ≡ kind_of t
  unfolding Means kind_of
  means_kind ts n (cell a c) h = ap (λ (x : Node). x.kind) h
  means_kind ts n (number z) h = ap (λ (x : Node). x.kind) h.1
  means_kind ts n (constant m) h = ap (λ (x : Node). x.kind) h
  means_kind ts n (operator o us) h = h.0

  number_same : (ts : List Tree) (n : Node) (z y : ℤ) → Means swaps ts n (number z) → Means swaps ts n (number y) → number z ≡ number y
  unfolding Means
  number_same ts n z y g h =
      let e : of_z w32 z ≡ of_z w32 y = ap (λ (x : Node). x.payload) (sym g.1 ∙ h.1) in
      ap number (sym (to_z-of_z g.0) ∙ ap (to_z w32) e ∙ to_z-of_z h.0)

  cell_same : (ts : List Tree) (n : Node) (a c b d : ℕ) → Means swaps ts n (cell a c) → Means swaps ts n (cell b d) → cell a c ≡ cell b d
  unfolding Means
  cell_same ts n a c b d g h =
      let e : a ≡ b = ap (λ (x : Node). x.payload) (sym g ∙ h) in
      let f : c ≡ d = ap (λ (x : Node). x.a0) (sym g ∙ h) in
      cc

  operator_same : (ts : List Tree) (n : Node) (o p : ℕ) (us vs : Trees) → Means swaps ts n (operator o us) → Means swaps ts n (operator p vs) → alike swaps (operator o us) (operator p vs) ≡ true
  unfolding Means
  operator_same ts n o p us vs g h =
      let e : o ≡ p = sym g.1 ∙ h.1 in
      let x = g.3.order in
      let y = h.3.order in
      alike_trans swaps (operator o us) (operator o x) (operator p vs) g.3.like
      (subst (λ (i : ℕ). alike swaps (operator i x) (operator p vs) ≡ true) (sym e)
      (alike_trans swaps (operator p x) (operator p y) (operator p vs)
      (alike-operators swaps p x y (inl (args_same ts (args_of n) 0 x y g.3.args h.3.args)))
      (alike_sym swaps (operator p vs) (operator p y) h.3.like)))

  module _ (ts : List Tree) (n : Node) where
    kinds : (t u : Tree) → Means swaps ts n t → Means swaps ts n u → kind_of t ≡ kind_of u
    kinds t u g h = sym (means_kind ts n t g) ∙ means_kind ts n u h

    pub means_same : (t u : Tree) → Means swaps ts n t → Means swaps ts n u → alike swaps t u ≡ true
    unfolding kind_of
    means_same (cell a c) (cell b d) g h = alike_same swaps (cell a c) (cell b d) (cell_same ts n a c b d g h)
    means_same (cell a c) (number z) g h = absurd (omega (arith, kinds (cell a c) (number z) g h))
    means_same (cell a c) (constant m) g h = absurd (omega (arith, kinds (cell a c) (constant m) g h))
    means_same (cell a c) (operator o us) g h = absurd (omega (arith, kinds (cell a c) (operator o us) g h))
    means_same (number z) (cell a c) g h = absurd (omega (arith, kinds (number z) (cell a c) g h))
    means_same (number z) (number y) g h = alike_same swaps (number z) (number y) (number_same ts n z y g h)
    means_same (number z) (constant m) g h = absurd (omega (arith, kinds (number z) (constant m) g h))
    means_same (number z) (operator o us) g h = absurd (omega (arith, kinds (number z) (operator o us) g h))
    means_same (constant m) (cell a c) g h = absurd (omega (arith, kinds (constant m) (cell a c) g h))
    means_same (constant m) (number z) g h = absurd (omega (arith, kinds (constant m) (number z) g h))
    means_same (constant m) (constant l) g h = alike_same swaps (constant m) (constant l) (constant_same m l g h)
      where
        constant_same : (m l : ℕ) → Means swaps ts n (constant m) → Means swaps ts n (constant l) → constant m ≡ constant l
        constant_same m l g h = unfold Means in ap constant (ap (λ (x : Node). x.payload) (sym g ∙ h))
    means_same (constant m) (operator o us) g h = absurd (omega (arith, kinds (constant m) (operator o us) g h))
    means_same (operator o us) (cell a c) g h = absurd (omega (arith, kinds (operator o us) (cell a c) g h))
    means_same (operator o us) (number z) g h = absurd (omega (arith, kinds (operator o us) (number z) g h))
    means_same (operator o us) (constant m) g h = absurd (omega (arith, kinds (operator o us) (constant m) g h))
    means_same (operator o us) (operator p vs) g h = operator_same ts n o p us vs g h

  -- ---- trees that are alike, one node
  pub ref_one : (ts : List Tree) (r s : ℕ) (t u : Tree) → Once swaps ts → alike swaps t u ≡ true → Ref swaps ts r t → Ref swaps ts s u → r ≡ s
  ref_one ts r s t u o q g h =
      let x = tree ts (r - 1) in
      let y = tree ts (s - 1) in
      let e : r - 1 ≡ s - 1 = o (r - 1) (s - 1) (omega (arith, g.some, g.within)) (omega (arith, h.some, h.within))
      (alike_trans swaps x t y (alike_sym swaps t x g.is) (alike_trans swaps t u y q h.is)) in
      omega (arith, g.some, h.some)

  args_one : (ts : List Tree) (ids jds : List ℕ) (k : ℕ) (us vs : Trees) → Once swaps ts → alikes swaps us vs ≡ true → Args swaps ts ids k us → Args swaps ts jds k vs
      → (j : ℕ) → k ≤ j → get_or ids j 0 ≡ get_or jds j 0
  unfolding Args alikes
  args_one ts ids jds k nil nil o q g h j l = g j l ∙ sym (h j l)
  args_one ts ids jds k nil (cons v vs) o q g h j l = absurd (false≢true q)
  args_one ts ids jds k (cons u us) nil o q g h j l = absurd (false≢true q)
  args_one ts ids jds k (cons u us) (cons v vs) o q g h j l =
      let p = (and-eq-true_iff (alike swaps u v) (alikes swaps us vs)).0 q in
      ⊎_elim (λ (e : k ≡ j). subst (λ (i : ℕ). get_or ids i 0 ≡ get_or jds i 0) e (ref_one ts (get_or ids k 0) (get_or jds k 0) u v o p.0 g.0 h.0))
      (λ (m : k < j). args_one ts ids jds (suc k) us vs o p.1 g.1 h.1 j (omega arith))
      (eq-or-lt_of_le l)

  -- four words of arguments, alike
  abbrev SameWords : Node → Node → Type 0
  SameWords n m = (j : ℕ) → get_or (args_of n) j 0 ≡ get_or (args_of m) j 0

  abbrev pub flipped : Node → List ℕ
  flipped m = m.a1 ∷ m.a0 ∷ m.a2 ∷ m.a3 ∷ []

  -- two arguments, turned
  pub args-turned : (ts : List Tree) (m : Node) (x y : Tree) → Args swaps ts (args_of m) 0 (cons x (cons y nil)) → Args swaps ts (flipped m) 0 (cons y (cons x nil))
  unfolding Args
  args-turned ts m x y f = (f.1.0, (f.0, behind f.1.1))
    where
      behind : ((j : ℕ) → 2 ≤ j → get_or (args_of m) j 0 ≡ 0) → (j : ℕ) → 2 ≤ j → get_or (flipped m) j 0 ≡ 0
      behind f zero l = absurd (omega arith)
      behind f (suc zero) l = absurd (omega arith)
      behind f (suc (suc j)) l = f (suc (suc j)) l

  -- two nodes with the smaller id first, whose arguments are alike when one side's are turned, have the same arguments
  crossed_words : (ts : List Tree) (n m : Node) (us vs : Trees) → Once swaps ts → n.a0 ≤ n.a1 → m.a0 ≤ m.a1 → alikes swaps us (turned vs) ≡ true
      → Args swaps ts (args_of n) 0 us → Args swaps ts (args_of m) 0 vs → SameWords n m
  unfolding turned
  crossed_words ts n m us nil o a b q g h j = args_one ts (args_of n) (args_of m) 0 us nil o q g h j (omega arith)
  crossed_words ts n m us (cons x nil) o a b q g h j = args_one ts (args_of n) (args_of m) 0 us (cons x nil) o q g h j (omega arith)
  crossed_words ts n m us (cons x (cons y nil)) o a b q g h j = words j
    where
      each : (i : ℕ) → get_or (args_of n) i 0 ≡ get_or (flipped m) i 0
      each i = args_one ts (args_of n) (flipped m) 0 us (cons y (cons x nil)) o q g (args-turned ts m x y h) i (omega arith)

      words : SameWords n m
      words zero = (let e : n.a0 ≡ m.a1 = each 0 in let f : n.a1 ≡ m.a0 = each 1 in omega arith)
      words (suc zero) = (let e : n.a0 ≡ m.a1 = each 0 in let f : n.a1 ≡ m.a0 = each 1 in omega arith)
      words (suc (suc i)) = each (suc (suc i))
  crossed_words ts n m us (cons x (cons y (cons z vs))) o a b q g h j = args_one ts (args_of n) (args_of m) 0 us (cons x (cons y (cons z vs))) o q g h j (omega arith)

  same_node : (n m : Node) → n.kind ≡ m.kind → n.payload ≡ m.payload → SameWords n m → n ≡ m
  same_node n m p q e = λ k. record { kind = p k; payload = q k; a0 = e 0 k; a1 = e 1 k; a2 = e 2 k; a3 = e 3 k }

  operator_one : (ts : List Tree) (n m : Node) (o p : ℕ) (us vs : Trees) → Once swaps ts → alike swaps (operator o us) (operator p vs) ≡ true
      → Means swaps ts n (operator o us) → Means swaps ts m (operator p vs) → n ≡ m
  unfolding Means
  operator_one ts n m o p us vs c q g h =
      let e : o ≡ p = (operators-alike swaps o p us vs q).one in
      let x = g.3.order in
      let y = h.3.order in
      let r : alike swaps (operator o x) (operator o y) ≡ true =
      alike_trans swaps (operator o x) (operator o us) (operator o y) (alike_sym swaps (operator o us) (operator o x) g.3.like)
      (alike_trans swaps (operator o us) (operator p vs) (operator o y) q (subst (λ (i : ℕ). alike swaps (operator p vs) (operator i y) ≡ true) (sym e) h.3.like)) in
      same_node n m (g.0 ∙ sym h.0) (g.1 ∙ e ∙ sym h.1)
      (⊎_elim (λ (a : alikes swaps x y ≡ true). λ j. args_one ts (args_of n) (args_of m) 0 x y c a g.3.args h.3.args j (omega arith))
      (λ (a : (swaps o ≡ true) × (alikes swaps x (turned y) ≡ true)).
      crossed_words ts n m x y c (g.2 a.0) (h.2 (sym (ap swaps e) ∙ a.0)) a.1 g.3.args h.3.args)
      (operators-alike swaps o o x y r).arguments)

  pub means_one : (ts : List Tree) (n m : Node) (t u : Tree) → Once swaps ts → alike swaps t u ≡ true → Means swaps ts n t → Means swaps ts m u → n ≡ m
  means_one ts n m t u o q g h = go t (means-alike ts m u t q h) g
    where
      go : (t : Tree) → Means swaps ts m t → Means swaps ts n t → n ≡ m
      go (cell a c) k f = unfold Means in f ∙ sym k
      go (number z) k f = unfold Means in f.1 ∙ sym k.1
      go (constant l) k f = unfold Means in f ∙ sym k
      go (operator p us) k f = operator_one ts n m p p us us o (alike_refl swaps (operator p us)) f k
