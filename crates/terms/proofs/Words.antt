-- The words of memory after a node is written and linked in; and what the comparison of two nodes says.
use Rattle.std.proofs.Common.{◌≡◌, ℕ, zero, suc, ◌+◌, ◌*◌, ◌<◌, ◌≤◌, Bool, true, false, List, [], ◌∷◌, length, get_or, set, sym, refl, ap, ◌∙◌, not-suc-le-zero, add-zero, arith, length-set, get_or-set_other, get_or-set_same, eq-eqb, eqb-true}
use mathlib.Core.Bool.{and-eq-true_iff}
use lib.Seq.{sets, length-sets}
use Rattle.terms.specs.declared.Node.{Node}
use Rattle.terms.specs.Store.{node_at, link_at, head_at, args_of, eq_node, written, linked_in}

-- ---- a run of stores

sets-other : (vs l : List ℕ) (i j : ℕ) → ((k : ℕ) → k < length vs → j ≡ i + k → ⊥) → get_or (sets l i vs) j 0 ≡ get_or l j 0
sets-other [] l i j h = refl
sets-other (v ∷ vs) l i j h =
    sets-other vs (set l i v) (suc i) j (λ k m e. h (suc k) (omega arith) (omega arith))
    ∙ get_or-set_other l i j v 0 (λ e. h 0 (omega arith) (omega arith))

sets_at : (vs l : List ℕ) (i k : ℕ) → k < length vs → i + length vs ≤ length l → get_or (sets l i vs) (i + k) 0 ≡ get_or vs k 0
sets_at [] l i k p h = absurd (not-suc-le-zero p)
sets_at (v ∷ vs) l i zero p h =
    ap (λ (x : ℕ). get_or (sets (set l i v) (suc i) vs) x 0) (add-zero i)
    ∙ sets-other vs (set l i v) (suc i) i (λ k m e. omega arith)
    ∙ get_or-set_same l i v 0 (omega arith)
sets_at (v ∷ vs) l i (suc k) p h =
    let e : i + suc k ≡ suc i + k = omega arith in
    ap (λ (x : ℕ). get_or (sets (set l i v) (suc i) vs) x 0) e
    ∙ sets_at vs (set l i v) (suc i) k (omega arith) (simp length-set (omega arith))

-- six stores, as code makes them
pub six_sets : (l : List ℕ) (b v0 v1 v2 v3 v4 v5 : ℕ)
    → set (set (set (set (set (set l b v0) (b + 1) v1) (b + 2) v2) (b + 3) v3) (b + 4) v4) (b + 5) v5 ≡ sets l b (v0 ∷ v1 ∷ v2 ∷ v3 ∷ v4 ∷ v5 ∷ [])
six_sets l b v0 v1 v2 v3 v4 v5 =
    let e1 : b + 1 ≡ suc b = omega arith in
    let e2 : b + 2 ≡ suc (suc b) = omega arith in
    let e3 : b + 3 ≡ suc (suc (suc b)) = omega arith in
    let e4 : b + 4 ≡ suc (suc (suc (suc b))) = omega arith in
    let e5 : b + 5 ≡ suc (suc (suc (suc (suc b)))) = omega arith in
    λ k. set (set (set (set (set (set l b v0) (e1 k) v1) (e2 k) v2) (e3 k) v3) (e4 k) v4) (e5 k) v5

-- ---- a node that is written

module _ (m : List ℕ) (i : ℕ) (n : Node) where
  words : List ℕ
  words = n.kind ∷ n.payload ∷ args_of n

  pub written-length : length (written m i n) ≡ length m
  unfolding written
  written-length = length-sets m (i * 8) (n.kind ∷ n.payload ∷ args_of n)

  written_past : (j : ℕ) → ((k : ℕ) → k < 6 → j ≡ i * 8 + k → ⊥) → get_or (written m i n) j 0 ≡ get_or m j 0
  unfolding written
  written_past j h = sets-other (n.kind ∷ n.payload ∷ args_of n) m (i * 8) j h

  written-word : i * 8 + 8 ≤ length m → (k : ℕ) → k < 6 → get_or (written m i n) (i * 8 + k) 0 ≡ get_or words k 0
  unfolding written words
  written-word h k l = sets_at (n.kind ∷ n.payload ∷ args_of n) m (i * 8) k l (omega arith)

  pub written-there : i * 8 + 8 ≤ length m → node_at (written m i n) i ≡ n
  unfolding node_at words
  written-there h = λ k. record {
    kind = (ap (λ (x : ℕ). get_or (written m i n) x 0) (sym (add-zero (i * 8))) ∙ written-word h 0 (omega arith)) k;
    payload = written-word h 1 (omega arith) k;
    a0 = written-word h 2 (omega arith) k;
    a1 = written-word h 3 (omega arith) k;
    a2 = written-word h 4 (omega arith) k;
    a3 = written-word h 5 (omega arith) k;
  }

  pub written-before : (j : ℕ) → j < i → node_at (written m i n) j ≡ node_at m j
  unfolding node_at
  written-before j h = λ k. record {
    kind = written_past (j * 8) (λ x l e. omega arith) k;
    payload = written_past (j * 8 + 1) (λ x l e. omega arith) k;
    a0 = written_past (j * 8 + 2) (λ x l e. omega arith) k;
    a1 = written_past (j * 8 + 3) (λ x l e. omega arith) k;
    a2 = written_past (j * 8 + 4) (λ x l e. omega arith) k;
    a3 = written_past (j * 8 + 5) (λ x l e. omega arith) k;
  }

-- ---- a node that is written and linked in

module _ (m : List ℕ) (i b start : ℕ) (n : Node) where
  abbrev on : List ℕ
  on = set (written m i n) (i * 8 + 6) start

  -- no word of a node is a link or a head
  linked-word : (j : ℕ) → (j ≡ i * 8 + 6 → ⊥) → (j ≡ b * 8 + 7 → ⊥) → get_or (linked_in m i b start n) j 0 ≡ get_or (written m i n) j 0
  unfolding linked_in
  linked-word j p q = get_or-set_other on (b * 8 + 7) j (i + 1) 0 q ∙ get_or-set_other (written m i n) (i * 8 + 6) j start 0 p

  pub linked-length : length (linked_in m i b start n) ≡ length m
  unfolding linked_in
  linked-length = simp length-set (written-length m i n)

  pub linked-node : (j : ℕ) → node_at (linked_in m i b start n) j ≡ node_at (written m i n) j
  unfolding node_at
  linked-node j = λ k. record {
    kind = linked-word (j * 8) (λ e. omega arith) (λ e. omega arith) k;
    payload = linked-word (j * 8 + 1) (λ e. omega arith) (λ e. omega arith) k;
    a0 = linked-word (j * 8 + 2) (λ e. omega arith) (λ e. omega arith) k;
    a1 = linked-word (j * 8 + 3) (λ e. omega arith) (λ e. omega arith) k;
    a2 = linked-word (j * 8 + 4) (λ e. omega arith) (λ e. omega arith) k;
    a3 = linked-word (j * 8 + 5) (λ e. omega arith) (λ e. omega arith) k;
  }

  pub link_old : (j : ℕ) → j < i → link_at (linked_in m i b start n) j ≡ link_at m j
  link_old j l = linked-word (j * 8 + 6) (λ e. omega arith) (λ e. omega arith) ∙ written_past m i n (j * 8 + 6) (λ k h e. omega arith)

  pub link_new : i * 8 + 8 ≤ length m → link_at (linked_in m i b start n) i ≡ start
  unfolding linked_in
  link_new h =
      get_or-set_other on (b * 8 + 7) (i * 8 + 6) (i + 1) 0 (λ e. omega arith)
      ∙ get_or-set_same (written m i n) (i * 8 + 6) start 0 (omega (arith, written-length m i n))

  pub head_old : (d : ℕ) → (d ≡ b → ⊥) → head_at (linked_in m i b start n) d ≡ head_at m d
  head_old d p = linked-word (d * 8 + 7) (λ e. omega arith) (λ e. p (omega arith)) ∙ written_past m i n (d * 8 + 7) (λ k h e. omega arith)

  pub head_new : b * 8 + 8 ≤ length m → head_at (linked_in m i b start n) b ≡ i + 1
  unfolding linked_in
  head_new h = get_or-set_same on (b * 8 + 7) (i + 1) 0 (simp length-set (omega (arith, written-length m i n)))

-- ---- the comparison

pub eq_node_true : (x y : Node) → eq_node x y ≡ true → x ≡ y
unfolding eq_node
eq_node_true x y e =
    let e0 = (and-eq-true_iff _ _).0 e in
    let e1 = (and-eq-true_iff _ _).0 e0.1 in
    let e2 = (and-eq-true_iff _ _).0 e1.1 in
    let e3 = (and-eq-true_iff _ _).0 e2.1 in
    let e4 = (and-eq-true_iff _ _).0 e3.1 in
    λ k. record {
      kind = eqb-true x.kind y.kind e0.0 k;
      payload = eqb-true x.payload y.payload e1.0 k;
      a0 = eqb-true x.a0 y.a0 e2.0 k;
      a1 = eqb-true x.a1 y.a1 e3.0 k;
      a2 = eqb-true x.a2 y.a2 e4.0 k;
      a3 = eqb-true x.a3 y.a3 e4.1 k;
    }

eq_node_refl : (x : Node) → eq_node x x ≡ true
unfolding eq_node
eq_node_refl x = simp (eq-eqb _ _ (refl {a = x.kind}), eq-eqb _ _ (refl {a = x.payload}), eq-eqb _ _ (refl {a = x.a0}), eq-eqb _ _ (refl {a = x.a1}), eq-eqb _ _ (refl {a = x.a2}), eq-eqb _ _ (refl {a = x.a3}))

pub eq_node_same : (x y : Node) → x ≡ y → eq_node x y ≡ true
eq_node_same x y e = ap (eq_node x) (sym e) ∙ eq_node_refl x

pub eq_node-other : (x y : Node) → (x ≡ y → ⊥) → eq_node x y ≡ false
eq_node-other x y h = go (eq_node x y) refl
  where
    go : (t : Bool) → eq_node x y ≡ t → eq_node x y ≡ false
    go true e = absurd (h (eq_node_true x y e))
    go false e = e
