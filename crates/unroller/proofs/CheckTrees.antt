-- An expression, node by node, and its arguments as a loop takes them.
use Rattle.std.specs.Prelude.{if◌then◌else◌}
use mathlib.Core.Path.{◌≡◌, refl, ◌∙◌}
use Prim.Native.Nat.{ℕ, zero, suc, ◌+◌, ◌<◌, ◌≤◌}
use mathlib.Core.List.{List, [], ◌∷◌}
use mathlib.Core.Bool.{Bool, true, false}
use native.Mathlib.Omega.{arith}
use lib.ListN.{length, get_or, drop}
use lib.Dec.{eqb}
use borrow.Author.Tests.{lt-ltb, le-ltb, ne_eqb, eqb-true, eqb-false}
use mir.Syntax.{w32}
use mir.Val.{to_z}
use Rattle.model.specs.Tables.{arity_at}
use Rattle.model.specs.Update.{Tree, size, sizes}
use Rattle.model.specs.Update.Tree.{cell, number, constant, operator}
use Rattle.model.specs.Update.Trees.{nil, cons}
use Rattle.unroller.specs.Words.{none, Reader, times}
use Rattle.unroller.specs.Decode.{node, operates, applied, expr}
use Rattle.unroller.specs.CheckAnswers.{Answer, Got, No, answer_of, Leaf, Reads, Follows, ReadsAll}
use Rattle.unroller.proofs.CheckWords.{at_three, few}

-- the code's answer is a place
pub answer-got : (n : ℕ) → 0 < n → answer_of n ≡ Got n
answer-got zero h = absurd (omega arith)
answer-got (suc n) h = refl

-- leaves
module _ (reads : ℕ → ℕ → Bool) (x y : ℕ) where
  pub leaf_read : (code : ℕ) → code ≡ 16 → (r : Bool) → r ≡ reads x y → Leaf reads code x y r
  unfolding node size
  leaf_read code e true h = (cell x y, refl, λ ops f rest. rw (e, ← h))
  leaf_read code e false h = λ ops f rest. rw (e, ← h)

  pub leaf_number : (code : ℕ) → code ≡ 18 → x < 4294967296 → (r : Bool) → r ≡ eqb y 0 → Leaf reads code x y r
  unfolding node size
  leaf_number code e b true h = (number (to_z w32 x), refl, λ ops f rest. rw (e, lt-ltb _ _ b, ← h))
  leaf_number code e b false h = λ ops f rest. rw (e, lt-ltb _ _ b, ← h)

  pub leaf_constant : (code : ℕ) → code ≡ 19 → x < 4294967296 → (r : Bool) → r ≡ eqb y 0 → Leaf reads code x y r
  unfolding node size
  leaf_constant code e b true h = (constant x, refl, λ ops f rest. rw (e, lt-ltb _ _ b, ← h))
  leaf_constant code e b false h = λ ops f rest. rw (e, lt-ltb _ _ b, ← h)

  pub leaf_value : (code : ℕ) → 18 ≤ code → code ≤ 19 → x < 4294967296 → (r : Bool) → r ≡ eqb y 0 → Leaf reads code x y r
  leaf_value code h w b r e = by (eqb code 18) refl
    where
      by : (t : Bool) → eqb code 18 ≡ t → Leaf reads code x y r
      by true f = leaf_number code (eqb-true code 18 f) b r e
      by false f = let g : code ≡ 18 → ⊥ = eqb-false code 18 f in leaf_constant code (omega arith) b r e

  pub leaf_none : (code : ℕ) → (code ≡ 16 → ⊥) → (code ≡ 17 → ⊥) → (code ≡ 18 → ⊥) → (code ≡ 19 → ⊥) → Leaf reads code x y false
  unfolding node
  leaf_none code a b c d = λ ops f rest. simp (ne_eqb _ _ a, ne_eqb _ _ b, ne_eqb _ _ c, ne_eqb _ _ d)

module _ (ops : List ℕ) (reads : ℕ → ℕ → Bool) (s : List ℕ) where
  node-few : (f : ℕ → Reader Tree) (l : List ℕ) → length l < 3 → node ops reads f l ≡ none
  unfolding node
  node-few f [] h = refl
  node-few f (a ∷ []) h = refl
  node-few f (a ∷ b ∷ []) h = refl
  node-few f (a ∷ b ∷ c ∷ l) h = absurd (omega arith)

  module _ (at left : ℕ) where
    pub node-short : length s < at + 3 → Reads s at (expr ops reads left (drop at s)) No
    unfolding expr
    node-short h = node-few (operates ops reads left) (drop at s) (few s at h)

    module _ (h : at + 3 ≤ length s) where
      pub node_leaf : (r : Bool) → Leaf reads (get_or s at 0) (get_or s (at + 1) 0) (get_or s (at + 2) 0) r →
          Reads s at (expr ops reads left (drop at s)) (if r then Got (at + 3) else No)
      unfolding expr
      node_leaf true (t, e, l) = (t, rw (at_three s at h) (l ops (operates ops reads left) (drop (at + 3) s)), omega arith)
      node_leaf false l = rw (at_three s at h) (l ops (operates ops reads left) (drop (at + 3) s))

      pub node_leaf_yes : (r : Bool) → r ≡ true → Leaf reads (get_or s at 0) (get_or s (at + 1) 0) (get_or s (at + 2) 0) r → Reads s at (expr ops reads left (drop at s)) (answer_of (at + 3))
      node_leaf_yes true e l = rw (answer-got (at + 3) (omega arith)) (node_leaf true l)
      node_leaf_yes false e l = absurd (let z : ◌≡◌ {A = ℕ} 0 1 = cc in omega arith)

      pub node_leaf_no : (r : Bool) → r ≡ false → Leaf reads (get_or s at 0) (get_or s (at + 1) 0) (get_or s (at + 2) 0) r → Reads s at (expr ops reads left (drop at s)) No
      node_leaf_no false e l = node_leaf false l
      node_leaf_no true e l = absurd (let z : ◌≡◌ {A = ℕ} 0 1 = cc in omega arith)

      node-operator_eq : get_or s at 0 ≡ 17 → get_or s (at + 2) 0 ≡ 0 → expr ops reads left (drop at s) ≡ operates ops reads left (get_or s (at + 1) 0) (drop (at + 3) s)
      unfolding expr node
      node-operator_eq e z = rw (at_three s at h, e, z)

      pub node-operator : (r : Answer) → get_or s at 0 ≡ 17 → get_or s (at + 2) 0 ≡ 0 →
          Follows s (at + 3) (operates ops reads left (get_or s (at + 1) 0) (drop (at + 3) s)) r → Reads s at (expr ops reads left (drop at s)) r
      node-operator (Got next) e z (t, q, w) = (t, node-operator_eq e z ∙ q, omega arith)
      node-operator No e z q = node-operator_eq e z ∙ q

      pub node-operator_bad : get_or s at 0 ≡ 17 → (get_or s (at + 2) 0 ≡ 0 → ⊥) → Reads s at (expr ops reads left (drop at s)) No
      unfolding expr node
      node-operator_bad e z = rw (at_three s at h, e, ne_eqb _ _ z)

  pub operator_none : (at left o : ℕ) → left ≡ 0 → Follows s at (operates ops reads left o (drop at s)) No
  unfolding operates
  operator_none at zero o h = refl
  operator_none at (suc left) o h = absurd (omega arith)

  pub operator_unknown : (at left o : ℕ) → length ops ≤ o → Follows s at (operates ops reads left o (drop at s)) No
  unfolding operates applied
  operator_unknown at zero o h = refl
  operator_unknown at (suc left) o h = rw (le-ltb _ _ h)

  pub operator_some : (at left m o n : ℕ) (r : Answer) → left ≡ suc m → o < length ops → n ≡ arity_at ops o →
      ReadsAll s at (times nil cons (expr ops reads m) n (drop at s)) r → Follows s at (operates ops reads left o (drop at s)) r
  unfolding operates applied expr size
  operator_some at left m o n (Got next) e h g a = let (ts, q, w) = rw g at a in (operator o ts, rw (e, lt-ltb _ _ h, q), omega arith)
  operator_some at left m o n No e h g a = let q = rw g at a in rw (e, lt-ltb _ _ h, q)

  -- arguments
  module _ (left : ℕ) where
    pub args_end : (at n : ℕ) → 0 < at → n ≡ 0 → ReadsAll s at (times nil cons (expr ops reads left) n (drop at s)) (answer_of at)
    unfolding times sizes
    args_end zero n h e = absurd (omega arith)
    args_end (suc at) n h e = (nil, rw e, omega arith)

    pub args-stop : (at n next : ℕ) → 0 < n → Reads s at (expr ops reads left (drop at s)) (answer_of next) → next ≡ 0 → ReadsAll s at (times nil cons (expr ops reads left) n (drop at s)) No
    unfolding times
    args-stop at n (suc next) h q e = absurd (omega arith)
    args-stop at zero zero h q e = absurd (omega arith)
    args-stop at (suc n) zero h q e = rw q

    step : (at n m next : ℕ) → n ≡ suc m → Reads s at (expr ops reads left (drop at s)) (Got next) → (r : Answer) →
        ReadsAll s next (times nil cons (expr ops reads left) m (drop next s)) r → ReadsAll s at (times nil cons (expr ops reads left) n (drop at s)) r
    unfolding times sizes
    step at n m next e (t, q, w) (Got l) (ts, z, v) = (cons t ts, rw (e, q, z), omega arith)
    step at n m next e (t, q, w) No z = rw (e, q, z)

    pub args-step : (at n m next : ℕ) → n ≡ suc m → Reads s at (expr ops reads left (drop at s)) (answer_of next) → 0 < next → (r : Answer) →
        ReadsAll s next (times nil cons (expr ops reads left) m (drop next s)) r → ReadsAll s at (times nil cons (expr ops reads left) n (drop at s)) r
    args-step at n m next e q h r z = step at n m next e (rw (answer-got next h) at q) r z
