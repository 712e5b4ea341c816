-- A statement reads the same from its stretch of the bytes alone: what a reader gets does not depend on bytes that it does not pass.
use Rattle.std.specs.Prelude.{if◌then◌else◌}
use mathlib.Core.Path.{◌≡◌, refl, ap, ◌∙◌, subst}
use Prim.Native.Nat.{ℕ, zero, suc, ◌+◌, ◌-◌, ◌≤◌, ◌<◌}
use native.Mathlib.Omega.{arith}
use mathlib.Core.List.{List, [], ◌∷◌}
use mathlib.Core.Bool.{Bool, true, false, not}
use lib.ListN.{length, get_or}
use lib.Dec.{leb, ltb, eqb}
use borrow.Author.Tests.{le-leb}
use Rattle.model.specs.Tables.{Tables, array_at, arity_at}
use Rattle.reader.specs.Field.{Outcome, got, no, Reader, and_then, ask, refuse, little_endian, field, byte, u16, u32, i8, i16, times}
use Rattle.reader.specs.Syntax.{Expr}
use Rattle.reader.specs.Syntax.Exprs.{none, more}
use Rattle.reader.specs.Grammar.{form, subscripts, index, read_of, literal_of, constant_of, apply_of, node, applied, expression, statement_of}
use Rattle.reader.proofs.Binds.{not-got, read_by}

module _ (s w : List ℕ) (from : ℕ) (same : (i : ℕ) → i < length w → get_or w i 0 ≡ get_or s (from + i) 0) where
  -- from place j of w, which is from + j of s: what is got in s is got in w too, if it ends there
  unfoldable pub Same : {A : Type 0} → ℕ → Outcome A → Outcome A → Type 0
  Same {A} j o o' = (x : A) (next : ℕ) → o ≡ got x next → (from + j ≤ next) × ((n : ℕ) → next ≡ from + n → n ≤ length w → o' ≡ got x n)

  same_got : {A : Type 0} (x : A) (j : ℕ) → Same j (got x (from + j)) (got x j)
  unfolding Same
  same_got x j y next e =
      let p : from + j ≡ next = cc in
      let q : x ≡ y = cc in
      (omega arith, λ n r h. let z : j ≡ n = omega arith in subst (λ (y : _). got x j ≡ got y n) q (ap (got x) z))

  same_no : {A : Type 0} (k p j : ℕ) (o : Outcome A) → Same j (no k p) o
  unfolding Same
  same_no k p j o x next e = not-got e

  module _ {A B : Type 0} where
    same_then : (m m' : Outcome A) (f f' : A → ℕ → Outcome B) (j : ℕ) → Same j m m' → ((a : A) (k : ℕ) → Same k (f a (from + k)) (f' a k)) → Same j (and_then m f) (and_then m' f')
    unfolding Same
    same_then m m' f f' j h g x next e = read_by m f e λ a mid e1 e2.
        let u = h a mid e1 in
        let z : mid ≡ from + (mid - from) = let v = u.0 in omega arith in
        let v = g a (mid - from) x next (subst (λ (p : ℕ). f a p ≡ got x next) z e2) in
        let u0 = u.0 in
        let v0 = v.0 in
        (omega arith, λ n p q. ap (λ (o : Outcome A). and_then o f') (u.1 (mid - from) z (omega arith)) ∙ v.1 n p q)

  module _ {B : Type 0} where
    same_ask : (q p p' : ℕ) (t : Bool) (f f' : ℕ → ℕ → Outcome B) (j : ℕ) → Same j (f 0 (from + j)) (f' 0 j) → Same j (and_then (ask q p t s (from + j)) f) (and_then (ask q p' t w j) f')
    same_ask q p p' true f f' j h = h
    same_ask q p p' false f f' j h = same_no q p j (no q p')

    same_choice : (t : Bool) (a a' b b' : Reader B) (j : ℕ) → Same j (a s (from + j)) (a' w j) → Same j (b s (from + j)) (b' w j) → Same j ((if t then a else b) s (from + j)) ((if t then a' else b') w j)
    same_choice true a a' b b' j h k = h
    same_choice false a a' b b' j h k = k

  -- ---- fields
  same_bytes : (n j : ℕ) → j + n ≤ length w → little_endian n w j ≡ little_endian n s (from + j)
  same_bytes zero j h = refl
  same_bytes (suc n) j h =
      let e = same j (omega arith) in
      let p : from + (j + 1) ≡ from + j + 1 = omega arith in
      let k = same_bytes n (j + 1) (omega arith) ∙ ap (little_endian n s) p in
      omega (arith, e, k)

  same_field : (n j : ℕ) → Same j (field n s (from + j)) (field n w j)
  unfolding Same field
  same_field n j x next e = go (leb (from + j + n) (length s)) e
    where
      go : (t : Bool) → ◌≡◌ {A = Outcome ℕ} (if t then got (little_endian n s (from + j)) (from + j + n) else no 3 (from + j)) (got x next)
          → (from + j ≤ next) × ((m : ℕ) → next ≡ from + m → m ≤ length w → (if leb (j + n) (length w) then got (little_endian n w j) (j + n) else no 3 j) ≡ got x m)
      go true e =
          let p : from + j + n ≡ next = cc in
          let q : little_endian n s (from + j) ≡ x = cc in (
            omega arith,
            λ m r h.
                let z : j + n ≡ m = omega arith in
                rw (le-leb (j + n) (length w) (omega arith)) (ap (λ (v : ℕ). got v (j + n)) (same_bytes n j (omega arith) ∙ q) ∙ ap (got x) z),
          )
      go false e = not-got e

  same_byte : (j : ℕ) → Same j (byte s (from + j)) (byte w j)
  unfolding byte
  same_byte j = same_field 1 j

  same_i8 : (j : ℕ) → Same j (i8 s (from + j)) (i8 w j)
  unfolding i8
  same_i8 j = same_then (byte s (from + j)) (byte w j) _ _ j (same_byte j) λ b k. same_got _ k

  same_i16 : (j : ℕ) → Same j (i16 s (from + j)) (i16 w j)
  unfolding i16 u16
  same_i16 j = same_then (field 2 s (from + j)) (field 2 w j) _ _ j (same_field 2 j) λ b k. same_got _ k

  same_times : {A B : Type 0} (z : B) (put : A → B → B) (one one' : Reader A) → ((j : ℕ) → Same j (one s (from + j)) (one' w j)) → (n j : ℕ) → Same j (times z put one n s (from + j)) (times z put one' n w j)
  unfolding times
  same_times z put one one' h zero j = same_got z j
  same_times z put one one' h (suc n) j =
      same_then (one s (from + j)) (one' w j) _ _ j (h j) λ a k. same_then (times z put one n s (from + k)) (times z put one' n w k) _ _ k (same_times z put one one' h n k) λ b m. same_got _ m

  same_index : (n j : ℕ) → Same j (index n s (from + j)) (index n w j)
  unfolding index
  same_index n j = same_then (byte s (from + j)) (byte w j) _ _ j (same_byte j) λ x k. same_ask 10 (from + j) j (ltb x n) _ _ k (same_got x k)

  -- ---- forms and expressions
  module _ (loops : ℕ) where
    same_form : (j : ℕ) → Same j (form loops s (from + j)) (form loops w j)
    unfolding form
    same_form j =
        same_then (i16 s (from + j)) (i16 w j) _ _ j (same_i16 j) λ c k.
        same_then (times [] ◌∷◌ i8 loops s (from + k)) (times [] ◌∷◌ i8 loops w k) _ _ k (same_times [] ◌∷◌ i8 i8 same_i8 loops k) λ cs m. same_got _ m

    module _ (t : Tables) where
      same_subscripts : (a j : ℕ) → Same j (subscripts t loops a s (from + j)) (subscripts t loops a w j)
      unfolding subscripts
      same_subscripts a j = same_times [] ◌∷◌ (form loops) (form loops) same_form (length (array_at t.arrays a).extents) j

      same_read : (j : ℕ) → Same j (read_of t loops s (from + j)) (read_of t loops w j)
      unfolding read_of
      same_read j =
          same_then (index (length t.arrays) s (from + j)) (index (length t.arrays) w j) _ _ j (same_index (length t.arrays) j) λ a k.
          same_then (subscripts t loops a s (from + k)) (subscripts t loops a w k) _ _ k (same_subscripts a k) λ fs m. same_got _ m

      same_literal : (j : ℕ) → Same j (literal_of t loops s (from + j)) (literal_of t loops w j)
      unfolding literal_of
      same_literal j = same_then (form loops s (from + j)) (form loops w j) _ _ j (same_form j) λ f k. same_got _ k

      same_constant : (j : ℕ) → Same j (constant_of t loops s (from + j)) (constant_of t loops w j)
      unfolding constant_of u32
      same_constant j = same_then (field 4 s (from + j)) (field 4 w j) _ _ j (same_field 4 j) λ n k. same_got _ k

      same_node : (ap ap' : ℕ → Reader Expr) → ((p p' j : ℕ) → Same j (ap p s (from + j)) (ap' p' w j)) → (j : ℕ) → Same j (node t loops ap s (from + j)) (node t loops ap' w j)
      unfolding node
      same_node ap ap' h j =
          same_then (byte s (from + j)) (byte w j) _ _ j (same_byte j) λ code k.
          same_choice (eqb code 0x10) (read_of t loops) (read_of t loops) _ _ k (same_read k)
          (same_choice (eqb code 0x11) (ap (from + j)) (ap' j) _ _ k (h (from + j) j k)
          (same_choice (eqb code 0x12) (literal_of t loops) (literal_of t loops) _ _ k (same_literal k)
          (same_choice (eqb code 0x13) (constant_of t loops) (constant_of t loops) (refuse 9 (from + j)) (refuse 9 j) k (same_constant k) (same_no 9 (from + j) k (no 9 j)))))

      same_applied : (left p p' j : ℕ) → Same j (applied t loops left p s (from + j)) (applied t loops left p' w j)
      unfolding applied apply_of
      same_applied zero p p' j = same_no 12 p j (no 12 p')
      same_applied (suc left) p p' j =
          same_then (index (length t.operators) s (from + j)) (index (length t.operators) w j) _ _ j (same_index (length t.operators) j) λ o k.
          same_then (times none more (node t loops (applied t loops left)) (arity_at t.operators o) s (from + k)) (times none more (node t loops (applied t loops left)) (arity_at t.operators o) w k) _ _ k
          (same_times none more (node t loops (applied t loops left)) (node t loops (applied t loops left)) (same_node (applied t loops left) (applied t loops left) (λ p p' j. same_applied left p p' j)) (arity_at t.operators o) k) λ es m. same_got _ m

      pub same_statement : (p j : ℕ) → Same j (statement_of t loops p s (from + j)) (statement_of t loops p w j)
      unfolding statement_of expression
      same_statement p j =
          same_then (index (length t.arrays) s (from + j)) (index (length t.arrays) w j) _ _ j (same_index (length t.arrays) j) λ a k.
          same_ask 13 (from + j) j (not (eqb (array_at t.arrays a).role 0)) _ _ k
          (same_then (subscripts t loops a s (from + k)) (subscripts t loops a w k) _ _ k (same_subscripts a k) λ fs m.
          same_then (node t loops (applied t loops 12) s (from + m)) (node t loops (applied t loops 12) w m) _ _ m (same_node (applied t loops 12) (applied t loops 12) (same_applied 12) m) λ e n. same_got _ n)
