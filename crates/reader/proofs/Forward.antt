-- Readers move forward, and not past the end: what holds of a value that was got and of the place past it.
use Rattle.std.specs.Prelude.{if◌then◌else◌}
use mathlib.Core.Path.{◌≡◌, refl, sym, ap, subst}
use Prim.Native.Nat.{ℕ, zero, suc, ◌+◌, ◌≤◌, ◌<◌}
use mathlib.Core.List.{List, [], ◌∷◌}
use mathlib.Core.Bool.{Bool, true, false, not, ◌||◌}
use native.Mathlib.Omega.{arith}
use lib.ListN.{length}
use lib.IntN.{ℤ, pos, negsuc}
use lib.Dec.{leb, ltb, eqb}
use borrow.Author.Tests.{leb-true, ltb-true}
use Rattle.model.specs.Tables.{Tables, array_at, arity_at}
use Rattle.reader.specs.Field.{Outcome, got, no, Reader, and_then, ask, field, byte, u16, u32, i8, i16, little_endian, times, give, refuse}
use Rattle.reader.specs.Syntax.{Expr, Exprs, Item, count, counts}
use Rattle.reader.specs.Syntax.Exprs.{none, more}
use Rattle.reader.specs.Syntax.Items.{end}
use Rattle.reader.proofs.Bytes.{step-zero, step_is, step_no}
use Rattle.reader.specs.Grammar.{form, subscripts, index, step, read_of, literal_of, constant_of, apply_of, node, applied, expression, statement_of, loop_of, guard_of, items, item_of, nested}

-- what was got, with the place past it, has P
abbrev pub Held : {A : Type 0} → (A → ℕ → Type 0) → Outcome A → Type 0
Held P (got a next) = P a next
Held P (no k p) = Unit {0}

pub held-got : {A : Type 0} (P : A → ℕ → Type 0) {m : Outcome A} {a : A} {next : ℕ} → Held P m → m ≡ got a next → P a next
held-got P h e = subst (Held P) e h

module _ {A B : Type 0} (P : A → ℕ → Type 0) (Q : B → ℕ → Type 0) where
  pub held_then : (m : Outcome A) (f : A → ℕ → Outcome B) → Held P m → ((a : A) (next : ℕ) → P a next → Held Q (f a next)) → Held Q (and_then m f)
  held_then (got a n) f h k = k a n h
  held_then (no k p) f h g = tt

module _ {B : Type 0} (Q : B → ℕ → Type 0) where
  pub held-ask : (k p : ℕ) (t : Bool) (s : List ℕ) (at : ℕ) (f : ℕ → ℕ → Outcome B) → (t ≡ true → Held Q (f 0 at)) → Held Q (and_then (ask k p t s at) f)
  held-ask k p true s at f h = h refl
  held-ask k p false s at f h = tt

  pub held_choice : (t : Bool) (a b : Reader B) (s : List ℕ) (at : ℕ) → Held Q (a s at) → Held Q (b s at) → Held Q ((if t then a else b) s at)
  held_choice true a b s at h k = h
  held_choice false a b s at h k = k

module _ (s : List ℕ) where
  -- from `at` on
  abbrev pub Past : {A : Type 0} → ℕ → A → ℕ → Type 0
  Past at a next = (at ≤ next) × (next ≤ length s)

  pub field-held : (n at : ℕ) → Held (λ x next. (next ≡ at + n) × (next ≤ length s)) (field n s at)
  unfolding field
  field-held n at = go (leb (at + n) (length s)) refl
    where
      go : (t : Bool) → leb (at + n) (length s) ≡ t → Held (λ x next. (next ≡ at + n) × (next ≤ length s)) (if t then got (little_endian n s at) (at + n) else no 3 at)
      go true e = (refl, leb-true (at + n) (length s) e)
      go false e = tt

  pub byte-held : (at : ℕ) → Held (λ x next. (next ≡ at + 1) × (next ≤ length s)) (byte s at)
  unfolding byte
  byte-held at = field-held 1 at

  i8-held : (at : ℕ) → Held (Past (at + 1)) (i8 s at)
  unfolding i8
  i8-held at = held_then (λ x next. (next ≡ at + 1) × (next ≤ length s)) (Past (at + 1)) (byte s at) _ (byte-held at) λ x n h. (omega arith, h.1)

  pub i16-held : (at : ℕ) → Held (Past (at + 2)) (i16 s at)
  unfolding i16 u16
  i16-held at = held_then (λ x next. (next ≡ at + 2) × (next ≤ length s)) (Past (at + 2)) (field 2 s at) _ (field-held 2 at) λ x n h. (omega arith, h.1)

  pub weaken : {A : Type 0} (p q : ℕ) (m : Outcome A) → p ≤ q → Held (Past q) m → Held (Past p) m
  weaken p q (got a n) w h = (omega arith, h.1)
  weaken p q (no k l) w h = tt

  pub times-held : {A B : Type 0} (z : B) (put : A → B → B) (one : Reader A) → ((at : ℕ) → at ≤ length s → Held (Past at) (one s at)) →
      (n at : ℕ) → at ≤ length s → Held (Past at) (times z put one n s at)
  unfolding times
  times-held z put one h zero at w = (omega arith, w)
  times-held z put one h (suc n) at w =
      held_then (Past at) (Past at) (one s at) _ (h at w) λ a x v.
      held_then (Past x) (Past at) (times z put one n s x) _ (times-held z put one h n x v.1) λ b y u. (omega arith, u.1)

  pub form-held : (loops at : ℕ) → Held (Past (at + 2)) (form loops s at)
  unfolding form
  form-held loops at =
      held_then (Past (at + 2)) (Past (at + 2)) (i16 s at) _ (i16-held at) λ z x v.
      held_then (Past x) (Past (at + 2)) (times [] ◌∷◌ i8 loops s x) _
      (times-held [] ◌∷◌ i8 (λ p w. weaken p (p + 1) (i8 s p) (omega arith) (i8-held p)) loops x v.1) λ l y u. (omega arith, u.1)

  pub forms_held : (loops n at : ℕ) → at ≤ length s → Held (Past at) (times [] ◌∷◌ (form loops) n s at)
  forms_held loops n at w = times-held [] ◌∷◌ (form loops) (λ p w. weaken p (p + 2) (form loops s p) (omega arith) (form-held loops p)) n at w

  pub index-held : (n at : ℕ) → Held (λ x next. (x < n) × (next ≡ at + 1) × (next ≤ length s)) (index n s at)
  unfolding index
  index-held n at =
      held_then (λ x next. (next ≡ at + 1) × (next ≤ length s)) (λ x next. (x < n) × (next ≡ at + 1) × (next ≤ length s)) (byte s at) _ (byte-held at) λ x y h.
      held-ask (λ x next. (x < n) × (next ≡ at + 1) × (next ≤ length s)) 10 at (ltb x n) s y _ λ e. (ltb-true x n e, h.0, h.1)

  pub step-held : (at : ℕ) → Held (Past (at + 2)) (step s at)
  step-held at = go (i16 s at) refl (i16-held at)
    where
      go : (m : Outcome ℤ) → i16 s at ≡ m → Held (Past (at + 2)) m → Held (Past (at + 2)) (step s at)
      go (got (pos zero) n) e h = subst (Held (Past (at + 2))) (step-zero s at (sym e)) tt
      go (got (pos (suc k)) n) e h = subst (Held (Past (at + 2))) (step_is s at (pos (suc k)) (sym e) (λ w. let z : ◌≡◌ {A = ℕ} 0 1 = cc in omega arith)) h
      go (got (negsuc k) n) e h = subst (Held (Past (at + 2))) (step_is s at (negsuc k) (sym e) (λ w. let z : ◌≡◌ {A = ℕ} 0 1 = cc in omega arith)) h
      go (no k p) e h = subst (Held (Past (at + 2))) (step_no s at e) tt

  module _ (t : Tables) (loops : ℕ) where
    -- an expression takes a byte at least for each of its nodes
    abbrev pub Counted : ℕ → Expr → ℕ → Type 0
    Counted at e next = (at + count e ≤ next) × (next ≤ length s)

    abbrev pub Counteds : ℕ → Exprs → ℕ → Type 0
    Counteds at es next = (at + counts es ≤ next) × (next ≤ length s)

    -- behind a code byte at `at`, each reading begins at at + 1
    read_held : (at next : ℕ) → next ≡ at + 1 → Held (Counted at) (read_of t loops s next)
    unfolding read_of subscripts count
    read_held at next w =
        held_then (λ x n. (x < length t.arrays) × (n ≡ next + 1) × (n ≤ length s)) (Counted at) (index (length t.arrays) s next) _ (index-held (length t.arrays) next) λ a x v.
        held_then (Past x) (Counted at) (times [] ◌∷◌ (form loops) (length (array_at t.arrays a).extents) s x) _
        (forms_held loops (length (array_at t.arrays a).extents) x v.2) λ l y u. (omega arith, u.1)

    literal-held : (at next : ℕ) → next ≡ at + 1 → Held (Counted at) (literal_of t loops s next)
    unfolding literal_of count
    literal-held at next w = held_then (Past (next + 2)) (Counted at) (form loops s next) _ (form-held loops next) λ f y u. (omega arith, u.1)

    constant-held : (at next : ℕ) → next ≡ at + 1 → Held (Counted at) (constant_of t loops s next)
    unfolding constant_of count u32
    constant-held at next w =
        held_then (λ x n. (n ≡ next + 4) × (n ≤ length s)) (Counted at) (field 4 s next) _ (field-held 4 next) λ f y u. (omega arith, u.1)

    node-held : (ap : ℕ → Reader Expr) (at : ℕ) → ((next : ℕ) → next ≡ at + 1 → Held (Counted at) (ap at s next)) → Held (Counted at) (node t loops ap s at)
    unfolding node
    node-held ap at h =
        held_then (λ x n. (n ≡ at + 1) × (n ≤ length s)) (Counted at) (byte s at) _ (byte-held at) λ code next w.
        held_choice (Counted at) (eqb code 0x10) (read_of t loops) _ s next (read_held at next w.0)
        (held_choice (Counted at) (eqb code 0x11) (ap at) _ s next (h next w.0)
        (held_choice (Counted at) (eqb code 0x12) (literal_of t loops) _ s next (literal-held at next w.0)
        (held_choice (Counted at) (eqb code 0x13) (constant_of t loops) (refuse 9 at) s next (constant-held at next w.0) tt)))

    args-held : (one : Reader Expr) → ((at : ℕ) → Held (Counted at) (one s at)) → (n at : ℕ) → at ≤ length s → Held (Counteds at) (times none more one n s at)
    unfolding times counts
    args-held one h zero at w = (omega arith, w)
    args-held one h (suc n) at w =
        held_then (Counted at) (Counteds at) (one s at) _ (h at) λ e x v.
        held_then (Counteds x) (Counteds at) (times none more one n s x) _ (args-held one h n x v.1) λ es y u. (omega arith, u.1)

    applied-held : (left at next : ℕ) → next ≡ at + 1 → Held (Counted at) (applied t loops left at s next)
    unfolding applied apply_of count
    applied-held zero at next w = tt
    applied-held (suc left) at next w =
        held_then (λ x n. (x < length t.operators) × (n ≡ next + 1) × (n ≤ length s)) (Counted at) (index (length t.operators) s next) _ (index-held (length t.operators) next) λ o x v.
        held_then (Counteds x) (Counted at) (times none more (node t loops (applied t loops left)) (arity_at t.operators o) s x) _
        (args-held (node t loops (applied t loops left)) (λ p. node-held (applied t loops left) p (λ q. applied-held left p q)) (arity_at t.operators o) x v.2) λ es y u. (omega arith, u.1)

    pub nodes-held : (left at : ℕ) → Held (Counted at) (node t loops (applied t loops left) s at)
    nodes-held left at = node-held (applied t loops left) at (λ q. applied-held left at q)

    pub arguments_held : (left n at : ℕ) → at ≤ length s → Held (Counteds at) (times none more (node t loops (applied t loops left)) n s at)
    arguments_held left n at w = args-held (node t loops (applied t loops left)) (λ p. nodes-held left p) n at w

  module _ (t : Tables) where
    pub statement-held : (loops p at : ℕ) → Held (Past (at + 1)) (statement_of t loops p s at)
    unfolding statement_of subscripts expression
    statement-held loops p at =
        held_then (λ x n. (x < length t.arrays) × (n ≡ at + 1) × (n ≤ length s)) (Past (at + 1)) (index (length t.arrays) s at) _ (index-held (length t.arrays) at) λ a x v.
        held-ask (Past (at + 1)) 13 at (not (eqb (array_at t.arrays a).role 0)) s x _ λ w.
        held_then (Past x) (Past (at + 1)) (times [] ◌∷◌ (form loops) (length (array_at t.arrays a).extents) s x) _
        (forms_held loops (length (array_at t.arrays a).extents) x v.2) λ fs y u.
        held_then (Counted t loops y) (Past (at + 1)) (node t loops (applied t loops 12) s y) _ (nodes-held t loops 12 y) λ e z q.
        (omega (arith, v.1, u.0, q.0), q.1)

    -- items take a byte at least
    pub items-held : (one : ℕ → ℕ → Reader Item) → ((code p at : ℕ) → at ≤ length s → Held (Past at) (one code p s at)) → (most at : ℕ) → Held (Past (at + 1)) (items one most s at)
    unfolding items
    items-held one h zero at = tt
    items-held one h (suc most) at =
        held_then (λ x n. (n ≡ at + 1) × (n ≤ length s)) (Past (at + 1)) (byte s at) _ (byte-held at) λ code x v.
        held_choice (Past (at + 1)) (eqb code 0) (give end) _ s x (omega (arith, v.0), v.1)
        (held_then (Past x) (Past (at + 1)) (one code at s x) _ (h code at x v.1) λ i y u.
        held_then (Past (y + 1)) (Past (at + 1)) (items one most s y) _ (items-held one h most y) λ is z w. (omega (arith, v.0, u.0, w.0), w.1))

    module _ (most : ℕ) where
      item-held : (nd : ℕ → ℕ → Reader Item) → ((code p at : ℕ) → at ≤ length s → Held (Past at) (nd code p s at)) →
          (loops code p at : ℕ) → at ≤ length s → Held (Past at) (item_of t most nd loops code p s at)
      unfolding item_of
      item-held nd h loops code p at w =
          held_choice (Past at) (eqb code 1) (statement_of t loops p) _ s at (weaken at (at + 1) (statement_of t loops p s at) (omega arith) (statement-held loops p at))
          (held_choice (Past at) (eqb code 2 || eqb code 3) (nd code p) (refuse 9 p) s at (h code p at w) tt)

      pub nested-held : (left loops code p at : ℕ) → at ≤ length s → Held (Past at) (nested t most left loops code p s at)
      unfolding nested loop_of guard_of
      nested-held zero loops code p at w = tt
      nested-held (suc left) loops code p at w =
          held_choice (Past at) (eqb code 2) (loop_of loops (items (item_of t most (nested t most left (suc loops)) (suc loops)) most) p) _ s at
          (held_then (Past (at + 2)) (Past at) (form loops s at) _ (form-held loops at) λ a x v.
          held_then (Past (x + 2)) (Past at) (form loops s x) _ (form-held loops x) λ b y u.
          held_then (Past (y + 2)) (Past at) (step s y) _ (step-held y) λ z n q.
          held_then (Past (n + 1)) (Past at) (items (item_of t most (nested t most left (suc loops)) (suc loops)) most s n) _
          (items-held (item_of t most (nested t most left (suc loops)) (suc loops)) (item-held (nested t most left (suc loops)) (nested-held left (suc loops)) (suc loops)) most n) λ is m r.
          (omega (arith, v.0, u.0, q.0, r.0), r.1))
          (held_then (Past (at + 2)) (Past at) (form loops s at) _ (form-held loops at) λ a x v.
          held_then (Past (x + 1)) (Past at) (items (item_of t most (nested t most left loops) loops) most s x) _
          (items-held (item_of t most (nested t most left loops) loops) (item-held (nested t most left loops) (nested-held left loops) loops) most x) λ is m r.
          (omega (arith, v.0, r.0), r.1))

      pub items_of-held : (left loops code p at : ℕ) → at ≤ length s → Held (Past at) (item_of t most (nested t most left loops) loops code p s at)
      items_of-held left loops = item-held (nested t most left loops) (nested-held left loops) loops
