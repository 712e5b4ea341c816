-- Which numbers a file can be refused with while it is read: 2 to 14.
use Rattle.std.specs.Prelude.{if◌then◌else◌}
use Prim.Native.Nat.{ℕ, zero, suc, ◌+◌, ◌≤◌}
use native.Mathlib.Omega.{arith}
use mathlib.Core.Path.{◌≡◌, refl, sym, subst}
use mathlib.Core.List.{List, [], ◌∷◌}
use mathlib.Core.Bool.{Bool, true, false, ◌&&◌, ◌||◌, not}
use lib.ListN.{length}
use lib.Dec.{leb, ltb, eqb}
use lib.IntN.{ℤ, pos, negsuc}
use Rattle.model.specs.Test.{within}
use Rattle.model.specs.Tables.{Tables, cells, array_at, local, operator_in, arity_at}
use Rattle.reader.specs.Field.{Outcome, got, no, Reader, and_then, ask, field, byte, u16, u32, i8, i16, little_endian, times, give, refuse}
use Rattle.reader.specs.Syntax.{Expr, Item}
use Rattle.reader.specs.Syntax.Exprs.{none, more}
use Rattle.reader.specs.Syntax.Items.{end, item}
use Rattle.reader.specs.Grammar.{mark, head, operator_of, operators, extent, array, arrays, tables, form, subscripts, index, step, read_of, literal_of, constant_of, apply_of, node, applied, expression, statement_of, loop_of, guard_of, items, item_of, nested, body, program, read_program}
use Rattle.reader.proofs.Bytes.{step-zero, step_is, step_no}

-- a "no" has one of these numbers
abbrev pub FileNumbered : {A : Type 0} → Outcome A → Type 0
FileNumbered (got a next) = Unit {0}
FileNumbered (no k p) = (2 ≤ k) × (k ≤ 14)

numbered_then : {A B : Type 0} (m : Outcome A) (f : A → ℕ → Outcome B) → FileNumbered m → ((a : A) (next : ℕ) → FileNumbered (f a next)) → FileNumbered (and_then m f)
numbered_then (got a n) f h g = g a n
numbered_then (no k p) f h g = h

numbered_ask : {B : Type 0} (k p : ℕ) (t : Bool) (s : List ℕ) (at : ℕ) (f : ℕ → ℕ → Outcome B) → (2 ≤ k) × (k ≤ 14) → FileNumbered (f 0 at) → FileNumbered (and_then (ask k p t s at) f)
numbered_ask k p true s at f h g = g
numbered_ask k p false s at f h g = h

numbered_choice : {B : Type 0} (t : Bool) (a b : Reader B) (s : List ℕ) (at : ℕ) → FileNumbered (a s at) → FileNumbered (b s at) → FileNumbered ((if t then a else b) s at)
numbered_choice true a b s at h k = h
numbered_choice false a b s at h k = k

module _ (s : List ℕ) where
  field_numbered : (n at : ℕ) → FileNumbered (field n s at)
  unfolding field
  field_numbered n at = go (leb (at + n) (length s))
    where
      go : (t : Bool) → FileNumbered (if t then got (little_endian n s at) (at + n) else no 3 at)
      go true = tt
      go false = (omega arith, omega arith)

  byte_numbered : (at : ℕ) → FileNumbered (byte s at)
  unfolding byte
  byte_numbered at = field_numbered 1 at

  u16_numbered : (at : ℕ) → FileNumbered (u16 s at)
  unfolding u16
  u16_numbered at = field_numbered 2 at

  i8_numbered : (at : ℕ) → FileNumbered (i8 s at)
  unfolding i8
  i8_numbered at = numbered_then (byte s at) _ (byte_numbered at) λ x n. tt

  i16_numbered : (at : ℕ) → FileNumbered (i16 s at)
  unfolding i16
  i16_numbered at = numbered_then (u16 s at) _ (u16_numbered at) λ x n. tt

  times_numbered : {A B : Type 0} (z : B) (put : A → B → B) (one : Reader A) → ((at : ℕ) → FileNumbered (one s at)) → (n at : ℕ) → FileNumbered (times z put one n s at)
  unfolding times
  times_numbered z put one h zero at = tt
  times_numbered z put one h (suc n) at = numbered_then (one s at) _ (h at) λ a x. numbered_then (times z put one n s x) _ (times_numbered z put one h n x) λ b y. tt

  head_numbered : (at : ℕ) → FileNumbered (head s at)
  unfolding head
  head_numbered at =
      numbered_then (field 3 s at) _ (field_numbered 3 at) λ m x.
      numbered_ask 4 at (eqb m (little_endian 3 mark 0)) s x _ (omega arith, omega arith)
      (numbered_then (u16 s x) _ (u16_numbered x) λ v y. numbered_ask 5 x (within 1 2 v) s y _ (omega arith, omega arith) tt)

  operator_numbered : (version at : ℕ) → FileNumbered (operator_of version s at)
  unfolding operator_of
  operator_numbered version at = numbered_then (byte s at) _ (byte_numbered at) λ b x. numbered_ask 6 at (operator_in version b) s x _ (omega arith, omega arith) tt

  operators_numbered : (version at : ℕ) → FileNumbered (operators version s at)
  unfolding operators
  operators_numbered version at =
      numbered_then (byte s at) _ (byte_numbered at) λ n x.
      numbered_ask 6 at (leb n 16) s x _ (omega arith, omega arith) (times_numbered [] ◌∷◌ (operator_of version) (operator_numbered version) n x)

  extent_numbered : (at : ℕ) → FileNumbered (extent s at)
  unfolding extent
  extent_numbered at = numbered_then (u16 s at) _ (u16_numbered at) λ e x. numbered_ask 7 at (within 1 1024 e) s x _ (omega arith, omega arith) tt

  array_numbered : (after : Bool) (before at : ℕ) → FileNumbered (array after before s at)
  unfolding array
  array_numbered after before at =
      numbered_then (byte s at) _ (byte_numbered at) λ role x.
      numbered_ask 7 at (leb role 3 && (not after || eqb role 3)) s x _ (omega arith, omega arith)
      (numbered_then (byte s x) _ (byte_numbered x) λ d y.
      numbered_ask 7 x (within 1 3 d) s y _ (omega arith, omega arith)
      (numbered_then (times [] ◌∷◌ extent d s y) _ (times_numbered [] ◌∷◌ extent extent_numbered d y) λ es z.
      numbered_ask 8 at (leb (before + cells es) 2048) s z _ (omega arith, omega arith) tt))

  arrays_numbered : (n : ℕ) (after : Bool) (before at : ℕ) → FileNumbered (arrays n after before s at)
  unfolding arrays
  arrays_numbered zero after before at = tt
  arrays_numbered (suc n) after before at =
      numbered_then (array after before s at) _ (array_numbered after before at) λ x y.
      numbered_then (arrays n (local x) (before + cells x.extents) s y) _ (arrays_numbered n (local x) (before + cells x.extents) y) λ xs z. tt

  tables_numbered : (at : ℕ) → FileNumbered (tables s at)
  unfolding tables
  tables_numbered at =
      numbered_then (head s at) _ (head_numbered at) λ version x.
      numbered_then (operators version s x) _ (operators_numbered version x) λ ops y.
      numbered_then (byte s y) _ (byte_numbered y) λ n z.
      numbered_ask 7 y (within 1 16 n) s z _ (omega arith, omega arith) (numbered_then (arrays n false 0 s z) _ (arrays_numbered n false 0 z) λ xs w. tt)

  form_numbered : (loops at : ℕ) → FileNumbered (form loops s at)
  unfolding form
  form_numbered loops at = numbered_then (i16 s at) _ (i16_numbered at) λ z x. numbered_then (times [] ◌∷◌ i8 loops s x) _ (times_numbered [] ◌∷◌ i8 i8_numbered loops x) λ l y. tt

  index_numbered : (n at : ℕ) → FileNumbered (index n s at)
  unfolding index
  index_numbered n at = numbered_then (byte s at) _ (byte_numbered at) λ x y. numbered_ask 10 at (ltb x n) s y _ (omega arith, omega arith) tt

  step_numbered : (at : ℕ) → FileNumbered (step s at)
  step_numbered at = go (i16 s at) refl (i16_numbered at)
    where
      go : (m : Outcome ℤ) → i16 s at ≡ m → FileNumbered m → FileNumbered (step s at)
      go (got (pos zero) n) e h = subst FileNumbered (step-zero s at (sym e)) (omega arith, omega arith)
      go (got (pos (suc k)) n) e h = subst FileNumbered (step_is s at (pos (suc k)) (sym e) (λ w. let z : ◌≡◌ {A = ℕ} 0 1 = cc in omega arith)) tt
      go (got (negsuc k) n) e h = subst FileNumbered (step_is s at (negsuc k) (sym e) (λ w. let z : ◌≡◌ {A = ℕ} 0 1 = cc in omega arith)) tt
      go (no k p) e h = subst FileNumbered (step_no s at e) h

  module _ (t : Tables) (loops : ℕ) where
    subscripts_numbered : (a at : ℕ) → FileNumbered (subscripts t loops a s at)
    unfolding subscripts
    subscripts_numbered a at = times_numbered [] ◌∷◌ (form loops) (form_numbered loops) (length (array_at t.arrays a).extents) at

    leaf_numbered : (at : ℕ) → FileNumbered (read_of t loops s at)
    unfolding read_of
    leaf_numbered at =
        numbered_then (index (length t.arrays) s at) _ (index_numbered (length t.arrays) at) λ a x.
        numbered_then (subscripts t loops a s x) _ (subscripts_numbered a x) λ fs y. tt

    literal_numbered : (at : ℕ) → FileNumbered (literal_of t loops s at)
    unfolding literal_of
    literal_numbered at = numbered_then (form loops s at) _ (form_numbered loops at) λ f y. tt

    constant_numbered : (at : ℕ) → FileNumbered (constant_of t loops s at)
    unfolding constant_of u32
    constant_numbered at = numbered_then (field 4 s at) _ (field_numbered 4 at) λ f y. tt

    node_numbered : (ap : ℕ → Reader Expr) → ((p at : ℕ) → FileNumbered (ap p s at)) → (at : ℕ) → FileNumbered (node t loops ap s at)
    unfolding node
    node_numbered ap h at =
        numbered_then (byte s at) _ (byte_numbered at) λ code next.
        numbered_choice (eqb code 0x10) (read_of t loops) _ s next (leaf_numbered next)
        (numbered_choice (eqb code 0x11) (ap at) _ s next (h at next)
        (numbered_choice (eqb code 0x12) (literal_of t loops) _ s next (literal_numbered next)
        (numbered_choice (eqb code 0x13) (constant_of t loops) (refuse 9 at) s next (constant_numbered next) (omega arith, omega arith))))

    applied_numbered : (left p at : ℕ) → FileNumbered (applied t loops left p s at)
    unfolding applied apply_of
    applied_numbered zero p at = (omega arith, omega arith)
    applied_numbered (suc left) p at =
        numbered_then (index (length t.operators) s at) _ (index_numbered (length t.operators) at) λ o x.
        numbered_then (times none more (node t loops (applied t loops left)) (arity_at t.operators o) s x) _
        (times_numbered none more (node t loops (applied t loops left)) (node_numbered (applied t loops left) (applied_numbered left)) (arity_at t.operators o) x) λ es y. tt

    statement_numbered : (p at : ℕ) → FileNumbered (statement_of t loops p s at)
    unfolding statement_of expression
    statement_numbered p at =
        numbered_then (index (length t.arrays) s at) _ (index_numbered (length t.arrays) at) λ a x.
        numbered_ask 13 at (not (eqb (array_at t.arrays a).role 0)) s x _ (omega arith, omega arith)
        (numbered_then (subscripts t loops a s x) _ (subscripts_numbered a x) λ fs y.
        numbered_then (node t loops (applied t loops 12) s y) _ (node_numbered (applied t loops 12) (applied_numbered 12) y) λ e z. tt)

  items_numbered : (one : ℕ → ℕ → Reader Item) → ((code p at : ℕ) → FileNumbered (one code p s at)) → (most at : ℕ) → FileNumbered (items one most s at)
  unfolding items
  items_numbered one h zero at = (omega arith, omega arith)
  items_numbered one h (suc most) at =
      numbered_then (byte s at) _ (byte_numbered at) λ code next.
      go code next (λ y. items_numbered one h most y) (eqb code 0)
    where
      go : (code next : ℕ) → ((y : ℕ) → FileNumbered (items one most s y)) → (b : Bool) → FileNumbered ((if b then give end else (λ (s : List ℕ) (x : ℕ). and_then (one code at s x) (λ i y. and_then (items one most s y) (λ is z. got (item i is) z)))) s next)
      go code next f true = tt
      go code next f false = numbered_then (one code at s next) _ (h code at next) λ i y. numbered_then (items one most s y) _ (f y) λ is z. tt

  module _ (t : Tables) (most : ℕ) where
    item_numbered : (loops : ℕ) (inner : ℕ → ℕ → Reader Item) → ((code p at : ℕ) → FileNumbered (inner code p s at)) → (code p at : ℕ) → FileNumbered (item_of t most inner loops code p s at)
    unfolding item_of
    item_numbered loops inner h code p at =
        numbered_choice (eqb code 1) (statement_of t loops p) _ s at (statement_numbered t loops p at)
        (numbered_choice (eqb code 2 || eqb code 3) (inner code p) (refuse 9 p) s at (h code p at) (omega arith, omega arith))

    nested_numbered : (left loops code p at : ℕ) → FileNumbered (nested t most left loops code p s at)
    unfolding nested loop_of guard_of
    nested_numbered zero loops code p at = (omega arith, omega arith)
    nested_numbered (suc left) loops code p at =
        let one : ℕ → ℕ → Reader Item = item_of t most (nested t most left (suc loops)) (suc loops) in
        let two : ℕ → ℕ → Reader Item = item_of t most (nested t most left loops) loops in
        numbered_choice (eqb code 2) (loop_of loops (items one most) p) (guard_of loops (items two most) p) s at
        (numbered_then (form loops s at) _ (form_numbered loops at) λ f x.
        numbered_then (form loops s x) _ (form_numbered loops x) λ g y.
        numbered_then (step s y) _ (step_numbered y) λ z w.
        numbered_then (items one most s w) _ (items_numbered one (item_numbered (suc loops) (nested t most left (suc loops)) (nested_numbered left (suc loops))) most w) λ is v. tt)
        (numbered_then (form loops s at) _ (form_numbered loops at) λ f x.
        numbered_then (items two most s x) _ (items_numbered two (item_numbered loops (nested t most left loops) (nested_numbered left loops)) most x) λ is v. tt)

    body_numbered : (left loops at : ℕ) → FileNumbered (body t most left loops s at)
    unfolding body
    body_numbered left loops at =
        items_numbered (item_of t most (nested t most left loops) loops) (item_numbered loops (nested t most left loops) (nested_numbered left loops)) most at

  program_numbered : (at : ℕ) → FileNumbered (program s at)
  unfolding program
  program_numbered at =
      numbered_then (tables s at) _ (tables_numbered at) λ t x.
      numbered_then (body t (length s) 8 0 s x) _ (body_numbered t (length s) 8 0 x) λ is y.
      numbered_ask 14 y (eqb y (length s)) s y _ (omega arith, omega arith) tt

  -- whatever the bytes are
  pub file_numbered : FileNumbered (read_program s)
  unfolding read_program
  file_numbered = go (leb (length s) 16384)
    where
      go : (b : Bool) → FileNumbered (if b then program s 0 else no 2 0)
      go true = program_numbered 0
      go false = (omega arith, omega arith)
