-- The file reads back, is the only one, in the lowest version; 28 names the first update that does not fit.
use Rattle.std.specs.Prelude.{if◌then◌else◌}
use mathlib.Core.Path.{◌≡◌, refl, sym, ap, ap₂, subst, ◌∙◌}
use Prim.Native.Nat.{ℕ, suc, ◌≤◌}
use mathlib.Core.List.{List, [], ◌∷◌, ◌++◌, append_assoc}
use mathlib.Core.Bool.{Bool, true, false, ◌&&◌, ◌||◌, not, false≢true, true≢false}
use native.Mathlib.Omega.{arith}
use lib.ListN.{length, length-append}
use lib.Dec.{leb, eqb}
use borrow.Author.Tests.{le-leb, leb-true, eq-eqb, eqb-true}
use Rattle.model.specs.Test.{within, every}
use Rattle.model.specs.Tables.{Array, Tables, swaps, operator_in, operator_byte}
use Rattle.model.specs.Update.{Update, Listed}
use Rattle.model.proofs.Operators.{marked_out}
use Rattle.reader.specs.Field.{Bytes, Outcome, got, no}
use Rattle.reader.specs.Syntax.{Items, Program}
use Rattle.reader.specs.Grammar.{tables, items, item_of, nested, body, program, read_program}
use Rattle.reader.proofs.Binds.{read_by, asked_by, not-got, got_so}
use Rattle.unroller.specs.Run.{ok, Done, runs, nothing, run_program}
use Rattle.unroller.specs.Allowed.{allowed}
use Rattle.unroller.specs.Unroll.{unrolled}
use Rattle.unroller.proofs.Parts.{both, join, within_low, list-parts}
use Rattle.unroller.proofs.Runs.{unrolls}
use Rattle.writer.specs.File.{little_bytes, in_row, update_bytes, table_bytes, file_in, version_of, file_of}
use Rattle.writer.specs.Write.{narrow_update, literals_fit, first_wide}
use Rattle.writer.specs.Claims.{straight, straight_by, plain, version_in, Plainly, FileReadBack, FileMarked, FileOnlyIn, FileOnly, FileLowest, FirstIs, FileFirstWide}
use Rattle.writer.proofs.Stands.{Stands, stands-join, stands-split, stands-length, all_stands, stands_all}
use Rattle.writer.proofs.Rows.{tables_in_lem, tables-version, version_in_lem, tables_out}
use Rattle.writer.proofs.Bytewise.{file_bytes_lem}
use Rattle.writer.proofs.Items.{items_bytes, items_in, items_out}

-- each update takes a byte at least
row-long : (xs : List Array) (us : List Update) → length us ≤ length (in_row (update_bytes xs) us)
unfolding update_bytes
row-long xs [] = omega arith
row-long xs (u ∷ us) =
    let h = row-long xs us in
    let e = length-append (update_bytes xs u) (in_row (update_bytes xs) us) in
    omega arith

file-parts : (version : ℕ) (l : Listed) → file_in version l ≡ table_bytes version l.tables ++ items_bytes l.tables.arrays l.updates
unfolding file_in
file-parts version l = append_assoc (table_bytes version l.tables) (in_row (update_bytes l.tables.arrays) l.updates) (0 ∷ [])

module _ (s : List ℕ) where
  -- a program that was read, by its parts
  program_is : (t : Tables) (is : Items) (at : ℕ) → length s ≤ 16384 → tables s 0 ≡ got t at → items (item_of t (length s) (nested t (length s) 8 0) 0) (length s) s at ≡ got is (length s)
      → read_program s ≡ got (record { tables = t; items = is }) (length s)
  unfolding read_program program body
  program_is t is at h e f = rw (le-leb (length s) 16384 h, e, f, eq-eqb (length s) (length s) refl)

  program_by : {P : Type 0} (p : Program) (next : ℕ) → read_program s ≡ got p next
      → ((at : ℕ) → length s ≤ 16384 → tables s 0 ≡ got p.tables at → items (item_of p.tables (length s) (nested p.tables (length s) 8 0) 0) (length s) s at ≡ got p.items (length s) → P) → P
  unfolding read_program program body
  program_by {P} p next e k = go (leb (length s) 16384) refl e
    where
      go : (b : Bool) → leb (length s) 16384 ≡ b → ◌≡◌ {A = Outcome Program} (if b then program s 0 else no 2 0) (got p next) → P
      go true q r =
          read_by (tables s 0) _ r λ t at1 e1 r1.
          read_by (items (item_of t (length s) (nested t (length s) 8 0) 0) (length s) s at1) _ r1 λ is at2 e2 r2.
          asked_by 14 at2 (eqb at2 (length s)) s at2 _ r2 λ w r3.
          got_so (λ p next. ((at : ℕ) → length s ≤ 16384 → tables s 0 ≡ got p.tables at → items (item_of p.tables (length s) (nested p.tables (length s) 8 0) 0) (length s) s at ≡ got p.items (length s) → P) → P) r3
          (λ k. k at1 (leb-true (length s) 16384 q) e1 (e2 ∙ ap (got is) (eqb-true at2 (length s) w))) k
      go false q r = not-got r

  unrolled_is : (l : Listed) (p : Program) (next : ℕ) (d : Done) → read_program s ≡ got p next → runs p.items p.tables [] nothing ≡ ok d → p.tables ≡ l.tables → d.updates ≡ l.updates → unrolled s ≡ ok l
  unfolding unrolled run_program
  unrolled_is l p next d e r f g = rw (e, r, f, g)

  plain_is : (p : Program) (next : ℕ) → read_program s ≡ got p next → straight p.items ≡ true → plain s ≡ true
  unfolding plain
  plain_is p next e h = rw e h

  plain_by : (p : Program) (next : ℕ) → read_program s ≡ got p next → plain s ≡ true → straight p.items ≡ true
  unfolding plain
  plain_by p next e h = sym (ap straight_by e) ∙ h

  -- a file of either version, for a list that it can hold
  pub reads-back : (version : ℕ) (l : Listed) → allowed l ≡ true → literals_fit l ≡ true → within 1 2 version ≡ true → every (operator_in version) l.tables.operators ≡ true → length s ≤ 16384
      → Stands s 0 (file_in version l) (length s) → Plainly l s × (version_in s ≡ version)
  unfolding literals_fit
  reads-back version l a w v ops few st =
      let p = list-parts l a in
      let t = l.tables in
      let xs = t.arrays in
      let us = l.updates in
      stands-split s (table_bytes version t) (items_bytes xs us) 0 (length s) (subst (λ (b : List ℕ). Stands s 0 b (length s)) (file-parts version l) st) λ at g m.
      let long = stands-length s (items_bytes xs us) at (length s) m in
      let row = row-long xs us in
      let both = length-append (in_row (update_bytes xs) us) (0 ∷ []) in
      let e1 = tables_in_lem s version t 0 at p.tables-allowed v ops g in
      let b = items_in t p.tables-allowed.each s (length s) (nested t (length s) 8 0) us (length s) at (length s) (omega arith) p.each w m in
      let e2 = program_is t b.source at few e1 b.is_read in
      let r = b.ran nothing (let h = p.few in omega arith) (let h = p.small in omega arith) p.reads in (
        record {
          unrolls = unrolled_is l (record { tables = t; items = b.source }) (length s) r.0 e2 r.1 refl r.2;
          no_loops = plain_is (record { tables = t; items = b.source }) (length s) e2 b.no_loops;
        },
        version_in_lem s version t at v g,
      )

  -- a file without loops and guards is the one of its version
  pub record Is (l : Listed) : Type 0 where
    pub same : s ≡ file_in (version_in s) l
    pub narrow : literals_fit l ≡ true
    pub short : length s ≤ 16384

  pub is_only : Bytes s → (l : Listed) → Plainly l s → Is l
  unfolding literals_fit run_program
  is_only b l f =
      let u = unrolls s l f.unrolls in
      let p = u.source in
      let t = p.tables in
      program_by p u.next u.is_read λ at few e1 e2.
      let st = plain_by p u.next u.is_read f.no_loops in
      let o = items_out t s b (length s) (length s) at p.items (length s) e2 st nothing u.done u.ran in
      let g = stands-join s (table_bytes (version_in s) t) (items_bytes t.arrays o.0) 0 at (length s) (tables_out s b t at e1) o.1 in
      let made : Is (record { tables = t; updates = o.0 }) =
      record {
        same = stands_all s _ 0 g ∙ sym (file-parts (version_in s) (record { tables = t; updates = o.0 }));
        narrow = o.2;
        short = few;
      } in
      let same : ◌≡◌ {A = Listed} (record { tables = t; updates = o.0 }) l = ap₂ (λ (t : Tables) (us : List Update). record { tables = t; updates = us }) (sym u.tables) (sym (u.updates ∙ o.3)) in
      subst Is same made

-- the version, by its test
version_by : {P : Type 0} (l : Listed) → (every (operator_in 1) l.tables.operators ≡ true → version_of l ≡ 1 → P) → (every (operator_in 1) l.tables.operators ≡ false → version_of l ≡ 2 → P) → P
version_by {P} l one two = go (every (operator_in 1) l.tables.operators) refl
  where
    is_one : every (operator_in 1) l.tables.operators ≡ true → version_of l ≡ 1
    is_one e = unfold version_of in rw e

    is_two : every (operator_in 1) l.tables.operators ≡ false → version_of l ≡ 2
    is_two e = unfold version_of in rw e

    go : (b : Bool) → every (operator_in 1) l.tables.operators ≡ b → P
    go true e = one e (is_one e)
    go false e = two e (is_two e)

-- any allowed list stands in a file of the version that is chosen for it
chosen : (l : Listed) → allowed l ≡ true → (within 1 2 (version_of l) ≡ true) × (every (operator_in (version_of l)) l.tables.operators ≡ true)
chosen l a = version_by l (λ e v. rw v (refl, e)) (λ _ v. rw v (refl, (list-parts l a).tables-allowed.bytes))

pub read_back : FileReadBack
unfolding file_of
read_back l a w few =
    let c = chosen l a in
    let r = reads-back (file_in (version_of l) l) (version_of l) l a w c.0 c.1 few (all_stands (file_in (version_of l) l) (file_in (version_of l) l) 0 refl (omega arith)) in
    record { plainly = r.0; version = r.1; bytes = file_bytes_lem (version_of l) l a }

pub only_in : FileOnlyIn
only_in l bytes b f = (is_only bytes b l f).same

pub only : FileOnly
unfolding file_of
only l bytes b f v = only_in l bytes b f ∙ ap (λ (version : ℕ). file_in version l) v

-- a version 1 operator is one without a mark
unmarked_in : (b : ℕ) → operator_byte b ≡ true → operator_in 1 b ≡ not (swaps b)
unfolding operator_in
unmarked_in b e = go (within 1 4 b) refl (swaps b) refl e
  where
    go : (x : Bool) → within 1 4 b ≡ x → (y : Bool) → swaps b ≡ y → (x || y) ≡ true → (within 1 4 b || false) ≡ not (swaps b)
    go true p true q h = rw q (sym (marked_out 1 b q (λ v. omega arith)))
    go true p false q h = rw (p, q)
    go false p true q h = rw (p, q)
    go false p false q h = absurd (false≢true h)

pub marked : FileMarked
marked l a =
    let same = all l.tables.operators (list-parts l a).tables-allowed.bytes in
    version_by l (λ e v. v ∙ ap (λ (b : Bool). if b then 1 else 2) (sym e ∙ same)) (λ e v. v ∙ ap (λ (b : Bool). if b then 1 else 2) (sym e ∙ same))
  where
    all : (ops : List ℕ) → every operator_byte ops ≡ true → every (operator_in 1) ops ≡ every (λ b. not (swaps b)) ops
    all [] e = refl
    all (b ∷ ops) e = let p = both (operator_byte b) (every operator_byte ops) e in ap₂ ◌&&◌ (unmarked_in b p.0) (all ops p.1)

pub lowest : FileLowest
lowest l bytes e =
    let u = unrolls bytes l e in
    program_by bytes u.source u.next u.is_read λ at _ e1 _.
    let v = tables-version bytes u.source.tables at e1 in
    let ops = subst (λ (t : Tables). every (operator_in (version_in bytes)) t.operators ≡ true) (sym u.tables) v.1 in
    let low = within_low 1 2 (version_in bytes) v.0 in
    version_by l (λ _ one. omega arith) (λ q two. let n = not_one ops q in omega arith)
  where
    not_one : every (operator_in (version_in bytes)) l.tables.operators ≡ true → every (operator_in 1) l.tables.operators ≡ false → version_in bytes ≡ 1 → ⊥
    not_one ops q v = false≢true (sym q ∙ subst (λ (v : ℕ). every (operator_in v) l.tables.operators ≡ true) v ops)

-- the version changes no length
length_same : (v w : ℕ) (l : Listed) → length (file_in v l) ≡ length (file_in w l)
length_same v w l =
    let a = ap length (file-parts v l) in
    let b = ap length (file-parts w l) in
    let c = length-append (table_bytes v l.tables) (items_bytes l.tables.arrays l.updates) in
    let d = length-append (table_bytes w l.tables) (items_bytes l.tables.arrays l.updates) in
    let e = tables_same l.tables in
    omega arith
  where
    tables_same : (t : Tables) → length (table_bytes v t) ≡ length (table_bytes w t)
    tables_same t = unfold table_bytes little_bytes in refl

-- what a list that some file without loops and guards holds has
pub holdable : (l : Listed) (bytes : List ℕ) → Bytes bytes → Plainly l bytes → (literals_fit l ≡ true) × (length bytes ≤ 16384) × (length (file_of l) ≡ length bytes)
unfolding file_of
holdable l bytes b f =
    let i = is_only bytes b l f in
    (i.narrow, i.short, length_same (version_of l) (version_in bytes) l ∙ sym (ap length i.same))

-- the first that does not fit
first_is : (us : List Update) → every narrow_update us ≡ false → FirstIs us (first_wide us)
first_is [] e = absurd (true≢false e)
first_is (u ∷ us) e = go (narrow_update u) refl e (first_is us)
  where
    go : (b : Bool) → narrow_update u ≡ b → (b && every narrow_update us) ≡ false → (every narrow_update us ≡ false → FirstIs us (first_wide us)) → FirstIs (u ∷ us) (first_wide (u ∷ us))
    go true q f ih =
        let r = ih f in
        record {
          earlier = u ∷ r.earlier;
          own = r.own;
          later = r.later;
          split = ap (λ (l : List Update). u ∷ l) r.split;
          place_is = found q ∙ ap suc r.place_is;
          narrow = join (narrow_update u) (every narrow_update r.earlier) q r.narrow;
          wide = r.wide;
        }
      where
        found : narrow_update u ≡ true → first_wide (u ∷ us) ≡ suc (first_wide us)
        found q = unfold first_wide in rw q
    go false q f ih = record { earlier = []; own = u; later = us; split = refl; place_is = none q; narrow = refl; wide = q }
      where
        none : narrow_update u ≡ false → first_wide (u ∷ us) ≡ 0
        none q = unfold first_wide in rw q

pub first_wide_lem : FileFirstWide
unfolding literals_fit
first_wide_lem l e = first_is l.updates e
