-- What holds of every list that a program unrolls to: locals come last, and no unwritten out or local cell is read.
use Rattle.std.specs.Prelude.{if◌then◌else◌}
use Prim.Native.Nat.{ℕ, zero, suc, ◌+◌}
use mathlib.Core.Path.{◌≡◌, refl, sym, ap, ◌∙◌, subst}
use mathlib.Core.List.{List, [], ◌∷◌, ◌++◌, append_assoc, append-nil}
use mathlib.Core.Bool.{Bool, true, false, ◌&&◌, ◌||◌, not, and_assoc, and-true}
use lib.ListN.{length}
use lib.Dec.{leb, eqb}
use lib.IntN.{ℤ, pos}
use lib.Signed.{le_z}
use native.Mathlib.Omega.{arith}
use Rattle.model.specs.Test.{within}
use Rattle.model.specs.Tables.{Array, Tables, cells, local}
use Rattle.model.specs.Update.{Update, Listed}
use Rattle.reader.specs.Field.{Outcome, got, no, byte, times}
use Rattle.reader.specs.Syntax.{Form, Expr, Item, Items, Program, count}
use Rattle.reader.specs.Syntax.Item.{statement, loop, guard}
use Rattle.reader.specs.Syntax.Items.{end, item}
use Rattle.reader.specs.Grammar.{head, operators, extent, array, arrays, tables, body, program, read_program}
use Rattle.reader.proofs.Binds.{read_by, asked_by, got_is}
use Rattle.unroller.specs.Run.{Ran, ok, stop, ◌>>=◌, ask, value_at, cell_at, tree, readable, Done, fits16, update, indices, rounds, run, runs, nothing, run_program}
use Rattle.unroller.specs.Allowed.{locals_last, read_all}
use Rattle.unroller.specs.Unroll.{listed_by, unrolled_by, unrolled}
use Rattle.unroller.proofs.Parts.{both, join}

-- a bind that ends well: its first part did, and then the rest
pub run_by : {A B : Type 0} {P : Type 0} (m : Ran A) (f : A → Ran B) {b : B} → (m >>= f) ≡ ok b → ((a : A) → m ≡ ok a → f a ≡ ok b → P) → P
run_by (ok a) f e k = k a refl e
run_by (stop question place) f e k = absurd (let z : ◌≡◌ {A = ℕ} 0 1 = cc in omega arith)

pub ask_by : {B : Type 0} {P : Type 0} (question place : ℕ) (test : Bool) (f : ℕ → Ran B) {b : B} → (ask question place test >>= f) ≡ ok b → (test ≡ true → f 0 ≡ ok b → P) → P
ask_by question place true f e k = k refl e
ask_by question place false f e k = absurd (let z : ◌≡◌ {A = ℕ} 0 1 = cc in omega arith)

pub ok_is : {A : Type 0} (P : A → Type 0) {a b : A} → ◌≡◌ {A = Ran A} (ok a) (ok b) → P a → P b
ok_is P {a} {b} e p = let x : a ≡ b = cc in subst P x p

read_all_snoc : (xs : List Array) (us done : List Update) (u : Update) → read_all xs done (us ++ (u ∷ [])) ≡ (read_all xs done us && readable u.source xs (done ++ us))
read_all_snoc xs [] done u = and-true (readable u.source xs done) ∙ ap (readable u.source xs) (sym (append-nil done))
read_all_snoc xs (v ∷ us) done u =
    ap (λ (b : Bool). readable v.source xs done && b) (read_all_snoc xs us (done ++ (v ∷ [])) u ∙ ap (λ (l : List Update). read_all xs (done ++ (v ∷ [])) us && readable u.source xs l) (append_assoc done (v ∷ []) us))
    ∙ sym (and_assoc (readable v.source xs done) (read_all xs (done ++ (v ∷ [])) us) (readable u.source xs (done ++ (v ∷ us))))

module _ (t : Tables) where
  abbrev Good : Done → Type 0
  Good d = read_all t.arrays [] d.updates ≡ true

  update_good : (p : ℕ) (is : List ℤ) (a : ℕ) (fs : List Form) (e : Expr) (d : Done) {d' : Done} → Good d → update t p is a fs e d ≡ ok d' → Good d'
  unfolding update
  update_good p is a fs e d g r =
      ask_by 19 p (leb (length d.updates + 1) 2048) _ r λ _ r1.
      ask_by 20 p (leb (d.nodes + count e) 8192) _ r1 λ _ r2.
      run_by (cell_at t p is a fs) _ r2 λ c _ r3.
      run_by (tree e t p is) _ r3 λ x _ r4.
      ask_by 17 p (readable x t.arrays d.updates) _ r4 λ y r5.
      ok_is Good r5 (read_all_snoc t.arrays d.updates [] (record { array = a; target = c; source = x }) ∙ join (read_all t.arrays [] d.updates) (readable x t.arrays d.updates) g y)

  rounds_good : (is : List ℤ) (p : ℕ) (body : ℤ → Done → Ran Done) → ((i : ℤ) (d d' : Done) → Good d → body i d ≡ ok d' → Good d') → (d : Done) {d' : Done} → Good d → rounds is p body d ≡ ok d' → Good d'
  unfolding rounds
  rounds_good [] p body h d g r = ok_is Good r g
  rounds_good (i ∷ is) p body h d g r =
      ask_by 18 p (leb (d.rounds + 1) 65536) _ r λ _ r1.
      run_by (body i (record { rounds = d.rounds + 1; nodes = d.nodes; updates = d.updates })) _ r1 λ d1 e1 r2.
      rounds_good is p body h d1 (h i (record { rounds = d.rounds + 1; nodes = d.nodes; updates = d.updates }) d1 g e1) r2

  guarded : (b : Bool) (r : Ran Done) (d : Done) {d' : Done} → (r ≡ ok d' → Good d') → Good d → ◌≡◌ {A = Ran Done} (elim b as (λ b. Ran Done) [ true ↦ r | false ↦ ok d ]) (ok d') → Good d'
  guarded true r d f g e = f e
  guarded false r d f g e = ok_is Good e g

  mutual
    unfolding run runs

    run_good : (i : Item) (is : List ℤ) (d d' : Done) → Good d → run i t is d ≡ ok d' → Good d'
    run_good (statement p a fs e) is d d' g r = update_good p is a fs e d g r
    run_good (loop p s e step body) is d d' g r =
        ask_by 15 p (fits16 (value_at s is) && fits16 (value_at e is)) _ r λ _ r1.
        rounds_good (indices 65536 step (value_at e is) (value_at s is)) p (λ i d. runs body t (is ++ (i ∷ [])) d) (λ i d d' g r. runs_good body (is ++ (i ∷ [])) d d' g r) d g r1
    run_good (guard p f body) is d d' g r = guarded (le_z (pos 0) (value_at f is)) (runs body t is d) d (λ e. runs_good body is d d' g e) g r

    runs_good : (is : Items) (js : List ℤ) (d d' : Done) → Good d → runs is t js d ≡ ok d' → Good d'
    runs_good end js d d' g r = ok_is Good r g
    runs_good (item i rest) js d d' g r =
        run_by (run i t js d) _ r λ d1 e1 r1.
        runs_good rest js d1 d' (run_good i js d d1 g e1) r1

array-fits : (after : Bool) (before : ℕ) (s : List ℕ) (at : ℕ) {x : Array} {next : ℕ} → array after before s at ≡ got x next → (not after || local x) ≡ true
unfolding array
array-fits after before s at e =
    read_by (byte s at) _ e λ role at1 _ r1.
    asked_by 7 at (leb role 3 && (not after || eqb role 3)) s at1 _ r1 λ q r2.
    read_by (byte s at1) _ r2 λ dimensions at2 _ r3.
    asked_by 7 at1 (within 1 3 dimensions) s at2 _ r3 λ _ r4.
    read_by (times [] ◌∷◌ extent dimensions s at2) _ r4 λ es at3 _ r5.
    asked_by 8 at (leb (before + cells es) 2048) s at3 _ r5 λ _ r6.
    got_is (λ x. (not after || local x) ≡ true) r6 (both (leb role 3) (not after || eqb role 3) q).1

arrays_last : (n : ℕ) (after : Bool) (before : ℕ) (s : List ℕ) (at : ℕ) {xs : List Array} {next : ℕ} → arrays n after before s at ≡ got xs next → locals_last after xs ≡ true
unfolding arrays
arrays_last zero after before s at e = got_is (λ xs. locals_last after xs ≡ true) {n = at} e refl
arrays_last (suc n) after before s at e =
    read_by (array after before s at) _ e λ x at1 e1 r1.
    read_by (arrays n (local x) (before + cells x.extents) s at1) _ r1 λ xs at2 e2 r2.
    got_is (λ xs. locals_last after xs ≡ true) r2
    (join (not after || local x) (locals_last (local x) xs) (array-fits after before s at e1) (arrays_last n (local x) (before + cells x.extents) s at1 e2))

tables_last : (s : List ℕ) (at : ℕ) {t : Tables} {next : ℕ} → tables s at ≡ got t next → locals_last false t.arrays ≡ true
unfolding tables
tables_last s at e =
    read_by (head s at) _ e λ version at1 _ r1.
    read_by (operators version s at1) _ r1 λ ops at2 _ r2.
    read_by (byte s at2) _ r2 λ n at3 _ r3.
    asked_by 7 at2 (within 1 16 n) s at3 _ r3 λ _ r4.
    read_by (arrays n false 0 s at3) _ r4 λ xs at4 e4 r5.
    got_is (λ t. locals_last false t.arrays ≡ true) r5 (arrays_last n false 0 s at3 e4)

program_last : (s : List ℕ) {p : Program} {next : ℕ} → read_program s ≡ got p next → locals_last false p.tables.arrays ≡ true
unfolding read_program program
program_last s {p} {next} e = go (leb (length s) 16384) e
  where
    go : (b : Bool) → ◌≡◌ {A = Outcome Program} (if b then program s 0 else no 2 0) (got p next) → locals_last false p.tables.arrays ≡ true
    go true e =
        read_by (tables s 0) _ e λ t at1 e1 r1.
        read_by (body t (length s) 8 0 s at1) _ r1 λ is at2 _ r2.
        asked_by 14 at2 (eqb at2 (length s)) s at2 _ r2 λ _ r3.
        got_is (λ p. locals_last false p.tables.arrays ≡ true) r3 (tables_last s 0 e1)
    go false e = absurd (let z : ◌≡◌ {A = ℕ} 0 1 = cc in omega arith)

-- a program that unrolls to a list was read and has run
pub record Unrolls (bytes : List ℕ) (l : Listed) : Type 0 where
  pub source : Program
  pub next : ℕ
  pub done : Done
  pub is_read : read_program bytes ≡ got source next
  pub ran : run_program source ≡ ok done
  pub tables : l.tables ≡ source.tables
  pub updates : l.updates ≡ done.updates

pub unrolls : (bytes : List ℕ) (l : Listed) → unrolled bytes ≡ ok l → Unrolls bytes l
unfolding unrolled
unrolls bytes l e = go (read_program bytes) refl e
  where
    ran : (p : Program) (next : ℕ) → read_program bytes ≡ got p next → (r : Ran Done) → run_program p ≡ r → listed_by p.tables r ≡ ok l → Unrolls bytes l
    ran p next q (ok d) f e =
        let x : ◌≡◌ {A = Listed} (record { tables = p.tables; updates = d.updates }) l = cc in
        record { source = p; next = next; done = d; is_read = q; ran = f; tables = sym (ap (λ (l : Listed). l.tables) x); updates = sym (ap (λ (l : Listed). l.updates) x) }
    ran p next q (stop question place) f e = absurd (let z : ◌≡◌ {A = ℕ} 0 1 = cc in omega arith)

    go : (o : Outcome Program) → read_program bytes ≡ o → unrolled_by o ≡ ok l → Unrolls bytes l
    go (got p next) q e = ran p next q (run_program p) refl e
    go (no question place) q e = absurd (let z : ◌≡◌ {A = ℕ} 0 1 = cc in omega arith)

pub unrolled_last : (bytes : List ℕ) (l : Listed) → unrolled bytes ≡ ok l → locals_last false l.tables.arrays ≡ true
unrolled_last bytes l e = let u = unrolls bytes l e in rw u.tables (program_last bytes u.is_read)

pub unrolled-reads : (bytes : List ℕ) (l : Listed) → unrolled bytes ≡ ok l → read_all l.tables.arrays [] l.updates ≡ true
unfolding run_program
unrolled-reads bytes l e = go (unrolls bytes l e)
  where
    go : Unrolls bytes l → read_all l.tables.arrays [] l.updates ≡ true
    go u = rw (u.tables, u.updates) (runs_good u.source.tables u.source.items [] nothing u.done refl u.ran)
