-- Every list that a program unrolls to is allowed, so its layout is accepted.
use Rattle.std.specs.Prelude.{if◌then◌else◌}
use Prim.Native.Nat.{ℕ, zero, suc, ◌+◌, ◌*◌, ◌≤◌, ◌<◌}
use native.Mathlib.Omega.{arith}
use native.Mathlib.Nat.{mul-le-mul_right, add-mul, mul_assoc}
use mathlib.Core.Path.{◌≡◌, refl, sym, ap, ap₂, ◌∙◌, subst}
use mathlib.Core.List.{List, [], ◌∷◌, ◌++◌}
use mathlib.Core.Bool.{Bool, true, false, ◌&&◌, ◌||◌, not}
use lib.ListN.{length, length-append}
use lib.Dec.{leb, ltb, eqb}
use lib.IntN.{ℤ, pos, negsuc}
use lib.Signed.{le_z}
use borrow.Author.Tests.{leb-true, ltb-true, le-leb, lt-ltb}
use Rattle.model.specs.Test.{within, every}
use Rattle.model.specs.Tables.{Array, Tables, cells, array_at, local, inside, operator_in, operator_byte, arity_at}
use Rattle.model.specs.Update.{Tree, Trees, Update, Listed, size, sizes, nodes}
use Rattle.model.specs.Update.Tree.{cell, number, constant, operator}
use Rattle.model.specs.Update.Trees.{nil, cons}
use Rattle.reader.specs.Field.{Bytes, Outcome, got, no, Reader, give, refuse, little_endian, field, byte, u16, u32, i8, i16, times}
use Rattle.reader.specs.Syntax.{Form, Expr, Exprs, Item, Items, Program, count, counts}
use Rattle.reader.specs.Syntax.Expr.{read, apply, literal, named}
use Rattle.reader.specs.Syntax.Exprs.{none, more}
use Rattle.reader.specs.Syntax.Item.{statement, loop, guard}
use Rattle.reader.specs.Syntax.Items.{end, item}
use Rattle.unroller.specs.Run.{Ran, ok, value_at, in_extent, cell_from, cell_at, tree, trees, readable, Done, fits16, update, indices, rounds, run, runs, nothing, run_program}
use Rattle.unroller.specs.Allowed.{locals_last, allowed_array, proper, propers, may_write, allowed_update, allowed}
use Rattle.unroller.specs.Unroll.{unrolled}
use Rattle.unroller.specs.Fits.{fits8, narrow}
use Rattle.unroller.proofs.Parts.{both, join, array_whole, room, TablesParts, list-whole, nodes_snoc}
use Rattle.model.proofs.Operators.{in_version}
use Rattle.reader.proofs.Binds.{read_by, asked_by, choose_by, got_is}
use Rattle.reader.specs.Grammar.{head, operator_of, operators, extent, array, arrays, tables, form, subscripts, index, read_of, literal_of, constant_of, apply_of, node, applied, expression, statement_of, loop_of, guard_of, step, items, item_of, nested, body, program, read_program}
use Rattle.unroller.proofs.Fits.{indices_fit, forms_fit, fits8-to_z, fits16-to_z}
use Rattle.unroller.proofs.Runs.{run_by, ask_by, ok_is, Unrolls, unrolls, unrolled-reads}

-- what may be known of a name: that it has 32 bits, or nothing
abbrev Word : ℕ → Type 0
Word n = n < 4294967296

abbrev pub Any : ℕ → Type 0
Any n = Unit {0}

-- What an expression of an accepted file has: declared arrays and operators, narrow forms, as many subscripts as extents, as many arguments as the arity.
-- Name: what is known of a constant's name.
module _ (Name : ℕ → Type 0) where
  unfoldable mutual
    pub Sound : Expr → Tables → ℕ → Type 0
    Sound (read a fs) t left = (length fs ≡ length (array_at t.arrays a).extents) × (every narrow fs ≡ true)
    Sound (apply o es) t zero = ⊥
    Sound (apply o es) t (suc left) = (o < length t.operators) × SoundAll es t left (arity_at t.operators o)
    Sound (literal f) t left = narrow f ≡ true
    Sound (named n) t left = Name n

    pub SoundAll : Exprs → Tables → ℕ → ℕ → Type 0
    SoundAll none t left zero = Unit {0}
    SoundAll none t left (suc n) = ⊥
    SoundAll (more e es) t left zero = ⊥
    SoundAll (more e es) t left (suc n) = Sound e t left × SoundAll es t left n

  unfoldable mutual
    pub SoundItem : Item → Tables → Type 0
    SoundItem (statement p a fs e) t = (length fs ≡ length (array_at t.arrays a).extents) × (every narrow fs ≡ true) × (not (eqb (array_at t.arrays a).role 0) ≡ true) × Sound e t 12
    SoundItem (loop p s e step body) t = (narrow s ≡ true) × (narrow e ≡ true) × SoundItems body t
    SoundItem (guard p f body) t = (narrow f ≡ true) × SoundItems body t

    pub SoundItems : Items → Tables → Type 0
    SoundItems end t = Unit {0}
    SoundItems (item i rest) t = SoundItem i t × SoundItems rest t

extent-below : (p e : ℕ) (v : ℤ) {k : ℕ} → in_extent p e v ≡ ok k → k < e
extent-below p e (pos v) r = ask_by 16 p (ltb v e) _ r λ h r1. ok_is (λ k. k < e) r1 (ltb-true v e h)
extent-below p e (negsuc v) r = absurd (let z : ◌≡◌ {A = ℕ} 0 1 = cc in omega arith)

-- a cell number lies inside its extents
pub cell-inside : (p : ℕ) (is : List ℤ) (n : ℕ) (es : List ℕ) (fs : List Form) {c : ℕ} → length fs ≡ length es → cell_from p is n es fs ≡ ok c → c < n * cells es + cells es
unfolding cell_from
cell-inside p is n [] [] l e = ok_is (λ c. c < n * 1 + 1) e (omega arith)
cell-inside p is n [] (f ∷ fs) l e = absurd (omega arith)
cell-inside p is n (e ∷ es) [] l r = absurd (omega arith)
cell-inside p is n (e ∷ es) (f ∷ fs) {c} l r =
    run_by (in_extent p e (value_at f is)) _ r λ k e1 r1.
    widen k (extent-below p e (value_at f is) e1) (cell-inside p is (n * e + k) es fs (omega arith) r1)
  where
    widen : (k : ℕ) → k < e → c < (n * e + k) * cells es + cells es → c < n * (e * cells es) + e * cells es
    widen k h q =
        let m : (k + 1) * cells es ≤ e * cells es = mul-le-mul_right (cells es) (omega arith) in
        let a : (n * e + k) * cells es ≡ n * e * cells es + k * cells es = add-mul (n * e) k (cells es) in
        let b : (k + 1) * cells es ≡ k * cells es + 1 * cells es = add-mul k 1 (cells es) in
        let d : n * e * cells es ≡ n * (e * cells es) = mul_assoc n e (cells es) in
        omega arith

pub cell_at-inside : (t : Tables) (p : ℕ) (is : List ℤ) (a : ℕ) (fs : List Form) {c : ℕ} → length fs ≡ length (array_at t.arrays a).extents → cell_at t p is a fs ≡ ok c → inside t.arrays a c ≡ true
unfolding cell_at
cell_at-inside t p is a fs {c} l e = lt-ltb c (cells (array_at t.arrays a).extents) (let h = cell-inside p is 0 (array_at t.arrays a).extents fs l e in omega arith)

-- the cells of a tree are declared
unfoldable mutual
  pub Declared : Tree → Tables → Type 0
  Declared (cell a c) t = inside t.arrays a c ≡ true
  Declared (number z) t = Unit {0}
  Declared (constant n) t = Unit {0}
  Declared (operator o ts) t = DeclaredAll ts t

  pub DeclaredAll : Trees → Tables → Type 0
  DeclaredAll nil t = Unit {0}
  DeclaredAll (cons x xs) t = Declared x t × DeclaredAll xs t

-- those of a tree that an expression gives, whatever the index values are
module _ (Name : ℕ → Type 0) (t : Tables) (p : ℕ) (is : List ℤ) where
  mutual
    unfolding tree trees Sound SoundAll Declared DeclaredAll

    pub tree-declared : (e : Expr) (left : ℕ) (x : Tree) → Sound Name e t left → tree e t p is ≡ ok x → Declared x t
    tree-declared (read a fs) left x s r =
        run_by (cell_at t p is a fs) _ r λ c e1 r1.
        ok_is (λ x. Declared x t) r1 (cell_at-inside t p is a fs s.0 e1)
    tree-declared (apply o es) zero x s r = absurd s
    tree-declared (apply o es) (suc left) x s r =
        run_by (trees es t p is) _ r λ xs e1 r1.
        ok_is (λ x. Declared x t) r1 (trees-declared es left (arity_at t.operators o) xs s.1 e1)
    tree-declared (literal f) left x s r = ok_is (λ x. Declared x t) r tt
    tree-declared (named n) left x s r = ok_is (λ x. Declared x t) r tt

    trees-declared : (es : Exprs) (left m : ℕ) (xs : Trees) → SoundAll Name es t left m → trees es t p is ≡ ok xs → DeclaredAll xs t
    trees-declared none left m xs s r = ok_is (λ xs. DeclaredAll xs t) r tt
    trees-declared (more e es) left zero xs s r = absurd s
    trees-declared (more e es) left (suc m) xs s r =
        run_by (tree e t p is) _ r λ x e1 r1.
        run_by (trees es t p is) _ r1 λ ys e2 r2.
        ok_is (λ xs. DeclaredAll xs t) r2 (tree-declared e left x s.0 e1, trees-declared es left m ys s.1 e2)

-- a tree that an expression gives at index values of 16 signed bits is proper, and as large as the expression
module _ (t : Tables) (p : ℕ) (is : List ℤ) (fit : every fits16 is ≡ true) where
  abbrev Proper : ℕ → ℕ → Tree → Type 0
  Proper left n x = (proper x t left ≡ true) × (size x ≡ n)

  abbrev Propers : ℕ → ℕ → ℕ → Trees → Type 0
  Propers left m n xs = (propers xs t left m ≡ true) × (sizes xs ≡ n)

  mutual
    unfolding tree trees Sound SoundAll proper propers size sizes count counts

    pub tree-proper : (e : Expr) (left : ℕ) (x : Tree) → Sound Word e t left → tree e t p is ≡ ok x → Proper left (count e) x
    tree-proper (read a fs) left x s r =
        run_by (cell_at t p is a fs) _ r λ c e1 r1.
        ok_is (Proper left 1) r1 (cell_at-inside t p is a fs s.0 e1, refl)
    tree-proper (apply o es) zero x s r = absurd s
    tree-proper (apply o es) (suc left) x s r =
        run_by (trees es t p is) _ r λ xs e1 r1.
        let q = trees-proper es left (arity_at t.operators o) xs s.1 e1 in
        ok_is (Proper (suc left) (suc (counts es))) r1 (join (ltb o (length t.operators)) (propers xs t left (arity_at t.operators o)) (lt-ltb o (length t.operators) s.0) q.0, ap suc q.1)
    tree-proper (literal f) left x s r = ok_is (Proper left 1) r (forms_fit f is s fit, refl)
    tree-proper (named n) left x s r = ok_is (Proper left 1) r (lt-ltb n 4294967296 s, refl)

    pub trees-proper : (es : Exprs) (left m : ℕ) (xs : Trees) → SoundAll Word es t left m → trees es t p is ≡ ok xs → Propers left m (counts es) xs
    trees-proper none left zero xs s r = ok_is (Propers left 0 0) r (refl, refl)
    trees-proper none left (suc m) xs s r = absurd s
    trees-proper (more e es) left zero xs s r = absurd s
    trees-proper (more e es) left (suc m) xs s r =
        run_by (tree e t p is) _ r λ x e1 r1.
        run_by (trees es t p is) _ r1 λ ys e2 r2.
        let a = tree-proper e left x s.0 e1 in
        let b = trees-proper es left m ys s.1 e2 in
        ok_is (Propers left (suc m) (count e + counts es)) r2 (join (proper x t left) (propers ys t left m) a.0 b.0, ap₂ ◌+◌ a.1 b.1)

pub every_snoc : {A : Type 0} (f : A → Bool) (l : List A) (x : A) → every f l ≡ true → f x ≡ true → every f (l ++ (x ∷ [])) ≡ true
every_snoc f [] x e h = join (f x) true h refl
every_snoc f (y ∷ l) x e h = let q = both (f y) (every f l) e in join (f y) (every f (l ++ (x ∷ []))) q.0 (every_snoc f l x q.1 h)

-- what the run keeps of the updates so far
module _ (t : Tables) where
  pub record Kept (d : Done) : Type 0 where
    pub few : length d.updates ≤ 2048
    pub counted : nodes d.updates ≡ d.nodes
    pub small : d.nodes ≤ 8192
    pub each : every (allowed_update t) d.updates ≡ true

  update-kept : (p : ℕ) (is : List ℤ) (a : ℕ) (fs : List Form) (e : Expr) (d : Done) {d' : Done} → every fits16 is ≡ true → SoundItem Word (statement p a fs e) t → Kept d → update t p is a fs e d ≡ ok d' → Kept d'
  unfolding update SoundItem may_write allowed_update
  update-kept p is a fs e d fit s k r =
      ask_by 19 p (leb (length d.updates + 1) 2048) _ r λ h r1.
      ask_by 20 p (leb (d.nodes + count e) 8192) _ r1 λ g r2.
      run_by (cell_at t p is a fs) _ r2 λ c e3 r3.
      run_by (tree e t p is) _ r3 λ x e4 r4.
      ask_by 17 p (readable x t.arrays d.updates) _ r4 λ _ r5.
      let u : Update = record { array = a; target = c; source = x } in
      let q = tree-proper t p is fit e 12 x s.3 e4 in
      let l = length-append d.updates (u ∷ []) in
      let n = nodes_snoc d.updates u in
      let w : may_write t.arrays a c ≡ true = join (inside t.arrays a c) (not (eqb (array_at t.arrays a).role 0)) (cell_at-inside t p is a fs s.0 e3) s.2 in
      let b : allowed_update t u ≡ true = join (may_write t.arrays a c) (proper x t 12) w q.0 in
      ok_is Kept r5 (record {
        few = (let v = leb-true (length d.updates + 1) 2048 h in omega arith);
        counted = n ∙ ap₂ ◌+◌ k.counted q.1;
        small = leb-true (d.nodes + count e) 8192 g;
        each = every_snoc (allowed_update t) d.updates u k.each b;
      })

  rounds-kept : (is : List ℤ) (p : ℕ) (body : ℤ → Done → Ran Done) → ((i : ℤ) (d d' : Done) → fits16 i ≡ true → Kept d → body i d ≡ ok d' → Kept d') → every fits16 is ≡ true → (d : Done) {d' : Done} → Kept d → rounds is p body d ≡ ok d' → Kept d'
  unfolding rounds
  rounds-kept [] p body h fit d k r = ok_is Kept r k
  rounds-kept (i ∷ is) p body h fit d k r =
      let q = both (fits16 i) (every fits16 is) fit in
      ask_by 18 p (leb (d.rounds + 1) 65536) _ r λ _ r1.
      run_by (body i (record { rounds = d.rounds + 1; nodes = d.nodes; updates = d.updates })) _ r1 λ d1 e1 r2.
      rounds-kept is p body h q.1 d1 (h i (record { rounds = d.rounds + 1; nodes = d.nodes; updates = d.updates }) d1 q.0 (record { few = k.few; counted = k.counted; small = k.small; each = k.each }) e1) r2

  guarded : (b : Bool) (r : Ran Done) (d : Done) {d' : Done} → (r ≡ ok d' → Kept d') → Kept d → ◌≡◌ {A = Ran Done} (elim b as (λ b. Ran Done) [ true ↦ r | false ↦ ok d ]) (ok d') → Kept d'
  guarded true r d f k e = f e
  guarded false r d f k e = ok_is Kept e k

  mutual
    unfolding run runs SoundItem SoundItems

    run-kept : (i : Item) (is : List ℤ) (d d' : Done) → every fits16 is ≡ true → SoundItem Word i t → Kept d → run i t is d ≡ ok d' → Kept d'
    run-kept (statement p a fs e) is d d' fit s k r = update-kept p is a fs e d fit s k r
    run-kept (loop p f e step body) is d d' fit s k r =
        ask_by 15 p (fits16 (value_at f is) && fits16 (value_at e is)) _ r λ h r1.
        let q = both (fits16 (value_at f is)) (fits16 (value_at e is)) h in
        rounds-kept (indices 65536 step (value_at e is) (value_at f is)) p (λ i d. runs body t (is ++ (i ∷ [])) d)
        (λ i d d' g k r. runs-kept body (is ++ (i ∷ [])) d d' (every_snoc fits16 is i fit g) s.2 k r)
        (indices_fit 65536 step (value_at f is) (value_at e is) q.0 q.1) d k r1
    run-kept (guard p f body) is d d' fit s k r = guarded (le_z (pos 0) (value_at f is)) (runs body t is d) d (λ e. runs-kept body is d d' fit s.1 k e) k r

    runs-kept : (is : Items) (js : List ℤ) (d d' : Done) → every fits16 js ≡ true → SoundItems Word is t → Kept d → runs is t js d ≡ ok d' → Kept d'
    runs-kept end js d d' fit s k r = ok_is Kept r k
    runs-kept (item i rest) js d d' fit s k r =
        run_by (run i t js d) _ r λ d1 e1 r1.
        runs-kept rest js d1 d' fit s.1 (run-kept i js d d1 fit s.0 k e1) r1

-- what a reading gives is sound
module _ {A : Type 0} where
  -- n readings in a row give a list as long as n
  pub times-length : (one : Reader A) (n : ℕ) (s : List ℕ) (at : ℕ) {xs : List A} {next : ℕ} → times [] ◌∷◌ one n s at ≡ got xs next → length xs ≡ n
  unfolding times
  times-length one zero s at e = got_is (λ xs. length xs ≡ 0) {n = at} e refl
  times-length one (suc n) s at e =
      read_by (one s at) _ e λ x at1 _ r1.
      read_by (times [] ◌∷◌ one n s at1) _ r1 λ xs at2 e2 r2.
      got_is (λ xs. length xs ≡ suc n) r2 (ap suc (times-length one n s at1 e2))

  times-every : (one : Reader A) (test : A → Bool) → ((s : List ℕ) (at : ℕ) (x : A) (next : ℕ) → one s at ≡ got x next → test x ≡ true)
      → (n : ℕ) (s : List ℕ) (at : ℕ) {xs : List A} {next : ℕ} → times [] ◌∷◌ one n s at ≡ got xs next → every test xs ≡ true
  unfolding times
  times-every one test h zero s at e = got_is (λ xs. every test xs ≡ true) {n = at} e refl
  times-every one test h (suc n) s at e =
      read_by (one s at) _ e λ x at1 e1 r1.
      read_by (times [] ◌∷◌ one n s at1) _ r1 λ xs at2 e2 r2.
      got_is (λ xs. every test xs ≡ true) r2 (join (test x) (every test xs) (h s at x at1 e1) (times-every one test h n s at1 e2))

-- a byte that a file of some version may have
operator_byte_lem : (version : ℕ) (s : List ℕ) (at x next : ℕ) → operator_of version s at ≡ got x next → operator_byte x ≡ true
unfolding operator_of
operator_byte_lem version s at x next e =
    read_by (byte s at) _ e λ x at1 _ r1.
    asked_by 6 at (operator_in version x) s at1 _ r1 λ h r2.
    got_is (λ x. operator_byte x ≡ true) r2 (in_version version x h)

extent-within : (s : List ℕ) (at x next : ℕ) → extent s at ≡ got x next → within 1 1024 x ≡ true
unfolding extent
extent-within s at x next e =
    read_by (u16 s at) _ e λ x at1 _ r1.
    asked_by 7 at (within 1 1024 x) s at1 _ r1 λ h r2.
    got_is (λ x. within 1 1024 x ≡ true) r2 h

abbrev ArrayRead : Bool → ℕ → Array → Type 0
ArrayRead after before x = (allowed_array x ≡ true) × ((not after || local x) ≡ true) × (before + cells x.extents ≤ 2048)

array-read : (after : Bool) (before : ℕ) (s : List ℕ) (at : ℕ) {x : Array} {next : ℕ} → array after before s at ≡ got x next → ArrayRead after before x
unfolding array
array-read after before s at e =
    read_by (byte s at) _ e λ role at1 _ r1.
    asked_by 7 at (leb role 3 && (not after || eqb role 3)) s at1 _ r1 λ q r2.
    read_by (byte s at1) _ r2 λ dimensions at2 _ r3.
    asked_by 7 at1 (within 1 3 dimensions) s at2 _ r3 λ w r4.
    read_by (times [] ◌∷◌ extent dimensions s at2) _ r4 λ es at3 e5 r5.
    asked_by 8 at (leb (before + cells es) 2048) s at3 _ r5 λ h r6.
    let b = both (leb role 3) (not after || eqb role 3) q in
    let l = times-length extent dimensions s at2 e5 in
    got_is (ArrayRead after before) r6 (
      array_whole (record { role = role; extents = es }) (record {
        role-known = join (leb 0 role) (leb role 3) (le-leb 0 role (omega arith)) b.0;
        dimensions = rw l w;
        sizes-known = times-every extent (within 1 1024) extent-within dimensions s at2 e5;
      }),
      b.1,
      leb-true (before + cells es) 2048 h,
    )

abbrev ArraysRead : ℕ → Bool → ℕ → List Array → Type 0
ArraysRead n after before xs = (length xs ≡ n) × (every allowed_array xs ≡ true) × (locals_last after xs ≡ true) × (before + room xs ≤ 2048)

arrays-read : (n : ℕ) (after : Bool) (before : ℕ) (s : List ℕ) (at : ℕ) {xs : List Array} {next : ℕ} → before ≤ 2048 → arrays n after before s at ≡ got xs next → ArraysRead n after before xs
unfolding arrays
arrays-read zero after before s at h e = got_is (ArraysRead 0 after before) {n = at} e (refl, refl, refl, omega arith)
arrays-read (suc n) after before s at h e =
    read_by (array after before s at) _ e λ x at1 e1 r1.
    read_by (arrays n (local x) (before + cells x.extents) s at1) _ r1 λ xs at2 e2 r2.
    let p = array-read after before s at e1 in
    let q = arrays-read n (local x) (before + cells x.extents) s at1 p.2 e2 in
    got_is (ArraysRead (suc n) after before) r2 (
      ap suc q.0,
      join (allowed_array x) (every allowed_array xs) p.0 q.1,
      join (not after || local x) (locals_last (local x) xs) p.1 q.2,
      (let m = q.3 in omega arith),
    )

pub tables-allowed : (s : List ℕ) (at : ℕ) {t : Tables} {next : ℕ} → tables s at ≡ got t next → TablesParts t
unfolding tables operators
tables-allowed s at e =
    read_by (head s at) _ e λ version at1 _ r1.
    read_by (operators version s at1) _ r1 λ ops at2 e2 r2.
    read_by (byte s at2) _ r2 λ n at3 _ r3.
    asked_by 7 at2 (within 1 16 n) s at3 _ r3 λ w r4.
    read_by (arrays n false 0 s at3) _ r4 λ xs at4 e4 r5.
    read_by (byte s at1) _ e2 λ m at5 _ r6.
    asked_by 6 at1 (leb m 16) s at5 _ r6 λ v r7.
    let q = arrays-read n false 0 s at3 (omega arith) e4 in
    let l = times-length (operator_of version) m s at5 r7 in
    got_is TablesParts r5 (record {
      operators = join (leb 0 (length ops)) (leb (length ops) 16) (le-leb 0 (length ops) (omega arith)) (rw l v);
      bytes = times-every (operator_of version) operator_byte (operator_byte_lem version) m s at5 r7;
      count = rw q.0 w;
      each = q.1;
      order = q.2;
      fits = (let f = q.3 in omega arith);
    })

pub index_below : (n : ℕ) (s : List ℕ) (at : ℕ) {x next : ℕ} → index n s at ≡ got x next → x < n
unfolding index
index_below n s at e =
    read_by (byte s at) _ e λ x at1 _ r1.
    asked_by 10 at (ltb x n) s at1 _ r1 λ h r2.
    got_is (λ x. x < n) r2 (ltb-true x n h)

pub u32-below : (s : List ℕ) (at : ℕ) {x next : ℕ} → Bytes s → u32 s at ≡ got x next → x < 4294967296
unfolding u32 field
u32-below s at {x} {next} b e = go (leb (at + 4) (length s)) e
  where
    go : (t : Bool) → ◌≡◌ {A = Outcome ℕ} (if t then got (little_endian 4 s at) (at + 4) else no 3 at) (got x next) → x < 4294967296
    go true r =
        let p = b at in
        let q = b (at + 1) in
        let v = b (at + 1 + 1) in
        let w = b (at + 1 + 1 + 1) in
        got_is (λ x. x < 4294967296) r (omega arith)
    go false r = absurd (let z : ◌≡◌ {A = ℕ} 0 1 = cc in omega arith)

-- a form is narrow, whatever the bytes are
module _ (loops : ℕ) (few : loops ≤ 8) where
  pub form-narrow : (s : List ℕ) (at : ℕ) (f : Form) (next : ℕ) → form loops s at ≡ got f next → narrow f ≡ true
  unfolding form i16 i8
  form-narrow s at f next e =
      read_by (i16 s at) _ e λ z at1 e1 r1.
      read_by (times [] ◌∷◌ i8 loops s at1) _ r1 λ cs at2 e2 r2.
      let l = times-length i8 loops s at1 e2 in
      got_is (λ f. narrow f ≡ true) r2
      (join (fits16 z) (leb (length cs) 8 && every fits8 cs) (read_by (u16 s at) _ e1 λ w _ _ r. got_is (λ z. fits16 z ≡ true) r (fits16-to_z w))
      (join (leb (length cs) 8) (every fits8 cs) (le-leb (length cs) 8 (omega arith))
      (times-every i8 fits8 (λ s at x next e. read_by (byte s at) _ e λ w _ _ r. got_is (λ z. fits8 z ≡ true) r (fits8-to_z w)) loops s at1 e2)))

-- what is known of every name that may stand in the bytes
abbrev Names : (ℕ → Type 0) → List ℕ → Type 0
Names Name s = (at n next : ℕ) → u32 s at ≡ got n next → Name n

module _ (t : Tables) (loops : ℕ) (s : List ℕ) where
  pub subscripts-length : (a at : ℕ) {fs : List Form} {next : ℕ} → subscripts t loops a s at ≡ got fs next → length fs ≡ length (array_at t.arrays a).extents
  unfolding subscripts
  subscripts-length a at e = times-length (form loops) (length (array_at t.arrays a).extents) s at e

module _ (Name : ℕ → Type 0) (t : Tables) (loops : ℕ) (s : List ℕ) (names : Names Name s) (few : loops ≤ 8) where
  subscripts-narrow : (a at : ℕ) {fs : List Form} {next : ℕ} → subscripts t loops a s at ≡ got fs next → every narrow fs ≡ true
  unfolding subscripts
  subscripts-narrow a at e = times-every (form loops) narrow (form-narrow loops few) (length (array_at t.arrays a).extents) s at e

  read_sound : (left at : ℕ) (e : Expr) (next : ℕ) → read_of t loops s at ≡ got e next → Sound Name e t left
  unfolding read_of Sound
  read_sound left at e next r =
      read_by (index (length t.arrays) s at) _ r λ a at1 _ r1.
      read_by (subscripts t loops a s at1) _ r1 λ fs at2 e2 r2.
      got_is (λ e. Sound Name e t left) r2 (subscripts-length t loops s a at1 e2, subscripts-narrow a at1 e2)

  literal_sound : (left at : ℕ) (e : Expr) (next : ℕ) → literal_of t loops s at ≡ got e next → Sound Name e t left
  unfolding literal_of Sound
  literal_sound left at e next r = read_by (form loops s at) _ r λ f at1 e1 r1. got_is (λ e. Sound Name e t left) r1 (form-narrow loops few s at f at1 e1)

  constant_sound : (left at : ℕ) (e : Expr) (next : ℕ) → constant_of t loops s at ≡ got e next → Sound Name e t left
  unfolding constant_of Sound
  constant_sound left at e next r = read_by (u32 s at) _ r λ n at1 e1 r1. got_is (λ e. Sound Name e t left) r1 (names at n at1 e1)

  arguments_sound : (left : ℕ) (one : Reader Expr) → ((at : ℕ) (e : Expr) (next : ℕ) → one s at ≡ got e next → Sound Name e t left)
      → (n at : ℕ) (es : Exprs) (next : ℕ) → times none more one n s at ≡ got es next → SoundAll Name es t left n
  unfolding times SoundAll
  arguments_sound left one h zero at es next r = got_is (λ es. SoundAll Name es t left 0) {n = at} r tt
  arguments_sound left one h (suc n) at es next r =
      read_by (one s at) _ r λ e at1 e1 r1.
      read_by (times none more one n s at1) _ r1 λ fs at2 e2 r2.
      got_is (λ es. SoundAll Name es t left (suc n)) r2 (h at e at1 e1, arguments_sound left one h n at1 fs at2 e2)

  apply_sound : (left : ℕ) (one : Reader Expr) → ((at : ℕ) (e : Expr) (next : ℕ) → one s at ≡ got e next → Sound Name e t left)
      → (at : ℕ) (e : Expr) (next : ℕ) → apply_of t loops one s at ≡ got e next → Sound Name e t (suc left)
  unfolding apply_of Sound
  apply_sound left one h at e next r =
      read_by (index (length t.operators) s at) _ r λ o at1 e1 r1.
      read_by (times none more one (arity_at t.operators o) s at1) _ r1 λ es at2 e2 r2.
      got_is (λ e. Sound Name e t (suc left)) r2 (index_below (length t.operators) s at e1, arguments_sound left one h (arity_at t.operators o) at1 es at2 e2)

  pub node_sound : (left : ℕ) (operates : ℕ → Reader Expr) → ((p at : ℕ) (e : Expr) (next : ℕ) → operates p s at ≡ got e next → Sound Name e t left)
      → (at : ℕ) (e : Expr) (next : ℕ) → node t loops operates s at ≡ got e next → Sound Name e t left
  unfolding node
  node_sound left operates h at e next r =
      read_by (byte s at) _ r λ code at1 _ r1. go code at1 (eqb code 16) (eqb code 17) (eqb code 18) (eqb code 19) r1
    where
      go : (code at1 : ℕ) (p q v w : Bool)
          → (if p then read_of t loops else if q then operates at else if v then literal_of t loops else if w then constant_of t loops else refuse 9 at) s at1 ≡ got e next → Sound Name e t left
      go code at1 true q v w r1 = read_sound left at1 e next r1
      go code at1 false true v w r1 = h at at1 e next r1
      go code at1 false false true w r1 = literal_sound left at1 e next r1
      go code at1 false false false true r1 = constant_sound left at1 e next r1
      go code at1 false false false false r1 = absurd (let z : ◌≡◌ {A = ℕ} 0 1 = cc in omega arith)

  pub applied_sound : (left : ℕ) (p at : ℕ) (e : Expr) (next : ℕ) → applied t loops left p s at ≡ got e next → Sound Name e t left
  unfolding applied
  applied_sound zero p at e next r = absurd (let z : ◌≡◌ {A = ℕ} 0 1 = cc in omega arith)
  applied_sound (suc left) p at e next r =
      apply_sound left (node t loops (applied t loops left)) (λ at e next r. node_sound left (applied t loops left) (λ p at e next r. applied_sound left p at e next r) at e next r) at e next r

  pub statement_sound : (p at : ℕ) (i : Item) (next : ℕ) → statement_of t loops p s at ≡ got i next → SoundItem Name i t
  unfolding statement_of expression SoundItem
  statement_sound p at i next r =
      read_by (index (length t.arrays) s at) _ r λ a at1 _ r1.
      asked_by 13 at (not (eqb (array_at t.arrays a).role 0)) s at1 _ r1 λ h r2.
      read_by (subscripts t loops a s at1) _ r2 λ fs at2 e3 r3.
      read_by (node t loops (applied t loops 12) s at2) _ r3 λ e at3 e4 r4.
      got_is (λ i. SoundItem Name i t) r4 (subscripts-length t loops s a at1 e3, subscripts-narrow a at1 e3, h, node_sound 12 (applied t loops 12) (applied_sound 12) at2 e at3 e4)

module _ (Name : ℕ → Type 0) (t : Tables) (s : List ℕ) (names : Names Name s) where
  abbrev Reads : (ℕ → ℕ → Reader Item) → Type 0
  Reads one = (code p at : ℕ) (i : Item) (next : ℕ) → one code p s at ≡ got i next → SoundItem Name i t

  items_sound : (one : ℕ → ℕ → Reader Item) → Reads one → (k at : ℕ) (is : Items) (next : ℕ) → items one k s at ≡ got is next → SoundItems Name is t
  unfolding items SoundItems
  items_sound one h zero at is next r = absurd (let z : ◌≡◌ {A = ℕ} 0 1 = cc in omega arith)
  items_sound one h (suc k) at is next r =
      read_by (byte s at) _ r λ code at1 _ r1.
      choose_by (eqb code 0) (give end) _ s at1 r1 (λ _ r2. got_is (λ is. SoundItems Name is t) {n = at1} r2 tt) λ _ r2.
      read_by (one code at s at1) _ r2 λ i at2 e3 r3.
      read_by (items one k s at2) _ r3 λ js at3 e4 r4.
      got_is (λ is. SoundItems Name is t) r4 (h code at at1 i at2 e3, items_sound one h k at2 js at3 e4)

  item_sound : (inner : ℕ → ℕ → Reader Item) (most loops : ℕ) → loops ≤ 8 → Reads inner → Reads (item_of t most inner loops)
  unfolding item_of
  item_sound inner most loops few h code p at i next r =
      choose_by (eqb code 1) (statement_of t loops p) _ s at r (λ _ r1. statement_sound Name t loops s names few p at i next r1) λ _ r1.
      choose_by (eqb code 2 || eqb code 3) (inner code p) (refuse 9 p) s at r1 (λ _ r2. h code p at i next r2) λ _ r2.
      absurd (let z : ◌≡◌ {A = ℕ} 0 1 = cc in omega arith)

  loop_sound : (loops : ℕ) → loops ≤ 8 → (inner : Reader Items) → ((at : ℕ) (is : Items) (next : ℕ) → inner s at ≡ got is next → SoundItems Name is t)
      → (p at : ℕ) (i : Item) (next : ℕ) → loop_of loops inner p s at ≡ got i next → SoundItem Name i t
  unfolding loop_of SoundItem
  loop_sound loops few inner h p at i next r =
      read_by (form loops s at) _ r λ f at1 e1 r1.
      read_by (form loops s at1) _ r1 λ g at2 e2 r2.
      read_by (step s at2) _ r2 λ z at3 _ r3.
      read_by (inner s at3) _ r3 λ is at4 e4 r4.
      got_is (λ i. SoundItem Name i t) r4 (form-narrow loops few s at f at1 e1, form-narrow loops few s at1 g at2 e2, h at3 is at4 e4)

  guard_sound : (loops : ℕ) → loops ≤ 8 → (inner : Reader Items) → ((at : ℕ) (is : Items) (next : ℕ) → inner s at ≡ got is next → SoundItems Name is t)
      → (p at : ℕ) (i : Item) (next : ℕ) → guard_of loops inner p s at ≡ got i next → SoundItem Name i t
  unfolding guard_of SoundItem
  guard_sound loops few inner h p at i next r =
      read_by (form loops s at) _ r λ f at1 e1 r1.
      read_by (inner s at1) _ r1 λ is at2 e2 r2.
      got_is (λ i. SoundItem Name i t) r2 (form-narrow loops few s at f at1 e1, h at1 is at2 e2)

  nested_sound : (most left loops : ℕ) → loops + left ≤ 8 → Reads (nested t most left loops)
  unfolding nested
  nested_sound most zero loops few code p at i next r = absurd (let z : ◌≡◌ {A = ℕ} 0 1 = cc in omega arith)
  nested_sound most (suc left) loops few code p at i next r =
      choose_by (eqb code 2) _ _ s at r
      (λ _ r1. loop_sound loops (omega arith) (items (item_of t most (nested t most left (suc loops)) (suc loops)) most)
      (λ at is next e. items_sound (item_of t most (nested t most left (suc loops)) (suc loops)) (item_sound (nested t most left (suc loops)) most (suc loops) (omega arith) (λ code p at i next e. nested_sound most left (suc loops) (omega arith) code p at i next e)) most at is next e) p at i next r1)
      (λ _ r1. guard_sound loops (omega arith) (items (item_of t most (nested t most left loops) loops) most)
      (λ at is next e. items_sound (item_of t most (nested t most left loops) loops) (item_sound (nested t most left loops) most loops (omega arith) (λ code p at i next e. nested_sound most left loops (omega arith) code p at i next e)) most at is next e) p at i next r1)

-- a whole program
pub record SoundProgram (Name : ℕ → Type 0) (p : Program) : Type 0 where
  pub tables-parts : TablesParts p.tables
  pub items-parts : SoundItems Name p.items p.tables

pub program_sound : (Name : ℕ → Type 0) (s : List ℕ) → Names Name s → (p : Program) (next : ℕ) → read_program s ≡ got p next → SoundProgram Name p
unfolding read_program program body
program_sound Name s names p next e = go (leb (length s) 16384) e
  where
    go : (z : Bool) → ◌≡◌ {A = Outcome Program} (if z then program s 0 else no 2 0) (got p next) → SoundProgram Name p
    go true r =
        read_by (tables s 0) _ r λ t at1 e1 r1.
        read_by (body t (length s) 8 0 s at1) _ r1 λ is at2 e2 r2.
        asked_by 14 at2 (eqb at2 (length s)) s at2 _ r2 λ _ r3.
        got_is (SoundProgram Name) r3 (record {
          tables-parts = tables-allowed s 0 e1;
          items-parts = items_sound Name t s names (item_of t (length s) (nested t (length s) 8 0) 0) (item_sound Name t s names (nested t (length s) 8 0) (length s) 0 (omega arith) (nested_sound Name t s names (length s) 8 0 (omega arith))) (length s) at1 is at2 e2;
        })
    go false r = absurd (let z : ◌≡◌ {A = ℕ} 0 1 = cc in omega arith)

pub unrolled-allowed : (bytes : List ℕ) (l : Listed) → Bytes bytes → unrolled bytes ≡ ok l → allowed l ≡ true
unfolding run_program
unrolled-allowed bytes l b e = go (unrolls bytes l e)
  where
    go : Unrolls bytes l → allowed l ≡ true
    go u =
        let p = program_sound Word bytes (λ at n next r. u32-below bytes at b r) u.source u.next u.is_read in
        let k = runs-kept u.source.tables u.source.items [] nothing u.done refl p.items-parts (record { few = omega arith; counted = refl; small = omega arith; each = refl }) u.ran in
        let reads = unrolled-reads bytes l e in
        list-whole l (record {
          tables-allowed = subst TablesParts (sym u.tables) p.tables-parts;
          few = subst (λ (us : List Update). length us ≤ 2048) (sym u.updates) k.few;
          small = subst (λ (us : List Update). nodes us ≤ 8192) (sym u.updates) (subst (λ (n : ℕ). n ≤ 8192) (sym k.counted) k.small);
          each = subst (λ (t : Tables). every (allowed_update t) l.updates ≡ true) (sym u.tables) (subst (λ (us : List Update). every (allowed_update u.source.tables) us ≡ true) (sym u.updates) k.each);
          reads = reads;
        })
