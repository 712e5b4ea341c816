-- Statements in a row: read back and run, and the bytes of what was read and run.
use mathlib.Core.Path.{◌≡◌, refl, sym, ap, subst, ◌∙◌}
use Prim.Native.Nat.{ℕ, zero, suc, ◌+◌, ◌≤◌, ◌<◌}
use mathlib.Core.List.{List, [], ◌∷◌, ◌++◌, append-nil, append_assoc}
use mathlib.Core.Bool.{true, false, ◌||◌, not, false≢true}
use native.Mathlib.Omega.{arith}
use lib.ListN.{length, length-append}
use lib.Dec.{leb, eqb}
use borrow.Author.Tests.{le-leb, eqb-true}
use Rattle.model.specs.Test.{every}
use Rattle.model.specs.Tables.{Array, Tables, array_at, inside}
use Rattle.model.specs.Update.{Tree, Update, size, nodes}
use Rattle.reader.specs.Field.{Bytes, Outcome, got, Reader, byte, give, refuse}
use Rattle.reader.specs.Syntax.{Form, Expr, Item, Items, count}
use Rattle.reader.specs.Syntax.Item.{statement}
use Rattle.reader.specs.Syntax.Items.{end, item}
use Rattle.reader.specs.Grammar.{form, index, subscripts, step, expression, statement_of, loop_of, guard_of, items, item_of, nested}
use Rattle.reader.proofs.Binds.{read_by, choose_by, not-got, got_so, got_is}
use Rattle.unroller.specs.Run.{ok, cell_at, tree, readable, Done, update, run, runs}
use Rattle.unroller.specs.Allowed.{allowed_array, proper, may_write, allowed_update, read_all}
use Rattle.unroller.proofs.Parts.{both, join}
use Rattle.unroller.proofs.Runs.{run_by, ask_by, ok_is}
use Rattle.unroller.proofs.Executed.{statement_by}
use Rattle.writer.specs.File.{in_row, cell_bytes, tree_bytes, update_bytes}
use Rattle.writer.specs.Write.{narrow, narrow_update}
use Rattle.writer.specs.Claims.{straight}
use Rattle.writer.proofs.Stands.{Stands, stands_end, stands_here, stands-behind, here-byte, nothing-stands, byte-stands, stands-join, stands-split}
use Rattle.writer.proofs.Cells.{forms_of}
use Rattle.writer.proofs.Trees.{expr_of, counts_same, cell-reads, tree_in, cell-runs, tree-runs, cell-stands, tree_out}

-- the statements of updates, and the closing 00
abbrev pub items_bytes : List Array → List Update → List ℕ
items_bytes xs us = in_row (update_bytes xs) us ++ 0 ∷ []

-- What is read of them: statements only, that run to the updates.
pub record Stood (t : Tables) (us : List Update) (m : Outcome Items) (next : ℕ) : Type 0 where
  pub source : Items
  pub is_read : m ≡ got source next
  pub no_loops : straight source ≡ true
  pub ran : (d : Done) → length d.updates + length us ≤ 2048 → d.nodes + nodes us ≤ 8192 → read_all t.arrays d.updates us ≡ true
      → (e : Done) × (runs source t [] d ≡ ok e) × (e.updates ≡ d.updates ++ us)

module _ (t : Tables) (each : every allowed_array t.arrays ≡ true) where
  abbrev xs : List Array
  xs = t.arrays

  abbrev statement_at : Update → ℕ → Item
  statement_at u p = statement p u.array (forms_of (array_at xs u.array).extents u.target) (expr_of u.source xs)

  -- an allowed update: its target is declared and no in array, its source is proper
  update-parts : (u : Update) → allowed_update t u ≡ true → (inside xs u.array u.target ≡ true) × (not (eqb (array_at xs u.array).role 0) ≡ true) × (proper u.source t 12 ≡ true)
  unfolding allowed_update may_write
  update-parts u e =
      let p = both (may_write xs u.array u.target) (proper u.source t 12) e in
      let q = both (inside xs u.array u.target) (not (eqb (array_at xs u.array).role 0)) p.0 in
      (q.0, q.1, p.1)

  statement_in : (s : List ℕ) (u : Update) (p at next : ℕ) → allowed_update t u ≡ true → narrow_update u ≡ true
      → Stands s at (cell_bytes xs u.array u.target ++ tree_bytes u.source xs) next → statement_of t 0 p s at ≡ got (statement_at u p) next
  unfolding statement_of expression
  statement_in s u p at next a w h =
      let q = update-parts u a in
      stands-split s (cell_bytes xs u.array u.target) (tree_bytes u.source xs) at next h λ mid k m.
      let c = cell-reads t each s u.array u.target at mid q.0 k in
      rw (c.0, q.1, c.1, tree_in t each s u.source 12 mid next q.2 w m)

  update-runs : (u : Update) (p : ℕ) (d : Done) → allowed_update t u ≡ true → narrow_update u ≡ true → length d.updates + 1 ≤ 2048 → d.nodes + size u.source ≤ 8192 → readable u.source xs d.updates ≡ true
      → run (statement_at u p) t [] d ≡ ok (record { rounds = d.rounds; nodes = d.nodes + size u.source; updates = d.updates ++ (u ∷ []) })
  unfolding run update
  update-runs u p d a w few small r =
      let q = update-parts u a in
      rw (
        counts_same u.source xs,
        le-leb (length d.updates + 1) 2048 few,
        le-leb (d.nodes + size u.source) 8192 small,
        cell-runs t each p u.array u.target q.0,
        tree-runs t each u.source 12 p q.2 w,
        r,
      )

  module _ (s : List ℕ) (most : ℕ) (inner : ℕ → ℕ → Reader Item) where
    abbrev one : ℕ → ℕ → Reader Item
    one = item_of t most inner 0

    item_in : (u : Update) (p at next : ℕ) → allowed_update t u ≡ true → narrow_update u ≡ true
        → Stands s at (cell_bytes xs u.array u.target ++ tree_bytes u.source xs) next → one 1 p s at ≡ got (statement_at u p) next
    unfolding item_of
    item_in u p at next a w h = statement_in s u p at next a w h

    run_more : (u : Update) (us : List Update) (p : ℕ) (m : Outcome Items) (next : ℕ) (b : Stood t us m next) → allowed_update t u ≡ true → narrow_update u ≡ true
        → (d : Done) → length d.updates + suc (length us) ≤ 2048 → d.nodes + (size u.source + nodes us) ≤ 8192 → read_all xs d.updates (u ∷ us) ≡ true
        → (e : Done) × (runs (item (statement_at u p) b.source) t [] d ≡ ok e) × (e.updates ≡ d.updates ++ (u ∷ us))
    unfolding runs
    run_more u us p m next b a w d few small r =
        let q = both (readable u.source xs d.updates) (read_all xs (d.updates ++ (u ∷ [])) us) r in
        let f = update-runs u p d a w (omega arith) (omega arith) q.0 in
        let l = length-append d.updates (u ∷ []) in
        let g = b.ran (record { rounds = d.rounds; nodes = d.nodes + size u.source; updates = d.updates ++ (u ∷ []) }) (omega arith) (omega arith) q.1 in
        (g.0, rw f g.1, g.2 ∙ append_assoc d.updates (u ∷ []) us)

    pub items_in : (us : List Update) (k at next : ℕ) → length us < k → every (allowed_update t) us ≡ true → every narrow_update us ≡ true → Stands s at (items_bytes xs us) next → Stood t us (items one k s at) next
    unfolding items update_bytes straight runs
    items_in us zero at next h a w st = absurd (omega arith)
    items_in [] (suc k) at next h a w st =
        let e : next ≡ at + 1 = stands_end s (at + 1) next (stands-behind s at 0 [] next st) in
        record {
          source = end;
          is_read = rw (here-byte s (stands_here s at 0 [] next st)) (ap (got end) (sym e));
          no_loops = refl;
          ran = λ d few small r. (d, refl, sym (append-nil d.updates));
        }
    items_in (u ∷ us) (suc k) at next h a w st =
        let p = both (allowed_update t u) (every (allowed_update t) us) a in
        let q = both (narrow_update u) (every narrow_update us) w in
        let own : List ℕ = cell_bytes xs u.array u.target ++ tree_bytes u.source xs in
        let f = subst (λ (l : List ℕ). Stands s at l next) (append_assoc (1 ∷ own) (in_row (update_bytes xs) us) (0 ∷ [])) st in
        stands-split s (1 ∷ own) (items_bytes xs us) at next f λ mid g m.
        let b = items_in us k mid next (omega arith) p.1 q.1 m in
        record {
          source = item (statement_at u at) b.source;
          is_read = rw (here-byte s (stands_here s at 1 own mid g), item_in u at (at + 1) mid p.0 q.0 (stands-behind s at 1 own mid g), b.is_read);
          no_loops = b.no_loops;
          ran = run_more u us at (items one k s mid) next b p.0 q.0;
        }

-- as they were read and run
module _ (t : Tables) (s : List ℕ) (b : Bytes s) where
  abbrev ys : List Array
  ys = t.arrays

  -- what an update adds
  update_by : {P : Type 0} (p a : ℕ) (fs : List Form) (e : Expr) (d d' : Done) → run (statement p a fs e) t [] d ≡ ok d'
      → ((c : ℕ) (x : Tree) → cell_at t p [] a fs ≡ ok c → tree e t p [] ≡ ok x → d'.updates ≡ d.updates ++ (record { array = a; target = c; source = x } ∷ []) → P) → P
  unfolding run update
  update_by p a fs e d d' r k =
      ask_by 19 p (leb (length d.updates + 1) 2048) _ r λ _ r1.
      ask_by 20 p (leb (d.nodes + count e) 8192) _ r1 λ _ r2.
      run_by (cell_at t p [] a fs) _ r2 λ c e3 r3.
      run_by (tree e t p []) _ r3 λ x e4 r4.
      ask_by 17 p (readable x ys d.updates) _ r4 λ _ r5.
      k c x e3 e4 (ok_is (λ d'. d'.updates ≡ d.updates ++ (record { array = a; target = c; source = x } ∷ [])) r5 refl)

  -- a loop or a guard is not a statement
  crooked : (most left loops code p at : ℕ) (i : Item) (next : ℕ) (rest : Items) → nested t most left loops code p s at ≡ got i next → straight (item i rest) ≡ false
  unfolding straight nested loop_of guard_of
  crooked most zero loops code p at i next rest e = not-got e
  crooked most (suc left) loops code p at i next rest e =
      choose_by (eqb code 2) (loop_of loops (items (item_of t most (nested t most left (suc loops)) (suc loops)) most) p) _ s at e
      (λ _ r.
      read_by (form loops s at) _ r λ f x _ r1.
      read_by (form loops s x) _ r1 λ g y _ r2.
      read_by (step s y) _ r2 λ z w _ r3.
      read_by (items (item_of t most (nested t most left (suc loops)) (suc loops)) most s w) _ r3 λ is v _ r4.
      got_is (λ i. straight (item i rest) ≡ false) r4 refl)
      (λ _ r.
      read_by (form loops s at) _ r λ f x _ r1.
      read_by (items (item_of t most (nested t most left loops) loops) most s x) _ r1 λ is v _ r2.
      got_is (λ i. straight (item i rest) ≡ false) r2 refl)

  abbrev Out : ℕ → ℕ → Done → Done → Type 0
  Out at next d d' = (us : List Update) × Stands s at (items_bytes ys us) next × (every narrow_update us ≡ true) × (d'.updates ≡ d.updates ++ us)

  statement_out : (p from at mid next a : ℕ) (fs : List Form) (e : Expr) (x y : ℕ) (d d1 d' : Done)
      → byte s from ≡ got 1 at → index (length ys) s at ≡ got a x → subscripts t 0 a s x ≡ got fs y → expression t 0 s y ≡ got e mid
      → run (statement p a fs e) t [] d ≡ ok d1 → Out mid next d1 d' → Out from next d d'
  unfolding expression update_bytes
  statement_out p from at mid next a fs e x y d d1 d' h i f g r o =
      update_by p a fs e d d1 r λ c z e1 e2 q.
      let u : Update = record { array = a; target = c; source = z } in
      let k = tree_out t s b p 12 y e mid z g e2 in
      let own : List ℕ = cell_bytes ys a c ++ tree_bytes z ys in
      let m = byte-stands s from 1 at own mid h (stands-join s (cell_bytes ys a c) (tree_bytes z ys) at y mid (cell-stands t s b p a c at x y fs i f e1) k.0) in
      let j = stands-join s (1 ∷ own) (items_bytes ys o.0) from mid next m o.1 in (
        u ∷ o.0,
        subst (λ (l : List ℕ). Stands s from l next) (sym (append_assoc (1 ∷ own) (in_row (update_bytes ys) o.0) (0 ∷ []))) j,
        join (narrow z) (every narrow_update o.0) k.1 o.2,
        o.3 ∙ ap (λ (l : List Update). l ++ o.0) q ∙ append_assoc d.updates (u ∷ []) o.0,
      )

  closing : (at next : ℕ) (d d' : Done) → byte s at ≡ got 0 next → runs end t [] d ≡ ok d' → Out at next d d'
  unfolding runs
  closing at next d d' h v =
      ([], byte-stands s at 0 next [] next h (nothing-stands s next), refl, ok_is (λ e. e.updates ≡ d.updates ++ []) v (sym (append-nil d.updates)))

  -- a statement, and the items behind it
  abbrev Rest : Items → ℕ → ℕ → Done → Type 0
  Rest rest past next d' = (d1 : Done) → runs rest t [] d1 ≡ ok d' → straight rest ≡ true → Out past next d1 d'

  behind : (at at1 a : ℕ) (fs : List Form) (e : Expr) (rest : Items) (x y past next : ℕ) (d d' : Done) → byte s at ≡ got 1 at1
      → index (length ys) s at1 ≡ got a x → subscripts t 0 a s x ≡ got fs y → expression t 0 s y ≡ got e past → Rest rest past next d'
      → runs (item (statement at a fs e) rest) t [] d ≡ ok d' → straight (item (statement at a fs e) rest) ≡ true → Out at next d d'
  unfolding runs straight
  behind at at1 a fs e rest x y past next d d' h e1 e2 e3 ih v st =
      run_by (run (statement at a fs e) t [] d) _ v λ d1 e4 r1.
      statement_out at at at1 past next a fs e x y d d1 d' h e1 e2 e3 e4 (ih d1 r1 st)

  one_out : (at at1 code : ℕ) (i : Item) (rest : Items) (past next : ℕ) (d d' : Done) → byte s at ≡ got code at1 → code ≡ 1 → statement_of t 0 at s at1 ≡ got i past → Rest rest past next d'
      → runs (item i rest) t [] d ≡ ok d' → straight (item i rest) ≡ true → Out at next d d'
  one_out at at1 code i rest past next d d' h c f ih v st =
      statement_by t 0 at s at1 f λ a fs e x y e1 e2 e3 q.
      behind at at1 a fs e rest x y past next d d' (h ∙ ap (λ (c : ℕ). got c at1) c) e1 e2 e3 ih
      (subst (λ (i : Item). runs (item i rest) t [] d ≡ ok d') q v) (subst (λ (i : Item). straight (item i rest) ≡ true) q st)

  pub items_out : (most k at : ℕ) (is : Items) (next : ℕ) → items (item_of t most (nested t most 8 0) 0) k s at ≡ got is next → straight is ≡ true → (d d' : Done) → runs is t [] d ≡ ok d' → Out at next d d'
  unfolding items item_of
  items_out most zero at is next e st d d' r = not-got e
  items_out most (suc k) at is next e st d d' r =
      read_by (byte s at) _ e λ code at1 h r1.
      choose_by (eqb code 0) (give end) _ s at1 r1
      (λ q r2.
      got_so (λ is next. runs is t [] d ≡ ok d' → Out at next d d') r2
      (λ v. closing at at1 d d' (h ∙ ap (λ (c : ℕ). got c at1) (eqb-true code 0 q)) v) r)
      λ _ r2.
      read_by (item_of t most (nested t most 8 0) 0 code at s at1) _ r2 λ i past o r3.
      read_by (items (item_of t most (nested t most 8 0) 0) k s past) _ r3 λ rest to m r4.
      got_so (λ is next. runs is t [] d ≡ ok d' → straight is ≡ true → Out at next d d') r4
      (λ v w.
      choose_by (eqb code 1) (statement_of t 0 at) _ s at1 o
      (λ q f. one_out at at1 code i rest past to d d' h (eqb-true code 1 q) f (λ d1 r5 st1. items_out most k past rest to m st1 d1 d' r5) v w)
      λ _ f.
      choose_by (eqb code 2 || eqb code 3) (nested t most 8 0 code at) (refuse 9 at) s at1 f
      (λ _ g. absurd (false≢true (sym (crooked most 8 0 code at at1 i past rest g) ∙ w)))
      (λ _ g. not-got g)) r st
