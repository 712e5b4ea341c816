-- Reordering step by step: the new order's first update is picked out of the old list, past updates that it does not conflict with.
use Prim.Native.Nat.{ℕ, suc, ◌+◌}
use native.Mathlib.Omega.{arith}
use mathlib.Core.Path.{◌≡◌, refl, sym, ap, ap₂, ◌∙◌, fun_ext}
use mathlib.Core.List.{List, [], ◌∷◌, ◌++◌}
use mathlib.Core.Bool.{Bool, true, false, ◌&&◌, ◌||◌, true≢false, and-eq-true_iff, or_comm, or-false}
use lib.ListN.{length}
use lib.Dec.{eqb}
use borrow.Author.Tests.{eqb-true, eq-eqb}
use Rattle.model.specs.Test.{total, every}
use Rattle.model.specs.Tables.{Array, array_at, starts}
use Rattle.model.specs.Update.{Tree, Trees, Update, writes, written, reads_cell, reads_cells}
use Rattle.model.specs.Update.Tree.{cell, number, constant, operator}
use Rattle.model.specs.Update.Trees.{nil, cons}
use Rattle.terms.specs.Term.{among, parts, parts_of_all}
use Rattle.terms.proofs.Count.{among_append}
use Rattle.unroller.specs.Run.{readable, readables}
use Rattle.unroller.specs.Allowed.{read_all}
use Rattle.comparer.specs.Meaning.{Meaning, Content, value_of, values_of, updated, after, free, values}
use Rattle.comparer.specs.Order.{touches, conflict}
use Rattle.comparer.proofs.Alike.{or_split, written_snoc}

pub data Pick (u : Update) : List Update → List Update → Type 0 where
  here : {us : List Update} → Pick u (u ∷ us) us
  later : {v : Update} {us rest : List Update} → conflict u v ≡ false → Pick u us rest → Pick u (v ∷ us) (v ∷ rest)

pub data Reordered : List Update → List Update → Type 0 where
  none : Reordered [] []
  next : {u : Update} {us rest new : List Update} → Pick u us rest → Reordered rest new → Reordered us (u ∷ new)

-- what two updates without a conflict leave alone
pub record Quiet (u v : Update) : Type 0 where
  pub target : writes v u.array u.target ≡ false
  pub unread : reads_cell u.source v.array v.target ≡ false
  pub unread' : reads_cell v.source u.array u.target ≡ false

quiet : (u v : Update) → conflict u v ≡ false → Quiet u v
quiet u v e =
    let p = or_split (touches v u.array u.target) (touches u v.array v.target) e in
    let q = or_split (writes v u.array u.target) (reads_cell v.source u.array u.target) p.0 in
    let r = or_split (writes u v.array v.target) (reads_cell u.source v.array v.target) p.1 in
    record { target = q.0; unread = r.1; unread' = q.1 }

not-both : (u v : Update) → writes v u.array u.target ≡ false → (a c : ℕ) → writes u a c ≡ true → writes v a c ≡ true → ⊥
not-both u v n a c p q =
    let p' = (and-eq-true_iff (eqb u.array a) (eqb u.target c)).0 p in
    let x : u.array ≡ a = eqb-true u.array a p'.0 in
    let y : u.target ≡ c = eqb-true u.target c p'.1 in
    true≢false (sym q ∙ ap₂ (writes v) (sym x) (sym y) ∙ n)

module _ {S : Type 0} (m : Meaning S) where
  module _ (h : Content S) (v : Update) where
    mutual
      unfolding reads_cell reads_cells value_of values_of

      pub unread_value : (x : Tree) → reads_cell x v.array v.target ≡ false → value_of m x (updated m h v) ≡ value_of m x h
      unread_value (cell a c) e = rw e
      unread_value (number z) e = refl
      unread_value (constant n) e = refl
      unread_value (operator o ts) e = ap (m.operate o) (unread_values ts e)

      pub unread_values : (ts : Trees) → reads_cells ts v.array v.target ≡ false → values_of m ts (updated m h v) ≡ values_of m ts h
      unread_values nil e = refl
      unread_values (cons x xs) e =
          let p = or_split (reads_cell x v.array v.target) (reads_cells xs v.array v.target) e in
          ap₂ {C = List S} ◌∷◌ (unread_value x p.0) (unread_values xs p.1)

  pub updated_comm : (u v : Update) → Quiet u v → (h : Content S) → updated m (updated m h v) u ≡ updated m (updated m h u) v
  updated_comm u v q h = fun_ext (λ a. fun_ext (λ c. at a c (writes u a c) refl (writes v a c) refl))
    where
      at : (a c : ℕ) (b : Bool) → writes u a c ≡ b → (d : Bool) → writes v a c ≡ d → updated m (updated m h v) u a c ≡ updated m (updated m h u) v a c
      at a c true e true f = absurd (not-both u v q.target a c e f)
      at a c true e false f = rw (e, f) (unread_value h v u.source q.unread)
      at a c false e true f = rw (e, f) (sym (unread_value h u v.source q.unread'))
      at a c false e false f = rw (e, f)

  pub pick-after : {u : Update} {us rest : List Update} → Pick u us rest → (h : Content S) → after m us h ≡ after m (u ∷ rest) h
  pick-after here h = refl
  pick-after {u} (later {v = v} {rest = rest} e p) h = pick-after p (updated m h v) ∙ ap (after m rest) (updated_comm u v (quiet u v e) h)

  pub after_reordered : {us new : List Update} → Reordered us new → (h : Content S) → after m us h ≡ after m new h
  after_reordered none h = refl
  after_reordered (next {u = u} p r) h = pick-after p h ∙ after_reordered r (updated m h u)

-- any sum over the updates, and any test of each of them
and_swap : (a b c : Bool) → (a && (b && c)) ≡ (b && (a && c))
and_swap true b c = refl
and_swap false true c = refl
and_swap false false c = refl

or_swap : (a b c : Bool) → (a || (b || c)) ≡ (b || (a || c))
or_swap false b c = refl
or_swap true true c = refl
or_swap true false c = refl

pick-written : {u : Update} {us rest : List Update} → Pick u us rest → (a c : ℕ) → written us a c ≡ written (u ∷ rest) a c
pick-written here a c = refl
pick-written {u} (later {v = v} {rest = rest} e p) a c = ap (λ (b : Bool). writes v a c || b) (pick-written p a c) ∙ or_swap (writes v a c) (writes u a c) (written rest a c)

pub written_reordered : {us new : List Update} → Reordered us new → (a c : ℕ) → written us a c ≡ written new a c
written_reordered none a c = refl
written_reordered (next {u = u} p r) a c = pick-written p a c ∙ ap (λ (b : Bool). writes u a c || b) (written_reordered r a c)

pick_total : (f : Update → ℕ) {u : Update} {us rest : List Update} → Pick u us rest → total f us ≡ total f (u ∷ rest)
pick_total f here = refl
pick_total f {u} (later {v = v} {us = us} {rest = rest} e p) = let ih : total f us ≡ f u + total f rest = pick_total f p in omega arith

pub total_reordered : (f : Update → ℕ) {us new : List Update} → Reordered us new → total f us ≡ total f new
total_reordered f none = refl
total_reordered f (next {u = u} p r) = pick_total f p ∙ ap (λ (n : ℕ). f u + n) (total_reordered f r)

pick-length : {u : Update} {us rest : List Update} → Pick u us rest → length us ≡ suc (length rest)
pick-length here = refl
pick-length (later e p) = ap suc (pick-length p)

pub length_reordered : {us new : List Update} → Reordered us new → length us ≡ length new
length_reordered none = refl
length_reordered (next p r) = pick-length p ∙ ap suc (length_reordered r)

pick-every : (f : Update → Bool) {u : Update} {us rest : List Update} → Pick u us rest → every f us ≡ every f (u ∷ rest)
pick-every f here = refl
pick-every f {u} (later {v = v} {rest = rest} e p) = ap (λ (b : Bool). f v && b) (pick-every f p) ∙ and_swap (f v) (f u) (every f rest)

pub every_reordered : (f : Update → Bool) {us new : List Update} → Reordered us new → every f us ≡ every f new
every_reordered f none = refl
every_reordered f (next {u = u} p r) = pick-every f p ∙ ap (λ (b : Bool). f u && b) (every_reordered f r)

-- question 17
module _ (arrays : List Array) where
  module _ (us vs : List Update) where
    mutual
      unfolding readable readables reads_cell reads_cells

      pub readable_same : (x : Tree) → ((a c : ℕ) → reads_cell x a c ≡ true → written us a c ≡ written vs a c) → readable x arrays us ≡ readable x arrays vs
      readable_same (cell a c) f = ap (λ (b : Bool). starts (array_at arrays a) || b) (f a c ((and-eq-true_iff (eqb a a) (eqb c c)).1 (eq-eqb a a refl, eq-eqb c c refl)))
      readable_same (number z) f = refl
      readable_same (constant n) f = refl
      readable_same (operator o ts) f = readables_same ts f

      pub readables_same : (ts : Trees) → ((a c : ℕ) → reads_cells ts a c ≡ true → written us a c ≡ written vs a c) → readables ts arrays us ≡ readables ts arrays vs
      readables_same nil f = refl
      readables_same (cons x xs) f = ap₂ ◌&&◌ (readable_same x (λ a c e. f a c (ap (λ (b : Bool). b || reads_cells xs a c) e))) (readables_same xs (λ a c e. f a c (either (reads_cell x a c) (reads_cells xs a c) e)))
        where
          either : (a b : Bool) → b ≡ true → (a || b) ≡ true
          either true b e = refl
          either false b e = e

  read_all_same : (us done done' : List Update) → ((a c : ℕ) → written done a c ≡ written done' a c) → read_all arrays done us ≡ read_all arrays done' us
  read_all_same [] done done' f = refl
  read_all_same (u ∷ us) done done' f = ap₂ ◌&&◌ (readable_same done done' u.source (λ a c e. f a c)) (read_all_same us (done ++ (u ∷ [])) (done' ++ (u ∷ [])) (λ a c. written_snoc done u a c ∙ ap (λ (b : Bool). b || writes u a c) (f a c) ∙ sym (written_snoc done' u a c)))

  -- an update reads no cell that a quiet one before it writes
  unread_readable : (x : Tree) (v : Update) (done : List Update) → reads_cell x v.array v.target ≡ false → readable x arrays (done ++ (v ∷ [])) ≡ readable x arrays done
  unread_readable x v done e = readable_same (done ++ (v ∷ [])) done x (λ a c f. written_snoc done v a c ∙ ap (λ (b : Bool). written done a c || b) (miss a c f (writes v a c) refl) ∙ or-false (written done a c))
    where
      miss : (a c : ℕ) → reads_cell x a c ≡ true → (b : Bool) → writes v a c ≡ b → writes v a c ≡ false
      miss a c f false g = g
      miss a c f true g =
          let p = (and-eq-true_iff (eqb v.array a) (eqb v.target c)).0 g in
          absurd (true≢false (sym f ∙ ap₂ (reads_cell x) (sym (eqb-true v.array a p.0)) (sym (eqb-true v.target c p.1)) ∙ e))

  snoc_swap : (done : List Update) (u v : Update) (a c : ℕ) → written ((done ++ (v ∷ [])) ++ (u ∷ [])) a c ≡ written ((done ++ (u ∷ [])) ++ (v ∷ [])) a c
  snoc_swap done u v a c =
      written_snoc (done ++ (v ∷ [])) u a c ∙ ap (λ (b : Bool). b || writes u a c) (written_snoc done v a c) ∙ swap (written done a c) (writes v a c) (writes u a c)
      ∙ sym (written_snoc (done ++ (u ∷ [])) v a c ∙ ap (λ (b : Bool). b || writes v a c) (written_snoc done u a c))
    where
      swap : (a b c : Bool) → (a || b || c) ≡ (a || c || b)
      swap true b c = refl
      swap false b c = or_comm b c

  pick-read_all : {u : Update} {us rest : List Update} → Pick u us rest → (done : List Update) → read_all arrays done us ≡ read_all arrays done (u ∷ rest)
  pick-read_all here done = refl
  pick-read_all {u} (later {v = v} {rest = rest} e p) done =
      let q = quiet u v e in
      ap (λ (b : Bool). readable v.source arrays done && b) (pick-read_all p (done ++ (v ∷ [])))
      ∙ ap₂ (λ (a b : Bool). readable v.source arrays done && (a && b)) (unread_readable u.source v done q.unread) (read_all_same rest ((done ++ (v ∷ [])) ++ (u ∷ [])) ((done ++ (u ∷ [])) ++ (v ∷ [])) (snoc_swap done u v))
      ∙ and_swap (readable v.source arrays done) (readable u.source arrays done) (read_all arrays ((done ++ (u ∷ [])) ++ (v ∷ [])) rest)
      ∙ ap (λ (b : Bool). readable u.source arrays done && (b && read_all arrays ((done ++ (u ∷ [])) ++ (v ∷ [])) rest)) (sym (unread_readable v.source u done q.unread'))

  pub read_all_reordered : {us new : List Update} → Reordered us new → (done : List Update) → read_all arrays done us ≡ read_all arrays done new
  read_all_reordered none done = refl
  read_all_reordered (next {u = u} p r) done = pick-read_all p done ∙ ap (λ (b : Bool). readable u.source arrays done && b) (read_all_reordered r (done ++ (u ∷ [])))

-- the terms that occur
module _ (swaps : ℕ → Bool) where
  abbrev occurs : Tree → List Update → Content Tree → Bool
  occurs t us h = among swaps t (parts_of_all (values us h))

  occurs-cons : (t : Tree) (u : Update) (us : List Update) (h : Content Tree) → occurs t (u ∷ us) h ≡ among swaps t (parts (value_of free u.source h)) || occurs t us (updated free h u)
  occurs-cons t u us h = among_append swaps t (parts (value_of free u.source h)) (parts_of_all (values us (updated free h u)))

  pick-occurs : (t : Tree) {u : Update} {us rest : List Update} → Pick u us rest → (h : Content Tree) → occurs t us h ≡ occurs t (u ∷ rest) h
  pick-occurs t here h = refl
  pick-occurs t {u} (later {v = v} {us = us} {rest = rest} e p) h =
      let q = quiet u v e in
      let part : Update → Content Tree → Bool = λ w k. among swaps t (parts (value_of free w.source k)) in
      occurs-cons t v us h
      ∙ ap (λ (b : Bool). part v h || b) (pick-occurs t p (updated free h v) ∙ occurs-cons t u rest (updated free h v))
      ∙ ap₂ (λ (x : Tree) (k : Content Tree). part v h || (among swaps t (parts x) || occurs t rest k)) (unread_value free h v u.source q.unread) (updated_comm free u v q h)
      ∙ or_swap (part v h) (part u h) (occurs t rest (updated free (updated free h u) v))
      ∙ ap (λ (x : Tree). part u h || (among swaps t (parts x) || occurs t rest (updated free (updated free h u) v))) (sym (unread_value free h u v.source q.unread'))
      ∙ ap (λ (b : Bool). part u h || b) (sym (occurs-cons t v rest (updated free h u)))
      ∙ sym (occurs-cons t u (v ∷ rest) h)

  pub occurs_reordered : (t : Tree) {us new : List Update} → Reordered us new → (h : Content Tree) → occurs t us h ≡ occurs t new h
  occurs_reordered t none h = refl
  occurs_reordered t (next {u = u} {rest = rest} {new = new} p r) h =
      pick-occurs t p h ∙ occurs-cons t u rest h ∙ ap (λ (b : Bool). among swaps t (parts (value_of free u.source h)) || b) (occurs_reordered t r (updated free h u)) ∙ sym (occurs-cons t u new h)
