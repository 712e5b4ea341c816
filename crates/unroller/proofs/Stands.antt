-- A list that is read from words stands in them: header, updates and trees, place by place. The comparer walks a checked list by this.
use mathlib.Core.Path.{◌≡◌, refl, sym, ap, ◌∙◌}
use Prim.Native.Nat.{ℕ, zero, suc, ◌+◌, ◌-◌, ◌*◌, ◌<◌, ◌≤◌}
use mathlib.Core.List.{List, [], ◌∷◌, ◌++◌, append_assoc}
use mathlib.Core.Bool.{Bool, true, false, ◌&&◌, not, false≢true}
use mathlib.Core.Option.{some}
use native.Mathlib.Omega.{arith}
use lib.ListN.{length, get_or, drop, replicate, length-drop, length-append, get_or-append, get_or-eq_default}
use lib.Seq.{get_or-drop, drop-drop, drop_at}
use lib.Dec.{eqb, leb, ltb}
use borrow.Author.Tests.{ltb-true, ltb-false, leb-true, leb-false}
use mir.Syntax.{w32}
use mir.Val.{of_z}
use Rattle.model.specs.Test.{every}
use Rattle.model.specs.Tables.{Array, Tables, cells, array_at, inside, operator_byte, arity_at}
use Rattle.model.specs.Update.{Tree, Trees, Update, Listed}
use Rattle.model.specs.Update.Tree.{cell, number, constant, operator}
use Rattle.model.specs.Update.Trees.{nil, cons}
use Rattle.unroller.specs.Allowed.{allowed_array, proper, propers, may_write, allowed_update}
use Rattle.unroller.specs.Layout.{padded, array_words, arrays_words, table_words, tree_words, trees_words, update_words, updates_words, words, layout}
use Rattle.unroller.specs.Decode.{decode}
use Rattle.unroller.specs.State.{nowhere}
use Rattle.unroller.specs.Stands.{bases_from, bases_of, Proper, Three, ArrayAt, HeaderAt, many, TreeAt, TreesAt, UpdatesAt, Stands}
use Rattle.model.proofs.Operators.{arity_few}
use Rattle.unroller.proofs.Parts.{both, within-high, every_at, ArrayParts, array_parts, room, TablesParts, list-parts, signed-fits}
use Rattle.unroller.proofs.Encode.{padded-length, arrays-length}
use Rattle.unroller.proofs.Inverse.{layout-decode}

-- bases
bases_from_first : (n : ℕ) (xs : List Array) → get_or (bases_from n xs) 0 0 ≡ n
bases_from_first n [] = refl
bases_from_first n (x ∷ xs) = refl

bases_from-length : (n : ℕ) (xs : List Array) → length (bases_from n xs) ≡ length xs + 1
bases_from-length n [] = refl
bases_from-length n (x ∷ xs) = let e = bases_from-length (n + cells x.extents) xs in omega arith

bases_from-step : (n : ℕ) (xs : List Array) (a : ℕ) → a < length xs → get_or (bases_from n xs) (suc a) 0 ≡ get_or (bases_from n xs) a 0 + cells (array_at xs a).extents
bases_from-step n [] a h = absurd (omega arith)
bases_from-step n (x ∷ xs) zero h = bases_from_first (n + cells x.extents) xs
bases_from-step n (x ∷ xs) (suc a) h = bases_from-step (n + cells x.extents) xs a (omega arith)

bases_from_last : (n : ℕ) (xs : List Array) → get_or (bases_from n xs) (length xs) 0 ≡ n + room xs
bases_from_last n [] = omega arith
bases_from_last n (x ∷ xs) = let e = bases_from_last (n + cells x.extents) xs in omega arith

module _ (xs : List Array) where
  pub bases-length : length (bases_of xs) ≡ length xs + 1
  unfolding bases_of
  bases-length = bases_from-length 0 xs

  pub bases_first : get_or (bases_of xs) 0 0 ≡ 0
  unfolding bases_of
  bases_first = bases_from_first 0 xs

  pub bases-step : (a : ℕ) → a < length xs → get_or (bases_of xs) (a + 1) 0 ≡ get_or (bases_of xs) a 0 + cells (array_at xs a).extents
  unfolding bases_of
  bases-step a h = let e : a + 1 ≡ suc a = omega arith in rw e (bases_from-step 0 xs a h)

  pub bases_last : get_or (bases_of xs) (length xs) 0 ≡ room xs
  unfolding bases_of
  bases_last = let e = bases_from_last 0 xs in omega arith

  -- a declared cell stands before the next array's base
  pub proper-inside : (a c : ℕ) → inside xs a c ≡ true → Proper (bases_of xs) a c
  proper-inside a c e = by (ltb a (length xs)) refl
    where
      by : (b : Bool) → ltb a (length xs) ≡ b → Proper (bases_of xs) a c
      by true q =
          let h = ltb-true a (length xs) q in
          let n = bases-length in
          let s = bases-step a h in
          let l = ltb-true c (cells (array_at xs a).extents) e in
          record { array = omega arith; inside = omega arith }
      by false q =
          let h = ltb-false a (length xs) q in
          let g : array_at xs a ≡ nowhere = get_or-eq_default xs nowhere h in
          let l = ltb-true c (cells (array_at xs a).extents) e in
          let m : c < cells nowhere.extents = rw g at l in
          absurd (omega arith)

  pub bases-sorted : (a b : ℕ) → a ≤ b → b ≤ length xs → get_or (bases_of xs) a 0 ≤ get_or (bases_of xs) b 0
  bases-sorted a zero h k = let e : a ≡ 0 = omega arith in rw e (omega arith)
  bases-sorted a (suc b) h k = by (leb a b) refl (λ l. bases-sorted a b l (omega arith))
    where
      by : (t : Bool) → leb a b ≡ t → (a ≤ b → get_or (bases_of xs) a 0 ≤ get_or (bases_of xs) b 0) → get_or (bases_of xs) a 0 ≤ get_or (bases_of xs) (suc b) 0
      by true q f =
          let i = f (leb-true a b q) in
          let s = bases-step b (omega arith) in
          let e : b + 1 ≡ suc b = omega arith in
          let s2 = rw e at s in
          omega arith
      by false q f = let l = leb-false a b q in let e : a ≡ suc b = omega arith in rw e (omega arith)

-- words behind a place
module _ (w : List ℕ) where
  word_at : (at i : ℕ) (l : List ℕ) → drop at w ≡ l → get_or w (at + i) 0 ≡ get_or l i 0
  word_at at i l e = sym (get_or-drop at w i 0) ∙ ap (λ (l : List ℕ). get_or l i 0) e

  word-here : (at : ℕ) (l : List ℕ) → drop at w ≡ l → get_or w at 0 ≡ get_or l 0 0
  word-here at l e = let p : at + 0 ≡ at = omega arith in rw p at (word_at at 0 l e)

  drop_more : (at n : ℕ) (l : List ℕ) → drop at w ≡ l → drop (at + n) w ≡ drop n l
  drop_more at n l e = sym (drop-drop n at w) ∙ ap (drop n) e

  room_at : (at n : ℕ) (l : List ℕ) → drop at w ≡ l → n < length l → at + n < length w
  room_at at n l e h = let p = length-drop at w in let q = ap length e in omega arith

  three_at : (at x y z : ℕ) (r : List ℕ) → drop at w ≡ x ∷ y ∷ z ∷ r → Three w at x y z
  three_at at x y z r e = record {
    room = let h = room_at at 2 (x ∷ y ∷ z ∷ r) e (omega arith) in omega arith;
    code = word-here at (x ∷ y ∷ z ∷ r) e;
    one = word_at at 1 (x ∷ y ∷ z ∷ r) e;
    two = word_at at 2 (x ∷ y ∷ z ∷ r) e;
  }

-- the default behind a list's own elements, or nothing, is the same
pub default_behind : {A : Type 0} (z : A) (l : List A) (k i : ℕ) → get_or (l ++ replicate k z) i z ≡ get_or l i z
default_behind z [] zero i = refl
default_behind z [] (suc k) zero = refl
default_behind z [] (suc k) (suc i) = default_behind z [] k i
default_behind z (x ∷ l) k zero = refl
default_behind z (x ∷ l) k (suc i) = default_behind z l k i

pub zero-behind : (l : List ℕ) (k i : ℕ) → get_or (l ++ replicate k 0) i 0 ≡ get_or l i 0
zero-behind l k i = default_behind 0 l k i

padded_at : (n : ℕ) (l r : List ℕ) (i : ℕ) → length l ≤ n → i < n → get_or (padded n l ++ r) i 0 ≡ get_or l i 0
padded_at n l r i h k = let e = padded-length n l h in get_or-append (padded n l) r 0 i (omega arith) ∙ zero-behind l (n - length l) i

propers-many : (t : Tables) (ts : Trees) (left n : ℕ) → propers ts t left n ≡ true → many ts ≡ n
unfolding propers many
propers-many t nil left zero e = refl
propers-many t nil left (suc n) e = absurd (false≢true e)
propers-many t (cons x xs) left zero e = absurd (false≢true e)
propers-many t (cons x xs) left (suc n) e = ap suc (propers-many t xs left n (both (proper x t left) (propers xs t left n) e).1)

-- trees and updates
module _ (w : List ℕ) (t : Tables) (bytes : every operator_byte t.operators ≡ true) where
  abbrev ops : List ℕ
  ops = t.operators

  abbrev bases : List ℕ
  bases = bases_of t.arrays

  mutual
    unfolding TreeAt TreesAt tree_words trees_words proper propers

    tree-stands : (x : Tree) (left at : ℕ) (r : List ℕ) → proper x t left ≡ true → drop at w ≡ tree_words x ++ r → (to : ℕ) × TreeAt ops bases w x left at to × (drop to w ≡ r)
    tree-stands (cell a c) left at r p e = (at + 3, (three_at w at 16 a c r e, proper-inside t.arrays a c p, refl), drop_more w at 3 (16 ∷ a ∷ c ∷ r) e)
    tree-stands (number z) left at r p e = (at + 3, (three_at w at 18 (of_z w32 z) 0 r e, signed-fits w32 2147483647 refl z p, refl), drop_more w at 3 (18 ∷ of_z w32 z ∷ 0 ∷ r) e)
    tree-stands (constant n) left at r p e = (at + 3, (three_at w at 19 n 0 r e, refl), drop_more w at 3 (19 ∷ n ∷ 0 ∷ r) e)
    tree-stands (operator o ts) zero at r p e = absurd (false≢true p)
    tree-stands (operator o ts) (suc left) at r p e =
        let q = both (ltb o (length ops)) (propers ts t left (arity_at ops o)) p in
        let m = propers-many t ts left (arity_at ops o) q.1 in
        let k = arity_few 2 (get_or ops o 0) (every_at operator_byte ops 0 o bytes (ltb-true o (length ops) q.0)) in
        let s = trees_stand ts left (arity_at ops o) (at + 3) r q.1 (drop_more w at 3 (17 ∷ o ∷ 0 ∷ (trees_words ts ++ r)) e) in
        (s.0, (three_at w at 17 o 0 (trees_words ts ++ r) e, ltb-true o (length ops) q.0, sym m, omega arith, (left, omega arith, s.1)), s.2)

    trees_stand : (xs : Trees) (left n at : ℕ) (r : List ℕ) → propers xs t left n ≡ true → drop at w ≡ trees_words xs ++ r → (to : ℕ) × TreesAt ops bases w xs left at to × (drop to w ≡ r)
    trees_stand nil left n at r p e = (at, refl, e)
    trees_stand (cons x xs) left zero at r p e = absurd (false≢true p)
    trees_stand (cons x xs) left (suc n) at r p e =
        let q = both (proper x t left) (propers xs t left n) p in
        let a = tree-stands x left at (trees_words xs ++ r) q.0 (e ∙ append_assoc (tree_words x) (trees_words xs) r) in
        let b = trees_stand xs left n a.0 r q.1 a.2 in
        (b.0, (a.0, a.1, b.1), b.2)

  updates_stand : (us : List Update) (at k : ℕ) → every (allowed_update t) us ≡ true → drop at w ≡ updates_words us ++ replicate k 0 → UpdatesAt ops bases w us at
  unfolding UpdatesAt allowed_update may_write
  updates_stand [] at k a e = λ h one. let z = word-here w at (replicate k 0) e ∙ zero-behind [] k 0 in let n : ◌≡◌ {A = ℕ} 1 0 = sym one ∙ z in omega arith
  updates_stand (u ∷ us) at k a e =
      let p = both (may_write t.arrays u.array u.target && proper u.source t 12) (every (allowed_update t) us) a in
      let q = both (may_write t.arrays u.array u.target) (proper u.source t 12) p.0 in
      let i = both (inside t.arrays u.array u.target) (not (eqb (array_at t.arrays u.array).role 0)) q.0 in
      let r : List ℕ = updates_words us ++ replicate k 0 in
      let e2 : drop at w ≡ 1 ∷ u.array ∷ u.target ∷ (tree_words u.source ++ r) = e ∙ append_assoc (update_words u) (updates_words us) (replicate k 0) in
      let s = tree-stands u.source 12 (at + 3) r q.1 (drop_more w at 3 (1 ∷ u.array ∷ u.target ∷ (tree_words u.source ++ r)) e2) in
      (three_at w at 1 u.array u.target (tree_words u.source ++ r) e2, proper-inside t.arrays u.array u.target i.0, (s.0, s.1, updates_stand us s.0 k p.1 s.2))

-- the header
module _ (w : List ℕ) where
  array-stands : (x : Array) (at : ℕ) (r : List ℕ) → ArrayParts x → drop at w ≡ array_words x ++ r → ArrayAt w at x
  array-stands x at r p e =
      let n = within-high 1 3 (length x.extents) p.dimensions in
      record {
        role = word-here w at (array_words x ++ r) e;
        dimensions = word_at w at 1 (array_words x ++ r) e;
        extent = λ d h. word_at w (at + 2) d (padded 3 x.extents ++ r) (drop_more w at 2 (array_words x ++ r) e) ∙ padded_at 3 x.extents r d n h;
      }

  arrays_stand : (xs : List Array) (at : ℕ) (r : List ℕ) → every allowed_array xs ≡ true → drop at w ≡ arrays_words xs ++ r → (a : ℕ) → a < length xs → ArrayAt w (at + 5 * a) (array_at xs a)
  arrays_stand [] at r p e a h = absurd (omega arith)
  arrays_stand (x ∷ xs) at r p e zero h =
      let q = both (allowed_array x) (every allowed_array xs) p in
      let z : at + 5 * 0 ≡ at = omega arith in
      rw z (array-stands x at (arrays_words xs ++ r) (array_parts x q.0) (e ∙ append_assoc (array_words x) (arrays_words xs) r))
  arrays_stand (x ∷ xs) at r p e (suc a) h =
      let q = both (allowed_array x) (every allowed_array xs) p in
      let b = array_parts x q.0 in
      let l = padded-length 3 x.extents (within-high 1 3 (length x.extents) b.dimensions) in
      let z : at + 5 * suc a ≡ at + 5 + 5 * a = omega arith in
      let n : length (array_words x) ≡ 5 = omega arith in
      let d : drop (at + 5) w ≡ arrays_words xs ++ r = drop_more w at 5 (array_words x ++ (arrays_words xs ++ r)) (e ∙ append_assoc (array_words x) (arrays_words xs) r) ∙ drop_at (array_words x) (arrays_words xs ++ r) 5 n in
      rw z (arrays_stand xs (at + 5) r q.1 d a (omega arith))

  -- what stands behind the header
  abbrev Behind : Tables → List ℕ → Type 0
  Behind t r = HeaderAt w t × (drop 98 w ≡ r)

  header-stands : (t : Tables) (r : List ℕ) → TablesParts t → w ≡ table_words t ++ r → Behind t r
  unfolding table_words
  header-stands t r p e =
      let ops = padded 16 t.operators in
      let xs = padded 80 (arrays_words t.arrays) in
      let few = within-high 0 16 (length t.operators) p.operators in
      let most = within-high 1 16 (length t.arrays) p.count in
      let l = arrays-length t.arrays p.each in
      let m = padded-length 16 t.operators few in
      let n = padded-length 80 (arrays_words t.arrays) (omega arith) in
      let e0 : drop 0 w ≡ length t.operators ∷ (ops ++ (length t.arrays ∷ (xs ++ r))) = e ∙ ap (λ (l : List ℕ). length t.operators ∷ l) (append_assoc ops (length t.arrays ∷ xs) r) in
      let e1 : drop 1 w ≡ ops ++ (length t.arrays ∷ (xs ++ r)) = drop_more w 0 1 _ e0 in
      let e17 : drop 17 w ≡ length t.arrays ∷ (xs ++ r) = drop_more w 1 16 _ e1 ∙ drop_at ops (length t.arrays ∷ (xs ++ r)) 16 m in
      let e18 : drop 18 w ≡ xs ++ r = drop_more w 17 1 _ e17 in
      let e98 : drop 98 w ≡ r = drop_more w 18 80 _ e18 ∙ drop_at xs r 80 n in
      let a18 = e18 ∙ append_assoc (arrays_words t.arrays) (replicate (80 - length (arrays_words t.arrays)) 0) r in
      let g = length-append xs r in
      let h = room_at w 18 79 (xs ++ r) e18 (omega arith) in (
        record {
          room = omega arith;
          operators = word-here w 0 _ e0;
          word = λ o h. word_at w 1 o _ e1 ∙ padded_at 16 t.operators (length t.arrays ∷ (xs ++ r)) o few h;
          count = word-here w 17 _ e17;
          array = λ a h. arrays_stand t.arrays 18 _ p.each a18 a h;
        },
        e98,
      )

-- a list that words lay out stands in them
pub stands : (w : List ℕ) (l : Listed) → decode w ≡ some l → Stands w l
unfolding layout words
stands w l e =
    let d = layout-decode w l e in
    let a = list-parts l d.1 in
    let k = length w - length (words l) in
    let r : List ℕ = updates_words l.updates ++ replicate k 0 in
    let whole : w ≡ table_words l.tables ++ r = d.0 ∙ append_assoc (table_words l.tables) (updates_words l.updates) (replicate k 0) in
    let h = header-stands w l.tables r a.tables-allowed whole in
    record { header = h.0; updates = updates_stand w l.tables a.tables-allowed.bytes l.updates 98 k a.each h.1 }
