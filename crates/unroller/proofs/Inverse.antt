-- Words that lay out a list are its layout, and the list is allowed.
use Rattle.std.specs.Prelude.{if◌then◌else◌}
use mathlib.Core.Path.{◌≡◌, refl, sym, ap, ◌∙◌, subst}
use Prim.Native.Nat.{ℕ, zero, suc, ◌+◌, ◌-◌, ◌*◌, ◌≤◌}
use mathlib.Core.List.{List, [], ◌∷◌, ◌++◌, append-nil, append_assoc}
use mathlib.Core.Bool.{Bool, true, false, ◌&&◌, ◌||◌, not}
use mathlib.Core.Option.{Option, some}
use native.Mathlib.Omega.{arith}
use lib.ListN.{length, replicate, length-replicate, length-append}
use lib.Dec.{eqb, leb, ltb}
use borrow.Author.Tests.{leb-true, ltb-true, eqb-true}
use mir.Syntax.{w32}
use mir.Val.{to_z, Fits as Bits}
use mir.Facts.{of_z-to_z, sfits_to_z}
use Rattle.model.specs.Test.{within, every}
use Rattle.model.specs.Tables.{Array, Tables, cells, array_at, local, starts, inside, operator_byte, arity_at}
use Rattle.model.specs.Update.{Tree, Trees, Update, Listed, size, nodes, written}
use Rattle.model.specs.Update.Tree.{cell, number, constant}
use Rattle.model.specs.Update.Trees.{nil, cons}
use Rattle.unroller.specs.Run.{readable, readables}
use Rattle.unroller.specs.Words.{Out, got, none, Reader, and_then, give, refuse, word, ask, times, zeros, is_got, all_zero}
use Rattle.unroller.specs.Allowed.{locals_last, allowed_array, proper, propers, may_write, allowed_update, read_all, allowed}
use Rattle.unroller.specs.Layout.{padded, array_words, arrays_words, table_words, tree_words, trees_words, update_words, updates_words, words, layout}
use Rattle.unroller.specs.Decode.{tested, between, operators, extents, array, arrays, tables, may_read, applied, node, operates, expr, update, updates, list, list_of, decode}
use Rattle.unroller.proofs.Parts.{both, join, ArrayParts, array_whole, room, TablesParts, list-whole, fits_signed, nodes_snoc}
use Rattle.unroller.proofs.Encode.{arrays-length, decode-layout}

bind_out : {A B : Type 0} (m : Out A) (f : A → Reader B) {b : B} {rest : List ℕ} → and_then m f ≡ got b rest → (a : A) × (v : List ℕ) × (m ≡ got a v) × (f a v ≡ got b rest)
bind_out (got a v) f e = (a, v, refl, e)
bind_out none f e = absurd (let z : ◌≡◌ {A = ℕ} 0 1 = cc in omega arith)

word_out : (w : List ℕ) {x : ℕ} {rest : List ℕ} → word w ≡ got x rest → w ≡ x ∷ rest
word_out [] e = absurd (let z : ◌≡◌ {A = ℕ} 0 1 = cc in omega arith)
word_out (y ∷ w) {x} {rest} e = let p : y ≡ x = cc in let q : w ≡ rest = cc in cc

ask_out : (t : Bool) (w : List ℕ) {x : ℕ} {rest : List ℕ} → ask t w ≡ got x rest → (t ≡ true) × (w ≡ rest)
ask_out true w e = (refl, cc)
ask_out false w e = absurd (let z : ◌≡◌ {A = ℕ} 0 1 = cc in omega arith)

-- what holds of a value that was got, and of the words left
carry : {A : Type 0} (P : A → List ℕ → Type 0) {a b : A} {v rest : List ℕ} → ◌≡◌ {A = Out A} (got a v) (got b rest) → P a v → P b rest
carry P {a} {b} {v} {rest} e p = let x : a ≡ b = cc in let y : v ≡ rest = cc in subst (λ (c : _). P c rest) x (subst (λ (l : List ℕ). P a l) y p)

tested_out : (test : ℕ → Bool) (w : List ℕ) {x : ℕ} {rest : List ℕ} → tested test w ≡ got x rest → (w ≡ x ∷ rest) × (test x ≡ true)
tested_out test w e =
    let b = bind_out (word w) _ e in
    let c = bind_out (ask (test b.0) b.1) _ b.3 in
    let d = ask_out (test b.0) b.1 c.2 in
    carry (λ x rest. (w ≡ x ∷ rest) × (test x ≡ true)) c.3 (word_out w b.2 ∙ ap (λ (l : List ℕ). b.0 ∷ l) d.1, d.0)

zeros_out : (n : ℕ) (w : List ℕ) {x : ℕ} {rest : List ℕ} → zeros n w ≡ got x rest → w ≡ replicate n 0 ++ rest
unfolding zeros
zeros_out zero w e = cc
zeros_out (suc n) w e =
    let b = bind_out (word w) _ e in
    let c = bind_out (ask (eqb b.0 0) b.1) _ b.3 in
    let d = ask_out (eqb b.0 0) b.1 c.2 in
    let z = eqb-true b.0 0 d.0 in
    let r = zeros_out n c.1 c.3 in
    word_out w b.2 ∙ rw (z, d.1) (ap (λ (l : List ℕ). 0 ∷ l) r)

numbers_out : (test : ℕ → Bool) (n : ℕ) (w : List ℕ) {l rest : List ℕ} → times [] ◌∷◌ (tested test) n w ≡ got l rest → (n ≡ length l) × (w ≡ l ++ rest) × (every test l ≡ true)
unfolding times
numbers_out test zero w {l} {rest} e = carry (λ l rest. (0 ≡ length l) × (w ≡ l ++ rest) × (every test l ≡ true)) {v = w} e (refl, refl, refl)
numbers_out test (suc n) w e =
    let b = bind_out (tested test w) _ e in
    let c = bind_out (times [] ◌∷◌ (tested test) n b.1) _ b.3 in
    let x = tested_out test w b.2 in
    let y = numbers_out test n b.1 c.2 in
    carry (λ l rest. (suc n ≡ length l) × (w ≡ l ++ rest) × (every test l ≡ true)) c.3
    (ap suc y.0, x.0 ∙ ap (λ (l : List ℕ). b.0 ∷ l) y.1, join (test b.0) (every test c.0) x.1 y.2)

-- the same with the value and the words as variables
bind_by : {A B : Type 0} {P : Type 0} (m : Out A) (f : A → Reader B) {b : B} {rest : List ℕ} → and_then m f ≡ got b rest → ((a : A) (v : List ℕ) → m ≡ got a v → f a v ≡ got b rest → P) → P
bind_by m f e k = let b = bind_out m f e in k b.0 b.1 b.2 b.3

array_made : (w v1 v2 v3 rest es : List ℕ) (role d : ℕ) → w ≡ role ∷ v1 → within 0 3 role ≡ true → v1 ≡ d ∷ v2 → within 1 3 d ≡ true →
    d ≡ length es → v2 ≡ es ++ v3 → every (within 1 1024) es ≡ true → v3 ≡ replicate (3 - d) 0 ++ rest →
    (w ≡ array_words (record { role = role; extents = es }) ++ rest) × ArrayParts (record { role = role; extents = es })
array_made w v1 v2 v3 rest es role d a b c f g h i j =
    (rw (a, c, h, j, g, append_assoc es (replicate (3 - length es) 0) rest), record { role-known = b; dimensions = rw g at f; sizes-known = i })

array_out : (w : List ℕ) {x : Array} {rest : List ℕ} → array w ≡ got x rest → (w ≡ array_words x ++ rest) × ArrayParts x
unfolding array extents
array_out w {x} {rest} e =
    bind_by (between 0 3 w) _ e λ role v1 e1 r1.
    bind_by (between 1 3 v1) _ r1 λ d v2 e2 r2.
    bind_by (extents d v2) _ r2 λ es v3 e3 r3.
    bind_by (times [] ◌∷◌ (between 1 1024) d v2) _ e3 λ es4 v4 e4 r4.
    bind_by (zeros (3 - d) v4) _ r4 λ z v5 e5 r5.
    let p = tested_out (within 0 3) w e1 in
    let q = tested_out (within 1 3) v1 e2 in
    let r = numbers_out (within 1 1024) d v2 e4 in
    let y = zeros_out (3 - d) v4 e5 in
    carry (λ x rest. (w ≡ array_words x ++ rest) × ArrayParts x) r3
    (carry (λ es rest. (w ≡ array_words (record { role = role; extents = es }) ++ rest) × ArrayParts (record { role = role; extents = es })) r5
    (array_made w v1 v2 v4 v5 es4 role d p.0 p.1 q.0 q.1 r.0 r.1 r.2 y))

arrays_out : (n : ℕ) (after : Bool) (before : ℕ) (w : List ℕ) {xs : List Array} {rest : List ℕ} → before ≤ 2048 → arrays n after before w ≡ got xs rest →
    (n ≡ length xs) × (w ≡ arrays_words xs ++ rest) × (every allowed_array xs ≡ true) × (locals_last after xs ≡ true) × (before + room xs ≤ 2048)
unfolding arrays
arrays_out zero after before w h e =
    carry (λ xs rest. (0 ≡ length xs) × (w ≡ arrays_words xs ++ rest) × (every allowed_array xs ≡ true) × (locals_last after xs ≡ true) × (before + room xs ≤ 2048)) {v = w} e (refl, refl, refl, refl, omega arith)
arrays_out (suc n) after before w h e =
    bind_by (array w) _ e λ x v1 e1 r1.
    bind_by (ask (not after || local x) v1) _ r1 λ z v2 e2 r2.
    bind_by (ask (leb (before + cells x.extents) 2048) v2) _ r2 λ z v3 e3 r3.
    bind_by (arrays n (local x) (before + cells x.extents) v3) _ r3 λ xs v4 e4 r4.
    let p = array_out w e1 in
    let q = ask_out (not after || local x) v1 e2 in
    let r = ask_out (leb (before + cells x.extents) 2048) v2 e3 in
    let l = leb-true (before + cells x.extents) 2048 r.0 in
    let y = arrays_out n (local x) (before + cells x.extents) v3 l e4 in
    let m = y.4 in
    carry (λ xs rest. (suc n ≡ length xs) × (w ≡ arrays_words xs ++ rest) × (every allowed_array xs ≡ true) × (locals_last after xs ≡ true) × (before + room xs ≤ 2048)) r4
    (ap suc y.0, p.0 ∙ ap (λ (l : List ℕ). array_words x ++ l) (q.1 ∙ r.1 ∙ y.1) ∙ sym (append_assoc (array_words x) (arrays_words xs) v4), join (allowed_array x) (every allowed_array xs) (array_whole x p.1) y.2, join (not after || local x) (locals_last (local x) xs) q.0 y.3, omega arith)

tables-made : (w v1 v2 v3 v4 v5 rest ops : List ℕ) (xs : List Array) (n m : ℕ) → w ≡ n ∷ v1 → within 0 16 n ≡ true → n ≡ length ops → v1 ≡ ops ++ v2 → every operator_byte ops ≡ true →
    v2 ≡ replicate (16 - n) 0 ++ v3 → v3 ≡ m ∷ v4 → within 1 16 m ≡ true → m ≡ length xs → v4 ≡ arrays_words xs ++ v5 → every allowed_array xs ≡ true → locals_last false xs ≡ true → room xs ≤ 2048 → v5 ≡ replicate (5 * (16 - m)) 0 ++ rest →
    (w ≡ table_words (record { operators = ops; arrays = xs }) ++ rest) × TablesParts (record { operators = ops; arrays = xs })
unfolding table_words
tables-made w v1 v2 v3 v4 v5 rest ops xs n m a b c d e f g h i j k o r l =
    let y = arrays-length xs k in
    let z : 5 * (16 - m) ≡ 80 - length (arrays_words xs) = omega arith in
    (rw (a, d, f, g, j, l, z, c, i) (simp append_assoc), record { operators = rw c at b; bytes = e; count = rw i at h; each = k; order = o; fits = r })

tables_out : (w : List ℕ) {t : Tables} {rest : List ℕ} → tables w ≡ got t rest → (w ≡ table_words t ++ rest) × TablesParts t
unfolding tables operators
tables_out w e =
    bind_by (between 0 16 w) _ e λ n v1 e1 r1.
    bind_by (times [] ◌∷◌ (tested operator_byte) n v1) _ r1 λ ops v2 e2 r2.
    bind_by (zeros (16 - n) v2) _ r2 λ z3 v3 e3 r3.
    bind_by (between 1 16 v3) _ r3 λ m v4 e4 r4.
    bind_by (arrays m false 0 v4) _ r4 λ xs v5 e5 r5.
    bind_by (zeros (5 * (16 - m)) v5) _ r5 λ z6 v6 e6 r6.
    let p = tested_out (within 0 16) w e1 in
    let q = numbers_out operator_byte n v1 e2 in
    let z = zeros_out (16 - n) v2 e3 in
    let r = tested_out (within 1 16) v3 e4 in
    let y = arrays_out m false 0 v4 (omega arith) e5 in
    let v = zeros_out (5 * (16 - m)) v5 e6 in
    carry (λ t rest. (w ≡ table_words t ++ rest) × TablesParts t) r6
    (tables-made w v1 v2 v3 v4 v5 v6 ops xs n m p.0 p.1 q.0 q.1 q.2 z r.0 r.1 y.0 y.1 y.2 y.3 (let r = y.4 in omega arith) v)

-- expressions
module _ (t : Tables) (before : List Update) where
  abbrev ops : List ℕ
  ops = t.operators

  abbrev reads : ℕ → ℕ → Bool
  reads = may_read t.arrays before

  -- what a reader of a tree that nests at most `left` deep says of the words
  abbrev TreeAt : ℕ → List ℕ → Tree → List ℕ → Type 0
  TreeAt left w x rest = (w ≡ tree_words x ++ rest) × (proper x t left ≡ true) × (readable x t.arrays before ≡ true)

  abbrev TreesAt : ℕ → ℕ → List ℕ → Trees → List ℕ → Type 0
  TreesAt left n w xs rest = (w ≡ trees_words xs ++ rest) × (propers xs t left n ≡ true) × (readables xs t.arrays before ≡ true)

  trees_out : (left : ℕ) (one : Reader Tree) → ((w : List ℕ) (x : Tree) (rest : List ℕ) → one w ≡ got x rest → TreeAt left w x rest) →
      (n : ℕ) (w : List ℕ) {xs : Trees} {rest : List ℕ} → times nil cons one n w ≡ got xs rest → TreesAt left n w xs rest
  unfolding times trees_words tree_words proper propers readable readables
  trees_out left one h zero w e = carry (TreesAt left 0 w) {v = w} e (refl, refl, refl)
  trees_out left one h (suc n) w e =
      bind_by (one w) _ e λ x v1 e1 r1.
      bind_by (times nil cons one n v1) _ r1 λ xs v2 e2 r2.
      let p = h w x v1 e1 in
      let q = trees_out left one h n v1 e2 in
      carry (TreesAt left (suc n) w) r2 (
        p.0 ∙ ap (λ (l : List ℕ). tree_words x ++ l) q.0 ∙ sym (append_assoc (tree_words x) (trees_words xs) v2),
        join (proper x t left) (propers xs t left n) p.1 q.1,
        join (readable x t.arrays before) (readables xs t.arrays before) p.2 q.2,
      )

  -- a cell that may be read, in its two parts
  read_out : (x y : ℕ) → reads x y ≡ true → (inside t.arrays x y ≡ true) × ((starts (array_at t.arrays x) || written before x y) ≡ true)
  unfolding may_read
  read_out x y e = both (inside t.arrays x y) (starts (array_at t.arrays x) || written before x y) e

  module _ (left : ℕ) (f : ℕ → Reader Tree)
      (h : (o : ℕ) (w : List ℕ) (x : Tree) (rest : List ℕ) → f o w ≡ got x rest → TreeAt left (17 ∷ o ∷ 0 ∷ w) x rest) where
    body_out : (code x y : ℕ) (v : List ℕ) {g : Tree} {rest : List ℕ} →
        node ops reads f (code ∷ x ∷ y ∷ v) ≡ got g rest → TreeAt left (code ∷ x ∷ y ∷ v) g rest
    unfolding node tree_words trees_words proper propers readable readables
    body_out code x y v {g} {rest} e = by (eqb code 16) (eqb code 17) (eqb code 18) (eqb code 19) refl refl refl refl e
      where
        ones : Bool → Bool → Bool → Bool → Reader Tree
        ones a b c d = if a then (λ s. and_then (ask (reads x y) s) (λ z. give (cell x y)))
            else if b then (λ s. and_then (ask (eqb y 0) s) (λ z. f x))
            else if c then (λ s. and_then (ask (ltb x 4294967296 && eqb y 0) s) (λ z. give (number (to_z w32 x))))
            else if d then (λ s. and_then (ask (ltb x 4294967296 && eqb y 0) s) (λ z. give (constant x)))
            else refuse

        by : (a b c d : Bool) → eqb code 16 ≡ a → eqb code 17 ≡ b → eqb code 18 ≡ c → eqb code 19 ≡ d → ones a b c d v ≡ got g rest → TreeAt left (code ∷ x ∷ y ∷ v) g rest
        by true b c d ea eb ec ed e = bind_by (ask (reads x y) v) _ e λ z v1 e1 r1.
            let q = ask_out (reads x y) v e1 in
            let k = eqb-true code 16 ea in
            let m = read_out x y q.0 in
            carry (TreeAt left (code ∷ x ∷ y ∷ v)) r1 (rw (k, q.1), m.0, m.1)
        by false true c d ea eb ec ed e = bind_by (ask (eqb y 0) v) _ e λ z v1 e1 r1.
            let q = ask_out (eqb y 0) v e1 in
            let k = eqb-true code 17 eb in
            let j = eqb-true y 0 q.0 in
            let p = h x v1 g rest r1 in
            (rw (k, j, q.1) p.0, p.1, p.2)
        by false false true d ea eb ec ed e = bind_by (ask (ltb x 4294967296 && eqb y 0) v) _ e λ z v1 e1 r1.
            let q = ask_out (ltb x 4294967296 && eqb y 0) v e1 in
            let k = eqb-true code 18 ec in
            let m = both (ltb x 4294967296) (eqb y 0) q.0 in
            let j = eqb-true y 0 m.1 in
            let b : Bits w32 x = record { fits = ltb-true x 4294967296 m.0 } in
            carry (TreeAt left (code ∷ x ∷ y ∷ v)) r1 (rw (k, j, q.1, of_z-to_z {w = w32} {n = x} b), fits_signed w32 2147483647 refl (to_z w32 x) (sfits_to_z {w = w32} {n = x} b), refl)
        by false false false true ea eb ec ed e = bind_by (ask (ltb x 4294967296 && eqb y 0) v) _ e λ z v1 e1 r1.
            let q = ask_out (ltb x 4294967296 && eqb y 0) v e1 in
            let k = eqb-true code 19 ed in
            let m = both (ltb x 4294967296) (eqb y 0) q.0 in
            let j = eqb-true y 0 m.1 in
            carry (TreeAt left (code ∷ x ∷ y ∷ v)) r1 (rw (k, j, q.1), m.0, refl)
        by false false false false ea eb ec ed e = absurd (let z : ◌≡◌ {A = ℕ} 0 1 = cc in omega arith)

    node_out : (w : List ℕ) {g : Tree} {rest : List ℕ} → node ops reads f w ≡ got g rest → TreeAt left w g rest
    node_out [] e = unfold node in absurd (let z : ◌≡◌ {A = ℕ} 0 1 = cc in omega arith)
    node_out (a ∷ []) e = unfold node in absurd (let z : ◌≡◌ {A = ℕ} 0 1 = cc in omega arith)
    node_out (a ∷ b ∷ []) e = unfold node in absurd (let z : ◌≡◌ {A = ℕ} 0 1 = cc in omega arith)
    node_out (a ∷ b ∷ c ∷ v) e = body_out a b c v e

  applied_out : (left : ℕ) → ((w : List ℕ) (x : Tree) (rest : List ℕ) → expr ops reads left w ≡ got x rest → TreeAt left w x rest) →
      (o : ℕ) (v : List ℕ) (x : Tree) (rest : List ℕ) → operates ops reads (suc left) o v ≡ got x rest → TreeAt (suc left) (17 ∷ o ∷ 0 ∷ v) x rest
  unfolding expr operates applied proper propers readable readables tree_words trees_words
  applied_out left h o v x rest e =
      bind_by (ask (ltb o (length ops)) v) _ e λ z v1 e1 r1.
      bind_by (times nil cons (expr ops reads left) (arity_at ops o) v1) _ r1 λ xs v2 e2 r2.
      let q = ask_out (ltb o (length ops)) v e1 in
      let p = trees_out left (expr ops reads left) h (arity_at ops o) v1 e2 in
      carry (TreeAt (suc left) (17 ∷ o ∷ 0 ∷ v)) r2 (
        ap (λ (l : List ℕ). 17 ∷ o ∷ 0 ∷ l) (q.1 ∙ p.0),
        join (ltb o (length ops)) (propers xs t left (arity_at ops o)) q.0 p.1,
        p.2,
      )

  tree_out : (left : ℕ) (w : List ℕ) (x : Tree) (rest : List ℕ) → expr ops reads left w ≡ got x rest → TreeAt left w x rest
  unfolding expr operates
  tree_out zero w x rest e = node_out 0 (operates ops reads 0) (λ o v x rest r. absurd (let z : ◌≡◌ {A = ℕ} 0 1 = cc in omega arith)) w e
  tree_out (suc left) w x rest e = node_out (suc left) (operates ops reads (suc left)) (applied_out left (λ w x rest e. tree_out left w x rest e)) w e

update_out : (t : Tables) (before : List Update) (w : List ℕ) {u : Update} {rest : List ℕ} →
    update t.operators (may_write t.arrays) (may_read t.arrays before) (nodes before) w ≡ got u rest →
    (w ≡ update_words u ++ rest) × (allowed_update t u ≡ true) × (readable u.source t.arrays before ≡ true) × (nodes before + size u.source ≤ 8192)
unfolding update allowed_update
update_out t before w e =
    bind_by (word w) _ e λ code v1 e1 r1.
    bind_by (word v1) _ r1 λ a v2 e2 r2.
    bind_by (word v2) _ r2 λ c v3 e3 r3.
    bind_by (ask (eqb code 1 && may_write t.arrays a c) v3) _ r3 λ z v4 e4 r4.
    bind_by (expr t.operators (may_read t.arrays before) 12 v4) _ r4 λ x v5 e5 r5.
    bind_by (ask (leb (nodes before + size x) 8192) v5) _ r5 λ z v6 e6 r6.
    let k = ask_out (eqb code 1 && may_write t.arrays a c) v3 e4 in
    let b = both (eqb code 1) (may_write t.arrays a c) k.0 in
    let g = tree_out t before 12 v4 x v5 e5 in
    let l = ask_out (leb (nodes before + size x) 8192) v5 e6 in
    let one = eqb-true code 1 b.0 in
    carry (λ u rest. (w ≡ update_words u ++ rest) × (allowed_update t u ≡ true) × (readable u.source t.arrays before ≡ true) × (nodes before + size u.source ≤ 8192)) r6 (
      word_out w e1 ∙ rw one (ap (λ (l : List ℕ). 1 ∷ l) (word_out v1 e2 ∙ ap (λ (l : List ℕ). a ∷ l) (word_out v2 e3 ∙ ap (λ (l : List ℕ). c ∷ l) (k.1 ∙ g.0 ∙ ap (λ (m : List ℕ). tree_words x ++ m) l.1)))),
      join (may_write t.arrays a c) (proper x t 12) b.1 g.1,
      g.2,
      leb-true (nodes before + size x) 8192 l.0,
    )

zero-words : (w : List ℕ) → all_zero w ≡ true → w ≡ replicate (length w) 0
unfolding all_zero
zero-words w e = by (zeros (length w) w) refl e
  where
    by : (o : Out ℕ) → zeros (length w) w ≡ o → is_got o ≡ true → w ≡ replicate (length w) 0
    by (got x rest) q e =
        let z = zeros_out (length w) w q in
        let r : List ℕ = replicate (length w) 0 in
        let l : length r ≡ length w = length-replicate (length w) 0 in
        let m = length-append r rest in
        let k = ap length z in
        let n : length rest ≡ 0 = omega arith in
        z ∙ rw (nothing rest n, append-nil r)
      where
        nothing : (l : List ℕ) → length l ≡ 0 → l ≡ []
        nothing [] e = refl
        nothing (x ∷ l) e = absurd (omega arith)
    by none q e = absurd (let z : ◌≡◌ {A = ℕ} 0 1 = cc in omega arith)

-- the words of updates, and how many zeros follow
abbrev UpdatesAt : Tables → ℕ → List Update → List ℕ → List Update → Type 0
UpdatesAt t left before w all = (us : List Update) × (k : ℕ) × (all ≡ before ++ us) × (w ≡ updates_words us ++ replicate k 0) × (every (allowed_update t) us ≡ true) × (read_all t.arrays before us ≡ true) × (length us ≤ left) × (nodes before + nodes us ≤ 8192)

end_out : (t : Tables) (left : ℕ) (before : List Update) (w : List ℕ) {all : List Update} {rest : List ℕ} → nodes before ≤ 8192 → all_zero w ≡ true → ◌≡◌ {A = Out (List Update)} (got before []) (got all rest) →
    UpdatesAt t left before w all
end_out t left before w h q e = carry (λ all rest. UpdatesAt t left before w all) e ([], length w, sym (append-nil before), zero-words w q, refl, refl, omega arith, omega arith)

step_out : (t : Tables) (left : ℕ) (before : List Update) (w : List ℕ) {all : List Update} {rest : List ℕ} →
    ((b : List Update) (w : List ℕ) (all : List Update) (rest : List ℕ) → nodes b ≤ 8192 → updates t left b w ≡ got all rest → UpdatesAt t left b w all) →
    and_then (update t.operators (may_write t.arrays) (may_read t.arrays before) (nodes before) w) (λ u. updates t left (before ++ (u ∷ []))) ≡ got all rest →
    UpdatesAt t (suc left) before w all
step_out t left before w {all} {rest} h e =
    bind_by (update t.operators (may_write t.arrays) (may_read t.arrays before) (nodes before) w) _ e λ u v e1 r1.
    let p = update_out t before w e1 in
    let s = nodes_snoc before u in
    let b = p.3 in
    let q = h (before ++ (u ∷ [])) v all rest (omega arith) r1 in
    let l = q.6 in
    let m = q.7 in (
      u ∷ q.0,
      q.1,
      q.2 ∙ append_assoc before (u ∷ []) q.0,
      p.0 ∙ ap (λ (l : List ℕ). update_words u ++ l) q.3 ∙ sym (append_assoc (update_words u) (updates_words q.0) (replicate q.1 0)),
      join (allowed_update t u) (every (allowed_update t) q.0) p.1 q.4,
      join (readable u.source t.arrays before) (read_all t.arrays (before ++ (u ∷ [])) q.0) p.2 q.5,
      omega arith,
      omega arith,
    )

updates_out : (t : Tables) (left : ℕ) (before : List Update) (w : List ℕ) (all : List Update) (rest : List ℕ) → nodes before ≤ 8192 → updates t left before w ≡ got all rest → UpdatesAt t left before w all
unfolding updates
updates_out t zero before w all rest h e = by (all_zero w) refl e
  where
    by : (b : Bool) → all_zero w ≡ b → ◌≡◌ {A = Out (List Update)} (if b then got before [] else none) (got all rest) → UpdatesAt t zero before w all
    by true q e = end_out t zero before w h q e
    by false q e = absurd (let z : ◌≡◌ {A = ℕ} 0 1 = cc in omega arith)
updates_out t (suc left) before w all rest h e = by (all_zero w) refl (λ e. step_out t left before w (λ b w all rest h e. updates_out t left b w all rest h e) e) e
  where
    by : (b : Bool) → all_zero w ≡ b →
        (and_then (update t.operators (may_write t.arrays) (may_read t.arrays before) (nodes before) w) (λ u. updates t left (before ++ (u ∷ []))) ≡ got all rest → UpdatesAt t (suc left) before w all) →
        (if b then got before [] else and_then (update t.operators (may_write t.arrays) (may_read t.arrays before) (nodes before) w) (λ u. updates t left (before ++ (u ∷ [])))) ≡ got all rest →
        UpdatesAt t (suc left) before w all
    by true q f e = end_out t (suc left) before w h q e
    by false q f e = f e

-- a list's words and zeros behind them, as many as make the whole
padded-whole : (w l : List ℕ) (k : ℕ) → w ≡ l ++ replicate k 0 → w ≡ padded (length w) l
padded-whole w l k e =
    let r : List ℕ = replicate k 0 in
    let a : length r ≡ k = length-replicate k 0 in
    let b = length-append l r in
    let c = ap length e in
    let d : k ≡ length w - length l = omega arith in
    e ∙ ap (λ (n : ℕ). l ++ replicate n 0) d

pub list_out : (w : List ℕ) {l : Listed} {rest : List ℕ} → list w ≡ got l rest → (w ≡ layout l (length w)) × (allowed l ≡ true)
unfolding list layout words
list_out w e =
    bind_by (tables w) _ e λ t v1 e1 r1.
    bind_by (updates t 2048 [] v1) _ r1 λ us v2 e2 r2.
    let p = tables_out w e1 in
    let q = updates_out t 2048 [] v1 us v2 (omega arith) e2 in
    let same : q.0 ≡ us = sym q.2 in
    let at : w ≡ (table_words t ++ updates_words q.0) ++ replicate q.1 0 = p.0 ∙ ap (λ (l : List ℕ). table_words t ++ l) q.3 ∙ sym (append_assoc (table_words t) (updates_words q.0) (replicate q.1 0)) in
    let made : (w ≡ padded (length w) (table_words t ++ updates_words q.0)) × (allowed (record { tables = t; updates = q.0 }) ≡ true) =
    (padded-whole w (table_words t ++ updates_words q.0) q.1 at, list-whole (record { tables = t; updates = q.0 }) (record { tables-allowed = p.1; few = q.6; small = (let s = q.7 in omega arith); each = q.4; reads = q.5 })) in
    carry (λ l rest. (w ≡ padded (length w) (table_words l.tables ++ updates_words l.updates)) × (allowed l ≡ true)) r2
    (subst (λ (us : List Update). (w ≡ padded (length w) (table_words t ++ updates_words us)) × (allowed (record { tables = t; updates = us }) ≡ true)) same made)

-- words that lay out a list are its layout, and the list is allowed
pub layout-decode : (w : List ℕ) (l : Listed) → decode w ≡ some l → (w ≡ layout l (length w)) × (allowed l ≡ true)
unfolding decode
layout-decode w l e = by (list w) refl e
  where
    by : (o : Out Listed) → list w ≡ o → ◌≡◌ {A = Option Listed} (list_of o) (some l) → (w ≡ layout l (length w)) × (allowed l ≡ true)
    by (got m rest) q e = let x : m ≡ l = cc in list_out w {rest = rest} (rw x at q)
    by none q e = absurd (let z : ◌≡◌ {A = ℕ} 0 1 = cc in omega arith)

-- no two allowed lists give the same memory
pub layout-injective : (l m : Listed) (n k : ℕ) → allowed l ≡ true → allowed m ≡ true → layout l n ≡ layout m k → l ≡ m
layout-injective l m n k a b e = let p = sym (decode-layout l n a) ∙ ap decode e ∙ decode-layout m k b in cc
