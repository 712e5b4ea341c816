-- Question 26, how long a list's words are, and how one more update is written.
use mathlib.Core.Path.{◌≡◌, refl, sym, ap, ◌∙◌}
use Prim.Native.Nat.{ℕ, zero, suc, ◌+◌, ◌-◌, ◌*◌, ◌≤◌}
use mathlib.Core.List.{List, [], ◌∷◌, ◌++◌, append-nil, append_assoc}
use mathlib.Core.Bool.{true, false}
use mathlib.Core.Option.{Option, some}
use mathlib.Core.Option.Option.{none as nothing}
use native.Mathlib.Omega.{arith}
use lib.Seq.{sets, sets-eq, take-append_seam, drop-append-add}
use lib.ListN.{length, drop, replicate, length-append}
use Rattle.model.specs.Tables.{Tables}
use Rattle.model.specs.Update.{Tree, Trees, Update, Listed, size, sizes, nodes}
use Rattle.model.specs.Update.Tree.{cell, number, constant, operator}
use Rattle.model.specs.Update.Trees.{nil, cons}
use Rattle.unroller.specs.Words.{Out, got, none, is_got}
use Rattle.unroller.specs.Allowed.{allowed}
use Rattle.unroller.specs.Layout.{arrays_words, table_words, tree_words, trees_words, update_words, updates_words, words, layout, padded}
use Rattle.unroller.specs.Decode.{list, list_of, decode, accepted}
use Rattle.unroller.proofs.Parts.{within-high, TablesParts, list-parts}
use Rattle.unroller.proofs.Encode.{arrays-length, padded-length, decode-layout}
use Rattle.unroller.proofs.Inverse.{list_out, layout-decode}

-- a list is accepted where it is the layout of an allowed list, and only there
pub accepted_sound : (w : List ℕ) → accepted w ≡ true → (l : Listed) × (allowed l ≡ true) × (w ≡ layout l (length w))
unfolding accepted
accepted_sound w e = by (list w) refl e
  where
    by : (o : Out Listed) → list w ≡ o → is_got o ≡ true → (l : Listed) × (allowed l ≡ true) × (w ≡ layout l (length w))
    by (got l rest) q e = let p = list_out w q in (l, p.1, p.0)
    by none q e = absurd (let z : ◌≡◌ {A = ℕ} 0 1 = cc in omega arith)

-- question 26 and the list that the words lay out
pub accepted-words : (w : List ℕ) → accepted w ≡ true → (l : Listed) × (decode w ≡ some l)
unfolding accepted decode
accepted-words w e = by (list w) e
  where
    by : (o : Out Listed) → is_got o ≡ true → (l : Listed) × (◌≡◌ {A = Option Listed} (list_of o) (some l))
    by (got l rest) e = (l, refl)
    by none e = absurd (let z : ◌≡◌ {A = ℕ} 0 1 = cc in omega arith)

pub refused-words : (w : List ℕ) → accepted w ≡ false → decode w ≡ nothing
unfolding accepted decode
refused-words w e = by (list w) e
  where
    by : (o : Out Listed) → is_got o ≡ false → ◌≡◌ {A = Option Listed} (list_of o) nothing
    by (got l rest) e = absurd (let z : ◌≡◌ {A = ℕ} 0 1 = cc in omega arith)
    by none e = refl

pub accepted_complete : (l : Listed) (n : ℕ) → allowed l ≡ true → accepted (layout l n) ≡ true
unfolding accepted decode
accepted_complete l n a = by (list (layout l n)) (decode-layout l n a)
  where
    by : (o : Out Listed) → list_of o ≡ some l → is_got o ≡ true
    by (got m rest) e = refl
    by none e = absurd (let z : ◌≡◌ {A = ℕ} 0 1 = cc in omega arith)

mutual
  unfolding tree_words trees_words size sizes

  pub tree-length : (t : Tree) → length (tree_words t) ≡ 3 * size t
  tree-length (cell a c) = refl
  tree-length (number z) = refl
  tree-length (constant n) = refl
  tree-length (operator o ts) = let e = trees-length ts in omega arith

  pub trees-length : (ts : Trees) → length (trees_words ts) ≡ 3 * sizes ts
  trees-length nil = refl
  trees-length (cons t ts) =
      let a = tree-length t in
      let b = trees-length ts in
      let c = length-append (tree_words t) (trees_words ts) in
      omega arith

updates-length : (us : List Update) → length (updates_words us) ≡ 3 * (length us + nodes us)
updates-length [] = refl
updates-length (u ∷ us) =
    let a = tree-length u.source in
    let b = updates-length us in
    let c = length-append (tree_words u.source) (updates_words us) in
    omega arith

pub table_length : (t : Tables) → TablesParts t → length (table_words t) ≡ 98
unfolding table_words
table_length t a =
    let l = arrays-length t.arrays a.each in
    let m = within-high 1 16 (length t.arrays) a.count in
    let p = padded-length 16 t.operators (within-high 0 16 (length t.operators) a.operators) in
    let q = padded-length 80 (arrays_words t.arrays) (omega arith) in
    let r = length-append (padded 16 t.operators) (length t.arrays ∷ padded 80 (arrays_words t.arrays)) in
    omega arith

pub words_long : (l : Listed) → TablesParts l.tables → length (words l) ≡ 98 + 3 * (length l.updates + nodes l.updates)
unfolding words
words_long l a =
    let p = table_length l.tables a in
    let q = updates-length l.updates in
    let r = length-append (table_words l.tables) (updates_words l.updates) in
    omega arith

pub words-length : (l : Listed) → allowed l ≡ true → length (words l) ≡ 98 + 3 * (length l.updates + nodes l.updates)
words-length l e = words_long l (list-parts l e).tables-allowed

pub words_fit : (l : Listed) → allowed l ≡ true → length (words l) ≤ 30818
words_fit l e =
    let a = list-parts l e in
    let p = words-length l e in
    let q = a.small in
    let r = a.few in
    omega arith

pub layout-length : (l : Listed) (n : ℕ) → allowed l ≡ true → 30818 ≤ n → length (layout l n) ≡ n
unfolding layout
layout-length l n a h = let p = words_fit l a in padded-length n (words l) (omega arith)

-- words that are read hold the list's words
pub decoded_fit : (w : List ℕ) (l : Listed) → decode w ≡ some l → length (words l) ≤ length w
unfolding layout
decoded_fit w l e =
    let p = ap length (layout-decode w l e).0 in
    let q = length-append (words l) (replicate (length w - length (words l)) 0) in
    omega arith

-- a list with as many updates and nodes fills the same words
pub layout_same : (l new : Listed) (n : ℕ) → allowed l ≡ true → allowed new ≡ true → length new.updates ≡ length l.updates → nodes new.updates ≡ nodes l.updates
    → length (words l) ≤ n → length (layout new n) ≡ n
unfolding layout
layout_same l new n a b count small h =
    let p = words-length l a in
    let q = words-length new b in
    padded-length n (words new) (omega arith)

-- writing one more update is one run of stores behind the words
updates_append : (us vs : List Update) → updates_words (us ++ vs) ≡ updates_words us ++ updates_words vs
updates_append [] vs = refl
updates_append (u ∷ us) vs =
    rw (updates_append us vs) (sym (append_assoc (update_words u) (updates_words us) (updates_words vs)))

drop-replicate : (m n : ℕ) → drop {A = ℕ} m (replicate n 0) ≡ replicate (n - m) 0
drop-replicate zero n = let e : n - 0 ≡ n = omega arith in rw e
drop-replicate (suc m) zero = let e : 0 - suc m ≡ 0 = omega arith in rw e
drop-replicate (suc m) (suc n) = let e : suc n - suc m ≡ n - m = omega arith in rw e (drop-replicate m n)

pub padded-sets : (n : ℕ) (l vs : List ℕ) → length l + length vs ≤ n → sets (padded n l) (length l) vs ≡ padded n (l ++ vs)
padded-sets n l vs h =
    let r : List ℕ = replicate (n - length l) 0 in
    let a = padded-length n l (omega arith) in
    let b = length-append l vs in
    let e : n - length l - length vs ≡ n - length (l ++ vs) = omega arith in
    sets-eq vs (padded n l) (length l) (omega arith)
    ∙ rw (take-append_seam l r, drop-append-add l r (length vs), drop-replicate (length vs) (n - length l), e)

pub layout_snoc : (t : Tables) (us : List Update) (u : Update) (n : ℕ) →
    length (words (record { tables = t; updates = us ++ (u ∷ []) })) ≤ n →
    sets (layout (record { tables = t; updates = us }) n) (length (words (record { tables = t; updates = us }))) (update_words u)
    ≡ layout (record { tables = t; updates = us ++ (u ∷ []) }) n
unfolding layout words
layout_snoc t us u n h =
    let v : List ℕ = update_words u in
    let e : table_words t ++ updates_words (us ++ (u ∷ [])) ≡ (table_words t ++ updates_words us) ++ v =
    ap (λ (l : List ℕ). table_words t ++ l) (updates_append us (u ∷ []) ∙ ap (λ (l : List ℕ). updates_words us ++ l) (append-nil v)) ∙ sym (append_assoc (table_words t) (updates_words us) v) in
    let a = ap length e in
    let b = length-append (table_words t ++ updates_words us) v in
    padded-sets n (table_words t ++ updates_words us) v (omega arith) ∙ ap (λ (l : List ℕ). padded n l) (sym e)
