-- The records of a list that stands in words: what the code may know of them, that their bytes are the statements of its file, and
-- that measuring them answers question 28 and gives the length of the statements.
use Rattle.std.specs.Prelude.{if◌then◌else◌}
use mathlib.Core.Path.{◌≡◌, refl, sym, ap, ap₂, subst, ◌∙◌}
use Prim.Native.Nat.{ℕ, suc, ◌+◌, ◌-◌, ◌*◌, ◌/◌, ◌%◌, ◌≤◌, ◌<◌}
use mathlib.Core.List.{List, [], ◌∷◌, ◌++◌, append-nil}
use mathlib.Core.Bool.{Bool, true, false, ◌&&◌, not, true≢false}
use native.Mathlib.Omega.{arith}
use native.Mathlib.Nat.{add-mul-mod_self_left, add-mul-div_left}
use lib.ListN.{length, get_or, take, drop, length-append, length-drop}
use lib.Seq.{get_or-take, get_or-drop, length-take-le, ext_get_or}
use lib.Dec.{ltb, leb}
use lib.IntN.{ℤ, pos, negsuc}
use mir.Syntax.{w32}
use mir.Val.{of_z}
use borrow.Author.Tests.{ltb-true, ltb-false, leb-true, leb-false, le-leb, lt-leb, lt-ltb, le-ltb}
use Rattle.model.specs.Test.{within, every}
use Rattle.model.specs.Tables.{Array, Tables, array_at}
use Rattle.model.specs.Update.{Tree, Trees, Update, size, sizes, nodes}
use Rattle.model.specs.Update.Tree.{cell, number, constant, operator}
use Rattle.model.specs.Update.Trees.{nil, cons}
use Rattle.unroller.specs.Run.{fits16}
use Rattle.unroller.specs.Allowed.{allowed_array, fits32}
use Rattle.unroller.specs.Stands.{bases_of, Proper, Three, HeaderAt, TreeAt, TreesAt, UpdatesAt}
use Rattle.unroller.proofs.Parts.{both, every_at, within_low, within-high, array_parts, TablesParts, fits_signed}
use Rattle.unroller.proofs.Stands.{bases-length}
use Rattle.writer.specs.File.{little_bytes, in_row, subscripts_of, form_bytes, cell_bytes, tree_bytes, trees_bytes, update_bytes}
use Rattle.writer.specs.Write.{narrow, narrows, narrow_update, first_wide}
use Rattle.writer.specs.Records.{extents_at, subscript_bytes, Sizes, record_bytes, records_bytes, Known, KnownAll, wide, wide_word, wide_at, begins, measured}
use Rattle.writer.proofs.Cellwise.{record-literal, record-constant, record-operator, record-cell, records-join}
use Rattle.writer.proofs.Measuring.{wide-other, begins_is, begins-not}

module _ (w : List ℕ) where
  -- k records from a word on, of which m begin an update: known; where their literals fit, these bytes; and measuring them in front of n
  -- others goes on behind them, or ends where so many updates have begun
  pub record Laid (at k m : ℕ) (fits : Bool) (place : ℕ) (bs : List ℕ) : Type 0 where
    pub known : KnownAll w at k
    pub bytes : fits ≡ true → records_bytes w at k ≡ bs
    pub sums : (n u b : ℕ) → measured w at (k + n) u b ≡ (if fits then measured w (at + 3 * k) n (u + m) (b + length (records_bytes w at k)) else wide (u + place))

  laid_none : (at place : ℕ) → Laid at 0 0 true place []
  unfolding records_bytes
  laid_none at place = record {
    known = λ i h. absurd (omega arith);
    bytes = λ e. refl;
    sums = λ n u b.
        let i : 0 + n ≡ n = omega arith in
        let j : at + 3 * 0 ≡ at = omega arith in
        let k : b + 0 ≡ b = omega arith in
        let l : u + 0 ≡ u = omega arith in
        rw (i, j, k, l);
  }

  one_sums : (at m : ℕ) (fits : Bool) (place : ℕ) → wide_at w at ≡ not fits → begins w at ≡ m → (fits ≡ false → place ≡ 0)
      → (n u b : ℕ) → measured w at (1 + n) u b ≡ (if fits then measured w (at + 3 * 1) n (u + m) (b + length (records_bytes w at 1)) else wide (u + place))
  unfolding measured records_bytes
  one_sums at m true place e f g n u b =
      let i : 1 + n ≡ suc n = omega arith in
      let l = length-append (record_bytes w at) [] in
      let k : b + length (record_bytes w at ++ []) ≡ b + length (record_bytes w at) = omega arith in
      rw (i, e, f, k)
  one_sums at m false place e f g n u b =
      let i : 1 + n ≡ suc n = omega arith in
      let h = g refl in
      let j : u ≡ u + place = omega arith in
      rw (i, e) (ap wide j)

  laid_one : (at m : ℕ) (fits : Bool) (place : ℕ) (bs : List ℕ) → Known w at → (fits ≡ true → record_bytes w at ≡ bs) → wide_at w at ≡ not fits → begins w at ≡ m → (fits ≡ false → place ≡ 0)
      → Laid at 1 m fits place bs
  unfolding records_bytes
  laid_one at m fits place bs k e x y z = record {
    known = λ i h. let q : at ≡ at + 3 * i = omega arith in subst (λ (j : ℕ). Known w j) q k;
    bytes = λ f. append-nil (record_bytes w at) ∙ e f;
    sums = one_sums at m fits place x y z;
  }

  laid_join : (at mid j k m i : ℕ) (f g : Bool) (p q r : ℕ) (bs cs : List ℕ) → mid ≡ at + 3 * j → Laid at j m f p bs → Laid mid k i g q cs → (f ≡ false → r ≡ p) → (f ≡ true → r ≡ m + q)
      → Laid at (j + k) (m + i) (f && g) r (bs ++ cs)
  laid_join at mid j k m i f g p q r bs cs e a c x y = record {
    known = λ i h. by i h (ltb i j) refl;
    bytes = λ v. let z = both f g v in records-join w j k at ∙ ap₂ ◌++◌ (a.bytes z.0) (ap (λ (x : ℕ). records_bytes w x k) (sym e) ∙ c.bytes z.1);
    sums = λ n u b. let s : j + k + n ≡ j + (k + n) = omega arith in ap (λ (x : ℕ). measured w at x u b) s ∙ a.sums (k + n) u b ∙ joined f n u b x y;
  }
    where
      by : (i : ℕ) → i < j + k → (z : Bool) → ltb i j ≡ z → Known w (at + 3 * i)
      by i h true s = a.known i (ltb-true i j s)
      by i h false s = let v = ltb-false i j s in let t : mid + 3 * (i - j) ≡ at + 3 * i = omega arith in subst (λ (m : ℕ). Known w m) t (c.known (i - j) (omega arith))

      long : (b : ℕ) → b + length (records_bytes w at j) + length (records_bytes w mid k) ≡ b + length (records_bytes w at (j + k))
      long b =
          let l = length-append (records_bytes w at j) (records_bytes w (at + 3 * j) k) in
          let t = ap length (records-join w j k at) in
          let s = ap (λ (x : ℕ). length (records_bytes w x k)) e in
          omega arith

      joined : (f : Bool) (n u b : ℕ) → (f ≡ false → r ≡ p) → (f ≡ true → r ≡ m + q)
          → (if f then measured w (at + 3 * j) (k + n) (u + m) (b + length (records_bytes w at j)) else wide (u + p))
          ≡ (if f && g then measured w (at + 3 * (j + k)) n (u + (m + i)) (b + length (records_bytes w at (j + k))) else wide (u + r))
      joined true n u b x y =
          let s : mid + 3 * k ≡ at + 3 * (j + k) = omega arith in
          let t : u + m + i ≡ u + (m + i) = omega arith in
          let z = y refl in
          let v : u + m + q ≡ u + r = omega arith in
          ap (λ (x : ℕ). measured w x (k + n) (u + m) (b + length (records_bytes w at j))) (sym e) ∙ c.sums n (u + m) (b + length (records_bytes w at j))
          ∙ ap₂ (λ (x y : ℕ). if g then measured w x n (u + m + i) y else wide (u + m + q)) s (long b)
          ∙ ap₂ (λ (x y : ℕ). if g then measured w (at + 3 * (j + k)) n x (b + length (records_bytes w at (j + k))) else wide y) t v
      joined false n u b x y = let z = x refl in let v : u + p ≡ u + r = omega arith in ap wide v

  -- the same, counted otherwise
  laid_as : (at j k m i : ℕ) (fits : Bool) (place : ℕ) (bs : List ℕ) → j ≡ k → m ≡ i → Laid at j m fits place bs → Laid at k i fits place bs
  laid_as at j k m i fits place bs e f l = subst (λ (n : ℕ). Laid at k n fits place bs) f (subst (λ (n : ℕ). Laid at n m fits place bs) e l)

-- a literal that fits has the same low bytes in 32 bits as in 16
low-bytes : (z : ℤ) → fits16 z ≡ true → little_bytes 2 (of_z w32 z) ≡ form_bytes z
unfolding little_bytes form_bytes
low-bytes (pos n) e = refl
low-bytes (negsuc n) e =
    let h = leb-true n 32767 (both (leb n 32767) true e).0 in
    let s : 4294967296 - suc n ≡ 65536 - suc n + 256 * 16776960 = omega arith in
    let a = ap (λ (x : ℕ). x % 256) s ∙ add-mul-mod_self_left (65536 - suc n) 256 16776960 in
    let d = add-mul-div_left (65536 - suc n) 16776960 {y = 256} (omega arith) in
    let b = ap (λ (x : ℕ). x / 256 % 256) s ∙ ap (λ (x : ℕ). x % 256) d ∙ add-mul-mod_self_left ((65536 - suc n) / 256) 256 65535 in
    ap₂ (λ (x y : ℕ). x ∷ y ∷ []) a b

-- one of 32 signed bits fits in 16 or its word is wide
wide_word_lem : (z : ℤ) → fits32 z ≡ true → wide_word (of_z w32 z) ≡ not (fits16 z)
wide_word_lem (pos n) e = by (leb n 32767) refl
  where
    by : (b : Bool) → leb n 32767 ≡ b → (leb 32768 n && ltb n 4294934528) ≡ not (leb n 32767)
    by true q = let h = leb-true n 32767 q in rw (q, lt-leb 32768 n (omega arith))
    by false q =
        let h = leb-false n 32767 q in
        let k = leb-true n 2147483647 e in
        rw (q, le-leb 32768 n (omega arith), lt-ltb n 4294934528 (omega arith))
wide_word_lem (negsuc n) e = by (leb n 32767) refl
  where
    by : (b : Bool) → leb n 32767 ≡ b → (leb 32768 (4294967296 - suc n) && ltb (4294967296 - suc n) 4294934528) ≡ not (leb n 32767 && true)
    by true q =
        let h = leb-true n 32767 q in
        rw (q, le-leb 32768 (4294967296 - suc n) (omega arith), le-ltb (4294967296 - suc n) 4294934528 (omega arith))
    by false q =
        let h = leb-false n 32767 q in
        let k = leb-true n 2147483647 (both (leb n 2147483647) true e).0 in
        rw (q, le-leb 32768 (4294967296 - suc n) (omega arith), lt-ltb (4294967296 - suc n) 4294934528 (omega arith))

-- words that hold a list's elements are its elements
pub same_words : (w : List ℕ) (at : ℕ) (l : List ℕ) → at + length l ≤ length w → ((k : ℕ) → k < length l → get_or w (at + k) 0 ≡ get_or l k 0) → extents_at w at (length l) ≡ l
same_words w at l h f =
    let d = length-drop at w in
    let n = length-take-le (length l) (drop at w) (omega arith) in
    ext_get_or 0 (take (length l) (drop at w)) l n (λ k v. let u : k < length l = omega arith in get_or-take (length l) (drop at w) k 0 u ∙ get_or-drop at w k 0 ∙ f k u)

module _ (w : List ℕ) (t : Tables) (h : HeaderAt w t) (p : TablesParts t) where
  abbrev xs : List Array
  xs = t.arrays

  abbrev ops : List ℕ
  ops = t.operators

  abbrev bases : List ℕ
  bases = bases_of xs

  -- the extents of an array stand in its words
  extents-here : (a : ℕ) → a < length xs → (extents_at w (20 + 5 * a) (get_or w (19 + 5 * a) 0) ≡ (array_at xs a).extents) × Sizes w (20 + 5 * a) (get_or w (19 + 5 * a) 0)
  extents-here a l =
      let A = h.array a l in
      let es = (array_at xs a).extents in
      let q = array_parts (array_at xs a) (every_at allowed_array xs (record { role = 3; extents = 0 ∷ [] }) a p.each l) in
      let some = within_low 1 3 (length es) q.dimensions in
      let three = within-high 1 3 (length es) q.dimensions in
      let many = within-high 1 16 (length xs) p.count in
      let big = h.room in
      let i : 18 + 5 * a + 1 ≡ 19 + 5 * a = omega arith in
      let n : get_or w (19 + 5 * a) 0 ≡ length es = rw i at A.dimensions in
      let same = same_words w (20 + 5 * a) es (omega arith) (λ k v. let j : 18 + 5 * a + 2 + k ≡ 20 + 5 * a + k = omega arith in rw j at (A.extent k (omega arith))) in
      let whole : extents_at w (20 + 5 * a) (get_or w (19 + 5 * a) 0) ≡ es = ap (λ (m : ℕ). extents_at w (20 + 5 * a) m) n ∙ same in (
        whole,
        record {
          some = omega arith;
          three = omega arith;
          there = omega arith;
          known = subst (λ (l : List ℕ). every (within 1 1024) l ≡ true) (sym whole) q.sizes-known;
        },
      )

  declared : (a c : ℕ) → Proper bases a c → a < length xs
  declared a c q = let l = bases-length xs in let k = q.array in omega arith

  -- the record of a target or a read
  cell_laid : (at code a c m place : ℕ) → Three w at code a c → 0 < code → code < 17 → Proper bases a c → begins w at ≡ m → Laid w at 1 m true place (code ∷ cell_bytes xs a c)
  unfolding cell_bytes subscript_bytes form_bytes
  cell_laid at code a c m place z big lt q b =
      let l = declared a c q in
      let e = extents-here a l in
      let few = within-high 1 16 (length xs) p.count in
      let n18 : code ≡ 18 → ⊥ = λ q. omega arith in
      let n19 : code ≡ 19 → ⊥ = λ q. omega arith in
      let n17 : code ≡ 17 → ⊥ = λ q. omega arith in
      let k = z.code in
      let o = z.one in
      laid_one w at m true place (code ∷ a ∷ in_row (λ k. little_bytes 2 k) (subscripts_of (array_at xs a).extents c)) (record {
        there = z.room;
        some = omega arith;
        code = omega arith;
        number = λ _ _. omega arith;
        sizes = λ _ _ _. subst (λ (b : ℕ). Sizes w (20 + 5 * b) (get_or w (19 + 5 * b) 0)) (sym o) e.1;
      }) (λ _. record-cell w at code a (sym k) (sym o) c (sym z.two) n18 n19 n17 ∙ ap (λ (es : List ℕ). code ∷ a ∷ in_row (little_bytes 2) (subscripts_of es c)) e.0)
      (sym (wide-other w at code (sym k) n18)) b (λ v. absurd (true≢false v))

  operator_laid : (at o : ℕ) → Three w at 17 o 0 → o < length ops → Laid w at 1 0 true 0 (17 ∷ o ∷ [])
  operator_laid at o z l =
      let few = within-high 0 16 (length ops) p.operators in
      let k = z.code in
      let i = z.one in
      laid_one w at 0 true 0 (17 ∷ o ∷ []) (record {
        there = z.room;
        some = omega arith;
        code = omega arith;
        number = λ _ _. omega arith;
        sizes = λ _ _ n. absurd (n k);
      }) (λ _. record-operator w at 17 o (sym k) (sym i) (λ q. omega arith) (λ q. omega arith) refl)
      (sym (wide-other w at 17 (sym k) (λ q. omega arith))) (sym (begins-not w at 17 (sym k) (λ q. omega arith))) (λ v. refl)

  literal_laid : (at : ℕ) (z : ℤ) → Three w at 18 (of_z w32 z) 0 → fits32 z ≡ true → Laid w at 1 0 (fits16 z) 0 (18 ∷ form_bytes z)
  literal_laid at z q f =
      let k = q.code in
      laid_one w at 0 (fits16 z) 0 (18 ∷ form_bytes z) (record {
        there = q.room;
        some = omega arith;
        code = omega arith;
        number = λ n _. absurd (n k);
        sizes = λ n _ _. absurd (n k);
      }) (λ f. record-literal w at 18 (of_z w32 z) (sym k) (sym q.one) refl ∙ ap (λ (b : List ℕ). 18 ∷ b) (low-bytes z f))
      (by k q.one) (sym (begins-not w at 18 (sym k) (λ q. omega arith))) (λ v. refl)
    where
      by : get_or w at 0 ≡ 18 → get_or w (at + 1) 0 ≡ of_z w32 z → wide_at w at ≡ not (fits16 z)
      by e g = unfold wide_at in rw (e, g) (wide_word_lem z f)

  constant_laid : (at n : ℕ) → Three w at 19 n 0 → Laid w at 1 0 true 0 (19 ∷ little_bytes 4 n)
  constant_laid at n q =
      let k = q.code in
      laid_one w at 0 true 0 (19 ∷ little_bytes 4 n) (record {
        there = q.room;
        some = omega arith;
        code = omega arith;
        number = λ _ n. absurd (n k);
        sizes = λ _ n _. absurd (n k);
      }) (λ _. record-constant w at 19 n (sym k) (sym q.one) (λ q. omega arith) refl)
      (sym (wide-other w at 19 (sym k) (λ q. omega arith))) (sym (begins-not w at 19 (sym k) (λ q. omega arith))) (λ v. refl)

  mutual
    unfolding TreeAt TreesAt tree_bytes trees_bytes narrow narrows size sizes

    tree_laid : (x : Tree) (left at to : ℕ) → TreeAt ops bases w x left at to → Laid w at (size x) 0 (narrow x) 0 (tree_bytes x xs) × (to ≡ at + 3 * size x)
    tree_laid (cell a c) left at to q = (cell_laid at 16 a c 0 0 q.0 (omega arith) (omega arith) q.1 (sym (begins-not w at 16 (sym q.0.code) (λ q. omega arith))), q.2)
    tree_laid (number z) left at to q = (literal_laid at z q.0 (fits_signed w32 2147483647 refl z q.1), q.2)
    tree_laid (constant n) left at to q = (constant_laid at n q.0, q.1)
    tree_laid (operator o ts) left at to q =
        let more = trees_laid ts q.4.0 (at + 3) to q.4.2 in
        let e = more.1 in (
          laid_as w at (1 + sizes ts) (suc (sizes ts)) 0 0 (narrows ts) 0 (17 ∷ o ∷ trees_bytes ts xs) (omega arith) refl
              (laid_join w at (at + 3) 1 (sizes ts) 0 0 true (narrows ts) 0 0 0 (17 ∷ o ∷ []) (trees_bytes ts xs) (omega arith) (operator_laid at o q.0 q.1) more.0 (λ v. refl) (λ v. refl)),
          omega arith,
        )

    trees_laid : (ts : Trees) (left at to : ℕ) → TreesAt ops bases w ts left at to → Laid w at (sizes ts) 0 (narrows ts) 0 (trees_bytes ts xs) × (to ≡ at + 3 * sizes ts)
    trees_laid nil left at to q = (laid_none w at 0, omega (arith, q))
    trees_laid (cons x ts) left at to q =
        let one = tree_laid x left at q.0 q.1 in
        let more = trees_laid ts left q.0 to q.2 in
        let e = one.1 in
        let f = more.1 in
        (laid_join w at q.0 (size x) (sizes ts) 0 0 (narrow x) (narrows ts) 0 0 0 (tree_bytes x xs) (trees_bytes ts xs) e one.0 more.0 (λ v. refl) (λ v. refl), omega arith)

  pub updates_laid : (us : List Update) (at : ℕ) → UpdatesAt ops bases w us at → Laid w at (length us + nodes us) (length us) (every narrow_update us) (suc (first_wide us)) (in_row (update_bytes xs) us)
  unfolding UpdatesAt update_bytes first_wide
  updates_laid [] at q = laid_none w at 1
  updates_laid (u ∷ us) at q =
      let x = u.source in
      let own = cell_bytes xs u.array u.target in
      let one = cell_laid at 1 u.array u.target 1 1 q.0 (omega arith) (omega arith) q.1 (sym (begins_is w at 1 (sym q.0.code) refl)) in
      let two = tree_laid x 12 (at + 3) q.2.0 q.2.1 in
      let first = laid_join w at (at + 3) 1 (size x) 1 0 true (narrow x) 1 0 1 (1 ∷ own) (tree_bytes x xs) (omega arith) one two.0 (λ v. refl) (λ v. refl) in
      let e = two.1 in
      let more = updates_laid us q.2.0 q.2.2 in
      let place = suc (if narrow x then suc (first_wide us) else 0) in
      laid_as w at (1 + size x + (length us + nodes us)) (suc (length us) + (size x + nodes us)) (1 + length us) (suc (length us)) (narrow x && every narrow_update us) place (in_row (update_bytes xs) (u ∷ us)) (omega arith) (omega arith)
      (laid_join w at q.2.0 (1 + size x) (length us + nodes us) 1 (length us) (narrow x) (every narrow_update us) 1 (suc (first_wide us)) place (1 ∷ own ++ tree_bytes x xs) (in_row (update_bytes xs) us)
      (omega arith) first more (λ v. rw v) (λ v. rw v (omega arith)))
