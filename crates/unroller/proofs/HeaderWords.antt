-- The header's words: written run by run, and the same as the layout's.
use mathlib.Core.Path.{◌≡◌, refl, sym, ap, ◌∙◌}
use Prim.Native.Nat.{ℕ, zero, suc, ◌+◌, ◌-◌, ◌*◌, ◌≤◌, ◌<◌}
use native.Mathlib.Omega.{arith}
use mathlib.Core.List.{List, [], ◌∷◌, ◌++◌, append_assoc, map}
use mathlib.Core.Bool.{true}
use lib.ListN.{length, get_or, take, drop, set, replicate, length-append, length-set}
use borrow.Rule.Slice.PartMut.{put_mid}
use Rattle.std.proofs.lemmas.List.{drop-drop}
use lib.Seq.{sets, sets-eq, length-sets, ext_get_or}
use Rattle.model.specs.Test.{every}
use Rattle.model.specs.Tables.{Array, Tables}
use Rattle.reader.specs.Entries.{cut, threes, unpacked, packed}
use Rattle.reader.specs.declared.tables.Tables.{Tables as Packed}
use Rattle.reader.proofs.Packing.{length_cut, get_d_cut}
use Rattle.reader.proofs.Flattened.{sets_append, cut_more, cut_end}
use Rattle.unroller.specs.Allowed.{allowed_array}
use Rattle.unroller.specs.Layout.{padded, array_words, arrays_words, table_words}
use Rattle.unroller.specs.UnrollAnswers.{rows, head_words}
use Rattle.unroller.proofs.Parts.{both, within-high, array_parts, TablesParts}
use Rattle.unroller.proofs.Encode.{padded-length}
use Rattle.unroller.proofs.Stands.{zero-behind}

-- ---- writing
pub row_put : (l ys row : List ℕ) (at k : ℕ) → ys ≡ row → k ≡ length row → at + length row ≤ length l → put_mid at k l ys ≡ sets l at row
row_put l ys row at k e f h =
    rw (e, f) (ap (λ (x : List ℕ). take at l ++ (row ++ x)) (drop-drop (length row) at l) ∙ sym (append_assoc (take at l) row (drop (at + length row) l)) ∙ sym (sets-eq row l at h))

module _ (rs ds es : List ℕ) where
  pub rows_more : (l : List ℕ) (i j k n : ℕ) → 0 < n → j ≡ i + 5 →
      sets (sets l i (get_or rs k 0 ∷ get_or ds k 0 ∷ get_or es (3 * k) 0 ∷ get_or es (3 * k + 1) 0 ∷ get_or es (3 * k + 2) 0 ∷ [])) j (rows (n - 1) (k + 1) rs ds es) ≡ sets l i (rows n k rs ds es)
  unfolding rows
  rows_more l i j k zero h e = absurd (omega arith)
  rows_more l i j k (suc n) h e =
      let d : suc n - 1 ≡ n = omega arith in
      rw (d, e) (sym (sets_append l i (get_or rs k 0 ∷ get_or ds k 0 ∷ get_or es (3 * k) 0 ∷ get_or es (3 * k + 1) 0 ∷ get_or es (3 * k + 2) 0 ∷ []) (rows n (k + 1) rs ds es)))

  pub rows_end : (l : List ℕ) (i k n : ℕ) → n ≡ 0 → sets l i (rows n k rs ds es) ≡ l
  unfolding rows
  rows_end l i k zero e = refl
  rows_end l i k (suc n) e = absurd (omega arith)

pub head_put : (l : List ℕ) (t : Packed) (x y : ℕ) → x ≡ length (unpacked t).operators → y ≡ length (unpacked t).arrays
    → sets (set (sets (set l 0 x) 1 (cut 16 0 t.bytes)) 17 y) 18 (rows 16 0 t.roles t.dimensions t.extents) ≡ sets l 0 (head_words t)
unfolding head_words
head_put l t x y ex ey =
    let n = length_cut 16 0 t.bytes in
    let k : 1 + length (cut 16 0 t.bytes) ≡ 17 = omega arith in
    rw (← ex, ← ey) (sym (sets_append (set l 0 x) 1 (cut 16 0 t.bytes) (y ∷ rows 16 0 t.roles t.dimensions t.extents)
    ∙ ap (λ (i : ℕ). sets (sets (set l 0 x) 1 (cut 16 0 t.bytes)) i (y ∷ rows 16 0 t.roles t.dimensions t.extents)) k))

-- ---- the layout's words
cut-whole : (n : ℕ) (l : List ℕ) → length l ≡ n → cut n 0 l ≡ l
cut-whole n l e = ext_get_or 0 (cut n 0 l) l (length_cut n 0 l ∙ sym e) (λ i h. let k : i < n = omega (arith, length_cut n 0 l) in let z : 0 + i ≡ i = omega arith in get_d_cut n 0 l i k ∙ ap (λ (j : ℕ). get_or l j 0) z)

rows_shift : (n k x y a b c : ℕ) (rs ds es : List ℕ) → rows n (suc k) (x ∷ rs) (y ∷ ds) (a ∷ b ∷ c ∷ es) ≡ rows n k rs ds es
unfolding rows
rows_shift zero k x y a b c rs ds es = refl
rows_shift (suc n) k x y a b c rs ds es =
    let p : 3 * suc k ≡ suc (suc (suc (3 * k))) = omega arith in
    let q : suc (suc (suc (3 * k))) + 1 ≡ suc (suc (suc (3 * k + 1))) = omega arith in
    let r : suc (suc (suc (3 * k))) + 2 ≡ suc (suc (suc (3 * k + 2))) = omega arith in
    let s : suc k + 1 ≡ suc (k + 1) = omega arith in
    rw (p, q, r, s, rows_shift n (k + 1) x y a b c rs ds es)

rows_none : (n k p q r : ℕ) → rows n k (replicate p 0) (replicate q 0) (replicate r 0) ≡ replicate (5 * n) 0
unfolding rows
rows_none zero k p q r = refl
rows_none (suc n) k p q r =
    let e : 5 * suc n ≡ suc (suc (suc (suc (suc (5 * n))))) = omega arith in
    rw (e, zero-behind [] p k, zero-behind [] q k, zero-behind [] r (3 * k), zero-behind [] r (3 * k + 1), zero-behind [] r (3 * k + 2), rows_none n (k + 1) p q r)

-- an array's extents, in three words
module _ (n : ℕ) (x : Array) (rs ds es : List ℕ) where
  rows_one : length x.extents ≤ 3 → rows (suc n) 0 (x.role ∷ rs) (length x.extents ∷ ds) (padded 3 x.extents ++ es) ≡ array_words x ++ rows n 0 rs ds es
  unfolding rows
  rows_one h = go x.extents h
    where
      go : (l : List ℕ) → length l ≤ 3 → rows (suc n) 0 (x.role ∷ rs) (length l ∷ ds) (padded 3 l ++ es) ≡ x.role ∷ length l ∷ (padded 3 l ++ rows n 0 rs ds es)
      go [] h = rw (rows_shift n 0 x.role 0 0 0 0 rs ds es)
      go (a ∷ []) h = rw (rows_shift n 0 x.role 1 a 0 0 rs ds es)
      go (a ∷ b ∷ []) h = rw (rows_shift n 0 x.role 2 a b 0 rs ds es)
      go (a ∷ b ∷ c ∷ []) h = rw (rows_shift n 0 x.role 3 a b c rs ds es)
      go (a ∷ b ∷ c ∷ d ∷ l) h = absurd (omega arith)

less_both : (k n a b c : ℕ) → a ≡ k + b → c ≡ k + n → c - a ≡ n - b
less_both k n a b c e f = omega arith

behind : (k a b c : ℕ) → b ≡ k → a ≡ b + c → a ≡ k + c
behind k a b c e f = omega arith

rows_all : (n : ℕ) (xs : List Array) → length xs ≤ n → every allowed_array xs ≡ true
    → rows n 0 (padded n (map (λ x. x.role) xs)) (padded n (map (λ x. length x.extents) xs)) (padded (3 * n) (threes xs)) ≡ padded (5 * n) (arrays_words xs)
unfolding threes
rows_all n [] h a =
    let p : n - 0 ≡ n = omega arith in
    let q : 3 * n - 0 ≡ 3 * n = omega arith in
    let r : 5 * n - 0 ≡ 5 * n = omega arith in
    rw (p, q, r) (rows_none n 0 n n (3 * n))
rows_all zero (x ∷ xs) h a = absurd (omega arith)
rows_all (suc n) (x ∷ xs) h a =
    let q = both (allowed_array x) (every allowed_array xs) a in
    let e = within-high 1 3 (length x.extents) (array_parts x q.0).dimensions in
    let l3 = padded-length 3 x.extents e in
    let la : length (array_words x) ≡ 5 = omega arith in
    let p = less_both 1 n (suc (length (map (λ x. x.role) xs))) (length (map (λ x. x.role) xs)) (suc n) (omega arith) (omega arith) in
    let d = less_both 1 n (suc (length (map (λ x. length x.extents) xs))) (length (map (λ x. length x.extents) xs)) (suc n) (omega arith) (omega arith) in
    let f = less_both 3 (3 * n) (length (padded 3 x.extents ++ threes xs)) (length (threes xs)) (3 * suc n) (behind 3 (length (padded 3 x.extents ++ threes xs)) (length (padded 3 x.extents)) (length (threes xs)) l3 (length-append (padded 3 x.extents) (threes xs))) (omega arith) in
    let f2 = less_both 5 (5 * n) (length (array_words x ++ arrays_words xs)) (length (arrays_words xs)) (5 * suc n) (behind 5 (length (array_words x ++ arrays_words xs)) (length (array_words x)) (length (arrays_words xs)) la (length-append (array_words x) (arrays_words xs))) (omega arith) in
    rw (p, d, f, f2, append_assoc (padded 3 x.extents) (threes xs) (replicate (3 * n - length (threes xs)) 0))
    (rows_one n x (padded n (map (λ x. x.role) xs)) (padded n (map (λ x. length x.extents) xs)) (padded (3 * n) (threes xs)) e
    ∙ ap (λ (l : List ℕ). array_words x ++ l) (rows_all n xs (omega arith) q.1)
    ∙ sym (append_assoc (array_words x) (arrays_words xs) (replicate (5 * n - length (arrays_words xs)) 0)))

pub head_words_lem : (t : Tables) (T : Packed) → unpacked T ≡ t → T ≡ packed t → TablesParts t → head_words T ≡ table_words t
unfolding head_words table_words packed
head_words_lem t T u e p =
    let few = within-high 0 16 (length t.operators) p.operators in
    let most = within-high 1 16 (length t.arrays) p.count in
    let c : cut 16 0 T.bytes ≡ padded 16 t.operators = ap (λ (T : Packed). cut 16 0 T.bytes) e ∙ cut-whole 16 (padded 16 t.operators) (padded-length 16 t.operators few) in
    let r : rows 16 0 T.roles T.dimensions T.extents ≡ padded 80 (arrays_words t.arrays) = ap (λ (T : Packed). rows 16 0 T.roles T.dimensions T.extents) e ∙ rows_all 16 t.arrays most p.each in
    rw (u, c, r)

-- ---- loops that write
-- n words are left to be written; what is left makes of the list what the whole makes of the first
pub record Putting (l₀ whole l left : List ℕ) (first at : ℕ) : Type 0 where
  pub same_length : length l ≡ length l₀
  pub holds : sets l at left ≡ sets l₀ first whole

pub record Operators (ar l₀ : List ℕ) (k : ℕ) (l : List ℕ) : Type 0 where
  pub left : ℕ
  pub sum : left + k ≡ 16
  pub putting : Putting l₀ (cut 16 0 ar) l (cut left k ar) 1 (1 + k)

pub operators_none : (ar l : List ℕ) → Operators ar l 0 l
operators_none ar l = record { left = 16; sum = refl; putting = record { same_length = refl; holds = refl } }

pub operators_more : (ar l₀ l : List ℕ) (k x : ℕ) → k < 16 → x ≡ get_or ar k 0 → Operators ar l₀ k l → Operators ar l₀ (k + 1) (set l (1 + k) x)
operators_more ar l₀ l k x h e a =
    let s = a.sum in
    let n : 0 < a.left = omega arith in
    let j : 1 + (k + 1) ≡ 1 + k + 1 = omega arith in
    record {
      left = a.left - 1;
      sum = omega arith;
      putting = record {
        same_length = length-set l (1 + k) x ∙ a.putting.same_length;
        holds = ap (λ (y : ℕ). sets (set l (1 + k) y) (1 + (k + 1)) (cut (a.left - 1) (k + 1) ar)) e ∙ cut_more l (1 + k) (1 + (k + 1)) k a.left ar n j ∙ a.putting.holds;
      };
    }

pub operators_all : (ar l₀ l : List ℕ) (k : ℕ) → 16 ≤ k → Operators ar l₀ k l → l ≡ sets l₀ 1 (cut 16 0 ar)
operators_all ar l₀ l k h a = let s = a.sum in sym (cut_end l (1 + k) k ar a.left (omega arith)) ∙ a.putting.holds

pub record Rows (rs ds es l₀ : List ℕ) (k : ℕ) (l : List ℕ) : Type 0 where
  pub left : ℕ
  pub sum : left + k ≡ 16
  pub putting : Putting l₀ (rows 16 0 rs ds es) l (rows left k rs ds es) 18 (18 + 5 * k)

module _ (rs ds es : List ℕ) where
  pub rows_first : (l : List ℕ) → Rows rs ds es l 0 l
  rows_first l = record { left = 16; sum = refl; putting = record { same_length = refl; holds = refl } }

  pub rows_again : (l₀ l l' : List ℕ) (k r d a b c : ℕ) → k < 16 → r ≡ get_or rs k 0 → d ≡ get_or ds k 0 → a ≡ get_or es (3 * k) 0 → b ≡ get_or es (3 * k + 1) 0 → c ≡ get_or es (3 * k + 2) 0
      → l' ≡ sets l (18 + 5 * k) (r ∷ d ∷ a ∷ b ∷ c ∷ []) → Rows rs ds es l₀ k l → Rows rs ds es l₀ (k + 1) l'
  rows_again l₀ l l' k r d a b c h e1 e2 e3 e4 e5 e w =
      let s = w.sum in
      let n : 0 < w.left = omega arith in
      let j : 18 + 5 * (k + 1) ≡ 18 + 5 * k + 5 = omega arith in
      record {
        left = w.left - 1;
        sum = omega arith;
        putting = record {
          same_length = ap length e ∙ length-sets l (18 + 5 * k) (r ∷ d ∷ a ∷ b ∷ c ∷ []) ∙ w.putting.same_length;
          holds = ap (λ (l : List ℕ). sets l (18 + 5 * (k + 1)) (rows (w.left - 1) (k + 1) rs ds es)) e
              ∙ rw (e1, e2, e3, e4, e5) (rows_more rs ds es l (18 + 5 * k) (18 + 5 * (k + 1)) k w.left n j) ∙ w.putting.holds;
        };
      }

  pub rows-done : (l₀ l : List ℕ) (k : ℕ) → 16 ≤ k → Rows rs ds es l₀ k l → l ≡ sets l₀ 18 (rows 16 0 rs ds es)
  rows-done l₀ l k h w = let s = w.sum in sym (rows_end rs ds es l (18 + 5 * k) k w.left (omega arith)) ∙ w.putting.holds
