-- Bytes that go into what remains of the output, one run after the other.
use mathlib.Core.Path.{◌≡◌, refl, sym, ap, ap₂, subst, ◌∙◌}
use Prim.Native.Nat.{ℕ, zero, suc, ◌+◌, ◌-◌, ◌*◌, ◌%◌, ◌≤◌, ◌<◌}
use mathlib.Core.List.{List, [], ◌∷◌, ◌++◌, append-nil}
use native.Mathlib.Omega.{arith}
use lib.ListN.{length, get_or, take, drop, set, length-append, length-drop}
use lib.Seq.{sets, length-sets, drop-cons, length-take-le}
use borrow.Rule.Slice.PartMut.{mid_of, put_mid}
use Rattle.writer.specs.File.{little_bytes, in_row}
use Rattle.writer.specs.Records.{extents_at}
use Rattle.writer.specs.Head.{dimensions_at, array_bytes_at, arrays_bytes_at, ArrayKnown, ArraysKnown}
use Rattle.writer.proofs.Frames.{sets_more, part-sets, two_long, low_same}

-- `rest` is still to be written from `to` on, and makes of the output what `all` makes of the first
pub record Writing (all : List ℕ) (out₀ : List ℕ) (rest : List ℕ) (to : ℕ) (out : List ℕ) : Type 0 where
  pub long : length out ≡ length out₀
  pub count : to + length rest ≡ length all
  pub same : sets out to rest ≡ sets out₀ 0 all

pub writing_start : (all out : List ℕ) → Writing all out all 0 out
writing_start all out = record { long = refl; count = omega arith; same = refl }

module _ (all out₀ : List ℕ) (rest : List ℕ) (to : ℕ) (out : List ℕ) (w : Writing all out₀ rest to out) where
  -- a run of stores
  pub writing_put : (bs more out' : List ℕ) (next : ℕ) → rest ≡ bs ++ more → out' ≡ sets out to bs → next ≡ to + length bs → Writing all out₀ more next out'
  writing_put bs more out' next e f n =
      let c = w.count in
      let d = ap length e in
      let a = length-append bs more in
      record {
        long = ap length f ∙ length-sets out to bs ∙ w.long;
        count = omega arith;
        same = ap₂ (λ (x : List ℕ) (i : ℕ). sets x i more) f n ∙ sym (sets_more bs more out to) ∙ ap (λ (x : List ℕ). sets out to x) (sym e) ∙ w.same;
      }

  pub writing_room : (bs more : List ℕ) → rest ≡ bs ++ more → length all ≤ length out₀ → to + length bs ≤ length out
  writing_room bs more e h =
      let c = w.count in
      let d = ap length e in
      let a = length-append bs more in
      let l = w.long in
      omega arith

  -- into a part from `to` on
  pub writing_part : (bs more part : List ℕ) (next : ℕ) → rest ≡ bs ++ more → length all ≤ length out₀ → part ≡ sets (mid_of to (length out - to) out) 0 bs → next ≡ to + length bs
      → Writing all out₀ more next (put_mid to (length out - to) out part)
  writing_part bs more part next e h f n = writing_put bs more (put_mid to (length out - to) out part) next e (part-sets to out part bs (writing_room bs more e h) f) n

  pub writing_end : rest ≡ [] → (to ≡ length all) × (out ≡ sets out₀ 0 all)
  writing_end e =
      let c = w.count in
      let d = ap length e in
      (omega arith, ap (λ (x : List ℕ). sets out to x) (sym e) ∙ w.same)

-- words one by one
pub words-cons : (w : List ℕ) (at n : ℕ) → at < length w → 0 < n → extents_at w at n ≡ get_or w at 0 ∷ extents_at w (at + 1) (n - 1)
words-cons w at zero h k = absurd (omega arith)
words-cons w at (suc n) h k =
    let e : suc n - 1 ≡ n = omega arith in
    let f : suc at ≡ at + 1 = omega arith in
    ap (take (suc n)) (drop-cons w at 0 h) ∙ ap₂ (λ (i m : ℕ). get_or w at 0 ∷ take m (drop i w)) f (sym e)

pub words_next : (w : List ℕ) (at n k : ℕ) → at + n ≤ length w → k < n → extents_at w (at + k) (n - k) ≡ (get_or w (at + k) 0 ∷ []) ++ extents_at w (at + (k + 1)) (n - (k + 1))
words_next w at n k h l =
    let i : at + k + 1 ≡ at + (k + 1) = omega arith in
    let j : n - k - 1 ≡ n - (k + 1) = omega arith in
    words-cons w (at + k) (n - k) (omega arith) (omega arith) ∙ ap₂ (λ (i m : ℕ). get_or w (at + k) 0 ∷ extents_at w i m) i j

pub words_none : (w : List ℕ) (at n k : ℕ) → n ≤ k → extents_at w (at + k) (n - k) ≡ []
words_none w at n k h = let e : n - k ≡ 0 = omega arith in ap (λ (m : ℕ). extents_at w (at + k) m) e

pub words_long : (w : List ℕ) (at n : ℕ) → at + n ≤ length w → length (extents_at w at n) ≡ n
words_long w at n h = let d = length-drop at w in length-take-le n (drop at w) (omega arith)

-- the same, from number 0 on
pub words_all : (w : List ℕ) (at n : ℕ) (out : List ℕ) → Writing (extents_at w at n) out (extents_at w (at + 0) (n - 0)) 0 out
words_all w at n out =
    let i : at ≡ at + 0 = omega arith in
    let j : n ≡ n - 0 = omega arith in
    subst (λ (l : List ℕ). Writing (extents_at w at n) out l 0 out) (ap₂ (λ (i m : ℕ). extents_at w i m) i j) (writing_start (extents_at w at n) out)

pub dimensions_all : (w : List ℕ) (at n : ℕ) (out : List ℕ) → Writing (dimensions_at w at n) out (dimensions_at w (at + 0) (n - 0)) (2 * 0) out
dimensions_all w at n out =
    let i : at ≡ at + 0 = omega arith in
    let j : n ≡ n - 0 = omega arith in
    subst (λ (l : List ℕ). Writing (dimensions_at w at n) out l 0 out) (ap₂ (λ (i m : ℕ). dimensions_at w i m) i j) (writing_start (dimensions_at w at n) out)

pub dimensions_next : (w : List ℕ) (at n k x : ℕ) → x ≡ get_or w (at + k) 0 → at + n ≤ length w → k < n → dimensions_at w (at + k) (n - k) ≡ little_bytes 2 x ++ dimensions_at w (at + (k + 1)) (n - (k + 1))
unfolding dimensions_at
dimensions_next w at n k x e h l = ap (in_row (little_bytes 2)) (words_next w at n k h l) ∙ ap (λ (y : ℕ). little_bytes 2 y ++ in_row (little_bytes 2) (extents_at w (at + (k + 1)) (n - (k + 1)))) (sym e)

pub dimensions_none : (w : List ℕ) (at n k : ℕ) → n ≤ k → dimensions_at w (at + k) (n - k) ≡ []
unfolding dimensions_at
dimensions_none w at n k h = ap (in_row (little_bytes 2)) (words_none w at n k h)

pub row-long : (ks : List ℕ) → length (in_row (little_bytes 2) ks) ≡ 2 * length ks
row-long [] = refl
row-long (k ∷ ks) =
    let e = length-append (little_bytes 2 k) (in_row (little_bytes 2) ks) in
    let t = two_long k in
    let r = row-long ks in
    omega arith

pub dimensions-long : (w : List ℕ) (at n : ℕ) → at + n ≤ length w → length (dimensions_at w at n) ≡ 2 * n
unfolding dimensions_at
dimensions-long w at n h = let r = row-long (extents_at w at n) in let l = words_long w at n h in omega arith

-- a store is a run of one
pub put_one : (out : List ℕ) (to x r : ℕ) → x < 256 → r ≡ x % 256 → set out to r ≡ sets out to (x ∷ [])
put_one out to x r h e = ap (λ (b : ℕ). set out to b) (low_same x r h e)

-- an array and arrays
two_words : (w : List ℕ) (at : ℕ) → at + 2 ≤ length w → extents_at w at 2 ≡ get_or w at 0 ∷ get_or w (at + 1) 0 ∷ []
two_words w at h = words-cons w at 2 (omega arith) (omega arith) ∙ ap (λ (l : List ℕ). get_or w at 0 ∷ l) (words-cons w (at + 1) 1 (omega arith) (omega arith))

pub array-parts_of : (w : List ℕ) (at : ℕ) → ArrayKnown w at → array_bytes_at w at ≡ extents_at w at 2 ++ dimensions_at w (at + 2) (get_or w (at + 1) 0)
unfolding array_bytes_at
array-parts_of w at z = let t = z.there in ap (λ (l : List ℕ). l ++ dimensions_at w (at + 2) (get_or w (at + 1) 0)) (sym (two_words w at (omega arith)))

pub array_long : (w : List ℕ) (at : ℕ) → ArrayKnown w at → length (array_bytes_at w at) ≡ 2 + 2 * get_or w (at + 1) 0
unfolding array_bytes_at
array_long w at z =
    let t = z.there in
    let n = z.three in
    let l = dimensions-long w (at + 2) (get_or w (at + 1) 0) (omega arith) in
    omega arith

pub array_bytes_lem : (w : List ℕ) (at : ℕ) → ArrayKnown w at → (k : ℕ) → k < 2 → get_or w (at + k) 0 < 256
array_bytes_lem w at z zero h = let e : at ≡ at + 0 = omega arith in subst (λ (i : ℕ). get_or w i 0 < 256) e z.role
array_bytes_lem w at z (suc zero) h = let t = z.three in omega arith
array_bytes_lem w at z (suc (suc k)) h = absurd (omega arith)

pub array_wrote : (w : List ℕ) (at n : ℕ) (out out1 part : List ℕ) → ArrayKnown w at → n ≡ get_or w (at + 1) 0 → length (array_bytes_at w at) ≤ length out
    → out1 ≡ sets out 0 (extents_at w at 2) → part ≡ sets (mid_of 2 (length out1 - 2) out1) 0 (dimensions_at w (at + 2) n)
    → (2 + 2 * n ≡ length (array_bytes_at w at)) × (put_mid 2 (length out1 - 2) out1 part ≡ sets out 0 (array_bytes_at w at))
array_wrote w at n out out1 part z e room f g =
    let all = array_bytes_at w at in
    let t = z.there in
    let hs = dimensions_at w (at + 2) n in
    let l2 = words_long w at 2 (omega arith) in
    let la = array_long w at z in
    let s = array-parts_of w at z ∙ ap (λ (m : ℕ). extents_at w at 2 ++ dimensions_at w (at + 2) m) (sym e) in
    let a = writing_put all out all 0 out (writing_start all out) (extents_at w at 2) hs out1 2 s f (omega arith) in
    let three = z.three in
    let lh = dimensions-long w (at + 2) n (omega arith) in
    let b = writing_part all out hs 2 out1 a hs [] part (2 + 2 * n) (sym (append-nil hs)) room g (omega arith) in
    writing_end all out [] (2 + 2 * n) (put_mid 2 (length out1 - 2) out1 part) b refl

pub first_array : (w : List ℕ) (at n : ℕ) → ArraysKnown w at n → 0 < n → ArrayKnown w at
first_array w at n k h = let e : at + 5 * 0 ≡ at = omega arith in subst (λ (i : ℕ). ArrayKnown w i) e (k 0 h)

pub arrays-behind : (w : List ℕ) (at n : ℕ) → ArraysKnown w at n → 0 < n → ArraysKnown w (at + 5) (n - 1)
arrays-behind w at n k h i v = let q : at + 5 * (i + 1) ≡ at + 5 + 5 * i = omega arith in subst (λ (j : ℕ). ArrayKnown w j) q (k (i + 1) (omega arith))

pub arrays_next : (w : List ℕ) (at n : ℕ) → 0 < n → arrays_bytes_at w at n ≡ array_bytes_at w at ++ arrays_bytes_at w (at + 5) (n - 1)
unfolding arrays_bytes_at
arrays_next w at zero h = absurd (omega arith)
arrays_next w at (suc n) h = let e : suc n - 1 ≡ n = omega arith in ap (λ (m : ℕ). array_bytes_at w at ++ arrays_bytes_at w (at + 5) m) (sym e)

pub arrays_none : (w : List ℕ) (at n : ℕ) → n ≤ 0 → arrays_bytes_at w at n ≡ []
unfolding arrays_bytes_at
arrays_none w at zero h = refl
arrays_none w at (suc n) h = absurd (omega arith)
