-- Extents that stand in a list's words: a cell's subscripts, one by one from the last to the first.
use mathlib.Core.Path.{◌≡◌, refl, sym, ap, ap₂, subst, ◌∙◌}
use Prim.Native.Nat.{ℕ, suc, ◌+◌, ◌-◌, ◌*◌, ◌/◌, ◌%◌, ◌≤◌, ◌<◌}
use mathlib.Core.List.{List, [], ◌∷◌, ◌++◌, append_assoc, append-nil}
use mathlib.Core.Bool.{true}
use native.Mathlib.Omega.{arith}
use native.Mathlib.Nat.{mul_assoc, mul_comm, mul-pos, mod-lt, mod-eq_of_lt, div-one, div-div-eq-div-mul}
use lib.Arith.{digits_div, digits_mod, mod-mul}
use lib.ListN.{length, get_or, drop, length-drop}
use lib.Seq.{sets, length-sets, take-suc, get_or-drop}
use borrow.Rule.Slice.PartMut.{mid_of, put_mid}
use Rattle.model.specs.Test.{within, every}
use Rattle.model.specs.Tables.{cells}
use Rattle.unroller.proofs.Parts.{both, join, within_low}
use Rattle.writer.specs.File.{little_bytes, in_row, subscripts_of}
use Rattle.writer.specs.Records.{extents_at, subscript_bytes, Sizes}
use Rattle.writer.proofs.Cells.{subscripts-many, cells_some}
use Rattle.writer.proofs.Frames.{sets_behind, part-sets, two_long}
use Rattle.writer.proofs.Writing.{words-cons, words_long, row-long}

-- the last apart
cells_last : (es : List ℕ) (e : ℕ) → cells (es ++ e ∷ []) ≡ cells es * e
cells_last [] e = omega arith
cells_last (x ∷ es) e = ap (λ (m : ℕ). x * m) (cells_last es e) ∙ sym (mul_assoc x (cells es) e)

known_last : (es : List ℕ) (e : ℕ) → every (within 1 1024) (es ++ e ∷ []) ≡ true → (every (within 1 1024) es ≡ true) × (0 < e)
known_last [] e a = (refl, within_low 1 1024 e (both (within 1 1024 e) true a).0)
known_last (x ∷ es) e a =
    let p = both (within 1 1024 x) (every (within 1 1024) (es ++ e ∷ [])) a in
    let q = known_last es e p.1 in
    (join (within 1 1024 x) (every (within 1 1024) es) p.0 q.0, q.1)

row_last : (ks : List ℕ) (k : ℕ) → in_row (little_bytes 2) (ks ++ k ∷ []) ≡ in_row (little_bytes 2) ks ++ little_bytes 2 k
row_last [] k = append-nil (little_bytes 2 k)
row_last (j ∷ ks) k = ap (λ (l : List ℕ). little_bytes 2 j ++ l) (row_last ks k) ∙ sym (append_assoc (little_bytes 2 j) (in_row (little_bytes 2) ks) (little_bytes 2 k))

-- Divided by the last extent, a cell's number gives the other subscripts, and what remains is the last. The number may lie outside where
-- there are others, since the first takes what is too much.
module _ (e : ℕ) (some : 0 < e) where
  abbrev Apart : List ℕ → ℕ → Type 0
  Apart es c = subscripts_of (es ++ e ∷ []) c ≡ subscripts_of es (c / e) ++ (c % e ∷ [])

  first_apart : (x : ℕ) (es : List ℕ) (c : ℕ) → every (within 1 1024) es ≡ true → ((d : ℕ) → d < cells es * e → Apart es d) → Apart (x ∷ es) c
  unfolding subscripts_of
  first_apart x es c a h =
      let m = cells_last es e in
      let f = cells_some es a in
      let s = mod-mul c {m = cells es} {c = e} f some in
      let r = mod-lt c {m = e} some in
      let q = c / e % cells es in
      let below : q * e + c % e < cells es * e = subst (λ (y : ℕ). y < cells es * e) s (mod-lt c {m = cells es * e} (mul-pos f some)) in
      let high : c / cells (es ++ e ∷ []) ≡ c / e / cells es = ap (λ (y : ℕ). c / y) (m ∙ mul_comm (cells es) e) ∙ sym (div-div-eq-div-mul c e (cells es)) in
      let low : c % cells (es ++ e ∷ []) ≡ q * e + c % e = ap (λ (y : ℕ). c % y) m ∙ s in
      ap₂ (λ (y : ℕ) (l : List ℕ). y ∷ l) high (ap (subscripts_of (es ++ e ∷ [])) low ∙ h (q * e + c % e) below ∙ ap₂ (λ (y z : ℕ). subscripts_of es y ++ (z ∷ [])) (digits_div q r) (digits_mod q r))

  inside-apart : (es : List ℕ) (c : ℕ) → every (within 1 1024) es ≡ true → c < cells es * e → Apart es c
  unfolding subscripts_of
  inside-apart [] c a l = let h : c < e = omega arith in ap (λ (y : ℕ). y ∷ []) (div-one c ∙ sym (mod-eq_of_lt h))
  inside-apart (x ∷ es) c a l = let p = both (within 1 1024 x) (every (within 1 1024) es) a in first_apart x es c p.1 (λ d h. inside-apart es d p.1 h)

  last_apart : (es : List ℕ) (c : ℕ) → every (within 1 1024) es ≡ true → 0 < length es → Apart es c
  last_apart [] c a l = absurd (omega arith)
  last_apart (x ∷ es) c a l = let p = both (within 1 1024 x) (every (within 1 1024) es) a in first_apart x es c p.1 (λ d h. inside-apart es d p.1 h)

pub subscripts-long : (w : List ℕ) (at n : ℕ) → at + n ≤ length w → (cell : ℕ) → length (subscript_bytes w at n cell) ≡ 2 * n
unfolding subscript_bytes
subscripts-long w at n h cell =
    let r = row-long (subscripts_of (extents_at w at n) cell) in
    let s = subscripts-many (extents_at w at n) cell in
    let l = words_long w at n h in
    omega arith

-- `rest` over the first k extents is still to be written, and makes of the output what the cell makes of the first
pub record Dividing (w : List ℕ) (at n cell : ℕ) (out₀ : List ℕ) (rest k : ℕ) (out : List ℕ) : Type 0 where
  pub some : 0 < k
  pub most : k ≤ n
  pub known : every (within 1 1024) (extents_at w at k) ≡ true
  pub long : length out ≡ length out₀
  pub same : sets out 0 (subscript_bytes w at k rest) ≡ sets out₀ 0 (subscript_bytes w at n cell)

pub dividing_start : (w : List ℕ) (at n cell : ℕ) (out : List ℕ) → Sizes w at n → Dividing w at n cell out cell n out
dividing_start w at n cell out z = record { some = z.some; most = omega arith; known = z.known; long = refl; same = refl }

module _ (w : List ℕ) (at n cell : ℕ) (out₀ : List ℕ) (z : Sizes w at n) (rest k : ℕ) (out : List ℕ) (d : Dividing w at n cell out₀ rest k out) where
  -- one that is not the first
  module _ (e : ℕ) (q : e ≡ get_or w (at + (k - 1)) 0) (h : 1 < k) where
    abbrev es : List ℕ
    es = extents_at w at (k - 1)

    extents_last : extents_at w at k ≡ es ++ e ∷ []
    extents_last =
        let i : suc (k - 1) ≡ k = omega arith in
        let l = length-drop at w in
        let t = z.there in
        let m = d.most in
        ap (λ (j : ℕ). extents_at w at j) (sym i) ∙ take-suc (drop at w) (k - 1) 0 (omega arith) ∙ ap (λ (x : ℕ). es ++ x ∷ []) (get_or-drop at w (k - 1) 0 ∙ sym q)

    each : (every (within 1 1024) es ≡ true) × (0 < e)
    each = known_last es e (subst (λ (l : List ℕ). every (within 1 1024) l ≡ true) extents_last d.known)

    pub dividing_some : 0 < e
    dividing_some = each.1

    split : subscript_bytes w at k rest ≡ subscript_bytes w at (k - 1) (rest / e) ++ little_bytes 2 (rest % e)
    unfolding subscript_bytes
    split =
        let t = z.there in
        let m = d.most in
        let l = words_long w at (k - 1) (omega arith) in
        ap (λ (l : List ℕ). in_row (little_bytes 2) (subscripts_of l rest)) extents_last ∙ ap (in_row (little_bytes 2)) (last_apart e each.1 es rest each.0 (omega arith)) ∙ row_last (subscripts_of es (rest / e)) (rest % e)

    pub dividing_step : (part : List ℕ) → 2 * n ≤ length out₀ → part ≡ sets (mid_of (2 * (k - 1)) (length out - 2 * (k - 1)) out) 0 (little_bytes 2 (rest % e))
        → Dividing w at n cell out₀ (rest / e) (k - 1) (put_mid (2 * (k - 1)) (length out - 2 * (k - 1)) out part)
    dividing_step part room f =
        let t = z.there in
        let m = d.most in
        let l = d.long in
        let two = two_long (rest % e) in
        let b = subscripts-long w at (k - 1) (omega arith) (rest / e) in
        let i : 0 + length (subscript_bytes w at (k - 1) (rest / e)) ≡ 2 * (k - 1) = omega arith in
        let put = part-sets (2 * (k - 1)) out part (little_bytes 2 (rest % e)) (omega arith) f in
        record {
          some = omega arith;
          most = omega arith;
          known = each.0;
          long = ap length put ∙ length-sets out (2 * (k - 1)) (little_bytes 2 (rest % e)) ∙ l;
          same = ap (λ (x : List ℕ). sets x 0 (subscript_bytes w at (k - 1) (rest / e))) (put ∙ ap (λ (j : ℕ). sets out j (little_bytes 2 (rest % e))) (sym i))
              ∙ sym (sets_behind (subscript_bytes w at (k - 1) (rest / e)) (little_bytes 2 (rest % e)) out 0)
              ∙ ap (sets out 0) (sym split)
              ∙ d.same;
        }

  -- the first
  first_bytes : k ≤ 1 → subscript_bytes w at k rest ≡ little_bytes 2 rest
  unfolding subscript_bytes subscripts_of
  first_bytes h =
      let s = d.some in
      let t = z.there in
      let m = d.most in
      let i : k ≡ 1 = omega arith in
      ap (λ (j : ℕ). in_row (little_bytes 2) (subscripts_of (extents_at w at j) rest)) i
      ∙ ap (λ (l : List ℕ). in_row (little_bytes 2) (subscripts_of l rest)) (words-cons w at 1 (omega arith) (omega arith))
      ∙ append-nil (little_bytes 2 (rest / 1))
      ∙ ap (little_bytes 2) (div-one rest)

  pub dividing_end : (out' : List ℕ) → k ≤ 1 → out' ≡ sets out 0 (little_bytes 2 rest) → out' ≡ sets out₀ 0 (subscript_bytes w at n cell)
  dividing_end out' h f = f ∙ ap (sets out 0) (sym (first_bytes h)) ∙ d.same
