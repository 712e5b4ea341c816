-- The tables as bytes.
use mathlib.Core.Path.{◌≡◌, refl, sym, ap, ap₂, subst, ◌∙◌}
use Prim.Native.Nat.{ℕ, zero, suc, ◌+◌, ◌-◌, ◌*◌, ◌≤◌, ◌<◌}
use mathlib.Core.List.{List, [], ◌∷◌, ◌++◌, append-nil, append_assoc}
use mathlib.Core.Bool.{Bool, true, false, ◌&&◌}
use native.Mathlib.Omega.{arith}
use lib.ListN.{length, get_or, set, length-append, length-set}
use lib.Seq.{sets}
use borrow.Rule.Slice.PartMut.{mid_of, put_mid}
use Rattle.model.specs.Test.{every}
use Rattle.model.specs.Tables.{operator_in}
use Rattle.reader.specs.Grammar.{mark}
use Rattle.writer.specs.File.{little_bytes}
use Rattle.writer.specs.Records.{extents_at}
use Rattle.writer.specs.Head.{array_bytes_at, arrays_bytes_at, head_bytes, version_at, ArrayKnown, ArraysKnown, HeadKnown}
use Rattle.writer.proofs.Frames.{part-sets, two_long}
use Rattle.writer.proofs.Writing.{writing_start, writing_put, writing_part, writing_end, words-cons, words_next, words_none, words_long, array_long, first_array, arrays-behind, arrays_next, arrays_none}

-- the operators from number k on have the answer of all
pub record Marks (w : List ℕ) (n k : ℕ) : Type 0 where
  pub few : k ≤ n
  pub same : every (operator_in 1) (extents_at w (1 + k) (n - k)) ≡ every (operator_in 1) (extents_at w 1 (get_or w 0 0))

module _ (w : List ℕ) (n : ℕ) (e : n ≡ get_or w 0 0) (z : HeadKnown w) where
  room : 1 + n ≤ length w
  room = let a = z.long in let b = z.operators in omega arith

  pub marks_start : Marks w n 0
  marks_start =
      let j : n - 0 ≡ n = omega arith in
      record { few = omega arith; same = ap (λ (m : ℕ). every (operator_in 1) (extents_at w 1 m)) (j ∙ e) }

  module _ (k : ℕ) (m : Marks w n k) where
    next : k < n → extents_at w (1 + k) (n - k) ≡ (get_or w (1 + k) 0 ∷ []) ++ extents_at w (1 + (k + 1)) (n - (k + 1))
    next h = words_next w 1 n k room h

    pub marks_stop : (b : ℕ) → b ≡ get_or w (1 + k) 0 → k < n → operator_in 1 b ≡ false → 2 ≡ version_at w
    unfolding version_at
    marks_stop b f h q =
        let s : every (operator_in 1) (extents_at w 1 (get_or w 0 0)) ≡ false = sym m.same ∙ ap (every (operator_in 1)) (next h) ∙ ap (λ (x : Bool). x && every (operator_in 1) (extents_at w (1 + (k + 1)) (n - (k + 1)))) (ap (operator_in 1) (sym f) ∙ q) in
        sym (rw s)

    pub marks_step : (b : ℕ) → b ≡ get_or w (1 + k) 0 → k < n → operator_in 1 b ≡ true → Marks w n (k + 1)
    marks_step b f h q =
        record {
          few = omega arith;
          same = sym (ap (every (operator_in 1)) (next h) ∙ ap (λ (x : Bool). x && every (operator_in 1) (extents_at w (1 + (k + 1)) (n - (k + 1)))) (ap (operator_in 1) (sym f) ∙ q)) ∙ m.same;
        }

    pub marks_end : n ≤ k → 1 ≡ version_at w
    unfolding version_at
    marks_end h =
        let s : every (operator_in 1) (extents_at w 1 (get_or w 0 0)) ≡ true = sym m.same ∙ ap (every (operator_in 1)) (words_none w 1 n k h) in
        sym (rw s)

-- sizes of arrays
pub record Adds (w : List ℕ) (at n from left size : ℕ) : Type 0 where
  pub known : ArraysKnown w from left
  pub count : size + length (arrays_bytes_at w from left) ≡ length (arrays_bytes_at w at n)
  pub few : size + 8 * left ≤ 8 * n
  pub bound : size ≤ 2 * from

pub adds_start : (w : List ℕ) (at n : ℕ) → ArraysKnown w at n → Adds w at n at n 0
adds_start w at n k = record { known = k; count = omega arith; few = omega arith; bound = omega arith }

module _ (w : List ℕ) (at n from left size : ℕ) (a : Adds w at n from left size) where
  pub adds_known : 0 < left → ArrayKnown w from
  adds_known h = first_array w from left a.known h

  pub adds_step : (d : ℕ) → d ≡ get_or w (from + 1) 0 → 0 < left → Adds w at n (from + 5) (left - 1) (size + (2 + 2 * d))
  adds_step d e h =
      let c = a.count in
      let f = a.few in
      let l = array_long w from (adds_known h) in
      let t = (adds_known h).three in
      let s = ap length (arrays_next w from left h) in
      let j = length-append (array_bytes_at w from) (arrays_bytes_at w (from + 5) (left - 1)) in
      let b = a.bound in
      record { known = arrays-behind w from left a.known h; count = omega arith; few = omega arith; bound = omega arith }

  pub adds_end : left ≤ 0 → (size ≡ length (arrays_bytes_at w at n)) × (size ≤ 8 * n)
  adds_end h = let c = a.count in let f = a.few in let e = ap length (arrays_none w from left h) in (omega arith, omega arith)

-- the head by its parts
module _ (w : List ℕ) (version : ℕ) (z : HeadKnown w) where
  pub head-parts : (n m : ℕ) → n ≡ get_or w 0 0 → m ≡ get_or w 17 0
      → head_bytes w version ≡ (mark ++ little_bytes 2 version) ++ (extents_at w 0 (n + 1) ++ (extents_at w 17 1 ++ arrays_bytes_at w 18 m))
  unfolding head_bytes
  head-parts n m e f =
      let l = z.long in
      let s : n + 1 - 1 ≡ n = omega arith in
      let a : extents_at w 0 (n + 1) ≡ get_or w 0 0 ∷ extents_at w 1 n = words-cons w 0 (n + 1) (omega arith) (omega arith) ∙ ap (λ (k : ℕ). get_or w 0 0 ∷ extents_at w 1 k) s in
      let b : extents_at w 17 1 ≡ get_or w 17 0 ∷ [] = words-cons w 17 1 (omega arith) (omega arith) in
      let ops = get_or w 0 0 ∷ extents_at w 1 (get_or w 0 0) in
      let rest = get_or w 17 0 ∷ arrays_bytes_at w 18 (get_or w 17 0) in
      append_assoc (mark ++ little_bytes 2 version) ops rest
      ∙ sym (ap₂ (λ (x y : List ℕ). (mark ++ little_bytes 2 version) ++ (x ++ (y ++ arrays_bytes_at w 18 m))) (a ∙ ap (λ (k : ℕ). get_or w 0 0 ∷ extents_at w 1 k) e) b
      ∙ ap (λ (k : ℕ). (mark ++ little_bytes 2 version) ++ (ops ++ (get_or w 17 0 ∷ arrays_bytes_at w 18 k))) f)

  pub head-long : (n m : ℕ) → n ≡ get_or w 0 0 → m ≡ get_or w 17 0 → length (head_bytes w version) ≡ 7 + n + length (arrays_bytes_at w 18 m)
  head-long n m e f =
      let l = z.long in
      let o = z.operators in
      let p = ap length (head-parts n m e f) in
      let a = length-append (mark ++ little_bytes 2 version) (extents_at w 0 (n + 1) ++ (extents_at w 17 1 ++ arrays_bytes_at w 18 m)) in
      let b = length-append mark (little_bytes 2 version) in
      let c = length-append (extents_at w 0 (n + 1)) (extents_at w 17 1 ++ arrays_bytes_at w 18 m) in
      let d = length-append (extents_at w 17 1) (arrays_bytes_at w 18 m) in
      let t = two_long version in
      let u = words_long w 0 (n + 1) (omega arith) in
      let v = words_long w 17 1 (omega arith) in
      omega arith

  pub head_words_lem : (n : ℕ) → n ≡ get_or w 0 0 → (k : ℕ) → k < n + 1 → get_or w (0 + k) 0 < 256
  head_words_lem n e zero h = let o = z.operators in omega arith
  head_words_lem n e (suc k) h = let i : 0 + suc k ≡ 1 + k = omega arith in subst (λ (j : ℕ). get_or w j 0 < 256) (sym i) (z.bytes k (omega arith))

  pub count_word : (k : ℕ) → k < 1 → get_or w (17 + k) 0 < 256
  count_word zero h = let c = z.count in omega arith
  count_word (suc k) h = absurd (omega arith)

pub mark_is : (out part : List ℕ) (version : ℕ) → 5 ≤ length out
    → part ≡ sets (mid_of 3 (length (set (set (set out 0 0x41) 1 0x4C) 2 0x50) - 3) (set (set (set out 0 0x41) 1 0x4C) 2 0x50)) 0 (little_bytes 2 version)
    → put_mid 3 (length (set (set (set out 0 0x41) 1 0x4C) 2 0x50) - 3) (set (set (set out 0 0x41) 1 0x4C) 2 0x50) part ≡ sets out 0 (mark ++ little_bytes 2 version)
mark_is out part version h e =
    let a = length-set (set (set out 0 0x41) 1 0x4C) 2 0x50 in
    let b = length-set (set out 0 0x41) 1 0x4C in
    let c = length-set out 0 0x41 in
    let t = two_long version in
    part-sets 3 (set (set (set out 0 0x41) 1 0x4C) 2 0x50) part (little_bytes 2 version) (omega arith) e

-- the four parts, one after the other
pub head_wrote : (w : List ℕ) (version : ℕ) (z : HeadKnown w) (n m : ℕ) (e : n ≡ get_or w 0 0) (f : m ≡ get_or w 17 0) (out o1 p2 p3 p4 : List ℕ) (size : ℕ) → length (head_bytes w version) ≤ length out
    → o1 ≡ sets out 0 (mark ++ little_bytes 2 version)
    → p2 ≡ sets (mid_of 5 (length o1 - 5) o1) 0 (extents_at w 0 (n + 1))
    → p3 ≡ sets (mid_of (6 + n) (length (put_mid 5 (length o1 - 5) o1 p2) - (6 + n)) (put_mid 5 (length o1 - 5) o1 p2)) 0 (extents_at w 17 1)
    → (let o3 = put_mid (6 + n) (length (put_mid 5 (length o1 - 5) o1 p2) - (6 + n)) (put_mid 5 (length o1 - 5) o1 p2) p3 in
    p4 ≡ sets (mid_of (7 + n) (length o3 - (7 + n)) o3) 0 (arrays_bytes_at w 18 m) → size ≡ length (arrays_bytes_at w 18 m)
    → (7 + n + size ≡ length (head_bytes w version)) × (put_mid (7 + n) (length o3 - (7 + n)) o3 p4 ≡ sets out 0 (head_bytes w version)))
head_wrote w version z n m e f out o1 p2 p3 p4 size room g1 g2 g3 g4 s =
    let l = z.long in
    let o = z.operators in
    let all = head_bytes w version in
    let a1 = mark ++ little_bytes 2 version in
    let a2 = extents_at w 0 (n + 1) in
    let a3 = extents_at w 17 1 in
    let a4 = arrays_bytes_at w 18 m in
    let l1 = length-append mark (little_bytes 2 version) in
    let t = two_long version in
    let l2 = words_long w 0 (n + 1) (omega arith) in
    let l3 = words_long w 17 1 (omega arith) in
    let o2 = put_mid 5 (length o1 - 5) o1 p2 in
    let o3 = put_mid (6 + n) (length o2 - (6 + n)) o2 p3 in
    let w1 = writing_put all out all 0 out (writing_start all out) a1 (a2 ++ (a3 ++ a4)) o1 5 (head-parts w version z n m e f) g1 (omega arith) in
    let w2 = writing_part all out (a2 ++ (a3 ++ a4)) 5 o1 w1 a2 (a3 ++ a4) p2 (6 + n) refl room g2 (omega arith) in
    let w3 = writing_part all out (a3 ++ a4) (6 + n) o2 w2 a3 a4 p3 (7 + n) refl room g3 (omega arith) in
    let w4 = writing_part all out a4 (7 + n) o3 w3 a4 [] p4 (7 + n + size) (sym (append-nil a4)) room g4 (ap (λ (x : ℕ). 7 + n + x) s) in
    writing_end all out [] (7 + n + size) (put_mid (7 + n) (length o3 - (7 + n)) o3 p4) w4 refl
