-- Many pairs: their claims (specs/Claims.antt).
use Rattle.std.specs.Prelude.{if◌then◌else◌}
use Prim.Native.Nat.{ℕ, zero, suc, ◌+◌, ◌-◌, ◌*◌, ◌/◌, ◌%◌, ◌≤◌, ◌<◌}
use native.Mathlib.Omega.{arith}
use mathlib.Core.Path.{◌≡◌, refl, sym, ap, ap₂, ◌∙◌, subst}
use mathlib.Core.List.{List, [], ◌∷◌, ◌++◌, map, append_assoc}
use mathlib.Core.Bool.{Bool, true, false, cond, false≢true}
use lib.ListN.{length, get_or, take, drop, length-append, length-take, length-map}
use lib.Seq.{take-append_seam, drop-append_seam, drop_at, take-take, take_all, take-nil, drop-nil}
use lib.Dec.{leb}
use borrow.Author.Tests.{leb-true, leb-false, le-leb, lt-leb}
use Rattle.model.specs.Test.{total}
use Rattle.model.specs.Tables.{Array, Tables, cells}
use Rattle.model.specs.Reply.{Reply, Side, equal, differs, refused, left, right, input, is_refused}
use Rattle.reader.specs.Field.{little_endian}
use Rattle.unroller.proofs.Parts.{room}
use Rattle.unroller.proofs.Runs.{unrolls}
use Rattle.comparer.specs.Match.{compared, compared_size}
use Rattle.comparer.specs.Entry.{programs_reply, all_bits}
use Rattle.comparer.specs.Line.{line_of}
use Rattle.comparer.specs.Batch.{Lengths, ended, last, sizes, sized, lengths_of, Pair, whole, broken, body_of, followed, pairs_by, pairs, most_pairs, begun, reply_of, replies, one_equal, one_differs, one_refused, elements_of, totals_line, text}
use Rattle.comparer.specs.BatchSteps.{no_totals, counted, answered, turn, turns, looked_by, looked}
use Rattle.comparer.specs.Claims.{equal_counts, BatchSummed, BatchSteps, framed_pair, BatchFirst, BatchLast, BatchCut, BatchBound, Demand2Batch, Numbered, BatchNumbers}
use Rattle.comparer.specs.declared.batch.Totals.{Totals}
use Rattle.comparer.proofs.BatchLaws.{left_long, right_long, both_fit, no_byte, few_bytes, four_bytes}
use Rattle.comparer.proofs.Theorems.{demand2_programs}
use Rattle.comparer.proofs.Plain.{program-tables}
use Rattle.comparer.proofs.Questions.{program_numbers}

-- ---- E + D + R, and C

one_kind : (x : Reply) → one_equal x + one_differs x + one_refused x ≡ 1
one_kind (equal n) = refl
one_kind (differs a e) = refl
one_kind (refused s k p) = refl

kinds : (rs : List Reply) → total one_equal rs + total one_differs rs + total one_refused rs ≡ length rs
kinds [] = refl
kinds (x ∷ rs) =
    let h = kinds rs in
    let o = one_kind x in
    omega arith

-- a pair that its lengths, or bytes that are cut, refuse: 2 of a side, 1 of the input
abbrev Last : Lengths → Type 0
Last ended = Unit {0}
Last (last side number) = Numbered (refused side number 0)
Last (sizes l r) = Unit {0}

last_if : (b : Bool) (x y : Lengths) → Last x → Last y → Last (if b then x else y)
last_if true x y h k = h
last_if false x y h k = k

lengths_last : (s : List ℕ) → Last (lengths_of s)
unfolding lengths_of
lengths_last [] = tt
lengths_last (b ∷ s) =
    let l : ℕ = little_endian 2 (b ∷ s) 0 in
    let r : ℕ = little_endian 2 (b ∷ s) 2 in
    last_if (leb 4 (length (b ∷ s))) (sized l r) (last input 1)
    (last_if (leb l 16384) _ (last left 2) (last_if (leb r 16384) (sizes l r) (last right 2) tt (omega arith, omega arith)) (omega arith, omega arith)) (refl, refl)

abbrev Broken : Pair → Type 0
Broken (whole l r) = Unit {0}
Broken (broken side number) = Numbered (refused side number 0)

body_last : (l r : ℕ) (s : List ℕ) → Broken (body_of l r s)
body_last l r s = by (leb (l + r) (length s))
  where
    by : (b : Bool) → Broken (if b then whole (take l s) (take r (drop l s)) else broken input 1)
    by true = tt
    by false = (refl, refl)

-- what holds of no pair, of a broken one and of a whole one in front of others holds of the pairs that are begun
module _ (P : ℕ → List Pair → Type 0) (none : (n : ℕ) → P n [])
    (one : (n : ℕ) (side : Side) (number : ℕ) → Numbered (refused side number 0) → P (suc n) (broken side number ∷ []))
    (more : (n : ℕ) (l r : List ℕ) (ps : List Pair) → P n ps → P (suc n) (whole l r ∷ ps)) where
  pairs_by_lem : (n : ℕ) (s : List ℕ) → P n (pairs n s)
  unfolding pairs
  pairs_by_lem zero s = none zero
  pairs_by_lem (suc n) s = by (lengths_of s) (drop 4 s) (lengths_last s) (λ rest. pairs_by_lem n rest)
    where
      after : (p : Pair) (rest : List ℕ) → Broken p → P n (pairs n rest) → P (suc n) (followed p (pairs n) rest)
      after (whole l r) rest k h = more n l r (pairs n rest) h
      after (broken side number) rest k h = one n side number k

      by : (x : Lengths) (t : List ℕ) → Last x → ((rest : List ℕ) → P n (pairs n rest)) → P (suc n) (pairs_by x (pairs n) t)
      by ended t k h = none (suc n)
      by (last side number) t k h = one n side number k
      by (sizes l r) t k h = after (body_of l r t) (drop (l + r) t) (body_last l r t) (h (drop (l + r) t))

pairs-most : (n : ℕ) (s : List ℕ) → length (pairs n s) ≤ n
pairs-most = pairs_by_lem (λ n ps. length ps ≤ n) (λ n. omega arith) (λ n side number k. omega arith) (λ n l r ps h. omega arith)

equals_are : (rs : List Reply) → total one_equal rs ≡ length (equal_counts rs)
equals_are [] = refl
equals_are (equal n ∷ rs) = let h = equals_are rs in omega arith
equals_are (differs a e ∷ rs) = let h = equals_are rs in omega arith
equals_are (refused s k p ∷ rs) = let h = equals_are rs in omega arith

sum_is : (rs : List Reply) → total elements_of rs ≡ total (λ n. n) (equal_counts rs)
sum_is [] = refl
sum_is (equal n ∷ rs) = ap (λ (m : ℕ). n + m) (sum_is rs)
sum_is (differs a e ∷ rs) = let h = sum_is rs in omega arith
sum_is (refused s k p ∷ rs) = let h = sum_is rs in omega arith

pub batch_summed : BatchSummed
batch_summed s =
    let e = length-map (begun s) reply_of in
    record { kinds = kinds (replies s) ∙ e; number = sym e; most = omega (arith, pairs-most most_pairs s); equals = equals_are (replies s); sum = sum_is (replies s) }

-- ---- a count is at most 2,048

compared-most : (mask a : ℕ) (xs : List Array) → compared_size mask a xs ≤ room xs
compared-most mask a [] = omega arith
compared-most mask a (x ∷ xs) = by (compared mask a x) (compared-most mask (suc a) xs)
  where
    by : (b : Bool) → compared_size mask (suc a) xs ≤ room xs → cond b (cells x.extents) 0 + compared_size mask (suc a) xs ≤ cells x.extents + room xs
    by true h = omega arith
    by false h = omega arith

pub elements_most : (mask : ℕ) (l r : List ℕ) → elements_of (programs_reply mask l r) ≤ 2048
elements_most mask l r = go (programs_reply mask l r) refl
  where
    go : (x : Reply) → programs_reply mask l r ≡ x → elements_of x ≤ 2048
    go (equal n) e =
        let t = demand2_programs mask l r (ap is_refused e) in
        let q = ((t.told.same n).0 e).0 in
        let u = unrolls l t.l t.is_left in
        let p = (program-tables l u.source u.next u.is_read).fits in
        let w : compared_size mask 0 t.l.tables.arrays ≤ 2048 = subst (λ (z : Tables). compared_size mask 0 z.arrays ≤ 2048) (sym u.tables) (omega (arith, compared-most mask 0 u.source.tables.arrays)) in
        omega arith
    go (differs a e) f = omega arith
    go (refused s k p) f = omega arith

reply-most : (p : Pair) → elements_of (reply_of p) ≤ 2048
reply-most (whole l r) = elements_most all_bits l r
reply-most (broken side number) = omega arith

-- ---- the totals, reply by reply

-- as long as n more pairs are allowed, no total meets its limit
record Fits (t : Totals) (n : ℕ) : Type 0 where
  count : t.pairs + n ≤ 65535
  few-equal : t.equal ≤ t.pairs
  few-differs : t.differs ≤ t.pairs
  few-refused : t.refused ≤ t.pairs
  few_elements : t.elements ≤ 2048 * t.pairs

abbrev plus : Totals → List Reply → Totals
plus t rs = record {
  pairs = t.pairs + length rs;
  equal = t.equal + total one_equal rs;
  differs = t.differs + total one_differs rs;
  refused = t.refused + total one_refused rs;
  elements = t.elements + total elements_of rs;
}

made : (a b d e f a' b' d' e' f' : ℕ) → a ≡ a' → b ≡ b' → d ≡ d' → e ≡ e' → f ≡ f'
    → ◌≡◌ {A = Totals} (record { pairs = a; equal = b; differs = d; refused = e; elements = f }) (record { pairs = a'; equal = b'; differs = d'; refused = e'; elements = f' })
made a b d e f a' b' d' e' f' p q r s u = cc

plus_none : (t : Totals) → plus t [] ≡ t
plus_none t = made _ _ _ _ _ t.pairs t.equal t.differs t.refused t.elements (omega arith) (omega arith) (omega arith) (omega arith) (omega arith)

module _ (t : Totals) (n : ℕ) (f : Fits t (suc n)) (x : Reply) (h : elements_of x ≤ 2048) where
  plus_more : (rs : List Reply) → plus (counted t x) rs ≡ plus t (x ∷ rs)
  plus_more rs =
      let o = one_kind x in
      let a = f.count in
      let b = f.few-equal in
      let d = f.few-differs in
      let e = f.few-refused in
      let g = f.few_elements in
      made _ _ _ _ _ _ _ _ _ _ (omega arith) (omega arith) (omega arith) (omega arith) (omega arith)

  fits_more : Fits (counted t x) n
  fits_more =
      let o = one_kind x in
      let a = f.count in
      record {
        count = omega arith;
        few-equal = omega (arith, f.few-equal);
        few-differs = omega (arith, f.few-differs);
        few-refused = omega (arith, f.few-refused);
        few_elements = omega (arith, f.few_elements);
      }

-- ---- the bytes that a turn takes

-- only the first four bytes tell the lengths
lengths_four : (s : List ℕ) → lengths_of (take 4 s) ≡ lengths_of s
unfolding lengths_of
lengths_four [] = refl
lengths_four (a ∷ []) = refl
lengths_four (a ∷ b ∷ []) = refl
lengths_four (a ∷ b ∷ c ∷ []) = refl
lengths_four (a ∷ b ∷ c ∷ d ∷ s) = rw (le-leb 4 (length (a ∷ b ∷ c ∷ d ∷ s)) (omega arith))

drop-take : (l k : ℕ) (s : List ℕ) → drop l (take (l + k) s) ≡ take k (drop l s)
drop-take zero k s = let z : zero + k ≡ k = omega arith in rw z
drop-take (suc l) k [] = rw (take-nil, take-nil, drop-nil)
drop-take (suc l) k (x ∷ s) = let z : suc l + k ≡ suc (l + k) = omega arith in rw z (drop-take l k s)

-- a cut behind the pair's bytes
body-cut : (l r k : ℕ) (s : List ℕ) → l + r ≤ k → l + r ≤ length s → body_of l r (take k s) ≡ whole (take l s) (take r (drop l s))
body-cut l r k s h g =
    let e = length-take k s in
    let j : ℕ = k - l in
    let z : k ≡ l + j = omega arith in
    let p = take-take l k s (omega arith) in
    let q : drop l (take k s) ≡ take j (drop l s) = subst (λ (m : ℕ). drop l (take m s) ≡ take j (drop l s)) (sym z) (drop-take l j s) in
    let u = take-take r j (drop l s) (omega arith) in
    rw (le-leb (l + r) (length (take k s)) (omega arith), p, q, u)

body-whole : (l r : ℕ) (s : List ℕ) → l + r ≤ length s → body_of l r s ≡ whole (take l s) (take r (drop l s))
body-whole l r s h = rw (le-leb (l + r) (length s) h)

body-broken : (l r : ℕ) (s : List ℕ) → length s < l + r → body_of l r s ≡ broken input 1
body-broken l r s h = rw (lt-leb (l + r) (length s) h)

-- ---- turn by turn

abbrev shown : Totals → List Pair → List ℕ
shown t ps = text (map reply_of ps) (totals_line (plus t (map reply_of ps)))

-- a pair's line, and what follows
line_last : (t : Totals) (n : ℕ) → Fits t (suc n) → (p : Pair) (more : Totals → List ℕ) → answered false (reply_of p) t more ≡ shown t (p ∷ [])
line_last t n f p more =
    ap (λ (u : Totals). line_of (reply_of p) ++ totals_line u) (sym (plus_none (counted t (reply_of p))) ∙ plus_more t n f (reply_of p) (reply-most p) [])

line_more : (t : Totals) (n : ℕ) → Fits t (suc n) → (p : Pair) (ps : List Pair) (more : Totals → List ℕ)
    → more (counted t (reply_of p)) ≡ shown (counted t (reply_of p)) ps → answered true (reply_of p) t more ≡ shown t (p ∷ ps)
line_more t n f p ps more e =
    ap (λ (x : List ℕ). line_of (reply_of p) ++ x) (e ∙ ap (λ (u : Totals). text (map reply_of ps) (totals_line u)) (plus_more t n f (reply_of p) (reply-most p) (map reply_of ps)))

module _ (n : ℕ) (ih : (t : Totals) (s : List ℕ) → Fits t n → turns n t s ≡ shown t (pairs n s)) where
  turn_is : (x : Lengths) (t : Totals) (s : List ℕ) → Fits t (suc n) → turn x t s (turns n) ≡ shown t (pairs_by x (pairs n) s)
  turn_is ended t s f = ap totals_line (sym (plus_none t))
  turn_is (last side number) t s f = line_last t n f (broken side number) totals_line
  turn_is (sizes l r) t s f = by (leb (l + r) (length s)) refl
    where
      by : (b : Bool) → leb (l + r) (length s) ≡ b
          → answered (leb (l + r) (length (take (l + r) s))) (reply_of (body_of l r (take (l + r) s))) t (λ u. turns n u (drop (l + r) s)) ≡ shown t (followed (body_of l r s) (pairs n) (drop (l + r) s))
      by true e =
          let h = leb-true (l + r) (length s) e in
          let p : Pair = whole (take l s) (take r (drop l s)) in
          let q = length-take (l + r) s in
          ap₂ (λ (b : Bool) (z : Pair). answered b (reply_of z) t (λ u. turns n u (drop (l + r) s))) (le-leb (l + r) (length (take (l + r) s)) (omega arith)) (body-cut l r (l + r) s (omega arith) h)
          ∙ line_more t n f p (pairs n (drop (l + r) s)) (λ u. turns n u (drop (l + r) s)) (ih (counted t (reply_of p)) (drop (l + r) s) (fits_more t n f (reply_of p) (reply-most p)))
          ∙ ap (λ (z : Pair). shown t (followed z (pairs n) (drop (l + r) s))) (sym (body-whole l r s h))
      by false e =
          let h = leb-false (l + r) (length s) e in
          let q : take (l + r) s ≡ s = take_all (l + r) s (omega arith) in
          ap (λ (z : List ℕ). answered (leb (l + r) (length z)) (reply_of (body_of l r z)) t (λ u. turns n u (drop (l + r) s))) q
          ∙ ap₂ (λ (b : Bool) (z : Pair). answered b (reply_of z) t (λ u. turns n u (drop (l + r) s))) e (body-broken l r s h)
          ∙ line_last t n f (broken input 1) (λ u. turns n u (drop (l + r) s))
          ∙ ap (λ (z : Pair). shown t (followed z (pairs n) (drop (l + r) s))) (sym (body-broken l r s h))

turns_are : (n : ℕ) (t : Totals) (s : List ℕ) → Fits t n → turns n t s ≡ shown t (pairs n s)
unfolding turns pairs
turns_are zero t s f = ap totals_line (sym (plus_none t))
turns_are (suc n) t s f =
    ap (λ (x : Lengths). turn x t (drop 4 s) (turns n)) (lengths_four s) ∙ turn_is n (λ u v g. turns_are n u v g) (lengths_of s) t (drop 4 s) f

pub batch_steps : BatchSteps
batch_steps s =
    turns_are most_pairs no_totals s (record { count = omega arith; few-equal = omega arith; few-differs = omega arith; few-refused = omega arith; few_elements = omega arith })
    ∙ ap (λ (u : Totals). text (replies s) (totals_line u)) (made _ _ _ _ _ _ _ _ _ _ (omega (arith, length-map (begun s) reply_of)) (omega arith) (omega arith) (omega arith) (omega arith))

-- ---- what a run looks at

sized-small : (a b l r : ℕ) → sized a b ≡ sizes l r → (l ≤ 16384) × (r ≤ 16384)
sized-small a b l r e = by (leb a 16384) (leb b 16384) refl refl
  where
    by : (y z : Bool) → leb a 16384 ≡ y → leb b 16384 ≡ z → (l ≤ 16384) × (r ≤ 16384)
    by false z p q = absurd (let f = left_long a b (leb-false a 16384 p) in let z : ◌≡◌ {A = ℕ} 0 1 = cc in omega arith)
    by true false p q = absurd (let f = right_long a b (leb-true a 16384 p) (leb-false b 16384 q) in let z : ◌≡◌ {A = ℕ} 0 1 = cc in omega arith)
    by true true p q =
        let h = leb-true a 16384 p in
        let g = leb-true b 16384 q in
        let f = both_fit a b h g in
        let u : a ≡ l = cc in
        let v : b ≡ r = cc in
        (omega arith, omega arith)

pub sizes-small : (s : List ℕ) (l r : ℕ) → lengths_of s ≡ sizes l r → (l ≤ 16384) × (r ≤ 16384)
sizes-small s l r e = by (leb 4 (length s)) refl (leb 1 (length s)) refl
  where
    by : (y : Bool) → leb 4 (length s) ≡ y → (z : Bool) → leb 1 (length s) ≡ z → (l ≤ 16384) × (r ≤ 16384)
    by true p z q =
        let a : ℕ = get_or s 0 0 + 256 * get_or s 1 0 in
        let b : ℕ = get_or s 2 0 + 256 * get_or s 3 0 in
        sized-small a b l r (four_bytes s a b (sized a b) (leb-true 4 (length s) p) refl refl refl ∙ e)
    by false p true q = absurd (let f = few_bytes s (leb-true 1 (length s) q) (leb-false 4 (length s) p) in let z : ◌≡◌ {A = ℕ} 0 1 = cc in omega arith)
    by false p false q = absurd (let f = no_byte s (omega (arith, leb-false 1 (length s) q)) in let z : ◌≡◌ {A = ℕ} 0 1 = cc in omega arith)

looked-most : (n : ℕ) (s : List ℕ) → looked n s ≤ n * 32772
unfolding looked
looked-most zero s = omega arith
looked-most (suc n) s = by (lengths_of s) (drop 4 s) (λ l r e. sizes-small s l r e) (λ r. looked-most n r)
  where
    by : (x : Lengths) (t : List ℕ) → ((l r : ℕ) → x ≡ sizes l r → (l ≤ 16384) × (r ≤ 16384)) → ((r : List ℕ) → looked n r ≤ n * 32772)
        → 4 + looked_by x (looked n) t ≤ suc n * 32772
    by ended t g h = omega arith
    by (last side number) t g h = omega arith
    by (sizes l r) t g h = go (leb (l + r) (length t)) (g l r refl) (h (drop (l + r) t))
      where
        go : (b : Bool) → (l ≤ 16384) × (r ≤ 16384) → looked n (drop (l + r) t) ≤ n * 32772
            → 4 + (elim b [ true ↦ l + r + looked n (drop (l + r) t) | false ↦ l + r ]) ≤ suc n * 32772
        go true (p, q) k = omega arith
        go false (p, q) k = omega arith

pub batch_bound : BatchBound
batch_bound s = omega (arith, looked-most most_pairs s)

module _ (n : ℕ) (ih : (k : ℕ) (s : List ℕ) → looked n s ≤ k → pairs n (take k s) ≡ pairs n s) where
  cut_by : (x : Lengths) (k : ℕ) (s : List ℕ) → looked_by x (looked n) s ≤ k → pairs_by x (pairs n) (take k s) ≡ pairs_by x (pairs n) s
  cut_by ended k s h = refl
  cut_by (last side number) k s h = refl
  cut_by (sizes l r) k s h = by (leb (l + r) (length s)) refl h
    where
      by : (b : Bool) → leb (l + r) (length s) ≡ b → (elim b [ true ↦ l + r + looked n (drop (l + r) s) | false ↦ l + r ]) ≤ k
          → followed (body_of l r (take k s)) (pairs n) (drop (l + r) (take k s)) ≡ followed (body_of l r s) (pairs n) (drop (l + r) s)
      by true e h =
          let g = leb-true (l + r) (length s) e in
          let j : ℕ = k - (l + r) in
          let z : k ≡ l + r + j = omega arith in
          let d : drop (l + r) (take k s) ≡ take j (drop (l + r) s) = subst (λ (m : ℕ). drop (l + r) (take m s) ≡ take j (drop (l + r) s)) (sym z) (drop-take (l + r) j s) in
          ap (λ (p : Pair). followed p (pairs n) (drop (l + r) (take k s))) (body-cut l r k s (omega arith) g)
          ∙ ap (λ (x : List Pair). whole (take l s) (take r (drop l s)) ∷ x) (ap (pairs n) d ∙ ih j (drop (l + r) s) (omega arith))
          ∙ ap (λ (p : Pair). followed p (pairs n) (drop (l + r) s)) (sym (body-whole l r s g))
      by false e h =
          let g = leb-false (l + r) (length s) e in
          let q : take k s ≡ s = take_all k s (omega arith) in
          ap (λ (z : List ℕ). followed (body_of l r z) (pairs n) (drop (l + r) z)) q

cut : (n k : ℕ) (s : List ℕ) → looked n s ≤ k → pairs n (take k s) ≡ pairs n s
unfolding looked pairs
cut zero k s h = refl
cut (suc n) k s h =
    let j : ℕ = k - 4 in
    let z : k ≡ 4 + j = omega arith in
    let d : drop 4 (take k s) ≡ take j (drop 4 s) = subst (λ (m : ℕ). drop 4 (take m s) ≡ take j (drop 4 s)) (sym z) (drop-take 4 j s) in
    let f : lengths_of (take k s) ≡ lengths_of s = sym (lengths_four (take k s)) ∙ ap lengths_of (take-take 4 k s (omega arith)) ∙ lengths_four s in
    ap₂ (λ (x : Lengths) (t : List ℕ). pairs_by x (pairs n) t) f d ∙ cut_by n (λ k s h. cut n k s h) (lengths_of s) j (drop 4 s) (omega arith)

pub batch_cut : BatchCut
batch_cut s k h = cut most_pairs k s h

-- ---- a pair that stands whole

lengths_framed : (l r rest : List ℕ) → length l ≤ 16384 → length r ≤ 16384 → lengths_of (framed_pair l r ++ rest) ≡ sizes (length l) (length r)
unfolding lengths_of
lengths_framed l r rest h g =
    let p : length l % 256 + 256 * (length l / 256 + 256 * 0) ≡ length l = omega arith in
    let q : length r % 256 + 256 * (length r / 256 + 256 * 0) ≡ length r = omega arith in
    rw (le-leb 4 (length (framed_pair l r ++ rest)) (omega arith), p, q, le-leb (length l) 16384 h, le-leb (length r) 16384 g)

pub batch_first : BatchFirst
unfolding pairs
batch_first n l r rest h g =
    let a = length-append l r in
    let b = length-append (l ++ r) rest in
    let e : (l ++ r) ++ rest ≡ l ++ (r ++ rest) = append_assoc l r rest in
    let t : take (length l) ((l ++ r) ++ rest) ≡ l = rw e (take-append_seam l (r ++ rest)) in
    let d : drop (length l) ((l ++ r) ++ rest) ≡ r ++ rest = rw e (drop-append_seam l (r ++ rest)) in
    let u : take (length r) (drop (length l) ((l ++ r) ++ rest)) ≡ r = rw d (take-append_seam r rest) in
    let v : drop (length l + length r) ((l ++ r) ++ rest) ≡ rest = drop_at (l ++ r) rest (length l + length r) a in
    ap (λ (x : Lengths). pairs_by x (pairs n) ((l ++ r) ++ rest)) (lengths_framed l r rest h g)
    ∙ ap (λ (p : Pair). followed p (pairs n) (drop (length l + length r) ((l ++ r) ++ rest))) (body-whole (length l) (length r) ((l ++ r) ++ rest) (omega arith) ∙ ap₂ whole t u)
    ∙ ap (λ (x : List ℕ). whole l r ∷ pairs n x) v

-- ---- a pair that is broken

-- in these pairs it is the last
abbrev LastOnly : List Pair → Type 0
LastOnly ps = (earlier later : List Pair) (side : Side) (number : ℕ) → ps ≡ earlier ++ broken side number ∷ later → later ≡ []

last_of_none : LastOnly []
last_of_none [] later side number e = absurd (let z : ◌≡◌ {A = ℕ} 0 1 = cc in omega arith)
last_of_none (x ∷ xs) later side number e = absurd (let z : ◌≡◌ {A = ℕ} 0 1 = cc in omega arith)

last_of_one : (s : Side) (k : ℕ) → LastOnly (broken s k ∷ [])
last_of_one s k [] later side number e = cc
last_of_one s k (x ∷ xs) later side number e = last_of_none xs later side number cc

last_of_more : (l r : List ℕ) (ps : List Pair) → LastOnly ps → LastOnly (whole l r ∷ ps)
last_of_more l r ps h [] later side number e = absurd (let z : ◌≡◌ {A = ℕ} 0 1 = cc in omega arith)
last_of_more l r ps h (x ∷ xs) later side number e = h xs later side number cc

pub batch_last : BatchLast
batch_last = pairs_by_lem (λ n ps. LastOnly ps) (λ n. last_of_none) (λ n side number k. last_of_one side number) (λ n l r ps h. last_of_more l r ps h) most_pairs

-- ---- a reply that is no refusal

pub demand2_batch : Demand2Batch
demand2_batch s earlier later (whole l r) e h = record { one = l; other = r; is_pair = refl; told = demand2_programs all_bits l r h }
demand2_batch s earlier later (broken side number) e h = absurd (false≢true (sym h))

-- ---- the numbers of all replies

abbrev AllNumbered : List Pair → Type 0
AllNumbered ps = (earlier later : List Pair) (p : Pair) → ps ≡ earlier ++ p ∷ later → Numbered (reply_of p)

numbered_none : AllNumbered []
numbered_none [] later p e = absurd (let z : ◌≡◌ {A = ℕ} 0 1 = cc in omega arith)
numbered_none (x ∷ xs) later p e = absurd (let z : ◌≡◌ {A = ℕ} 0 1 = cc in omega arith)

numbered_more : (q : Pair) (ps : List Pair) → Numbered (reply_of q) → AllNumbered ps → AllNumbered (q ∷ ps)
numbered_more q ps k h [] later p e = let z : q ≡ p = cc in subst (λ (x : Pair). Numbered (reply_of x)) z k
numbered_more q ps k h (x ∷ xs) later p e = h xs later p cc

pub batch_numbers : BatchNumbers
batch_numbers =
    pairs_by_lem (λ n ps. AllNumbered ps) (λ n. numbered_none) (λ n side number k. numbered_more (broken side number) [] k numbered_none)
    (λ n l r ps h. numbered_more (whole l r) ps (program_numbers (λ x. all_bits) l r) h) most_pairs
