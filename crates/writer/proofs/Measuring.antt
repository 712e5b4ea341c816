-- Counting and measuring the records of a list.
use Rattle.std.specs.Prelude.{if◌then◌else◌}
use mathlib.Core.Path.{◌≡◌, refl, sym, ap, subst, ◌∙◌}
use Prim.Native.Nat.{ℕ, zero, suc, ◌+◌, ◌-◌, ◌*◌, ◌≤◌, ◌<◌}
use mathlib.Core.List.{List}
use mathlib.Core.Bool.{Bool, true, false, and-false}
use native.Mathlib.Omega.{arith}
use lib.ListN.{length, get_or}
use lib.Dec.{leb, eqb, ltb}
use borrow.Author.Tests.{eq-eqb, ne_eqb, le-leb, lt-leb, eqb-true, eqb-false, ltb-true, ltb-false, lt-ltb, le-ltb}
use Rattle.writer.specs.Records.{record_bytes, Known, KnownAll, sized, wide, wide_at, begins, measured}
use Rattle.writer.specs.Answers.{Ended, Counted, Measures}
use Rattle.std.specs.Prelude.{Ok, Err}
use Rattle.writer.proofs.Frames.{two_long, constant-long}
use Rattle.writer.proofs.Subscripts.{subscripts-long}
use Rattle.writer.proofs.Cellwise.{record-literal, record-constant, record-operator, record-cell, sizes-known, first_known}

-- a list has one number of records
earlier-ended : (w : List ℕ) (m n : ℕ) → Ended w 98 m → Ended w 98 n → n ≤ m
earlier-ended w m n y z = by (ltb m n) refl
  where
    by : (b : Bool) → ltb m n ≡ b → n ≤ m
    by true q = absurd (z.codes m (ltb-true m n q) y.behind)
    by false q = ltb-false m n q

same_ended : (w : List ℕ) (m n : ℕ) → Ended w 98 m → Ended w 98 n → m ≡ n
same_ended w m n y z = let a = earlier-ended w m n y z in let b = earlier-ended w n m z y in omega arith

-- the size of a record, by its code
module _ (w : List ℕ) (at code : ℕ) (c : code ≡ get_or w at 0) where
  pub literal-size : code ≡ 18 → 3 ≡ length (record_bytes w at)
  literal-size e = let q = ap length (record-literal w at code (get_or w (at + 1) 0) c refl e) in let t = two_long (get_or w (at + 1) 0) in omega arith

  pub constant-size : (code ≡ 18 → ⊥) → code ≡ 19 → 5 ≡ length (record_bytes w at)
  constant-size h e = let q = ap length (record-constant w at code (get_or w (at + 1) 0) c refl h e) in let t = constant-long (get_or w (at + 1) 0) in omega arith

  pub operator-size : (code ≡ 18 → ⊥) → (code ≡ 19 → ⊥) → code ≡ 17 → 2 ≡ length (record_bytes w at)
  operator-size h k e = let q = ap length (record-operator w at code (get_or w (at + 1) 0) c refl h k e) in omega arith

  pub cell-size : (x n : ℕ) → x ≡ get_or w (at + 1) 0 → n ≡ get_or w (19 + 5 * x) 0 → Known w at → (code ≡ 18 → ⊥) → (code ≡ 19 → ⊥) → (code ≡ 17 → ⊥) → 2 + 2 * n ≡ length (record_bytes w at)
  cell-size x n b e z h k l =
      let q = ap length (record-cell w at code x c b (get_or w (at + 2) 0) refl h k l) in
      let t = subscripts-long w (20 + 5 * x) (get_or w (19 + 5 * x) 0) (sizes-known w at code x c b z h k l).there (get_or w (at + 2) 0) in
      omega arith

  pub wide_is : (x : ℕ) → x ≡ get_or w (at + 1) 0 → code ≡ 18 → 32768 ≤ x → x < 4294934528 → true ≡ wide_at w at
  unfolding wide_at
  wide_is x b e h k = sym (rw (eq-eqb (get_or w at 0) 18 (sym c ∙ e), sym b, le-leb 32768 x h, lt-ltb x 4294934528 k))

  pub wide_high : (x : ℕ) → x ≡ get_or w (at + 1) 0 → code ≡ 18 → 4294934528 ≤ x → false ≡ wide_at w at
  unfolding wide_at
  wide_high x b e h = sym (rw (eq-eqb (get_or w at 0) 18 (sym c ∙ e), sym b, le-ltb x 4294934528 h) (and-false (leb 32768 x)))

  pub wide_low : (x : ℕ) → x ≡ get_or w (at + 1) 0 → code ≡ 18 → x < 32768 → false ≡ wide_at w at
  unfolding wide_at
  wide_low x b e h = sym (rw (eq-eqb (get_or w at 0) 18 (sym c ∙ e), sym b, lt-leb 32768 x h))

  pub wide-other : (code ≡ 18 → ⊥) → false ≡ wide_at w at
  unfolding wide_at
  wide-other h = sym (rw (ne_eqb (get_or w at 0) 18 (λ q. h (c ∙ q))))

  pub begins_is : code ≡ 1 → 1 ≡ begins w at
  unfolding begins
  begins_is e = sym (rw (eq-eqb (get_or w at 0) 1 (sym c ∙ e)))

  pub begins-not : (code ≡ 1 → ⊥) → 0 ≡ begins w at
  unfolding begins
  begins-not h = sym (rw (ne_eqb (get_or w at 0) 1 (λ q. h (c ∙ q))))

-- a record takes at most eight bytes
pub record-short : (w : List ℕ) (at : ℕ) → Known w at → length (record_bytes w at) ≤ 8
record-short w at z = by (eqb (get_or w at 0) 18) refl (eqb (get_or w at 0) 19) refl (eqb (get_or w at 0) 17) refl
  where
    by : (a : Bool) → eqb (get_or w at 0) 18 ≡ a → (b : Bool) → eqb (get_or w at 0) 19 ≡ b → (d : Bool) → eqb (get_or w at 0) 17 ≡ d → length (record_bytes w at) ≤ 8
    by true p b q d r = let e = literal-size w at (get_or w at 0) refl (eqb-true (get_or w at 0) 18 p) in omega arith
    by false p true q d r = let e = constant-size w at (get_or w at 0) refl (eqb-false (get_or w at 0) 18 p) (eqb-true (get_or w at 0) 19 q) in omega arith
    by false p false q true r = let e = operator-size w at (get_or w at 0) refl (eqb-false (get_or w at 0) 18 p) (eqb-false (get_or w at 0) 19 q) (eqb-true (get_or w at 0) 17 r) in omega arith
    by false p false q false r =
        let n18 = eqb-false (get_or w at 0) 18 p in
        let n19 = eqb-false (get_or w at 0) 19 q in
        let n17 = eqb-false (get_or w at 0) 17 r in
        let e = cell-size w at (get_or w at 0) refl (get_or w (at + 1) 0) (get_or w (19 + 5 * get_or w (at + 1) 0) 0) refl refl z n18 n19 n17 in
        let t = (z.sizes n18 n19 n17).three in
        omega arith

pub begins_one : (w : List ℕ) (at : ℕ) → begins w at ≤ 1
unfolding begins
begins_one w at = by (eqb (get_or w at 0) 1)
  where
    by : (b : Bool) → (if b then 1 else 0) ≤ 1
    by true = omega arith
    by false = omega arith

measured-step : (w : List ℕ) (at updates bytes u b : ℕ) → wide_at w at ≡ false → u ≡ begins w at → b ≡ length (record_bytes w at)
    → (m : ℕ) → 0 < m → measured w at m updates bytes ≡ measured w (at + 3) (m - 1) (updates + u) (bytes + b)
unfolding measured
measured-step w at updates bytes u b e p q zero h = absurd (omega arith)
measured-step w at updates bytes u b e p q (suc m) h = let k : suc m - 1 ≡ m = omega arith in rw (e, k, p, q)

-- measuring, as a loop does
pub record Goes (w : List ℕ) (n at left updates bytes : ℕ) : Type 0 where
  pub known : KnownAll w at left
  pub few : updates ≤ at
  pub small : bytes ≤ 3 * at
  pub same : measured w at left updates bytes ≡ measured w 98 n 0 0

pub goes_start : (w : List ℕ) (n : ℕ) → KnownAll w 98 n → Goes w n 98 n 0 0
goes_start w n k = record { known = k; few = omega arith; small = omega arith; same = refl }

module _ (w : List ℕ) (n at left updates bytes : ℕ) (g : Goes w n at left updates bytes) where
  pub goes_known : 0 < left → Known w at
  goes_known h = first_known w at left g.known h

  pub goes_wide : 0 < left → wide_at w at ≡ true → wide updates ≡ measured w 98 n 0 0
  goes_wide h e = sym (now left h) ∙ g.same
    where
      now : (m : ℕ) → 0 < m → measured w at m updates bytes ≡ wide updates
      now zero h = absurd (omega arith)
      now (suc m) h = unfold measured in rw e

  pub goes_step : (u b : ℕ) → 0 < left → wide_at w at ≡ false → u ≡ begins w at → b ≡ length (record_bytes w at) → Goes w n (at + 3) (left - 1) (updates + u) (bytes + b)
  goes_step u b h e p q =
      let f = g.few in
      let s = g.small in
      let o = begins_one w at in
      let r = record-short w at (goes_known h) in
      record {
        known = λ i v. let j : at + 3 * (i + 1) ≡ at + 3 + 3 * i = omega arith in subst (λ (k : ℕ). Known w k) j (g.known (i + 1) (omega arith));
        few = omega arith;
        small = omega arith;
        same = sym (measured-step w at updates bytes u b e p q left h) ∙ g.same;
      }

  pub goes_end : left ≤ 0 → sized bytes ≡ measured w 98 n 0 0
  goes_end h = sym (now left h) ∙ g.same
    where
      now : (m : ℕ) → m ≤ 0 → measured w at m updates bytes ≡ sized bytes
      now zero h = unfold measured in refl
      now (suc m) h = absurd (omega arith)

-- so many records are measured, of those that the list has
pub record Counting (w : List ℕ) (n at records updates bytes : ℕ) : Type 0 where
  pub place : at ≡ 98 + 3 * records
  pub most : records ≤ n
  pub goes : Goes w n at (n - records) updates bytes

pub counting_start : (w : List ℕ) (z : Counted w) → Counting w z.count 98 0 0 0
counting_start w z =
    let e : z.count ≡ z.count - 0 = omega arith in
    record { place = omega arith; most = omega arith; goes = subst (λ (m : ℕ). Goes w z.count 98 m 0 0) e (goes_start w z.count z.known) }

module _ (w : List ℕ) (z : Counted w) (at records updates bytes : ℕ) (c : Counting w z.count at records updates bytes) where
  abbrev n : ℕ
  n = z.count

  -- where the code is not 0 a record stands
  pub counting_left : (get_or w at 0 ≡ 0 → ⊥) → 0 < n - records
  counting_left h = let l = by (ltb records n) refl in omega arith
    where
      by : (b : Bool) → ltb records n ≡ b → records < n
      by true q = ltb-true records n q
      by false q =
          let k = ltb-false records n q in
          let m = c.most in
          let p = c.place in
          let e : 98 + 3 * n ≡ at = omega arith in
          absurd (h (subst (λ (i : ℕ). get_or w i 0 ≡ 0) e z.ended.behind))

  pub counting_known : (get_or w at 0 ≡ 0 → ⊥) → Known w at
  counting_known h = goes_known w n at (n - records) updates bytes c.goes (counting_left h)

  pub counting_step : (u b : ℕ) → (get_or w at 0 ≡ 0 → ⊥) → wide_at w at ≡ false → u ≡ begins w at → b ≡ length (record_bytes w at) → Counting w n (at + 3) (records + 1) (updates + u) (bytes + b)
  counting_step u b h e p q =
      let l = counting_left h in
      let f = c.place in
      let k : n - records - 1 ≡ n - (records + 1) = omega arith in
      record {
        place = omega arith;
        most = omega arith;
        goes = subst (λ (m : ℕ). Goes w n (at + 3) m (updates + u) (bytes + b)) k (goes_step w n at (n - records) updates bytes c.goes u b l e p q);
      }

  pub counting_wide : (get_or w at 0 ≡ 0 → ⊥) → wide_at w at ≡ true → Measures w (Err (record { updates = updates }))
  unfolding Measures
  counting_wide h e m y = goes_wide w n at (n - records) updates bytes c.goes (counting_left h) e ∙ ap (λ (k : ℕ). measured w 98 k 0 0) (same_ended w n m z.ended y)

  counting_all : n ≤ records → Measures w (Ok (record { records = records; bytes = bytes }))
  unfolding Measures
  counting_all h m y =
      let f = c.most in
      let s = same_ended w n m z.ended y in
      (omega arith, goes_end w n at (n - records) updates bytes c.goes (omega arith) ∙ ap (λ (k : ℕ). measured w 98 k 0 0) s)

  -- a code of 0, and the end of the slice
  pub counting_stop : get_or w at 0 ≡ 0 → Measures w (Ok (record { records = records; bytes = bytes }))
  counting_stop e = counting_all (by (ltb records n) refl)
    where
      by : (b : Bool) → ltb records n ≡ b → n ≤ records
      by true q = absurd (z.ended.codes records (ltb-true records n q) (subst (λ (i : ℕ). get_or w i 0 ≡ 0) c.place e))
      by false q = ltb-false records n q

  pub counting_end : length w ≤ at → Measures w (Ok (record { records = records; bytes = bytes }))
  counting_end h = counting_all (let t = z.ended.there in let p = c.place in omega arith)
