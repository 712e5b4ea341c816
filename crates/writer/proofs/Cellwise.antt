-- The bytes of records and their lengths, as the code writes them.
use mathlib.Core.Path.{◌≡◌, refl, sym, ap, ap₂, subst, ◌∙◌}
use Prim.Native.Nat.{ℕ, zero, suc, ◌+◌, ◌-◌, ◌*◌, ◌%◌, ◌≤◌, ◌<◌}
use mathlib.Core.List.{List, [], ◌∷◌, ◌++◌, append_assoc, append-nil}
use mathlib.Core.Bool.{Bool, true, false}
use native.Mathlib.Omega.{arith}
use lib.ListN.{length, get_or, set, length-set, length-append}
use lib.Seq.{sets, length-sets}
use lib.Dec.{ltb}
use borrow.Author.Tests.{eq-eqb, ne_eqb, ltb-true, ltb-false}
use borrow.Rule.Slice.PartMut.{mid_of, put_mid}
use Rattle.writer.specs.File.{little_bytes}
use Rattle.writer.specs.Records.{subscript_bytes, Sizes, record_bytes, records_bytes, Known, KnownAll}
use Rattle.writer.proofs.Frames.{sets_more, part-sets, two_long, constant-long, low_same, sets_same}
use Rattle.writer.specs.Answers.{Puts}
use Rattle.writer.proofs.Subscripts.{subscripts-long}

pub cell_is : (w : List ℕ) (code x cell n : ℕ) (out part : List ℕ) (r q : ℕ) → code < 256 → x < 16 → r ≡ code % 256 → q ≡ x % 256 → n ≡ get_or w (19 + 5 * x) 0
    → Sizes w (20 + 5 * x) (get_or w (19 + 5 * x) 0) → 2 + 2 * get_or w (19 + 5 * x) 0 ≤ length out
    → part ≡ sets (mid_of 2 (length (set (set out 0 r) 1 q) - 2) (set (set out 0 r) 1 q)) 0 (subscript_bytes w (20 + 5 * x) n cell)
    → put_mid 2 (length (set (set out 0 r) 1 q) - 2) (set (set out 0 r) 1 q) part ≡ sets out 0 (code ∷ x ∷ subscript_bytes w (20 + 5 * x) (get_or w (19 + 5 * x) 0) cell)
cell_is w code x cell n out part r q c b e f g z h p =
    let m = get_or w (19 + 5 * x) 0 in
    let bs = subscript_bytes w (20 + 5 * x) m cell in
    let k1 = length-set (set out 0 r) 1 q in
    let k2 = length-set out 0 r in
    let l = subscripts-long w (20 + 5 * x) m z.there cell in
    part-sets 2 (set (set out 0 r) 1 q) part bs (omega arith) (p ∙ ap (λ (n : ℕ). sets (mid_of 2 (length (set (set out 0 r) 1 q) - 2) (set (set out 0 r) 1 q)) 0 (subscript_bytes w (20 + 5 * x) n cell)) g)
    ∙ ap₂ (λ (a b : ℕ). sets (set (set out 0 a) 1 b) 2 bs) (low_same code r c e) (low_same x q (omega arith) f)

-- a record, by its code
module _ (w : List ℕ) (at code x : ℕ) (c : code ≡ get_or w at 0) (b : x ≡ get_or w (at + 1) 0) where
  pub record-literal : code ≡ 18 → record_bytes w at ≡ 18 ∷ little_bytes 2 x
  unfolding record_bytes
  record-literal e = rw (eq-eqb (get_or w at 0) 18 (sym c ∙ e), b)

  pub record-constant : (code ≡ 18 → ⊥) → code ≡ 19 → record_bytes w at ≡ 19 ∷ little_bytes 4 x
  unfolding record_bytes
  record-constant h e = rw (ne_eqb (get_or w at 0) 18 (λ q. h (c ∙ q)), eq-eqb (get_or w at 0) 19 (sym c ∙ e), b)

  pub record-operator : (code ≡ 18 → ⊥) → (code ≡ 19 → ⊥) → code ≡ 17 → record_bytes w at ≡ 17 ∷ x ∷ []
  unfolding record_bytes
  record-operator h k e = rw (ne_eqb (get_or w at 0) 18 (λ q. h (c ∙ q)), ne_eqb (get_or w at 0) 19 (λ q. k (c ∙ q)), eq-eqb (get_or w at 0) 17 (sym c ∙ e), b)

  pub record-cell : (cell : ℕ) → cell ≡ get_or w (at + 2) 0 → (code ≡ 18 → ⊥) → (code ≡ 19 → ⊥) → (code ≡ 17 → ⊥)
      → record_bytes w at ≡ code ∷ x ∷ subscript_bytes w (20 + 5 * x) (get_or w (19 + 5 * x) 0) cell
  unfolding record_bytes
  record-cell cell d h k l = rw (ne_eqb (get_or w at 0) 18 (λ q. h (c ∙ q)), ne_eqb (get_or w at 0) 19 (λ q. k (c ∙ q)), ne_eqb (get_or w at 0) 17 (λ q. l (c ∙ q)), d, c, b)

  -- what is known of it
  pub number-known : Known w at → (code ≡ 18 → ⊥) → (code ≡ 19 → ⊥) → x < 16
  number-known k h l = subst (λ (y : ℕ). y < 16) (sym b) (k.number (λ q. h (c ∙ q)) (λ q. l (c ∙ q)))

  pub sizes-known : Known w at → (code ≡ 18 → ⊥) → (code ≡ 19 → ⊥) → (code ≡ 17 → ⊥) → Sizes w (20 + 5 * x) (get_or w (19 + 5 * x) 0)
  sizes-known k h l m = subst (λ (y : ℕ). Sizes w (20 + 5 * y) (get_or w (19 + 5 * y) 0)) (sym b) (k.sizes (λ q. h (c ∙ q)) (λ q. l (c ∙ q)) (λ q. m (c ∙ q)))

-- what was written is the record
wrote : (w : List ℕ) (at : ℕ) (bs : List ℕ) (r : ℕ) (out out' : List ℕ) → record_bytes w at ≡ bs → r ≡ length bs → out' ≡ sets out 0 bs → (r ≡ length (record_bytes w at)) × (out' ≡ sets out 0 (record_bytes w at))
wrote w at bs r out out' e f g = (f ∙ sym (ap length e), g ∙ ap (λ (b : List ℕ). sets out 0 b) (sym e))

module _ (w : List ℕ) (at code x : ℕ) (c : code ≡ get_or w at 0) (b : x ≡ get_or w (at + 1) 0) (m : ℕ) (room : length (record_bytes w at) ≤ m) where
  pub literal-room : code ≡ 18 → 3 ≤ m
  literal-room e = let q = ap length (record-literal w at code x c b e) in let t = two_long x in omega arith

  pub constant-room : (code ≡ 18 → ⊥) → code ≡ 19 → 5 ≤ m
  constant-room h e = let q = ap length (record-constant w at code x c b h e) in let t = constant-long x in omega arith

  pub operator-room : (code ≡ 18 → ⊥) → (code ≡ 19 → ⊥) → code ≡ 17 → 2 ≤ m
  operator-room h k e = let q = ap length (record-operator w at code x c b h k e) in omega arith

  pub cell_room : (cell : ℕ) → cell ≡ get_or w (at + 2) 0 → Known w at → (code ≡ 18 → ⊥) → (code ≡ 19 → ⊥) → (code ≡ 17 → ⊥) → 2 + 2 * get_or w (19 + 5 * x) 0 ≤ m
  cell_room cell d z h k l =
      let q = ap length (record-cell w at code x c b cell d h k l) in
      let t = subscripts-long w (20 + 5 * x) (get_or w (19 + 5 * x) 0) (sizes-known w at code x c b z h k l).there cell in
      omega arith

module _ (w : List ℕ) (at code x : ℕ) (c : code ≡ get_or w at 0) (b : x ≡ get_or w (at + 1) 0) (r : ℕ) (out out' : List ℕ) where
  pub literal_wrote : code ≡ 18 → r ≡ 3 → out' ≡ sets out 0 (18 ∷ little_bytes 2 x) → (r ≡ length (record_bytes w at)) × (out' ≡ sets out 0 (record_bytes w at))
  literal_wrote e f g = wrote w at (18 ∷ little_bytes 2 x) r out out' (record-literal w at code x c b e) (let t = two_long x in omega arith) g

  pub constant_wrote : (code ≡ 18 → ⊥) → code ≡ 19 → r ≡ 5 → out' ≡ sets out 0 (19 ∷ little_bytes 4 x) → (r ≡ length (record_bytes w at)) × (out' ≡ sets out 0 (record_bytes w at))
  constant_wrote h e f g = wrote w at (19 ∷ little_bytes 4 x) r out out' (record-constant w at code x c b h e) (let t = constant-long x in omega arith) g

  pub operator_wrote : (code ≡ 18 → ⊥) → (code ≡ 19 → ⊥) → code ≡ 17 → r ≡ 2 → out' ≡ sets out 0 (17 ∷ x ∷ []) → (r ≡ length (record_bytes w at)) × (out' ≡ sets out 0 (record_bytes w at))
  operator_wrote h k e f g = wrote w at (17 ∷ x ∷ []) r out out' (record-operator w at code x c b h k e) f g

  pub cell_wrote : (cell : ℕ) → cell ≡ get_or w (at + 2) 0 → Known w at → (code ≡ 18 → ⊥) → (code ≡ 19 → ⊥) → (code ≡ 17 → ⊥) → r ≡ 2 + 2 * get_or w (19 + 5 * x) 0
      → out' ≡ sets out 0 (code ∷ x ∷ subscript_bytes w (20 + 5 * x) (get_or w (19 + 5 * x) 0) cell) → (r ≡ length (record_bytes w at)) × (out' ≡ sets out 0 (record_bytes w at))
  cell_wrote cell d z h k l f g =
      let t = subscripts-long w (20 + 5 * x) (get_or w (19 + 5 * x) 0) (sizes-known w at code x c b z h k l).there cell in
      wrote w at (code ∷ x ∷ subscript_bytes w (20 + 5 * x) (get_or w (19 + 5 * x) 0) cell) r out out' (record-cell w at code x c b cell d h k l) (omega arith) g

-- records in a row
pub first_known : (w : List ℕ) (at n : ℕ) → KnownAll w at n → 0 < n → Known w at
first_known w at n k h = let e : at + 3 * 0 ≡ at = omega arith in subst (λ (i : ℕ). Known w i) e (k 0 h)

pub known_behind : (w : List ℕ) (at n m : ℕ) → KnownAll w at n → m ≤ n → KnownAll w (at + 3 * m) (n - m)
known_behind w at n m k h i v = let q : at + 3 * (m + i) ≡ at + 3 * m + 3 * i = omega arith in subst (λ (j : ℕ). Known w j) q (k (m + i) (omega arith))

-- a known record is there, with all before it
pub known-there : (w : List ℕ) (at n : ℕ) → KnownAll w at n → 0 < n → at + 3 * n ≤ length w
known-there w at zero k h = absurd (omega arith)
known-there w at (suc n) k h = let t = (k n (omega arith)).there in omega arith

pub records-join : (w : List ℕ) (j k at : ℕ) → records_bytes w at (j + k) ≡ records_bytes w at j ++ records_bytes w (at + 3 * j) k
unfolding records_bytes
records-join w zero k at = let a : 0 + k ≡ k = omega arith in let e : at + 3 * 0 ≡ at = omega arith in rw (a, e)
records-join w (suc j) k at =
    let a : suc j + k ≡ suc (j + k) = omega arith in
    let e : at + 3 + 3 * j ≡ at + 3 * suc j = omega arith in
    rw a (ap (λ (b : List ℕ). record_bytes w at ++ b) (records-join w j k (at + 3) ∙ ap (λ (i : ℕ). records_bytes w (at + 3) j ++ records_bytes w i k) e)
    ∙ sym (append_assoc (record_bytes w at) (records_bytes w (at + 3) j) (records_bytes w (at + 3 * suc j) k)))

-- the first m of n, and the others
pub records-split : (w : List ℕ) (at n m : ℕ) → m ≤ n → records_bytes w at n ≡ records_bytes w at m ++ records_bytes w (at + 3 * m) (n - m)
records-split w at n m h = let e : n ≡ m + (n - m) = omega arith in ap (records_bytes w at) e ∙ records-join w m (n - m) at

pub records_next : (w : List ℕ) (at n : ℕ) → 0 < n → records_bytes w at n ≡ record_bytes w at ++ records_bytes w (at + 3) (n - 1)
unfolding records_bytes
records_next w at zero h = absurd (omega arith)
records_next w at (suc n) h = let e : suc n - 1 ≡ n = omega arith in ap (λ (m : ℕ). record_bytes w at ++ records_bytes w (at + 3) m) (sym e)

pub records_none : (w : List ℕ) (at n : ℕ) → n ≤ 0 → records_bytes w at n ≡ []
unfolding records_bytes
records_none w at zero h = refl
records_none w at (suc n) h = absurd (omega arith)

pub records_first : (w : List ℕ) (at r : ℕ) → records_bytes w at (1 + r) ≡ record_bytes w at ++ records_bytes w (at + 3) r
records_first w at r = let e : 1 + r - 1 ≡ r = omega arith in records_next w at (1 + r) (omega arith) ∙ ap (λ (m : ℕ). record_bytes w at ++ records_bytes w (at + 3) m) e

pub records_last : (w : List ℕ) (at k : ℕ) → records_bytes w at (k + 1) ≡ records_bytes w at k ++ record_bytes w (at + 3 * k)
records_last w at k = records-join w k 1 at ∙ ap (λ (b : List ℕ). records_bytes w at k ++ b) (one (at + 3 * k))
  where
    one : (i : ℕ) → records_bytes w i 1 ≡ record_bytes w i
    one i = unfold records_bytes in append-nil (record_bytes w i)

-- fewer records take no more room
pub records-room : (w : List ℕ) (at n m : ℕ) → m ≤ n → length (records_bytes w at m) ≤ length (records_bytes w at n)
records-room w at n m h =
    let e = ap length (records-split w at n m h) in
    let a = length-append (records_bytes w at m) (records_bytes w (at + 3 * m) (n - m)) in
    omega arith

-- An expression whose first k nodes were written, of n records.
pub record Putting (w : List ℕ) (at n : ℕ) (out₀ : List ℕ) (k to : ℕ) (out : List ℕ) : Type 0 where
  pub few : k ≤ n
  pub nodes : (i : ℕ) → 0 ≤ i → i < k → get_or w (at + 3 * i) 0 ≡ 1 → ⊥
  pub long : to ≡ length (records_bytes w at k)
  pub frame : out ≡ sets out₀ 0 (records_bytes w at k)

pub putting_start : (w : List ℕ) (at n : ℕ) (out : List ℕ) → Putting w at n out 0 0 out
unfolding records_bytes
putting_start w at n out = record { few = omega arith; nodes = λ i _ v _. omega arith; long = refl; frame = refl }

module _ (w : List ℕ) (at n : ℕ) (out₀ : List ℕ) (k to : ℕ) (out : List ℕ) (p : Putting w at n out₀ k to out) where
  pub putting_same : length out ≡ length out₀
  putting_same = ap length p.frame ∙ length-sets out₀ 0 (records_bytes w at k)

  module _ (room : length (records_bytes w at n) ≤ length out₀) (h : k < n) where
    pub putting_room : to + length (record_bytes w (at + 3 * k)) ≤ length out
    putting_room =
        let l = p.long in
        let s = putting_same in
        let e = ap length (records_last w at k) in
        let a = length-append (records_bytes w at k) (record_bytes w (at + 3 * k)) in
        let r = records-room w at n (k + 1) (omega arith) in
        omega arith

    pub putting_next : (from r : ℕ) (part : List ℕ) → from ≡ at + 3 * k → (get_or w from 0 ≡ 1 → ⊥) → r ≡ length (record_bytes w from) → part ≡ sets (mid_of to (length out - to) out) 0 (record_bytes w from)
        → Putting w at n out₀ (k + 1) (to + r) (put_mid to (length out - to) out part)
    putting_next from r part f q e g =
        let bs = record_bytes w (at + 3 * k) in
        let l = p.long in
        let i : to ≡ 0 + length (records_bytes w at k) = omega arith in
        let z = ap length (records_last w at k) in
        let a = length-append (records_bytes w at k) bs in
        let b = ap (λ (j : ℕ). length (record_bytes w j)) f in
        record {
          few = omega arith;
          nodes = λ j _ v x. by j v x (ltb j k) refl;
          long = omega arith;
          frame = part-sets to out part bs putting_room (g ∙ ap (λ (j : ℕ). sets (mid_of to (length out - to) out) 0 (record_bytes w j)) f)
              ∙ ap₂ (λ (x : List ℕ) (j : ℕ). sets x j bs) p.frame i
              ∙ sym (sets_more (records_bytes w at k) bs out₀ 0)
              ∙ ap (sets out₀ 0) (sym (records_last w at k));
        }
      where
        by : (j : ℕ) → j < k + 1 → get_or w (at + 3 * j) 0 ≡ 1 → (b : Bool) → ltb j k ≡ b → ⊥
        by j v x true y = p.nodes j (omega arith) (ltb-true j k y) x
        by j v x false y =
            let l = ltb-false j k y in
            let s : j ≡ k = omega arith in
            q (subst (λ (m : ℕ). get_or w m 0 ≡ 1) (sym f) (subst (λ (m : ℕ). get_or w (at + 3 * m) 0 ≡ 1) s x))

  -- the next record begins an update, or none is left
  pub putting_stop : (from : ℕ) → from ≡ at + 3 * k → get_or w from 0 ≡ 1 → Puts w at n 0 out₀ k to out
  putting_stop from f e =
      record { some = omega arith; few = p.few; nodes = p.nodes; next = λ _. subst (λ (m : ℕ). get_or w m 0 ≡ 1) f e; long = p.long; frame = p.frame }

  pub putting_end : n ≤ k → Puts w at n 0 out₀ k to out
  putting_end h = record { some = omega arith; few = p.few; nodes = p.nodes; next = λ v. absurd (omega arith); long = p.long; frame = p.frame }

-- a target, and the expression behind it
pub statement-room : (w : List ℕ) (at n : ℕ) → 0 < n → length (records_bytes w at n) ≡ length (record_bytes w at) + length (records_bytes w (at + 3) (n - 1))
statement-room w at n h = ap length (records_next w at n h) ∙ length-append (record_bytes w at) (records_bytes w (at + 3) (n - 1))

pub statement-puts : (w : List ℕ) (at n target r source : ℕ) (out o1 part : List ℕ) → 0 < n → length (records_bytes w at n) ≤ length out
    → target ≡ length (record_bytes w at) → o1 ≡ sets out 0 (record_bytes w at) → Puts w (at + 3) (n - 1) 0 (mid_of target (length o1 - target) o1) r source part
    → Puts w at n 1 out (1 + r) (target + source) (put_mid target (length o1 - target) o1 part)
statement-puts w at n target r source out o1 part h room et g1 p =
    let bs = record_bytes w at in
    let more = records_bytes w (at + 3) r in
    let f = p.few in
    let l = p.long in
    let first = records_first w at r in
    let z = ap length first in
    let a = length-append bs more in
    let small = records-room w at n (1 + r) (omega arith) in
    let same = sets_same out o1 bs 0 g1 in
    let i : target ≡ 0 + length bs = omega arith in
    record {
      some = omega arith;
      few = omega arith;
      nodes = λ k u v e. let j : at + 3 * k ≡ at + 3 + 3 * (k - 1) = omega arith in p.nodes (k - 1) (omega arith) (omega arith) (subst (λ (m : ℕ). get_or w m 0 ≡ 1) j e);
      next = λ v. let j : at + 3 + 3 * r ≡ at + 3 * (1 + r) = omega arith in subst (λ (m : ℕ). get_or w m 0 ≡ 1) j (p.next (omega arith));
      long = omega arith;
      frame = part-sets target o1 part more (omega arith) p.frame ∙ ap₂ (λ (x : List ℕ) (j : ℕ). sets x j more) g1 i ∙ sym (sets_more bs more out 0) ∙ ap (sets out 0) (sym first);
    }
