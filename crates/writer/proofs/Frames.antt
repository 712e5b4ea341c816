-- Runs of stores, and what a part of the output that was lent says of the whole.
use mathlib.Core.Path.{◌≡◌, refl, sym, ap, ap₂, subst, ◌∙◌}
use Prim.Native.Nat.{ℕ, suc, ◌+◌, ◌-◌, ◌/◌, ◌%◌, ◌≤◌, ◌<◌}
use mathlib.Core.List.{List, [], ◌∷◌, ◌++◌, append_assoc, append-nil}
use native.Mathlib.Omega.{arith}
use lib.ListN.{length, take, drop, set, length-set, length-drop, drop_of_length-le}
use lib.Seq.{sets, sets-eq, length-sets, set_comm, take_all, drop-drop}
use borrow.Rule.Slice.PartMut.{mid_of, post_of, put_mid}
use Rattle.writer.specs.File.{little_bytes}

pub sets_more : (vs ws l : List ℕ) (i : ℕ) → sets l i (vs ++ ws) ≡ sets (sets l i vs) (i + length vs) ws
sets_more [] ws l i = let e : i + 0 ≡ i = omega arith in ap (λ (j : ℕ). sets l j ws) (sym e)
sets_more (v ∷ vs) ws l i = let e : suc i + length vs ≡ i + suc (length vs) = omega arith in sets_more vs ws (set l i v) (suc i) ∙ ap (λ (j : ℕ). sets (sets l i (v ∷ vs)) j ws) e

-- the second run may come first
pub sets_behind : (vs ws l : List ℕ) (i : ℕ) → sets l i (vs ++ ws) ≡ sets (sets l (i + length vs) ws) i vs
sets_behind [] ws l i = let e : i ≡ i + 0 = omega arith in ap (λ (j : ℕ). sets l j ws) e
sets_behind (v ∷ vs) ws l i =
    let e : suc i + length vs ≡ i + suc (length vs) = omega arith in
    sets_behind vs ws (set l i v) (suc i)
    ∙ ap (λ (x : List ℕ). sets x (suc i) vs) (ap (λ (j : ℕ). sets (set l i v) j ws) e ∙ set-sets ws l i (i + suc (length vs)) v (omega arith))
  where
    set-sets : (ws l : List ℕ) (i j v : ℕ) → i < j → sets (set l i v) j ws ≡ set (sets l j ws) i v
    set-sets [] l i j v h = refl
    set-sets (w ∷ ws) l i j v h = ap (λ (x : List ℕ). sets x (suc j) ws) (set_comm l i j v w (λ e. omega arith)) ∙ set-sets ws (set l j w) i (suc j) v (omega arith)

pub half_is : (l : List ℕ) (x a b : ℕ) → a ≡ x % 256 → b ≡ x / 256 % 256 → set (set l 0 a) 1 b ≡ sets l 0 (little_bytes 2 x)
unfolding little_bytes
half_is l x a b e f = rw (e, f)

-- a run of stores at the front
pub front : (bs l : List ℕ) → length bs ≤ length l → sets l 0 bs ≡ bs ++ drop (length bs) l
front bs l h = let z : 0 + length bs ≡ length bs = omega arith in sets-eq bs l 0 (omega arith) ∙ ap (λ (k : ℕ). bs ++ drop k l) z

-- what was written at the front of a part that begins at a, and goes to the end, was written at a
pub part-sets : (a : ℕ) (l part bs : List ℕ) → a + length bs ≤ length l → part ≡ sets (mid_of a (length l - a) l) 0 bs → put_mid a (length l - a) l part ≡ sets l a bs
part-sets a l part bs h e =
    let d = length-drop a l in
    let mid : mid_of a (length l - a) l ≡ drop a l = take_all (length l - a) (drop a l) (omega arith) in
    let post : post_of a (length l - a) l ≡ [] = drop_of_length-le (drop a l) {i = length l - a} (omega arith) in
    let inner : part ≡ bs ++ drop (length bs) (drop a l) = e ∙ ap (λ (x : List ℕ). sets x 0 bs) mid ∙ front bs (drop a l) (omega arith) in
    ap₂ (λ (x y : List ℕ). take a l ++ (x ++ y)) inner post
    ∙ ap (λ (x : List ℕ). take a l ++ x) (append-nil (bs ++ drop (length bs) (drop a l)) ∙ ap (λ (x : List ℕ). bs ++ x) (drop-drop (length bs) a l))
    ∙ sym (append_assoc (take a l) bs (drop (a + length bs) l))
    ∙ sym (sets-eq bs l a h)

four : (x : ℕ) → little_bytes 4 x ≡ little_bytes 2 x ++ little_bytes 2 (x / 256 / 256)
unfolding little_bytes
four x = refl

pub two_long : (x : ℕ) → length (little_bytes 2 x) ≡ 2
unfolding little_bytes
two_long x = refl

pub word_is : (out out1 part : List ℕ) (x : ℕ) → 4 ≤ length out → out1 ≡ sets out 0 (little_bytes 2 x) → part ≡ sets (mid_of 2 (length out1 - 2) out1) 0 (little_bytes 2 (x / 256 / 256))
    → put_mid 2 (length out1 - 2) out1 part ≡ sets out 0 (little_bytes 4 x)
word_is out out1 part x h e f =
    let k = ap length e ∙ length-sets out 0 (little_bytes 2 x) in
    let t = two_long (x / 256 / 256) in
    part-sets 2 out1 part (little_bytes 2 (x / 256 / 256)) (omega arith) f
    ∙ ap (λ (l : List ℕ). sets l 2 (little_bytes 2 (x / 256 / 256))) e
    ∙ (sym (ap (λ (b : List ℕ). sets out 0 b) (four x) ∙ sets_more (little_bytes 2 x) (little_bytes 2 (x / 256 / 256)) out 0 ∙ ap (λ (i : ℕ). sets (sets out 0 (little_bytes 2 x)) i (little_bytes 2 (x / 256 / 256))) (two x)))
  where
    two : (x : ℕ) → 0 + length (little_bytes 2 x) ≡ 2
    two x = let t = two_long x in omega arith

pub one_then : (out part bs : List ℕ) (b : ℕ) → 1 + length bs ≤ length out → part ≡ sets (mid_of 1 (length (set out 0 b) - 1) (set out 0 b)) 0 bs
    → put_mid 1 (length (set out 0 b) - 1) (set out 0 b) part ≡ sets out 0 (b ∷ bs)
one_then out part bs b h e = let k = length-set out 0 b in part-sets 1 (set out 0 b) part bs (omega arith) e

pub constant-long : (x : ℕ) → length (little_bytes 4 x) ≡ 4
unfolding little_bytes
constant-long x = refl

pub low_same : (x r : ℕ) → x < 256 → r ≡ x % 256 → r ≡ x
low_same x r h e = omega arith

pub operator_is : (out : List ℕ) (x r : ℕ) → x < 16 → r ≡ x % 256 → set (set out 0 17) 1 r ≡ sets out 0 (17 ∷ x ∷ [])
operator_is out x r h e = let q = low_same x r (omega arith) e in ap (λ (b : ℕ). set (set out 0 17) 1 b) q

-- room in a part that goes to the end
pub part_room : (a n : ℕ) (l : List ℕ) → a + n ≤ length l → n ≤ length (mid_of a (length l - a) l)
part_room a n l h =
    let d = length-drop a l in
    let mid : mid_of a (length l - a) l ≡ drop a l = take_all (length l - a) (drop a l) (omega arith) in
    subst (λ (x : List ℕ). n ≤ length x) (sym mid) (omega arith)

pub sets_same : (out l bs : List ℕ) (i : ℕ) → l ≡ sets out i bs → length l ≡ length out
sets_same out l bs i e = ap length e ∙ length-sets out i bs
