-- Writing a line: one byte, a text, a number, an explanation, totals.
use Prim.Native.Nat.{ℕ, zero, suc, ◌+◌, ◌-◌, ◌*◌, ◌/◌, ◌%◌, ◌≤◌, ◌<◌, min}
use native.Mathlib.Omega.{arith}
use native.Mathlib.Numerals.{add-one}
use mathlib.Core.Path.{◌≡◌, refl, sym, ap₂, ◌∙◌, subst}
use mathlib.Core.List.{List, [], ◌∷◌, ◌++◌, append-nil, append_assoc}
use mathlib.Core.Bool.{Bool, true, false, false≢true}
use lib.ListN.{length, get_or, take, set, replicate, length-append}
use Rattle.std.proofs.lemmas.List.{get_or-take}
use lib.Seq.{set-append_seam, take-append_seam, take-suc}
use lib.Dec.{ltb}
use lib.IntN.{ℤ, pos, negsuc, nat_abs}
use lib.Signed.{lt_z}
use borrow.Author.Tests.{lt-ltb, le-ltb, ltb-true}
use mir.Syntax.{w16}
use mir.Val.{SFits}
use Rattle.model.specs.Reply.{equal, differs, refused, Side, left, right, both, input}
use Rattle.unroller.specs.Layout.{padded}
use Rattle.comparer.specs.Line.{codes, digits, decimal, side_text, spaced, line_of}
use Rattle.comparer.specs.Batch.{totals_line}
use Rattle.comparer.specs.Explain.{written, starting}
use Rattle.comparer.specs.ExplainLine.{signed, spaced_first, answer_line, explanation_line}
use Rattle.comparer.specs.ExplainAnswers.{answer_says, explanation_says}
use Rattle.comparer.specs.Writing.{Holds, Adds, AddsNumber, Begins}
use Rattle.comparer.specs.declared.batch.Totals.{Totals}
use Rattle.comparer.specs.declared.line.Line.{Line}
use Rattle.comparer.specs.declared.explanation.Answer.{Answer}
use Rattle.comparer.specs.declared.explanation.Explanation.{Explanation}

padded_put : (t : List ℕ) (b : ℕ) → length t < 160 → set (padded 160 t) (length t) b ≡ padded 160 (t ++ (b ∷ []))
padded_put t b h =
    let m : ℕ = 159 - length t in
    let e : 160 - length t ≡ suc m = omega arith in
    let l = length-append t (b ∷ []) in
    let f : 160 - length (t ++ (b ∷ [])) ≡ m = omega arith in
    rw (e, f, set-append_seam t 0 (replicate m 0) b) (sym (append_assoc t (b ∷ []) (replicate m 0)))

module _ (line : Line) (b : ℕ) where
  pub put_adds : (r : Line) → r.bytes ≡ set line.bytes line.len b → r.len ≡ line.len + 1 → line.len < 160 → Adds line (b ∷ []) r
  unfolding Adds
  put_adds r p q l t h k =
      let e = length-append t (b ∷ []) in
      let n = h.len in
      record {
        bytes = p ∙ rw (h.bytes, n) (padded_put t b (omega arith));
        len = omega arith;
        room = omega arith;
      }

  pub put_full : 160 ≤ line.len → Adds line (b ∷ []) line
  unfolding Adds
  put_full l t h k = let n = h.len in absurd (omega arith)

pub adds_none : (line : Line) → Adds line [] line
unfolding Adds
adds_none line t h k = rw append-nil h

pub adds_more : (line mid r : Line) (xs ys : List ℕ) → Adds line xs mid → Adds mid ys r → Adds line (xs ++ ys) r
unfolding Adds
adds_more line mid r xs ys a b t h k =
    let e = length-append xs ys in
    let f = length-append t xs in
    rw append_assoc at (b (t ++ xs) (a t h (omega arith)) (omega arith))

module _ (line : Line) (s : List ℕ) where
  pub text_more : (mid r : Line) (i : ℕ) → i < length s → Adds line (take i s) mid → Adds mid (get_or s i 0 ∷ []) r → Adds line (take (i + 1) s) r
  text_more mid r i h a b = rw (add-one, take-suc s i 0 h) (adds_more line mid r (take i s) (get_or s i 0 ∷ []) a b)

-- one digit
pub number_last : (line r : Line) (n b : ℕ) → n < 10 → Adds line (b ∷ []) r → b ≡ 48 + n → AddsNumber line n r
unfolding AddsNumber
number_last line r n b h a e k l = rw (digits, lt-ltb n 10 h, sym e) a

-- all digits but the last, then the last
pub number_more : (line mid r : Line) (n b : ℕ) → 10 ≤ n → AddsNumber line (n / 10) mid → Adds mid (b ∷ []) r → b ≡ 48 + n % 10 → AddsNumber line n r
unfolding AddsNumber
number_more line mid r n d h a b e zero l = absurd (omega arith)
number_more line mid r n d h a b e (suc k) l = rw (digits, le-ltb n 10 h, sym e) (adds_more line mid r (digits (suc k) (n / 10)) (d ∷ []) (a k (omega arith)) b)

pub spaced_adds : (line mid r : Line) (n : ℕ) → n < 18446744073709551616 → Adds line (0x20 ∷ []) mid → AddsNumber mid n r → Adds line (spaced (decimal n)) r
unfolding AddsNumber
spaced_adds line mid r n h a b = adds_more line mid r (0x20 ∷ []) (decimal n) a (b 19 (omega arith))

pub number_as : (line r : Line) (m n : ℕ) → AddsNumber line m r → m ≡ n → AddsNumber line n r
number_as line r m n a e = subst (λ (k : ℕ). AddsNumber line k r) e a

-- ---- a number of 16 signed bits
module _ (line blank : Line) (z : ℤ) (fits : SFits w16 z) (n : ℕ) (size : n ≡ nat_abs z) (a : Adds line (0x20 ∷ []) blank) where
  pub signed_below : (dash r : Line) → lt_z z (pos 0) ≡ true → Adds blank (0x2D ∷ []) dash → AddsNumber dash n r → Adds line (spaced (signed z)) r
  unfolding AddsNumber
  signed_below dash r s b d = go z fits size s
    where
      go : (z : ℤ) → SFits w16 z → n ≡ nat_abs z → lt_z z (pos 0) ≡ true → Adds line (spaced (signed z)) r
      go (pos m) f e s = absurd (omega (arith, ltb-true m 0 s))
      go (negsuc m) f e s =
          let h = f.sfits in
          adds_more line blank r (0x20 ∷ []) (0x2D ∷ digits 5 (suc m)) a
          (adds_more blank dash r (0x2D ∷ []) (digits 5 (suc m)) b (subst (λ (k : ℕ). Adds dash (digits 5 k) r) e (d 4 (omega arith))))

  pub signed_from : (r : Line) → lt_z z (pos 0) ≡ false → AddsNumber blank n r → Adds line (spaced (signed z)) r
  unfolding AddsNumber
  signed_from r s d = go z fits size s
    where
      go : (z : ℤ) → SFits w16 z → n ≡ nat_abs z → lt_z z (pos 0) ≡ false → Adds line (spaced (signed z)) r
      go (pos m) f e s =
          let h = f.sfits in
          adds_more line blank r (0x20 ∷ []) (digits 5 m) a (subst (λ (k : ℕ). Adds blank (digits 5 k) r) e (d 4 (omega arith)))
      go (negsuc m) f e s = absurd (false≢true (sym s))

-- one more of the index values
pub indices_more : (line mid r : Line) (is : List ℤ) (k : ℕ) → Adds line (spaced_first k is) mid → Adds mid (spaced (signed (get_or is k (pos 0)))) r → Adds line (spaced_first (k + 1) is) r
indices_more line mid r is k a b =
    subst (λ (n : ℕ). Adds line (spaced_first n is) r) (sym (add-one k)) (adds_more line mid r (spaced_first k is) (spaced (signed (get_or is k (pos 0)))) a b)

-- the parts of a line
digits-length : (k n : ℕ) → length (digits k n) ≤ k
digits-length zero n = omega arith
digits-length (suc k) n = by (ltb n 10) refl (digits-length k (n / 10))
  where
    by : (b : Bool) → ltb n 10 ≡ b → length (digits k (n / 10)) ≤ k → length (digits (suc k) n) ≤ suc k
    by true e m = rw (digits, e) (omega arith)
    by false e m =
        let l = length-append (digits k (n / 10)) ((48 + n % 10) ∷ []) in
        rw (digits, e) (omega arith)

side-length : (s : Side) → length (side_text s) ≤ 5
side-length left = omega arith
side-length right = omega arith
side-length both = omega arith
side-length input = omega arith

signed-length : (z : ℤ) → length (signed z) ≤ 6
signed-length (pos n) = let h = digits-length 5 n in omega arith
signed-length (negsuc n) = let h = digits-length 5 (suc n) in omega arith

indices-length : (n : ℕ) (is : List ℤ) → length (spaced_first n is) ≤ 7 * n
indices-length zero is = omega arith
indices-length (suc n) is =
    let h = indices-length n is in
    let k = signed-length (get_or is n (pos 0)) in
    let e = length-append (spaced_first n is) (spaced (signed (get_or is n (pos 0)))) in
    omega arith

first-taken : (n m : ℕ) (is : List ℤ) → n ≤ m → spaced_first n (take m is) ≡ spaced_first n is
first-taken zero m is h = refl
first-taken (suc n) m is h = ap₂ (λ (l : List ℕ) (z : ℤ). l ++ spaced (signed z)) (first-taken n m is (omega arith)) (get_or-take m is n (pos 0) (omega arith))

-- the values that count, as a slice
pub values_counted : (n : ℕ) (is values : List ℤ) → values ≡ take n is → length values ≡ n → spaced_first (length values) values ≡ spaced_first n is
values_counted n is values e l = ap₂ spaced_first l e ∙ first-taken n n is (omega arith)

pub few-indices : (count : ℕ) (is : List ℤ) → length (spaced_first (min count 8) is) ≤ 56
few-indices count is = let h = indices-length (min count 8) is in omega arith

abbrev lastly : List ℕ → List ℕ
lastly text = text ++ (0x0A ∷ [])

begins : (empty r : Line) (text whole : List ℕ) → Holds empty [] → Adds empty text r → length text < 160 → lastly text ≡ whole → Begins r whole
unfolding Adds Begins
begins empty r text whole h a l e = (text, a [] h (omega arith), l, e)

module _ (empty : Line) (none : Holds empty []) where
  pub equal-begins : (x r : Line) (n : ℕ) → Adds empty (codes "equal") x → Adds x (spaced (decimal n)) r → Begins r (line_of (equal n))
  unfolding line_of
  equal-begins x r n a b =
      let l = digits-length 20 n in
      begins empty r (codes "equal" ++ spaced (decimal n)) _ none (adds_more empty x r (codes "equal") (spaced (decimal n)) a b) (omega arith) refl

  pub differs-begins : (x y r : Line) (n m : ℕ) → Adds empty (codes "differs") x → Adds x (spaced (decimal n)) y → Adds y (spaced (decimal m)) r → Begins r (line_of (differs n m))
  unfolding line_of
  differs-begins x y r n m a b d =
      let l = digits-length 20 n in
      let k = digits-length 20 m in
      let e = length-append (decimal n) (spaced (decimal m)) in
      begins empty r (codes "differs" ++ (spaced (decimal n) ++ spaced (decimal m))) _ none
      (adds_more empty x r (codes "differs") (spaced (decimal n) ++ spaced (decimal m)) a (adds_more x y r (spaced (decimal n)) (spaced (decimal m)) b d))
      (omega arith) (simp append_assoc)

  pub refused-begins : (x y z r : Line) (s : Side) (n m : ℕ) → Adds empty (codes "refused") x → Adds x (spaced (side_text s)) y → Adds y (spaced (decimal n)) z → Adds z (spaced (decimal m)) r
      → Begins r (line_of (refused s n m))
  unfolding line_of
  refused-begins x y z r s n m a b d f =
      let l = digits-length 20 n in
      let k = digits-length 20 m in
      let j = side-length s in
      let e = length-append (decimal n) (spaced (decimal m)) in
      let g = length-append (side_text s) (spaced (decimal n) ++ spaced (decimal m)) in
      begins empty r (codes "refused" ++ (spaced (side_text s) ++ (spaced (decimal n) ++ spaced (decimal m)))) _ none
      (adds_more empty x r (codes "refused") (spaced (side_text s) ++ (spaced (decimal n) ++ spaced (decimal m))) a
      (adds_more x y r (spaced (side_text s)) (spaced (decimal n) ++ spaced (decimal m)) b (adds_more y z r (spaced (decimal n)) (spaced (decimal m)) d f)))
      (omega arith) (simp append_assoc)

  pub starting-begins : (x y r : Line) (n m : ℕ) → Adds empty (codes "starting") x → Adds x (spaced (decimal n)) y → Adds y (spaced (decimal m)) r → Begins r (answer_line (starting n m) [])
  starting-begins x y r n m a b d =
      let l = digits-length 20 n in
      let k = digits-length 20 m in
      let e = length-append (decimal n) (spaced (decimal m)) in
      begins empty r (codes "starting" ++ (spaced (decimal n) ++ spaced (decimal m))) _ none
      (adds_more empty x r (codes "starting") (spaced (decimal n) ++ spaced (decimal m)) a (adds_more x y r (spaced (decimal n)) (spaced (decimal m)) b d))
      (omega arith) (simp append_assoc)

  written-text : (n m : ℕ) (more : List ℕ) → lastly (codes "written" ++ (spaced (decimal n) ++ (spaced (decimal m) ++ more))) ≡ answer_line (written n m) more
  written-text n m more = simp append_assoc

  -- the stretch and the index values behind the element
  module _ (n m from to : ℕ) (values : List ℕ) (few : length values ≤ 56) where
    tail-length : length (spaced (decimal from) ++ spaced (decimal to) ++ values) ≤ 98
    tail-length =
        let l = digits-length 20 from in
        let k = digits-length 20 to in
        let e = length-append (spaced (decimal from) ++ spaced (decimal to)) values in
        let f = length-append (spaced (decimal from)) (spaced (decimal to)) in
        omega arith

    pub written-begins : (x y z u v r : Line) → Adds empty (codes "written") x → Adds x (spaced (decimal n)) y → Adds y (spaced (decimal m)) z → Adds z (spaced (decimal from)) u
        → Adds u (spaced (decimal to)) v → Adds v values r → Begins r (answer_line (written n m) (spaced (decimal from) ++ spaced (decimal to) ++ values))
    written-begins x y z u v r a b d f g h =
        let more = spaced (decimal from) ++ spaced (decimal to) ++ values in
        let l = digits-length 20 n in
        let k = digits-length 20 m in
        let j = tail-length in
        let e = length-append (spaced (decimal n)) (spaced (decimal m) ++ more) in
        let i = length-append (spaced (decimal m)) more in
        begins empty r (codes "written" ++ (spaced (decimal n) ++ (spaced (decimal m) ++ more))) _ none
        (adds_more empty x r (codes "written") (spaced (decimal n) ++ (spaced (decimal m) ++ more)) a
        (adds_more x y r (spaced (decimal n)) (spaced (decimal m) ++ more) b
        (adds_more y z r (spaced (decimal m)) more d
        (adds_more z v r (spaced (decimal from) ++ spaced (decimal to)) values (adds_more z u v (spaced (decimal from)) (spaced (decimal to)) f g) h))))
        (omega arith) (written-text n m more)

-- a word and a number, and behind them more
abbrev labelled : List ℕ → ℕ → List ℕ
labelled word n = word ++ spaced (decimal n)

labelled-length : (word : List ℕ) (n k : ℕ) (more : List ℕ) → length more ≤ k → length (labelled word n ++ more) ≤ length word + (21 + k)
labelled-length word n k more h =
    let a = digits-length 20 n in
    let b = length-append word (spaced (decimal n)) in
    let d = length-append (labelled word n) more in
    omega arith

-- the brackets of the text as it is written, and as it is defined
ten_parts : (a b c d e f g h i j z : List ℕ)
    → ((a ++ b) ++ ((c ++ d) ++ ((e ++ f) ++ ((g ++ h) ++ (i ++ j))))) ++ z ≡ a ++ b ++ c ++ d ++ e ++ f ++ g ++ h ++ i ++ j ++ z
ten_parts a b c d e f g h i j z = simp append_assoc

-- the line of the totals
module _ (t : Totals) where
  abbrev p5 : List ℕ
  p5 = labelled (codes " elements") t.elements

  abbrev p4 : List ℕ
  p4 = labelled (codes " refused") t.refused ++ p5

  abbrev p3 : List ℕ
  p3 = labelled (codes " differs") t.differs ++ p4

  abbrev p2 : List ℕ
  p2 = labelled (codes " equal") t.equal ++ p3

  pub totals_begin : (empty x y z w r : Line) → Holds empty [] → Adds empty (labelled (codes "pairs") t.pairs) x → Adds x (labelled (codes " equal") t.equal) y
      → Adds y (labelled (codes " differs") t.differs) z → Adds z (labelled (codes " refused") t.refused) w → Adds w p5 r → Begins r (totals_line t)
  unfolding totals_line
  totals_begin empty x y z w r none a b d e f =
      begins empty r (labelled (codes "pairs") t.pairs ++ p2) _ none
      (adds_more empty x r (labelled (codes "pairs") t.pairs) p2 a (adds_more x y r (labelled (codes " equal") t.equal) p3 b
      (adds_more y z r (labelled (codes " differs") t.differs) p4 d (adds_more z w r (labelled (codes " refused") t.refused) p5 e f))))
      short
      (ten_parts (codes "pairs") (spaced (decimal t.pairs)) (codes " equal") (spaced (decimal t.equal)) (codes " differs") (spaced (decimal t.differs))
      (codes " refused") (spaced (decimal t.refused)) (codes " elements") (spaced (decimal t.elements)) (0x0A ∷ []))
    where
      short : length (labelled (codes "pairs") t.pairs ++ p2) < 160
      short =
          let a5 = digits-length 20 t.elements in
          let b5 = length-append (codes " elements") (spaced (decimal t.elements)) in
          let a4 = labelled-length (codes " refused") t.refused 30 p5 (omega arith) in
          let a3 = labelled-length (codes " differs") t.differs 59 p4 (omega arith) in
          let a2 = labelled-length (codes " equal") t.equal 88 p3 (omega arith) in
          let a1 = labelled-length (codes "pairs") t.pairs 115 p2 (omega arith) in
          omega arith

pub line-ends : (x r : Line) (whole : List ℕ) → Begins x whole → Adds x (0x0A ∷ []) r → Holds r whole
unfolding Begins Adds
line-ends x r whole (text, h, l, e) a = rw e at (a text h (omega arith))

-- the text is what stands before the line's length
pub line-text : (line : Line) (text : List ℕ) → Holds line text → take line.len line.bytes ≡ text
line-text line text h = rw (h.bytes, h.len) (take-append_seam text (replicate (160 - length text) 0))

-- the words of an explanation, by its answer
pub words_of : (x : Explanation) (y : Answer) → x.answer ≡ y → (r : Line)
    → Begins r (answer_line (answer_says y) (spaced (decimal x.from) ++ spaced (decimal x.to) ++ spaced_first (min x.count 8) x.indices)) → Begins r (explanation_line (explanation_says x))
unfolding explanation_line
words_of x y e r h = subst (λ (y : Answer). Begins r (answer_line (answer_says y) (spaced (decimal x.from) ++ spaced (decimal x.to) ++ spaced_first (min x.count 8) x.indices))) (sym e) h
