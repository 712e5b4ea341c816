-- What an explanation says: the claims about it, and known pairs explained.
use Rattle.std.specs.Prelude.{if◌then◌else◌}
use Prim.Native.Nat.{ℕ, ◌≤◌}
use mathlib.Core.Path.{◌≡◌, refl, sym, ap, ◌∙◌, subst}
use mathlib.Core.Logic.{inl, inr}
use mathlib.Core.List.{List, [], ◌∷◌, ◌++◌}
use mathlib.Core.Bool.{Bool, true, false, ◌&&◌, true≢false, or-true}
use mathlib.Core.Option.{Option, none, some}
use native.Mathlib.Omega.{arith}
use lib.ListN.{length, take, drop, length-drop}
use lib.Seq.{take_all}
use lib.Dec.{leb}
use lib.IntN.{pos}
use borrow.Author.Tests.{le-leb, leb-true}
use denote.Ref.{Bor}
use Rattle.model.specs.Update.{Update, Listed, writes, written}
use Rattle.model.specs.Reply.{Side, left, both, input, Reply, equal, differs, refused, is_refused}
use Rattle.reader.specs.Field.{little_endian}
use Rattle.reader.proofs.Lists.{take-padded}
use Rattle.reader.proofs.Numbers.{by_order}
use Rattle.unroller.specs.Run.{Ran, ok, stop}
use Rattle.unroller.specs.Executed.{Origin, origin_of}
use Rattle.unroller.specs.Traced.{stretch_of}
use Rattle.unroller.proofs.Executed.{traces, written_at, never-written}
use Rattle.comparer.specs.Entry.{entry_reply, programs_by, programs_reply, out_mask, left_in, right_in, input_by}
use Rattle.comparer.specs.Explain as Explain
use Rattle.comparer.specs.Explain.{Chosen, right_side, chosen, Answer, Explanation, plain, explained, by_reply, explanation, input_explanation_by}
use Rattle.comparer.specs.Claims.{TracedUpdates, WrittenIs, WrittenExplained, StartingIs, StartingExplained, UnwrittenExplained, RefusedExplained, InputExplained, MaskedExplained, ExplainedCut}
use Rattle.comparer.specs.ExplainAnswers.{chosen_says, chosen_of, answer_says, explanation_says, inside, Part, IsPart}
use Rattle.comparer.specs.Carried.{WrittenAnswered, OtherAnswered}
use Rattle.comparer.specs.declared.explanation.Chosen as code
use Rattle.comparer.specs.declared.explanation.Chosen.TheVariants as side
use Rattle.comparer.specs.declared.explanation.Answer as given
use Rattle.comparer.specs.declared.explanation.Answer.TheVariants as answer
use Rattle.comparer.specs.declared.explanation.Explanation.{Explanation as Given}
use Rattle.comparer.proofs.Input.{too_long, cut_by, unrefused}
use Rattle.comparer.proofs.Plain.{plain_masked}
use Rattle.comparer.proofs.Explains.{differs-unrolls}

pub traced-updates : TracedUpdates
traced-updates s l u = traces s l u

-- ---- by the comparison's reply
module _ (long : Bool) (mask : ℕ) (side : Chosen) (l r : List ℕ) where
  abbrev it : Explanation
  it = explanation long mask side l r

  -- 25, 27, an element that differs, or a refusal of the comparison
  explained_by : {P : Type 0} → ((s : Side) (k p : ℕ) → it ≡ plain (Explain.refused s k p) → entry_reply long (programs_reply mask l r) ≡ refused s k p → P)
      → ((n : ℕ) → it ≡ plain (Explain.refused both 27 0) → entry_reply long (programs_reply mask l r) ≡ equal n → P)
      → ((a e : ℕ) → it ≡ explained a e (origin_of (chosen side l r) a e) → programs_reply mask l r ≡ differs a e → P) → P
  unfolding explanation
  explained_by {P} f g h = go (programs_reply mask l r) refl long refl
    where
      go : (m : Reply) → programs_reply mask l r ≡ m → (b : Bool) → long ≡ b → P
      go m q false w = f both 25 0 (rw w refl) (rw w refl)
      go (equal n) q true w = g n (rw (w, q) refl) (rw (w, q) refl)
      go (differs a e) q true w = h a e (rw (w, q) refl) q
      go (refused s k p) q true w = f s k p (rw (w, q) refl) (rw (w, q) refl)

-- ---- the claims
pub written-explained : WrittenExplained
written-explained long mask side l r a e h =
    explained_by long mask side l r
    (λ s k p x _. absurd (let y : Explain.refused s k p ≡ Explain.written a e = sym (ap (λ (x : Explanation). x.answer) x) ∙ h in let z : ◌≡◌ {A = ℕ} 0 1 = cc in omega arith))
    (λ n x _. absurd (let y : Explain.refused both 27 0 ≡ Explain.written a e = sym (ap (λ (x : Explanation). x.answer) x) ∙ h in let z : ◌≡◌ {A = ℕ} 0 1 = cc in omega arith))
    λ b c x q. go b c (origin_of (chosen side l r) b c) refl x q
  where
    go : (b c : ℕ) (o : Option Origin) → origin_of (chosen side l r) b c ≡ o → explanation long mask side l r ≡ explained b c o → programs_reply mask l r ≡ differs b c
        → WrittenIs mask side l r a e (explanation long mask side l r)
    go b c none i x q = absurd (let y : Explain.starting b c ≡ Explain.written a e = sym (ap (λ (x : Explanation). x.answer) x) ∙ h in let z : ◌≡◌ {A = ℕ} 0 1 = cc in omega arith)
    go b c (some o) i x q =
        let y : Explain.written b c ≡ Explain.written a e = sym (ap (λ (x : Explanation). x.answer) x) ∙ h in
        let f : b ≡ a = cc in
        let g : c ≡ e = cc in
        let u = differs-unrolls (λ x. mask) side l r b c q in
        subst (λ (a : ℕ). WrittenIs mask side l r a e (explanation long mask side l r)) f
        (subst (λ (e : ℕ). WrittenIs mask side l r b e (explanation long mask side l r)) g
        (record { differ = q; list = u.0; unrolls = u.1; origin = o; handed = x; holds = written_at (chosen side l r) u.0 u.1 b c o i }))

pub starting-explained : StartingExplained
starting-explained long mask side l r a e h =
    explained_by long mask side l r
    (λ s k p x _. absurd (let y : Explain.refused s k p ≡ Explain.starting a e = sym (ap (λ (x : Explanation). x.answer) x) ∙ h in let z : ◌≡◌ {A = ℕ} 0 1 = cc in omega arith))
    (λ n x _. absurd (let y : Explain.refused both 27 0 ≡ Explain.starting a e = sym (ap (λ (x : Explanation). x.answer) x) ∙ h in let z : ◌≡◌ {A = ℕ} 0 1 = cc in omega arith))
    λ b c x q. go b c (origin_of (chosen side l r) b c) refl x q
  where
    go : (b c : ℕ) (o : Option Origin) → origin_of (chosen side l r) b c ≡ o → explanation long mask side l r ≡ explained b c o → programs_reply mask l r ≡ differs b c
        → StartingIs mask side l r a e (explanation long mask side l r)
    go b c (some o) i x q = absurd (let y : Explain.written b c ≡ Explain.starting a e = sym (ap (λ (x : Explanation). x.answer) x) ∙ h in let z : ◌≡◌ {A = ℕ} 0 1 = cc in omega arith)
    go b c none i x q =
        let y : Explain.starting b c ≡ Explain.starting a e = sym (ap (λ (x : Explanation). x.answer) x) ∙ h in
        let f : b ≡ a = cc in
        let g : c ≡ e = cc in
        let u = differs-unrolls (λ x. mask) side l r b c q in
        subst (λ (a : ℕ). StartingIs mask side l r a e (explanation long mask side l r)) f
        (subst (λ (e : ℕ). StartingIs mask side l r b e (explanation long mask side l r)) g
        (record { differ = q; list = u.0; unrolls = u.1; never = never-written (chosen side l r) u.0 u.1 b c i; handed = x }))

written-here : (xs : List Update) (u : Update) (ys : List Update) (a e : ℕ) → writes u a e ≡ true → written (xs ++ u ∷ ys) a e ≡ true
written-here [] u ys a e w = rw w
written-here (x ∷ xs) u ys a e w = rw (written-here xs u ys a e w) (or-true (writes x a e))

pub unwritten-explained : UnwrittenExplained
unfolding explanation
unwritten-explained mask side l r a e list d u never = go (origin_of (chosen side l r) a e) refl
  where
    go : (o : Option Origin) → origin_of (chosen side l r) a e ≡ o → by_reply (origin_of (chosen side l r)) (entry_reply true (programs_reply mask l r)) ≡ plain (Explain.starting a e)
    go none i = rw (d, i)
    go (some o) i =
        let w = (written_at (chosen side l r) list u a e o i).last in
        absurd (true≢false (sym (written-here w.earlier w.update w.later a e w.writes_it) ∙ sym (ap (λ (us : List Update). written us a e) w.made) ∙ never))

pub refused-explained : RefusedExplained
refused-explained long mask side l r s k p h =
    explained_by long mask side l r
    (λ t j o x q.
    let y : Explain.refused t j o ≡ Explain.refused s k p = sym (ap (λ (x : Explanation). x.answer) x) ∙ h in
    let f : refused t j o ≡ refused s k p = same_refusal t s j k o p y in
    (x ∙ ap plain y, inl (q ∙ f)))
    (λ n x q.
    let y : Explain.refused both 27 0 ≡ Explain.refused s k p = sym (ap (λ (x : Explanation). x.answer) x) ∙ h in
    let f : s ≡ both = cc in
    let g : k ≡ 27 = cc in
    let i : p ≡ 0 = cc in
    (x ∙ ap plain y, inr (n, q, f, g, i)))
    λ b c x q. absurd (go b c (origin_of (chosen side l r) b c) (sym (ap (λ (x : Explanation). x.answer) x) ∙ h))
  where
    same_refusal : (t s : Side) (j k o p : ℕ) → Explain.refused t j o ≡ Explain.refused s k p → ◌≡◌ {A = Reply} (refused t j o) (refused s k p)
    same_refusal t s j k o p y =
        let f : t ≡ s = cc in
        let g : j ≡ k = cc in
        let h : o ≡ p = cc in
        λ i. refused (f i) (g i) (h i)

    go : (b c : ℕ) (o : Option Origin) → (explained b c o).answer ≡ Explain.refused s k p → ⊥
    go b c none y = absurd (let z : ◌≡◌ {A = ℕ} 0 1 = cc in omega arith)
    go b c (some o) y = absurd (let z : ◌≡◌ {A = ℕ} 0 1 = cc in omega arith)

-- ---- framed input
input_by_lem : (mask : Listed → ℕ) (n : ℕ) (long : Bool) (side : Chosen) (s : List ℕ) → is_refused (input_by mask s) ≡ false → programs_by mask (left_in s) (right_in s) ≡ programs_reply n (left_in s) (right_in s)
    → input_explanation_by mask long side s ≡ explanation long n side (left_in s) (right_in s)
unfolding input_explanation_by explanation
input_by_lem mask n long side s h e = ap (λ (m : Reply). by_reply (origin_of (chosen side (left_in s) (right_in s))) (entry_reply long m)) (unrefused mask s h ∙ e)

pub input-explained : InputExplained
input-explained long side s l u h = input_by_lem out_mask (out_mask l) long side s h (plain_masked (left_in s) (right_in s) l u)

pub masked_explained : MaskedExplained
masked_explained long mask side s h = input_by_lem (λ x. mask) mask long side s h refl

-- an input with a difference holds no more bytes than both programs may have
differs-short : (mask : Listed → ℕ) (s : List ℕ) (a e : ℕ) → input_by mask s ≡ differs a e → length s ≤ 32771
unfolding input_by
differs-short mask s a e h = go (leb 2 (length s)) (leb (little_endian 2 s 0) 16384) refl (leb (little_endian 2 s 0) (length (drop 2 s))) h
  where
    right_short : little_endian 2 s 0 ≤ 16384 → programs_by mask (left_in s) (right_in s) ≡ differs a e → length s ≤ 32771
    right_short k q =
        let n = length-drop 2 s in
        let m = length-drop (little_endian 2 s 0) (drop 2 s) in
        by_order (length (right_in s)) 16384 (λ w. omega arith) λ w.
        let u = differs-unrolls mask right_side (left_in s) (right_in s) a e q in
        let x : ◌≡◌ {A = Ran Listed} (stop 2 0) (ok u.0) = sym (too_long (right_in s) w) ∙ u.1 in
        absurd (let z : ◌≡◌ {A = ℕ} 0 1 = cc in omega arith)

    go : (b c : Bool) → leb (little_endian 2 s 0) 16384 ≡ c → (d : Bool)
        → (if b then (if c then (if d then programs_by mask (left_in s) (right_in s) else refused input 1 0) else refused left 2 0) else refused input 1 0) ≡ differs a e → length s ≤ 32771
    go true true w true q = right_short (leb-true (little_endian 2 s 0) 16384 w) q
    go true true w false q = absurd (let z : ◌≡◌ {A = ℕ} 0 1 = cc in omega arith)
    go true false w d q = absurd (let z : ◌≡◌ {A = ℕ} 0 1 = cc in omega arith)
    go false c w d q = absurd (let z : ◌≡◌ {A = ℕ} 0 1 = cc in omega arith)

cut-explained : (mask : Listed → ℕ) (long : Bool) (side : Chosen) (s : List ℕ) → input_explanation_by mask long side (take 32771 s) ≡ input_explanation_by mask long side s
unfolding input_explanation_by
cut-explained mask long side s =
    ap (λ (m : Reply). by_reply (origin_of (chosen side (left_in (take 32771 s)) (right_in (take 32771 s)))) (entry_reply long m)) (cut_by mask s) ∙ go long (input_by mask s) refl
  where
    go : (b : Bool) (m : Reply) → input_by mask s ≡ m
        → by_reply (origin_of (chosen side (left_in (take 32771 s)) (right_in (take 32771 s)))) (entry_reply b m) ≡ by_reply (origin_of (chosen side (left_in s) (right_in s))) (entry_reply b m)
    go false m h = refl
    go true (equal n) h = refl
    go true (refused t k p) h = refl
    go true (differs a e) h = ap (λ (s : List ℕ). explained a e (origin_of (chosen side (left_in s) (right_in s)) a e)) (take_all 32771 s (differs-short mask s a e h))

pub explained-cut : ExplainedCut
explained-cut long side s = (cut-explained out_mask long side s, λ mask. cut-explained (λ x. mask) long side s)

-- ---- carried to what the code answers
now_chosen : (x : code.Chosen) (one other : Bor (List ℕ)) → (chosen_of x one other).now ≡ chosen_of x one.now other.now
now_chosen side.Left one other = refl
now_chosen side.Right one other = refl

pub written-answered : WrittenAnswered
written-answered long mask x one other r p a e says part h =
    let w = written-explained long mask (chosen_says x) one.now other.now a e (sym (ap (λ (y : Explanation). y.answer) says) ∙ ap answer_says h) in
    let o = w.origin in
    let q : explanation_says r ≡ explained a e (some o) = says ∙ w.handed in
    let s = chosen_of x one other in
    let from : r.from ≡ o.from = ap (λ (y : Explanation). y.from) q in
    let to : r.to ≡ o.to = ap (λ (y : Explanation). y.to) q in
    let count : r.count ≡ length o.values = ap (λ (y : Explanation). y.count) q in
    let n = ap length (now_chosen x one other) in
    let lo = w.holds.stretch.some_bytes in
    let hi = w.holds.stretch.in_bytes in
    let b : inside s.now o.from o.to ≡ true = ap (λ (b : Bool). b && leb o.to (length s.now)) (le-leb o.from o.to (omega arith)) ∙ le-leb o.to (length s.now) (omega arith) in
    let k = subst (λ (b : Bool). Part s (if b then o.from else 0) (if b then o.to else 0) p) b (subst (λ (m : ℕ). IsPart s o.from m p) to (subst (λ (m : ℕ). IsPart s m r.to p) from part)) in
    record {
      origin = o;
      list = w.list;
      differ = w.differ;
      holds = w.holds;
      counted = count;
      indices = ap (λ (m : ℕ). take m r.indices) count ∙ ap (λ (y : Explanation). take (length o.values) y.indices) q ∙ take-padded 8 (pos 0) o.values (length o.values) refl;
      part = k;
      bytes = k.bytes ∙ ap (λ (s : List ℕ). stretch_of s o) (now_chosen x one other);
    }

-- an answer that hands over nothing
empty_part : (s : Bor (List ℕ)) (r : Given) (p : Bor (List ℕ)) (y : Answer) → explanation_says r ≡ plain y → IsPart s r.from r.to p → (p.now ≡ []) × (r.count ≡ 0)
empty_part s r p y q part =
    let from : r.from ≡ 0 = ap (λ (y : Explanation). y.from) q in
    let to : r.to ≡ 0 = ap (λ (y : Explanation). y.to) q in
    (go (inside s.now 0 0) (subst (λ (m : ℕ). IsPart s 0 m p) to (subst (λ (m : ℕ). IsPart s m r.to p) from part)), ap (λ (y : Explanation). y.count) q)
  where
    go : (b : Bool) → Part s (if b then 0 else 0) (if b then 0 else 0) p → p.now ≡ []
    go true k = k.bytes
    go false k = k.bytes

says-written : (y : given.Answer) (a e : ℕ) → answer_says y ≡ Explain.written a e → y ≡ answer.Written a e
says-written (answer.Written b c) a e q =
    let f : b ≡ a = cc in
    let g : c ≡ e = cc in
    λ i. answer.Written (f i) (g i)
says-written (answer.Starting b c) a e q = absurd (let z : ◌≡◌ {A = ℕ} 0 1 = cc in omega arith)
says-written (answer.Refused s k p) a e q = absurd (let z : ◌≡◌ {A = ℕ} 0 1 = cc in omega arith)

pub other-answered : OtherAnswered
other-answered long mask x one other r p says part no_write =
    explained_by long mask (chosen_says x) one.now other.now
    (λ s k o y _. empty_part (chosen_of x one other) r p (Explain.refused s k o) (says ∙ y) part)
    (λ n y _. empty_part (chosen_of x one other) r p (Explain.refused both 27 0) (says ∙ y) part)
    λ a e y _. go a e (origin_of (chosen (chosen_says x) one.now other.now) a e) (says ∙ y)
  where
    go : (a e : ℕ) (o : Option Origin) → explanation_says r ≡ explained a e o → (p.now ≡ []) × (r.count ≡ 0)
    go a e none q = empty_part (chosen_of x one other) r p (Explain.starting a e) q part
    go a e (some o) q = absurd (no_write a e (says-written r.answer a e (ap (λ (y : Explanation). y.answer) q)))
