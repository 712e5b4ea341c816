-- From the comparison's reply, and what is told of an element, to the explanation.
use mathlib.Core.Path.{◌≡◌, refl, sym, ap, ◌∙◌}
use Prim.Native.Nat.{ℕ, ◌≤◌}
use native.Mathlib.Omega.{arith}
use mathlib.Core.List.{List}
use mathlib.Core.Bool.{Bool, true, false, ◌&&◌}
use mathlib.Core.Option.{Option, none, some}
use lib.ListN.{length, replicate, length-replicate}
use lib.Dec.{leb}
use borrow.Author.Tests.{le-leb, leb-true}
use Rattle.model.specs.Update.{Listed}
use Rattle.model.specs.Memory.{list_words, cell_words, term_words, work_left}
use Rattle.model.specs.Reply.{Reply, equal, differs, refused, left, right, is_refused}
use Rattle.unroller.specs.Run.{Ran, ok, stop}
use Rattle.unroller.specs.Unroll.{unrolled}
use Rattle.unroller.specs.Executed.{Origin, origin_of}
use Rattle.unroller.specs.OriginReply.{told, origin_reply}
use Rattle.unroller.proofs.Parts.{both}
use Rattle.comparer.specs.Match.{lists_reply}
use Rattle.comparer.specs.Entry.{enough_lent, entry_reply, side_reply, programs_by, programs_reply, left_in, right_in, input_by}
use Rattle.comparer.specs.Explain.{Chosen, left_side, right_side, chosen, explained, by_reply, explanation, input_explanation_by}
use Rattle.comparer.specs.ExplainAnswers.{explanation_by, replied_by, list_left}
use Rattle.comparer.proofs.Input.{unrefused}

-- a "differs" comes of two programs that unroll
pub differs-unrolls : (mask : Listed → ℕ) (side : Chosen) (l r : List ℕ) (a e : ℕ) → programs_by mask l r ≡ differs a e → (x : Listed) × (unrolled (chosen side l r) ≡ ok x)
unfolding programs_by
differs-unrolls mask side l r a e h = go (unrolled l) refl (unrolled r) refl h
  where
    pick : (side : Chosen) (x y : Listed) → unrolled l ≡ ok x → unrolled r ≡ ok y → (z : Listed) × (unrolled (chosen side l r) ≡ ok z)
    pick left_side x y p q = (x, p)
    pick right_side x y p q = (y, q)

    go : (m : Ran Listed) → unrolled l ≡ m → (n : Ran Listed) → unrolled r ≡ n → side_reply left m (λ x. side_reply right n (λ y. lists_reply (mask x) x y)) ≡ differs a e
        → (z : Listed) × (unrolled (chosen side l r) ≡ ok z)
    go (ok x) p (ok y) q h = pick side x y p q
    go (ok x) p (stop k o) q h = absurd (let z : ◌≡◌ {A = ℕ} 0 1 = cc in omega arith)
    go (stop k o) p n q h = absurd (let z : ◌≡◌ {A = ℕ} 0 1 = cc in omega arith)

-- what is told of an element of a program that unrolls
origin-told : (s : List ℕ) (x : Listed) (a e n : ℕ) → unrolled s ≡ ok x → list_words ≤ n → origin_reply s a e n ≡ told (origin_of s a e)
unfolding origin_reply
origin-told s x a e n u h = rw (le-leb 32768 n h, u) refl

told-explained : (a e : ℕ) (o : Option Origin) → explanation_by a e (told o) ≡ explained a e o
told-explained a e none = refl
told-explained a e (some o) = refl

pub long-list : (one other cells terms : List ℕ) → enough_lent one other cells terms ≡ true → list_words ≤ length one
long-list one other cells terms h =
    leb-true 32768 (length one) (both (leb list_words (length one)) (leb list_words (length other) && (leb cell_words (length cells) && leb term_words (length terms))) h).0

-- A reply m of a comparison, and the bytes c of the chosen program, which unrolls where that reply is a difference.
module _ (long : Bool) (m : Reply) (c : List ℕ) (unrolls : (a e : ℕ) → m ≡ differs a e → (x : Listed) × (unrolled c ≡ ok x)) (q : Reply) (says : q ≡ entry_reply long m)
    (list list₁ : List ℕ) (lists : list₁ ≡ work_left long list) (room : long ≡ true → list_words ≤ length list) where
  length-kept : long ≡ true → length list₁ ≡ length list
  length-kept h = ap length (lists ∙ ap (λ (b : Bool). work_left b list) h) ∙ length-replicate (length list) 0

  -- the reply, by cases
  explained_by : (b : Bool) → long ≡ b → (k : Reply) → m ≡ k
      → replied_by (entry_reply b k) (λ a e. origin_reply c a e (length list₁)) ≡ by_reply (origin_of c) (entry_reply b k)
  explained_by false p k h = refl
  explained_by true p (equal n) h = refl
  explained_by true p (refused s k o) h = refl
  explained_by true p (differs a e) h =
      let u = unrolls a e h in
      let n = length-kept p in
      let k = room p in
      ap (explanation_by a e) (origin-told c u.0 a e (length list₁) u.1 (omega arith)) ∙ told-explained a e (origin_of c a e)

  pub reply_says_lem : replied_by q (λ a e. origin_reply c a e (length list₁)) ≡ by_reply (origin_of c) (entry_reply long m)
  reply_says_lem = ap (λ (q : Reply). replied_by q (λ a e. origin_reply c a e (length list₁))) says ∙ explained_by long refl m refl

  left_by_lem : (b : Bool) → long ≡ b → (k : Reply) → list_left (entry_reply b k) list₁ ≡ work_left long list
  left_by_lem false p k = lists
  left_by_lem true p (equal n) = lists
  left_by_lem true p (refused s k o) = lists
  left_by_lem true p (differs a e) =
      let n = length-kept p in
      let k = room p in
      let z : leb 32768 (length list₁) ≡ true = le-leb 32768 (length list₁) (omega arith) in
      ap (λ (b : Bool). work_left b list₁) z ∙ ap (λ (n : ℕ). replicate n 0) n ∙ ap (λ (b : Bool). work_left b list) (sym p)

  pub reply-leaves : list_left q list₁ ≡ work_left long list
  reply-leaves = ap (λ (q : Reply). list_left q list₁) says ∙ left_by_lem long refl m

module _ (long : Bool) (mask : ℕ) (side : Chosen) (l r : List ℕ) (q : Reply) (says : q ≡ entry_reply long (programs_reply mask l r))
    (list list₁ : List ℕ) (lists : list₁ ≡ work_left long list) (room : long ≡ true → list_words ≤ length list) where
  pub explain_says : replied_by q (λ a e. origin_reply (chosen side l r) a e (length list₁)) ≡ explanation long mask side l r
  unfolding explanation
  explain_says = reply_says_lem long (programs_reply mask l r) (chosen side l r) (differs-unrolls (λ x. mask) side l r) q says list list₁ lists room

  pub explain_leaves : list_left q list₁ ≡ work_left long list
  explain_leaves = reply-leaves long (programs_reply mask l r) (chosen side l r) (differs-unrolls (λ x. mask) side l r) q says list list₁ lists room

-- framed input
input-unrolls : (mask : Listed → ℕ) (side : Chosen) (s : List ℕ) (a e : ℕ) → input_by mask s ≡ differs a e → (x : Listed) × (unrolled (chosen side (left_in s) (right_in s)) ≡ ok x)
input-unrolls mask side s a e h = differs-unrolls mask side (left_in s) (right_in s) a e (sym (unrefused mask s (ap is_refused h)) ∙ h)

module _ (long : Bool) (mask : Listed → ℕ) (side : Chosen) (s : List ℕ) (q : Reply) (says : q ≡ entry_reply long (input_by mask s))
    (list list₁ : List ℕ) (lists : list₁ ≡ work_left long list) (room : long ≡ true → list_words ≤ length list) where
  pub input-says : replied_by q (λ a e. origin_reply (chosen side (left_in s) (right_in s)) a e (length list₁)) ≡ input_explanation_by mask long side s
  unfolding input_explanation_by
  input-says = reply_says_lem long (input_by mask s) (chosen side (left_in s) (right_in s)) (input-unrolls mask side s) q says list list₁ lists room

  pub input-leaves : list_left q list₁ ≡ work_left long list
  input-leaves = reply-leaves long (input_by mask s) (chosen side (left_in s) (right_in s)) (input-unrolls mask side s) q says list list₁ lists room
