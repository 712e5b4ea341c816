-- What the entries over programs reply, from what their parts reply.
use Prim.Native.Nat.{ℕ, ◌+◌, ◌-◌, ◌*◌, ◌≤◌, ◌<◌}
use native.Mathlib.Omega.{arith}
use mathlib.Core.Path.{◌≡◌, refl, sym, ap, subst, ◌∙◌}
use mathlib.Core.List.{List}
use lib.ListN.{length, get_or, take, drop, length-drop}
use lib.Seq.{drop-drop, take_all}
use borrow.Author.Tests.{lt-leb, le-leb}
use Rattle.model.specs.Update.{Listed}
use Rattle.model.specs.Reply as model
use Rattle.model.specs.Memory.{list_words}
use Rattle.reader.specs.Field.{little_endian}
use Rattle.unroller.specs.Run.{Ran, ok, stop}
use Rattle.unroller.specs.Layout.{layout}
use Rattle.unroller.specs.Decode.{decode}
use Rattle.unroller.specs.Unroll as Unroll
use Rattle.unroller.specs.Unroll.{unrolled, unroll_reply, unroll_reply_by, unroll_leaves}
use Rattle.unroller.proofs.Encode.{decode-layout}
use Rattle.unroller.proofs.Accepted.{unrolled-allowed}
use Rattle.comparer.specs.Match.{lists_reply}
use Rattle.comparer.specs.Answers.{reply_says}
use Rattle.comparer.specs.Asked.{Held, Room, Asked}
use Rattle.comparer.specs.Laying.{Lays, Ended}
use Rattle.comparer.specs.Entry.{programs_by, input_by}
use Rattle.comparer.specs.Headers.{Counted}
use Rattle.std.specs.Prelude.{Ok, Err}
use Rattle.model.specs.Questions.{number_of}
use Rattle.model.specs.declared.question.Refusal.{Refusal}
use Rattle.comparer.specs.declared.reply.Reply.{Reply}
use Rattle.comparer.proofs.ListEntries.{decoded_held, held-counted}
use Rattle.comparer.proofs.Clearing.{ended-layout, ended-zeros}

-- a program's list
module _ (program list : List ℕ) (h : list_words ≤ length list) where
  reply_is : unroll_reply program (length list) ≡ unroll_reply_by (unrolled program)
  unfolding unroll_reply
  reply_is = rw (le-leb list_words (length list) h)

  leaves_is : (l : Listed) → unrolled program ≡ ok l → unroll_leaves program list ≡ layout l (length list)
  unfolding unroll_leaves
  leaves_is l e = rw (le-leb list_words (length list) h, e)

  pub lays_out : (n : ℕ) (words : List ℕ) → ((i : ℕ) → get_or program i 0 < 256) → Unroll.updates n ≡ unroll_reply program (length list) → words ≡ unroll_leaves program list → Lays program words (Ok tt)
  unfolding Lays
  lays_out n words b e w = by (unrolled program) refl (e ∙ reply_is)
    where
      by : (o : Ran Listed) → unrolled program ≡ o → Unroll.updates n ≡ unroll_reply_by o → (l : Listed) × (unrolled program ≡ ok l) × Held words l
      by (ok l) f g = (l, f, decoded_held words l (ap decode (w ∙ leaves_is l f) ∙ decode-layout l (length list) (unrolled-allowed program l b f)))
      by (stop question place) f g = absurd (let z : ◌≡◌ {A = ℕ} 0 1 = cc in omega arith)

  pub lays_not : (refusal : Refusal) (s : model.Side) (words : List ℕ) → Unroll.refused s (number_of refusal.question) refusal.place ≡ unroll_reply program (length list) → Lays program words (Err refusal)
  unfolding Lays
  lays_not refusal s words e = by (unrolled program) refl (e ∙ reply_is)
    where
      by : (o : Ran Listed) → unrolled program ≡ o → Unroll.refused s (number_of refusal.question) refusal.place ≡ unroll_reply_by o → unrolled program ≡ stop (number_of refusal.question) refusal.place
      by (ok l) f g = absurd (let z : ◌≡◌ {A = ℕ} 0 1 = cc in omega arith)
      by (stop question place) f g = cc

  pub leaves-ended : (words : List ℕ) → ((i : ℕ) → get_or program i 0 < 256) → words ≡ unroll_leaves program list → Ended words
  unfolding unroll_leaves
  leaves-ended words b w = subst Ended (sym w) (by (unrolled program) refl)
    where
      by : (o : Ran Listed) → unrolled program ≡ o → Ended (unroll_leaves program list)
      by (ok l) f = subst Ended (sym (leaves_is l f)) (ended-layout l (length list) (omega arith) (unrolled-allowed program l b f))
      by (stop question place) f = rw (le-leb list_words (length list) h, f) (ended-zeros (length list) (omega arith))

-- two programs
module _ (left right : List ℕ) (mask : Listed → ℕ) where
  pub left_not : (refusal : Refusal) (words : List ℕ) → Lays left words (Err refusal) → model.refused model.left (number_of refusal.question) refusal.place ≡ programs_by mask left right
  unfolding Lays programs_by
  left_not refusal words e = rw e

  pub right_not : (refusal : Refusal) (one other : List ℕ) → Lays left one (Ok tt) → Lays right other (Err refusal) → model.refused model.right (number_of refusal.question) refusal.place ≡ programs_by mask left right
  unfolding Lays programs_by
  right_not refusal one other (l, e, h) f = rw (e, f)

  -- the code's mask k is that of the left's list
  pub both_out : (one other cells terms : List ℕ) (r : Reply) (k : ℕ) → Lays left one (Ok tt) → Lays right other (Ok tt) → Room cells terms
      → ((l : Listed) → Held one l → k ≡ mask l) → Asked one other k cells terms r → reply_says r ≡ programs_by mask left right
  unfolding Lays Asked programs_by
  both_out one other cells terms r k (x, e, h) (y, f, g) room is a = rw (e, f) (a x y h g room ∙ ap (λ (n : ℕ). lists_reply n x y) (is x h))

pub lays_counted : (program words : List ℕ) → Lays program words (Ok tt) → Counted words
unfolding Lays
lays_counted program words (l, e, h) = held-counted h

-- framed input
module _ (mask : Listed → ℕ) (s : List ℕ) where
  pub unframed : length s < 2 → model.refused model.input 1 0 ≡ input_by mask s
  unfolding input_by
  unframed h = rw (lt-leb 2 (length s) h)

  module _ (n : ℕ) (e : n ≡ get_or s 0 0 + 256 * get_or s 1 0) (h : 2 ≤ length s) where
    number_is : little_endian 2 s 0 ≡ n
    number_is = omega arith

    pub framed-long : 16384 < n → model.refused model.left 2 0 ≡ input_by mask s
    unfolding input_by
    framed-long g = rw (le-leb 2 (length s) h, number_is, lt-leb n 16384 g)

    pub framed-short : n ≤ 16384 → length s < 2 + n → model.refused model.input 1 0 ≡ input_by mask s
    unfolding input_by
    framed-short g k = let l = length-drop 2 s in rw (le-leb 2 (length s) h, number_is, le-leb n 16384 g, lt-leb n (length (drop 2 s)) (omega arith))

    -- the parts as they are lent: from 2 to 2 + n, and from there to the end
    pub framed-whole : (r : model.Reply) → n ≤ 16384 → 2 + n ≤ length s
        → r ≡ programs_by mask (take (2 + n - 2) (drop 2 s)) (take (length s - (2 + n)) (drop (2 + n) s)) → r ≡ input_by mask s
    unfolding input_by
    framed-whole r g k f =
        let l = length-drop 2 s in
        let m : 2 + n - 2 ≡ n = omega arith in
        let d = drop-drop n 2 s in
        let o = length-drop (2 + n) s in
        let w = take_all (length s - (2 + n)) (drop (2 + n) s) (omega arith) in
        rw (le-leb 2 (length s) h, number_is, le-leb n 16384 g, le-leb n (length (drop 2 s)) (omega arith), d) (rw (m, w) at f)
