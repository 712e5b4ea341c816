-- For the public function: questions 25 and 26 by the check of lists, then an accepted list.
use Rattle.std.specs.Prelude.{if◌then◌else◌}
use mathlib.Core.Path.{◌≡◌, refl, sym}
use Prim.Native.Nat.{ℕ}
use mathlib.Core.List.{List}
use mathlib.Core.Bool.{Bool, true, false, true≢false}
use native.Mathlib.Omega.{arith}
use lib.ListN.{length}
use lib.Dec.{leb}
use Rattle.model.specs.Update.{Listed}
use Rattle.model.specs.Reply.{left, both}
use Rattle.model.specs.Memory.{list_words}
use Rattle.unroller.specs.Words.{Out, got, none, is_got}
use Rattle.unroller.specs.Decode.{list, list_of, decode, accepted}
use Rattle.unroller.specs.Unroll.{accepts, refuses, check_reply}
use Rattle.writer.specs.Write.{refused, answered_by, write_reply, write_leaves}
use Rattle.unroller.specs.CheckAnswers.{checked_says}
use Rattle.unroller.specs.declared.lists.ListError.{ListError}
use Rattle.unroller.specs.declared.lists.ListError.TheVariants as check
use Rattle.writer.specs.Answers.{written_says, unlisted, Writes}
use Rattle.std.specs.Prelude.{Result, Err}
use Rattle.writer.specs.declared.entry.WriteError.{WriteError}
use Rattle.writer.proofs.Replies.{untouched}

-- what the check of a list tells
module _ (w : List ℕ) where
  pub checked-short : refuses both 25 0 ≡ check_reply w → leb list_words (length w) ≡ false
  unfolding check_reply
  checked-short e = go (leb list_words (length w)) refl (accepted w) refl (sym e)
    where
      go : (a : Bool) → leb list_words (length w) ≡ a → (b : Bool) → accepted w ≡ b → (if a then (if b then accepts else refuses left 26 0) else refuses both 25 0) ≡ refuses both 25 0 → leb list_words (length w) ≡ false
      go true p true q e = absurd (let z : ◌≡◌ {A = ℕ} 0 1 = cc in omega arith)
      go true p false q e = absurd (let z : ◌≡◌ {A = ℕ} 25 26 = cc in omega arith)
      go false p b q e = p

  pub checked_refused : refuses left 26 0 ≡ check_reply w → (leb list_words (length w) ≡ true) × (accepted w ≡ false)
  unfolding check_reply
  checked_refused e = go (leb list_words (length w)) refl (accepted w) refl (sym e)
    where
      go : (a : Bool) → leb list_words (length w) ≡ a → (b : Bool) → accepted w ≡ b → (if a then (if b then accepts else refuses left 26 0) else refuses both 25 0) ≡ refuses left 26 0
          → (leb list_words (length w) ≡ true) × (accepted w ≡ false)
      go true p true q e = absurd (let z : ◌≡◌ {A = ℕ} 0 1 = cc in omega arith)
      go true p false q e = (p, q)
      go false p b q e = absurd (let z : ◌≡◌ {A = ℕ} 25 26 = cc in omega arith)

  pub checked-yes : accepts ≡ check_reply w → (leb list_words (length w) ≡ true) × (accepted w ≡ true)
  unfolding check_reply
  checked-yes e = go (leb list_words (length w)) refl (accepted w) refl (sym e)
    where
      go : (a : Bool) → leb list_words (length w) ≡ a → (b : Bool) → accepted w ≡ b → (if a then (if b then accepts else refuses left 26 0) else refuses both 25 0) ≡ accepts
          → (leb list_words (length w) ≡ true) × (accepted w ≡ true)
      go true p true q e = (p, q)
      go true p false q e = absurd (let z : ◌≡◌ {A = ℕ} 0 1 = cc in omega arith)
      go false p b q e = absurd (let z : ◌≡◌ {A = ℕ} 0 1 = cc in omega arith)

module _ (w out : List ℕ) where
  -- 25
  pub short-writes : leb list_words (length w) ≡ false → (refused both 25 0 ≡ write_reply w (length out)) × (out ≡ write_leaves w out)
  unfolding write_reply
  short-writes h =
      let e : write_reply w (length out) ≡ refused both 25 0 = rw h in
      (sym e, sym (untouched w out both 25 0 e))

  -- 26
  pub unknown_writes : leb list_words (length w) ≡ true → accepted w ≡ false → (refused left 26 0 ≡ write_reply w (length out)) × (out ≡ write_leaves w out)
  unfolding write_reply accepted decode
  unknown_writes h q =
      let e : write_reply w (length out) ≡ refused left 26 0 = rw h (by (list w) q) in
      (sym e, sym (untouched w out left 26 0 e))
    where
      by : (o : Out Listed) → is_got o ≡ false → answered_by (list_of o) (length out) ≡ refused left 26 0
      by (got l rest) v = absurd (true≢false v)
      by none v = refl

  -- an accepted list: what `write_accepted` promises is what is asked
  pub accepted-writes : leb list_words (length w) ≡ true → (r : Result ℕ WriteError) (out' : List ℕ) → Writes w out r out' → (written_says r ≡ write_reply w (length out)) × (out' ≡ write_leaves w out)
  unfolding write_reply write_leaves
  accepted-writes h r out' z = rw h (z.says, z.leaves)

  -- a list that is refused before it is looked at
  pub unlisted-writes : (e : ListError) → checked_says (Err e) ≡ check_reply w → (written_says (Err (unlisted e)) ≡ write_reply w (length out)) × (out ≡ write_leaves w out)
  unlisted-writes check.Short e = short-writes (checked-short w e)
  unlisted-writes check.Refused e = let h = checked_refused w e in unknown_writes h.0 h.1
