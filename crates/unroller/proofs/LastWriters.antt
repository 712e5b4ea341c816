-- The last writer of an element, from a program's tables to the reply.
use Rattle.std.specs.Prelude.{if◌then◌else◌, Result, Ok, Err, Option as Maybe, Some, None}
use Rattle.std.specs.Borrow.{Bor}
use Rattle.std.specs.Result.{result_ok}
use mathlib.Core.Path.{◌≡◌, refl, sym, ap, ap₂, ◌∙◌, subst}
use Prim.Native.Nat.{ℕ}
use native.Mathlib.Omega.{arith}
use mathlib.Core.List.{List, []}
use mathlib.Core.Bool.{Bool, true, false}
use mathlib.Core.Option.{Option, none, some}
use lib.ListN.{length, replicate}
use lib.Dec.{leb}
use Rattle.model.specs.Tables.{Tables}
use Rattle.model.specs.Questions.{number_of}
use Rattle.model.specs.declared.question.Refusal.{Refusal}
use Rattle.model.specs.Update.{Listed}
use Rattle.model.specs.Reply.{left, both}
use Rattle.model.specs.Memory.{list_words, cleared, work_left}
use Rattle.reader.specs.Field.{Outcome, got}
use Rattle.reader.specs.Syntax.{Program}
use Rattle.reader.specs.Grammar.{body}
use Rattle.reader.specs.Answers.{through, read_says}
use Rattle.reader.specs.Entries.{unpacked, packed, tables_step, tables_in, flattened}
use Rattle.reader.specs.declared.tables.Tables.{Tables as Packed}
use Rattle.reader.proofs.Flattened.{Words}
use Rattle.unroller.specs.Run.{Ran, ok, stop, runs, nothing, run_program}
use Rattle.unroller.specs.Unroll as Unroll
use Rattle.unroller.specs.Unroll.{unrolled, unroll_reply, unroll_reply_by, unroll_leaves, words_of}
use Rattle.unroller.specs.UnrollAnswers.{unrolled_says}
use Rattle.unroller.specs.Executed.{executeds, execution, writes_to, last, Origin, origin_at, origin_of, origin_in}
use Rattle.unroller.specs.OriginReply.{Told, refused, unwritten, told, told_of, origin_reply, writer_says, origin_says, Found}
use Rattle.unroller.specs.Origins.{writer_is, Seen, TracesItems}
use Rattle.unroller.specs.declared.entry.UnrollError.{UnrollError}
use Rattle.unroller.specs.declared.entry.UnrollError.TheVariants.{Refused, Short}
use Rattle.unroller.specs.declared.origins.Element.{Element}
use Rattle.unroller.specs.declared.origins.Writer.{Writer}
use Rattle.unroller.proofs.Runs.{unrolls}
use Rattle.unroller.proofs.UnrollRun.{program_by, held, read_first, outermost, lent}
use Rattle.unroller.proofs.WalkItems.{none_some}
use Rattle.unroller.proofs.Traces.{or_none, ok_is, read_lost}

-- ---- from the tables to the writer
-- what the code tells of a writer is the reply's
told_is : (o : Option Origin) → writer_says (writer_is o) ≡ told o
told_is none = refl
told_is (some o) = refl

module _ (program : Bor (List ℕ)) (r : Result (Packed × ℕ) Refusal) (says : through unpacked (read_says r) ≡ tables_step program.now) (holds : read_says r ≡ through packed (tables_step program.now)) (element : Element) where
  pub found-not : result_ok r ≡ None → (w : Maybe Writer) → Found program.now element.array element.cell w
  unfolding Found
  found-not c w l u = let h = unrolls program.now l u in program_by program.now h.is_read λ t m js end e1 e2 _. read_lost r (held program.now r says holds t m e1) c

  module _ (T : Packed) (first : ℕ) (case : result_ok r ≡ Some (T, first)) (numbers : Bor (List ℕ)) (made : numbers.now ≡ flattened T) (small : Words 48 T.extents) (to : Maybe ℕ) (w : Maybe Writer)
      (ran : TracesItems (outermost program numbers) first 8 element None to w) where
    c : r ≡ Ok (T, first)
    c = ok_is r case

    -- the walk over the whole program
    walked : (l : Listed) → unrolled program.now ≡ ok l → (end : ℕ) × (to ≡ Some end) × (w ≡ writer_is (origin_of program.now element.array element.cell))
    unfolding TracesItems Seen body run_program origin_of execution
    walked l u =
        let h = unrolls program.now l u in
        program_by program.now h.is_read λ t m js end e1 e2 x.
        let y = lent program [] r says holds T first c numbers made small t m e1 in
        let z = read_first program.now r says holds t m e1 T first c in
        let d : runs js t [] nothing ≡ ok h.done = subst (λ (p : Program). run_program p ≡ ok h.done) x h.ran in
        let k = ran js end (length program.now) nothing h.done
        (subst (λ (u : Tables). body u (length program.now) 8 0 program.now first ≡ got js end) (sym y) (ap (λ (at : ℕ). body t (length program.now) 8 0 program.now at) z ∙ e2))
        (omega arith) (record { long = refl; zeros = refl }) (subst (λ (u : Tables). runs js u [] nothing ≡ ok h.done) (sym y) d) in
        let o : origin_of program.now element.array element.cell ≡ origin_at program.now t (last (writes_to t element.array element.cell) (executeds js [])) =
        ap (λ (o : Outcome Program). origin_in program.now o element.array element.cell) h.is_read
        ∙ ap (λ (p : Program). origin_at program.now p.tables (last (writes_to p.tables element.array element.cell) (execution p))) x in (
          end,
          k.to,
          k.seen none refl ∙ ap writer_is (or_none (origin_at program.now (tables_in numbers.now) (last (writes_to (tables_in numbers.now) element.array element.cell) (executeds js [])))
              ∙ ap (λ (t : Tables). origin_at program.now t (last (writes_to t element.array element.cell) (executeds js []))) y ∙ sym o),
        )

    pub found_lost : to ≡ None → (w' : Maybe Writer) → Found program.now element.array element.cell w'
    unfolding Found
    found_lost q w' l u = none_some (sym q ∙ (walked l u).1)

    pub found_next : Found program.now element.array element.cell w
    unfolding Found
    found_next l u = ap writer_says (walked l u).2 ∙ told_is (origin_of program.now element.array element.cell)

-- ---- what the unroller's reply tells
module _ (s : List ℕ) (a e : ℕ) (list : List ℕ) (r : Result ℕ UnrollError) (list' : List ℕ) (reply : unrolled_says r ≡ unroll_reply s (length list)) (leaves : list' ≡ unroll_leaves s list) where
  abbrev Replies : Told → List ℕ → Type 0
  Replies x l = (x ≡ origin_reply s a e (length list)) × (l ≡ work_left (leb list_words (length list)) list)

  pub origin-refused : (g : UnrollError) → r ≡ Err g → Replies (origin_says (Err g)) list'
  unfolding unroll_reply unroll_leaves origin_reply
  origin-refused g case = by_error g (sym (ap unrolled_says case) ∙ reply)
    where
      short : (z : Bool) (m : Ran Listed) → Unroll.refused both 25 0 ≡ (if z then unroll_reply_by m else Unroll.refused both 25 0) → list' ≡ (if z then words_of m (length list) else list)
          → (unwritten (refused both 25 0) ≡ (if z then told_of m (origin_of s a e) else unwritten (refused both 25 0))) × (list' ≡ work_left z list)
      short true (ok l) x y = absurd (let z : ◌≡◌ {A = ℕ} 0 1 = cc in omega arith)
      short true (stop k p) x y = absurd (let z : both ≡ left = cc in let z : ◌≡◌ {A = ℕ} 0 1 = cc in omega arith)
      short false m x y = (refl, y)

      no : (k p : ℕ) (z : Bool) (m : Ran Listed) → Unroll.refused left k p ≡ (if z then unroll_reply_by m else Unroll.refused both 25 0) → list' ≡ (if z then words_of m (length list) else list)
          → (unwritten (refused left k p) ≡ (if z then told_of m (origin_of s a e) else unwritten (refused both 25 0))) × (list' ≡ work_left z list)
      no k p true (ok l) x y = absurd (let z : ◌≡◌ {A = ℕ} 0 1 = cc in omega arith)
      no k p true (stop k' p') x y =
          let f : k ≡ k' = cc in
          let g : p ≡ p' = cc in
          (ap₂ (λ (k p : ℕ). unwritten (refused left k p)) f g, y)
      no k p false m x y = absurd (let z : both ≡ left = cc in let z : ◌≡◌ {A = ℕ} 0 1 = cc in omega arith)

      by_error : (g : UnrollError) → unrolled_says (Err g) ≡ (if leb list_words (length list) then unroll_reply_by (unrolled s) else Unroll.refused both 25 0) → Replies (origin_says (Err g)) list'
      by_error Short q = short (leb 32768 (length list)) (unrolled s) q leaves
      by_error (Refused f) q = no (number_of f.question) f.place (leb 32768 (length list)) (unrolled s) q leaves

  pub origin-updates : (n : ℕ) → r ≡ Ok n → length list' ≡ length list → (list₂ : List ℕ) → list₂ ≡ cleared list' → (w : Maybe Writer) → Found s a e w → Replies (origin_says (Ok w)) list₂
  unfolding unroll_reply origin_reply Found
  origin-updates n case same list₂ c w f = go (leb 32768 (length list)) (unrolled s) refl (sym (ap unrolled_says case) ∙ reply)
    where
      go : (z : Bool) (m : Ran Listed) → unrolled s ≡ m → Unroll.updates n ≡ (if z then unroll_reply_by m else Unroll.refused both 25 0)
          → (origin_says (Ok w) ≡ (if z then told_of m (origin_of s a e) else unwritten (refused both 25 0))) × (list₂ ≡ work_left z list)
      go true (ok l) u y = (f l u, c ∙ ap (λ (n : ℕ). replicate n 0) same)
      go true (stop k p) u y = absurd (let z : ◌≡◌ {A = ℕ} 0 1 = cc in omega arith)
      go false m u y = absurd (let z : ◌≡◌ {A = ℕ} 0 1 = cc in omega arith)
