-- The writer's reply and what it leaves.
use Rattle.std.specs.Prelude.{if◌then◌else◌}
use mathlib.Core.Path.{◌≡◌, refl, sym, ap, subst, ◌∙◌}
use Prim.Native.Nat.{ℕ, ◌+◌, ◌≤◌}
use mathlib.Core.List.{List}
use mathlib.Core.Bool.{Bool, true, false, ◌&&◌}
use mathlib.Core.Option.{Option, some}
use mathlib.Core.Option.Option.{none as nothing}
use native.Mathlib.Omega.{arith}
use lib.ListN.{length, take, drop, length-append, length-drop}
use lib.Seq.{take-append_seam, drop-append_seam}
use lib.Dec.{leb}
use borrow.Author.Tests.{le-leb, leb-true}
use Rattle.model.specs.Update.{Listed}
use Rattle.model.specs.Reply.{Side, left, both}
use Rattle.model.specs.Memory.{list_words}
use Rattle.unroller.specs.Run.{ok}
use Rattle.unroller.specs.Layout.{layout}
use Rattle.unroller.specs.Decode.{decode}
use Rattle.unroller.specs.Unroll.{unrolled, unroll_leaves}
use Rattle.unroller.proofs.Parts.{both as halves}
use Rattle.unroller.proofs.Inverse.{layout-decode}
use Rattle.writer.specs.File.{file_of}
use Rattle.writer.specs.Write.{literals_fit, first_wide, file_fits, Written, file, refused, written_by, answered_by, write_reply, laid_over, left_by, write_leaves}
use Rattle.writer.specs.Claims.{FileRefused, FileReturns, FileUntouched}
use Rattle.writer.proofs.Theorems.{read_back, holdable}

-- what a reply that is a file tells of the list
record Made (list : List ℕ) (m n : ℕ) : Type 0 where
  what : Listed
  long : leb list_words (length list) ≡ true
  decoded : decode list ≡ some what
  narrow : literals_fit what ≡ true
  short : length (file_of what) ≤ 16384
  room : length (file_of what) ≤ m
  is : length (file_of what) ≡ n

not-file : {P : Type 0} {side : Side} {question place n : ℕ} → ◌≡◌ {A = Written} (refused side question place) (file n) → P
not-file e = absurd (let z : ◌≡◌ {A = ℕ} 0 1 = cc in omega arith)

made : (list : List ℕ) (m n : ℕ) → write_reply list m ≡ file n → Made list m n
unfolding write_reply
made list m n e = go (leb list_words (length list)) refl e
  where
    listed : leb list_words (length list) ≡ true → (l : Listed) → decode list ≡ some l → written_by l m ≡ file n → Made list m n
    listed q l d e = unfold written_by file_fits in narrow (literals_fit l) refl e
      where
        room : literals_fit l ≡ true → (b : Bool) → (leb (length (file_of l)) 16384 && leb (length (file_of l)) m) ≡ b
            → ◌≡◌ {A = Written} (if b then file (length (file_of l)) else refused left 29 0) (file n) → Made list m n
        room w true r e =
            let p = halves (leb (length (file_of l)) 16384) (leb (length (file_of l)) m) r in
            record { what = l; long = q; decoded = d; narrow = w; short = leb-true (length (file_of l)) 16384 p.0; room = leb-true (length (file_of l)) m p.1; is = cc }
        room w false r e = not-file e

        narrow : (b : Bool) → literals_fit l ≡ b
            → ◌≡◌ {A = Written} (if b then (if leb (length (file_of l)) 16384 && leb (length (file_of l)) m then file (length (file_of l)) else refused left 29 0) else refused left 28 (first_wide l.updates)) (file n)
            → Made list m n
        narrow true w e = room w (leb (length (file_of l)) 16384 && leb (length (file_of l)) m) refl e
        narrow false w e = not-file e

    answered : leb list_words (length list) ≡ true → (o : Option Listed) → decode list ≡ o → answered_by o m ≡ file n → Made list m n
    answered q (some l) d e = listed q l d e
    answered q nothing d e = not-file e

    go : (b : Bool) → leb list_words (length list) ≡ b → ◌≡◌ {A = Written} (if b then answered_by (decode list) m else refused both 25 0) (file n) → Made list m n
    go true q e = answered q (decode list) refl e
    go false q e = not-file e

pub returns : FileReturns
returns list out n e =
    let m = made list (length out) n e in
    let l = m.what in
    let f = layout-decode list l m.decoded in
    let b = (read_back l f.1 m.narrow m.short).plainly.unrolls in
    let w = leaves l m.decoded in
    let r = m.room in
    let i = m.is in
    let q = length-append (file_of l) (drop (length (file_of l)) out) in
    let d = length-drop (length (file_of l)) out in
    let front : take n (write_leaves list out) ≡ file_of l = subst (λ (k : ℕ). take k (write_leaves list out) ≡ file_of l) i (ap (take (length (file_of l))) w ∙ take-append_seam (file_of l) (drop (length (file_of l)) out)) in
    record {
      what = l;
      is = m.decoded;
      size = sym i;
      fits = omega arith;
      is_file = front;
      unrolls = ap unrolled front ∙ b;
      same_length = ap length w ∙ q ∙ (let k : length (file_of l) + length (drop (length (file_of l)) out) ≡ length out = omega arith in k);
      beyond = subst (λ (k : ℕ). drop k (write_leaves list out) ≡ drop k out) i (ap (drop (length (file_of l))) w ∙ drop-append_seam (file_of l) (drop (length (file_of l)) out));
      returns = λ other h. ap (λ (x : List ℕ). unroll_leaves x other) front ∙ unrolls_to l other h m.long b f.0;
    }
  where
    leaves : (l : Listed) → decode list ≡ some l → write_leaves list out ≡ laid_over (file_of l) out
    leaves l d = unfold write_leaves in rw (d, e)

    unrolls_to : (l : Listed) (other : List ℕ) → length other ≡ length list → leb list_words (length list) ≡ true → unrolled (file_of l) ≡ ok l → list ≡ layout l (length list) → unroll_leaves (file_of l) other ≡ list
    unrolls_to l other h long b f = unfold unroll_leaves in rw (h, long, b) (sym f)

pub refused_rightly : FileRefused
unfolding write_reply
refused_rightly list n l bytes long d b f room =
    let h = holdable l bytes b f in
    let e = h.2 in
    let s = h.1 in
    rw (le-leb list_words (length list) long, d) (fits h.0 (le-leb (length (file_of l)) 16384 (omega arith)) (le-leb (length (file_of l)) n (omega arith)) ∙ ap file e)
  where
    fits : literals_fit l ≡ true → leb (length (file_of l)) 16384 ≡ true → leb (length (file_of l)) n ≡ true → written_by l n ≡ file (length (file_of l))
    fits p q r = unfold written_by file_fits in rw (p, q, r)

pub untouched : FileUntouched
unfolding write_leaves
untouched list out side question place e = rw e (by (decode list))
  where
    by : (o : Option Listed) → left_by o (refused side question place) out ≡ out
    by (some l) = refl
    by nothing = refl
