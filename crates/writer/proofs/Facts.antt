-- What holds of an accepted list, for the code that writes it, and the replies.
use Rattle.std.specs.Prelude.{if◌then◌else◌}
use mathlib.Core.Path.{◌≡◌, refl, sym, ap, ap₂, subst, ◌∙◌}
use Prim.Native.Nat.{ℕ, zero, suc, ◌+◌, ◌-◌, ◌*◌, ◌≤◌, ◌<◌}
use mathlib.Core.List.{List, [], ◌∷◌, ◌++◌, append_assoc}
use mathlib.Core.Bool.{Bool, true, false, ◌&&◌, and-false, false≢true}
use mathlib.Core.Option.{Option, some}
use native.Mathlib.Omega.{arith}
use lib.ListN.{length, get_or, replicate, length-append}
use lib.Seq.{sets, get_or-append-add}
use lib.Dec.{leb}
use borrow.Author.Tests.{le-leb, lt-leb}
use borrow.Rule.Slice.PartMut.{mid_of, put_mid}
use Rattle.model.proofs.Operators.{in_small}
use Rattle.model.specs.Test.{every}
use Rattle.model.specs.Tables.{Array, Tables, array_at, operator_byte}
use Rattle.model.specs.Update.{Update, Listed, nodes}
use Rattle.model.specs.Reply.{left}
use Rattle.unroller.specs.Allowed.{allowed_array}
use Rattle.unroller.specs.Layout.{words, layout}
use Rattle.unroller.specs.Words.{Out, got, none, is_got}
use Rattle.unroller.specs.Decode.{list, list_of, decode, accepted}
use Rattle.unroller.specs.Stands.{ArrayAt, HeaderAt}
use Rattle.unroller.proofs.Parts.{both, every_at, within-high, ArrayParts, array_parts, TablesParts, list-parts}
use Rattle.unroller.proofs.Laws.{words-length, decoded_fit}
use Rattle.unroller.proofs.Inverse.{layout-decode}
use Rattle.unroller.proofs.Stands.{stands}
use Rattle.writer.specs.File.{in_row, update_bytes, array_bytes, table_bytes, file_in, version_of, file_of}
use Rattle.writer.specs.Write.{literals_fit, first_wide, file_fits, Written, file, refused, written_by, answered_by, left_by}
use Rattle.writer.specs.Records.{extents_at, record_bytes, records_bytes, Known, KnownAll, sized, wide, measured}
use Rattle.writer.specs.Head.{dimensions_at, array_bytes_at, arrays_bytes_at, head_bytes, version_at, HeadKnown, HeadSize}
use Rattle.writer.specs.Answers.{Ended, Counted, Measures, file_bytes, Writes}
use Rattle.std.specs.Prelude.{Result, Ok, Err}
use Rattle.writer.specs.declared.records.Size.{Size}
use Rattle.writer.specs.declared.records.WideLiteral.{WideLiteral}
use Rattle.writer.specs.declared.entry.WriteError.TheVariants as error
use Rattle.writer.proofs.Frames.{front}
use Rattle.writer.proofs.Writing.{writing_start, writing_put, writing_part}
use Rattle.writer.proofs.Bridge.{same_words, updates_laid}
use Rattle.writer.proofs.Measuring.{record-short}

abbrev pub records : Listed → ℕ
records l = length l.updates + nodes l.updates

pub record Facts (w : List ℕ) (l : Listed) : Type 0 where
  pub decoded : decode w ≡ some l
  pub head : HeadKnown w
  pub version : version_at w ≡ version_of l
  pub tables : (v : ℕ) → head_bytes w v ≡ table_bytes v l.tables
  pub known : KnownAll w 98 (records l)
  pub bytes : literals_fit l ≡ true → records_bytes w 98 (records l) ≡ in_row (update_bytes l.tables.arrays) l.updates
  pub ended : Ended w 98 (records l)
  pub measures : measured w 98 (records l) 0 0 ≡ (if literals_fit l then sized (0 + length (records_bytes w 98 (records l))) else wide (0 + suc (first_wide l.updates)))

module _ (w : List ℕ) where
  array_same : (x : Array) (at : ℕ) → ArrayAt w at x → ArrayParts x → at + 5 ≤ length w → array_bytes_at w at ≡ array_bytes x
  unfolding array_bytes_at dimensions_at array_bytes
  array_same x at a p h =
      let n = within-high 1 3 (length x.extents) p.dimensions in
      let s = same_words w (at + 2) x.extents (omega arith) (λ k v. a.extent k (omega arith)) in
      rw (a.role, a.dimensions, s)

  arrays_same : (ys : List Array) (at : ℕ) → every allowed_array ys ≡ true → at + 5 * length ys ≤ length w → ((a : ℕ) → a < length ys → ArrayAt w (at + 5 * a) (array_at ys a))
      → arrays_bytes_at w at (length ys) ≡ in_row array_bytes ys
  unfolding arrays_bytes_at
  arrays_same [] at p h f = refl
  arrays_same (y ∷ ys) at p h f =
      let q = both (allowed_array y) (every allowed_array ys) p in
      let z : at + 5 * 0 ≡ at = omega arith in
      let a : ArrayAt w at y = rw z at (f 0 (omega arith)) in
      ap₂ ◌++◌ (array_same y at a (array_parts y q.0) (omega arith))
      (arrays_same ys (at + 5) q.1 (omega arith) (λ i v. let j : at + 5 * suc i ≡ at + 5 + 5 * i = omega arith in rw j at (f (suc i) (omega arith))))

  module _ (t : Tables) (h : HeaderAt w t) (p : TablesParts t) where
    operators_same : extents_at w 1 (get_or w 0 0) ≡ t.operators
    operators_same =
        let few = within-high 0 16 (length t.operators) p.operators in
        let r = h.room in
        ap (extents_at w 1) h.operators ∙ same_words w 1 t.operators (omega arith) (λ k v. h.word k (omega arith))

    tables_same : (v : ℕ) → head_bytes w v ≡ table_bytes v t
    unfolding head_bytes table_bytes
    tables_same v =
        let many = within-high 1 16 (length t.arrays) p.count in
        let r = h.room in
        let a = arrays_same t.arrays 18 p.each (omega arith) h.array in
        rw (operators_same, h.operators, h.count, a)

    version_same : (us : List Update) → version_at w ≡ version_of (record { tables = t; updates = us })
    unfolding version_at version_of
    version_same us = rw operators_same

    head-known : HeadKnown w
    head-known =
        let few = within-high 0 16 (length t.operators) p.operators in
        let many = within-high 1 16 (length t.arrays) p.count in
        let r = h.room in
        let o = h.operators in
        let c = h.count in
        record {
          long = r;
          operators = omega arith;
          bytes = λ k v. subst (λ (b : ℕ). b < 256) (sym (h.word k (omega arith))) (in_small 2 (get_or t.operators k 0) (every_at operator_byte t.operators 0 k p.bytes (omega arith)));
          count = omega arith;
          arrays = λ k v.
              let a = h.array k (omega arith) in
              let q = array_parts (array_at t.arrays k) (every_at allowed_array t.arrays (record { role = 3; extents = 0 ∷ [] }) k p.each (omega arith)) in
              let role = within-high 0 3 (array_at t.arrays k).role q.role-known in
              let dims = within-high 1 3 (length (array_at t.arrays k).extents) q.dimensions in
              let e = a.role in
              let f = a.dimensions in
              record { there = omega arith; role = omega arith; three = omega arith };
        }

pub facts : (w : List ℕ) (l : Listed) → decode w ≡ some l → Facts w l
unfolding layout literals_fit measured
facts w l e =
    let d = layout-decode w l e in
    let a = list-parts l d.1 in
    let s = stands w l e in
    let laid = updates_laid w l.tables s.header a.tables-allowed l.updates 98 s.updates in
    let k = length w - length (words l) in
    let n = words-length l d.1 in
    let fit = decoded_fit w l e in
    let z : length (words l) + 0 ≡ 98 + 3 * records l = omega arith in
    let i : records l ≡ records l + 0 = omega arith in
    let behind : get_or w (98 + 3 * records l) 0 ≡ 0 = ap₂ (λ (x : List ℕ) (i : ℕ). get_or x i 0) d.0 (sym z) ∙ get_or-append-add (words l) (replicate k 0) 0 0 ∙ none_behind k in
    record {
      decoded = e;
      head = head-known w l.tables s.header a.tables-allowed;
      version = version_same w l.tables s.header a.tables-allowed l.updates;
      tables = tables_same w l.tables s.header a.tables-allowed;
      known = laid.known;
      bytes = laid.bytes;
      ended = record { there = omega arith; codes = λ i v q. let g = (laid.known i v).some in omega arith; behind = behind };
      measures = ap (λ (n : ℕ). measured w 98 n 0 0) i ∙ laid.sums 0 0 0;
    }
  where
    none_behind : (k : ℕ) → get_or {A = ℕ} (replicate k 0) 0 0 ≡ 0
    none_behind zero = refl
    none_behind (suc k) = refl

-- an accepted list
pub record Accepted (w : List ℕ) : Type 0 where
  pub what : Listed
  pub holds : Facts w what

pub accepts : (w : List ℕ) → accepted w ≡ true → Accepted w
unfolding accepted
accepts w e = by (list w) refl e
  where
    by : (o : Out Listed) → list w ≡ o → is_got o ≡ true → Accepted w
    by (got l rest) q e = record { what = l; holds = facts w l (decodes q) }
      where
        decodes : list w ≡ got l rest → decode w ≡ some l
        decodes q = unfold decode in ap list_of q
    by none q e = absurd (false≢true e)

-- what measuring tells
module _ (w : List ℕ) (l : Listed) (f : Facts w l) where
  pub listed : Counted w
  listed = record { count = records l; ended = f.ended; known = f.known }

  pub sized_is : (r : Result Size WideLiteral) (e : Size) → Measures w r → r ≡ Ok e → (e.records ≡ records l) × (sized e.bytes ≡ measured w 98 e.records 0 0)
  unfolding Measures
  sized_is r size m e =
      let t = subst (Measures w) e m (records l) f.ended in
      (t.0, t.1 ∙ ap (λ (k : ℕ). measured w 98 k 0 0) (sym t.0))

  pub wide_is : (r : Result Size WideLiteral) (e : WideLiteral) → Measures w r → r ≡ Err e → wide e.updates ≡ measured w 98 (records l) 0 0
  unfolding Measures
  wide_is r literal m e = subst (Measures w) e m (records l) f.ended

-- the replies
module _ (w : List ℕ) (l : Listed) (f : Facts w l) (n : ℕ) (counted : n ≡ records l) where
  pub all_known : KnownAll w 98 n
  all_known = subst (λ (m : ℕ). KnownAll w 98 m) (sym counted) f.known

  measures : measured w 98 n 0 0 ≡ (if literals_fit l then sized (0 + length (records_bytes w 98 n)) else wide (0 + suc (first_wide l.updates)))
  measures = subst (λ (m : ℕ). measured w 98 m 0 0 ≡ (if literals_fit l then sized (0 + length (records_bytes w 98 m)) else wide (0 + suc (first_wide l.updates)))) (sym counted) f.measures

  -- a literal that does not fit
  wide-told : (k : ℕ) → wide k ≡ measured w 98 n 0 0 → (literals_fit l ≡ false) × (k ≡ suc (first_wide l.updates))
  wide-told k e = by (literals_fit l) refl (e ∙ measures)
    where
      by : (b : Bool) → literals_fit l ≡ b → wide k ≡ (if b then sized (0 + length (records_bytes w 98 n)) else wide (0 + suc (first_wide l.updates))) → (literals_fit l ≡ false) × (k ≡ suc (first_wide l.updates))
      by true q g = absurd (let z : ◌≡◌ {A = ℕ} 0 1 = cc in omega arith)
      by false q g = let z : k ≡ 0 + suc (first_wide l.updates) = cc in (q, omega arith)

  pub wide_some : (k : ℕ) → wide k ≡ measured w 98 n 0 0 → 1 ≤ k
  wide_some k e = let t = (wide-told k e).1 in omega arith

  pub wide-writes : (k place : ℕ) (out : List ℕ) → wide k ≡ measured w 98 n 0 0 → k ≡ place + 1 → Writes w out (Err (error.Wide place)) out
  wide-writes k place out e p =
      let t = wide-told k e in
      let s : refused left 28 place ≡ written_by l (length out) = refusal (length out) t.0 (let j = t.1 in let i : place ≡ first_wide l.updates = omega arith in i) in
      let g : answered_by (decode w) (length out) ≡ refused left 28 place = ap (λ (o : Option Listed). answered_by o (length out)) f.decoded ∙ sym s in
      record { says = sym g; leaves = sym (ap₂ (λ (o : Option Listed) (r : Written). left_by o r out) f.decoded g) }
    where
      refusal : (m : ℕ) {i : ℕ} → literals_fit l ≡ false → i ≡ first_wide l.updates → refused left 28 i ≡ written_by l m
      refusal m q j = unfold written_by in rw (q, j)

  sized-told : (b : ℕ) → sized b ≡ measured w 98 n 0 0 → (literals_fit l ≡ true) × (b ≡ length (records_bytes w 98 n))
  sized-told b e = by (literals_fit l) refl (e ∙ measures)
    where
      by : (x : Bool) → literals_fit l ≡ x → sized b ≡ (if x then sized (0 + length (records_bytes w 98 n)) else wide (0 + suc (first_wide l.updates))) → (literals_fit l ≡ true) × (b ≡ length (records_bytes w 98 n))
      by true q g = let z : b ≡ 0 + length (records_bytes w 98 n) = cc in (q, omega arith)
      by false q g = absurd (let z : ◌≡◌ {A = ℕ} 0 1 = cc in omega arith)

  -- the bytes of the words are the file
  pub file_same : literals_fit l ≡ true → file_bytes w n ≡ file_of l
  unfolding file_bytes file_of file_in
  file_same q =
      ap (λ (m : ℕ). head_bytes w (version_at w) ++ records_bytes w 98 m ++ 0 ∷ []) counted
      ∙ ap₂ (λ (x y : List ℕ). x ++ y ++ 0 ∷ []) (f.tables (version_at w) ∙ ap (λ (v : ℕ). table_bytes v l.tables) f.version) (f.bytes q)

  module _ (h b : ℕ) (s : HeadSize w h) (e : sized b ≡ measured w 98 n 0 0) where
    pub total_is : h + b + 1 ≡ length (file_bytes w n)
    unfolding file_bytes
    total_is =
        let t = (sized-told b e).1 in
        let x = length-append (head_bytes w (version_at w) ++ records_bytes w 98 n) (0 ∷ []) in
        let y = length-append (head_bytes w (version_at w)) (records_bytes w 98 n) in
        let z = s (version_at w) in
        omega arith

    file-long : length (file_of l) ≡ h + b + 1
    file-long = ap length (sym (file_same (sized-told b e).0)) ∙ sym total_is

    refused-long : (out : List ℕ) → file_fits l (length out) ≡ false → Writes w out (Err error.Long) out
    refused-long out q =
        let u : refused left 29 0 ≡ written_by l (length out) = refusal (length out) (sized-told b e).0 q in
        let g : answered_by (decode w) (length out) ≡ refused left 29 0 = ap (λ (o : Option Listed). answered_by o (length out)) f.decoded ∙ sym u in
        record { says = sym g; leaves = sym (ap₂ (λ (o : Option Listed) (r : Written). left_by o r out) f.decoded g) }
      where
        refusal : (m : ℕ) → literals_fit l ≡ true → file_fits l m ≡ false → refused left 29 0 ≡ written_by l m
        refusal m q j = unfold written_by in rw (q, j)

    -- a file that is too long for any reader, and one that is too long for the output
    pub long-writes : (out : List ℕ) (total : ℕ) → total ≡ h + b + 1 → 16384 < total → Writes w out (Err error.Long) out
    unfolding file_fits
    long-writes out total t q = let k = file-long in refused-long out (ap (λ (x : Bool). x && leb (length (file_of l)) (length out)) (lt-leb (length (file_of l)) 16384 (omega arith)))

    pub room-writes : (out : List ℕ) (total : ℕ) → total ≡ h + b + 1 → length out < total → Writes w out (Err error.Long) out
    unfolding file_fits
    room-writes out total t q =
        let k = file-long in
        refused-long out (ap (λ (x : Bool). leb (length (file_of l)) 16384 && x) (lt-leb (length (file_of l)) (length out) (omega arith)) ∙ and-false (leb (length (file_of l)) 16384))

    pub file-writes : (out out' : List ℕ) (total : ℕ) → total ≡ h + b + 1 → total ≤ 16384 → total ≤ length out → out' ≡ sets out 0 (file_bytes w n) → Writes w out (Ok total) out'
    file-writes out out' total t p q r =
        let k = file-long in
        let fits : file_fits l (length out) ≡ true = fit (length out) (omega arith) (omega arith) in
        let u : file total ≡ written_by l (length out) = made (length out) (sized-told b e).0 fits (omega arith) in
        let g : answered_by (decode w) (length out) ≡ file total = ap (λ (o : Option Listed). answered_by o (length out)) f.decoded ∙ sym u in
        record {
          says = sym g;
          leaves = r ∙ ap (sets out 0) (file_same (sized-told b e).0) ∙ front (file_of l) out (omega arith) ∙ sym (ap₂ (λ (o : Option Listed) (r : Written). left_by o r out) f.decoded g);
        }
      where
        fit : (m : ℕ) → length (file_of l) ≤ 16384 → length (file_of l) ≤ m → file_fits l m ≡ true
        fit m p q = unfold file_fits in ap₂ ◌&&◌ (le-leb (length (file_of l)) 16384 p) (le-leb (length (file_of l)) m q)

        made : (m : ℕ) → literals_fit l ≡ true → file_fits l m ≡ true → total ≡ length (file_of l) → file total ≡ written_by l m
        made m q j i = unfold written_by in rw (q, j) (ap file i)

-- the three parts of the file
pub file-room : (w : List ℕ) (n : ℕ) → length (file_bytes w n) ≡ length (head_bytes w (version_at w)) + length (records_bytes w 98 n) + 1
unfolding file_bytes
file-room w n =
    let x = length-append (head_bytes w (version_at w) ++ records_bytes w 98 n) (0 ∷ []) in
    let y = length-append (head_bytes w (version_at w)) (records_bytes w 98 n) in
    omega arith

pub file_wrote : (w : List ℕ) (n v head size : ℕ) (out o1 part : List ℕ) → v ≡ version_at w → length (file_bytes w n) ≤ length out
    → head ≡ length (head_bytes w v) → o1 ≡ sets out 0 (head_bytes w v) → size ≡ length (records_bytes w 98 n) → part ≡ sets (mid_of head (length o1 - head) o1) 0 (records_bytes w 98 n)
    → sets (put_mid head (length o1 - head) o1 part) (head + size) (0 ∷ []) ≡ sets out 0 (file_bytes w n)
unfolding file_bytes
file_wrote w n v head size out o1 part ev room eh g1 es g2 =
    let all = head_bytes w (version_at w) ++ records_bytes w 98 n ++ 0 ∷ [] in
    let hb = head_bytes w (version_at w) in
    let rb = records_bytes w 98 n in
    let e2 = eh ∙ ap (λ (x : ℕ). length (head_bytes w x)) ev in
    let o2 = put_mid head (length o1 - head) o1 part in
    let w1 = writing_put all out all 0 out (writing_start all out) hb (rb ++ 0 ∷ []) o1 head (append_assoc hb rb (0 ∷ [])) (g1 ∙ ap (λ (x : ℕ). sets out 0 (head_bytes w x)) ev) (omega arith) in
    let w2 = writing_part all out (rb ++ 0 ∷ []) head o1 w1 rb (0 ∷ []) part (head + size) refl room g2 (ap (λ (x : ℕ). head + x) es) in
    w2.same

-- how many bytes there can be
records-few : (w : List ℕ) (n at : ℕ) → KnownAll w at n → length (records_bytes w at n) ≤ 8 * n
unfolding records_bytes
records-few w zero at k = omega arith
records-few w (suc n) at k =
    let z : at + 3 * 0 ≡ at = omega arith in
    let a = record-short w at (subst (λ (i : ℕ). Known w i) z (k 0 (omega arith))) in
    let b = records-few w n (at + 3) (λ i v. let q : at + 3 * (i + 1) ≡ at + 3 + 3 * i = omega arith in subst (λ (j : ℕ). Known w j) q (k (i + 1) (omega arith))) in
    let c = length-append (record_bytes w at) (records_bytes w (at + 3) n) in
    omega arith

pub bytes-few : (w : List ℕ) (l : Listed) (f : Facts w l) (n : ℕ) (c : n ≡ records l) (b : ℕ) → sized b ≡ measured w 98 n 0 0 → b ≤ 3 * length w
bytes-few w l f n c b e =
    let t = (sized-told w l f n c b e).1 in
    let r = records-few w n 98 (all_known w l f n c) in
    let z = f.ended.there in
    omega arith
