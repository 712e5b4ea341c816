-- What the entry over lists replies, from what its parts reply.
use Rattle.std.specs.Prelude.{Ok, Err, if◌then◌else◌}
use Prim.Native.Nat.{ℕ, ◌≤◌}
use native.Mathlib.Omega.{arith}
use mathlib.Core.Path.{◌≡◌, refl, sym, ap, ◌∙◌}
use mathlib.Core.Logic.{⊎_elim}
use mathlib.Core.List.{List}
use mathlib.Core.Bool.{Bool, true, false, ◌&&◌}
use mathlib.Core.Option.{some}
use lib.ListN.{length, replicate, length-replicate}
use lib.Dec.{leb, eqb}
use borrow.Author.Tests.{le-leb, leb-true, eqb-true}
use Rattle.model.specs.Update.{Listed}
use Rattle.model.specs.Reply as model
use Rattle.model.specs.Memory.{list_words, cell_words, term_words, cleared, work_left}
use Rattle.unroller.specs.Decode.{decode, accepted}
use Rattle.unroller.specs.CheckAnswers.{checked_says}
use Rattle.std.specs.Prelude.{Result, Ok, Err}
use Rattle.std.specs.Result.{is_ok}
use Rattle.unroller.specs.declared.lists.ListError.{ListError}
use Rattle.unroller.specs.declared.lists.ListError.TheVariants as check
use Rattle.unroller.specs.Unroll as Unroll
use Rattle.unroller.specs.Unroll.{check_reply}
use Rattle.unroller.proofs.Parts as parts
use Rattle.unroller.proofs.Laws.{accepted-words, refused-words}
use Rattle.unroller.proofs.Stands.{stands}
use Rattle.unroller.proofs.Inverse.{layout-decode}
use Rattle.comparer.specs.Match.{same_array, non_local, same_table, matched, lists_reply}
use Rattle.comparer.specs.Matching.{Matches}
use Rattle.comparer.specs.Answers.{reply_says}
use Rattle.comparer.specs.Asked.{Held, Asked}
use Rattle.comparer.specs.Entry.{enough, decoded_reply, words_reply}
use Rattle.comparer.specs.Headers.{Heads, Counted, tables_reply, TablesTell}
use Rattle.comparer.specs.declared.reply.Reply.{Reply}
use Rattle.comparer.specs.declared.reply.Reply.TheVariants as reply
use Rattle.comparer.specs.declared.reply.Side.TheVariants as side
use Rattle.comparer.specs.declared.tables.Unequal.TheVariants as unequal
use Rattle.comparer.proofs.SameTables.{same_array_sound, tables_cases}
use Rattle.comparer.proofs.Headers.{counted}

-- 25
module _ (left right cells terms : ℕ) where
  pub long : enough left right cells terms ≡ true → (list_words ≤ left) × (list_words ≤ right) × (cell_words ≤ cells) × (term_words ≤ terms)
  long e =
      let a = parts.both (leb list_words left) (leb list_words right && (leb cell_words cells && leb term_words terms)) e in
      let b = parts.both (leb list_words right) (leb cell_words cells && leb term_words terms) a.1 in
      let d = parts.both (leb cell_words cells) (leb term_words terms) b.1 in
      (leb-true list_words left a.0, leb-true list_words right b.0, leb-true cell_words cells d.0, leb-true term_words terms d.1)

-- work memory
pub cleared_same : (m n : List ℕ) → length n ≡ length m → cleared n ≡ cleared m
cleared_same m n e = ap (λ (k : ℕ). replicate k 0) e

-- 26
module _ (w : List ℕ) where
  -- the check of a list that is long enough for 25
  module _ (h : list_words ≤ length w) where
    check_is : (b : Bool) → accepted w ≡ b → check_reply w ≡ (if b then Unroll.accepts else Unroll.refuses model.left 26 0)
    unfolding check_reply
    check_is b e = rw (le-leb list_words (length w) h, e)

    pub says-accepted : Unroll.accepts ≡ check_reply w → true ≡ accepted w
    says-accepted e = by (accepted w) refl
      where
        by : (b : Bool) → accepted w ≡ b → true ≡ accepted w
        by true f = sym f
        by false f = absurd (let g = check_is false f in let z : ◌≡◌ {A = ℕ} 0 1 = cc in omega arith)

    pub says-refused : (k : ℕ) (s : model.Side) → Unroll.refuses s k 0 ≡ check_reply w → false ≡ accepted w
    says-refused k s e = by (accepted w) refl
      where
        by : (b : Bool) → accepted w ≡ b → false ≡ accepted w
        by true f = absurd (let g = check_is true f in let z : ◌≡◌ {A = ℕ} 0 1 = cc in omega arith)
        by false f = sym f

    pub says-ok : (r : Result (Unit {0}) ListError) → checked_says r ≡ check_reply w → is_ok r ≡ accepted w
    says-ok (Ok x) e = says-accepted e
    says-ok (Err check.Refused) e = says-refused 26 model.left e
    says-ok (Err check.Short) e = says-refused 25 model.both e

  pub decoded_held : (l : Listed) → decode w ≡ some l → Held w l
  decoded_held l e = record { stands = stands w l e; allows = (layout-decode w l e).1 }

pub held_heads : {w : List ℕ} {l : Listed} → Held w l → Heads w l.tables
held_heads {w} {l} h = record { header = h.stands.header; allows = parts.tables-whole l.tables (parts.list-parts l h.allows).tables-allowed }

pub held-counted : {w : List ℕ} {l : Listed} → Held w l → Counted w
held-counted {w} {l} h = counted w l.tables (held_heads h)

pub accepted-counted : (w : List ℕ) → accepted w ≡ true → Counted w
accepted-counted w e = let x = accepted-words w e in held-counted (decoded_held w x.0 x.1)

-- 22 to 24
module _ (left right : List ℕ) (mask : ℕ) (cells terms : List ℕ) where
  pub asked_arrays : (a : ℕ) → TablesTell left right (Err (unequal.Arrays a)) → Asked left right mask cells terms (reply.Refused side.Both 22 a)
  unfolding Asked TablesTell lists_reply
  asked_arrays a t l r h g room = sym (t l.tables r.tables (held_heads h) (held_heads g) (matched mask l r))

  pub asked_operators : (o : ℕ) → TablesTell left right (Err (unequal.Operators o)) → Asked left right mask cells terms (reply.Refused side.Both 23 o)
  unfolding Asked TablesTell lists_reply
  asked_operators o t l r h g room = sym (t l.tables r.tables (held_heads h) (held_heads g) (matched mask l r))

  -- where the tables agree, the non-local arrays are the same
  same_arrays : TablesTell left right (Ok tt) → (l r : Listed) → Held left l → Held right r → non_local l.tables.arrays ≡ non_local r.tables.arrays
  unfolding TablesTell
  same_arrays t l r h g =
      ⊎_elim (λ p. p.0) (λ p. absurd (apart p.0 (sym (t l.tables r.tables (held_heads h) (held_heads g) (model.equal 0)) ∙ p.1)))
      (tables_cases same_array same_array_sound 22 (same_table eqb 23 (model.equal 0) 0 l.tables.operators r.tables.operators) 0 (non_local l.tables.arrays) (non_local r.tables.arrays))
    where
      apart : (j : ℕ) → model.equal 0 ≡ model.refused model.both 22 j → ⊥
      apart j e = let z : ◌≡◌ {A = ℕ} 0 1 = cc in omega arith

  -- and so are the operators, marks included
  same_operators : TablesTell left right (Ok tt) → (l r : Listed) → Held left l → Held right r → l.tables.operators ≡ r.tables.operators
  unfolding TablesTell
  same_operators t l r h g =
      ⊎_elim (λ p. p.0) (λ p. absurd (apart p.0 (sym (t l.tables r.tables (held_heads h) (held_heads g) (model.equal 0)) ∙ arrays ∙ p.1)))
      (tables_cases eqb eqb-true 23 (model.equal 0) 0 l.tables.operators r.tables.operators)
    where
      apart : (j : ℕ) → model.equal 0 ≡ model.refused model.both 23 j → ⊥
      apart j e = let z : ◌≡◌ {A = ℕ} 0 1 = cc in omega arith

      arrays : tables_reply (model.equal 0) l.tables r.tables ≡ same_table eqb 23 (model.equal 0) 0 l.tables.operators r.tables.operators
      arrays =
          ⊎_elim (λ p. p.1) (λ p. absurd (other p.0 (sym (t l.tables r.tables (held_heads h) (held_heads g) (model.equal 0)) ∙ p.1)))
          (tables_cases same_array same_array_sound 22 (same_table eqb 23 (model.equal 0) 0 l.tables.operators r.tables.operators) 0 (non_local l.tables.arrays) (non_local r.tables.arrays))
        where
          other : (j : ℕ) → model.equal 0 ≡ model.refused model.both 22 j → ⊥
          other j e = let z : ◌≡◌ {A = ℕ} 0 1 = cc in omega arith

  pub asked_match : (c t : List ℕ) (r : Reply) → TablesTell left right (Ok tt) → c ≡ cleared cells → t ≡ cleared terms → Matches left right mask c t r → Asked left right mask cells terms r
  unfolding Asked TablesTell Matches lists_reply
  asked_match c t r tell e f m x y h g room =
      let p : length c ≡ length cells = ap length e ∙ length-replicate (length cells) 0 in
      let q : length t ≡ length terms = ap length f ∙ length-replicate (length terms) 0 in
      let a = room.for_cells in
      let b = room.for_terms in
      m x y h.stands g.stands h.allows g.allows (same_arrays tell x y h g) (same_operators tell x y h g) (omega arith) (omega arith)
      (e ∙ sym (cleared_same cells c p)) (f ∙ sym (cleared_same terms t q))
      ∙ sym (tell x.tables y.tables (held_heads h) (held_heads g) (matched mask x y))

-- the list entry
module _ (mask : ℕ) (left right : List ℕ) where
  pub left_refused : accepted left ≡ false → model.refused model.left 26 0 ≡ decoded_reply mask (decode left) (decode right)
  left_refused e = rw (refused-words left e)

  pub right_refused : accepted left ≡ true → accepted right ≡ false → model.refused model.right 26 0 ≡ decoded_reply mask (decode left) (decode right)
  right_refused e f = rw ((accepted-words left e).1, refused-words right f)

  pub both-accepted : (cells terms : List ℕ) (r : Reply) → accepted left ≡ true → accepted right ≡ true → enough (length left) (length right) (length cells) (length terms) ≡ true → Asked left right mask cells terms r
      → reply_says r ≡ decoded_reply mask (decode left) (decode right)
  unfolding Asked
  both-accepted cells terms r e f en a =
      let x = accepted-words left e in
      let y = accepted-words right f in
      let n = long (length left) (length right) (length cells) (length terms) en in
      rw (x.1, y.1) (a x.0 y.0 (decoded_held left x.0 x.1) (decoded_held right y.0 y.1) (record { for_cells = n.2; for_terms = n.3 }))

  pub words-short : (cells terms : ℕ) → enough (length left) (length right) cells terms ≡ false → model.refused model.both 25 0 ≡ words_reply mask left right cells terms
  unfolding words_reply
  words-short cells terms e = rw e

  pub words_long : (cells terms : ℕ) (r : model.Reply) → enough (length left) (length right) cells terms ≡ true → r ≡ decoded_reply mask (decode left) (decode right) → r ≡ words_reply mask left right cells terms
  unfolding words_reply
  words_long cells terms r e f = rw e f

pub work_kept : (b : Bool) (m : List ℕ) → b ≡ false → m ≡ work_left b m
work_kept b m e = rw e

pub work_cleared : (b : Bool) (m n k : List ℕ) → b ≡ true → length n ≡ length m → k ≡ cleared n → k ≡ work_left b m
work_cleared b m n k e l f = rw e (f ∙ cleared_same m n l)
