-- One update, and the updates as a loop takes them.
use mathlib.Core.Path.{◌≡◌, refl, sym, ap, ◌∙◌, subst}
use Prim.Native.Nat.{ℕ, zero, suc, ◌+◌, ◌-◌, ◌*◌, ◌/◌, ◌<◌, ◌≤◌}
use mathlib.Core.List.{List, [], ◌∷◌, ◌++◌}
use mathlib.Core.Bool.{Bool, true, false}
use Rattle.std.specs.Prelude.{Some, None}
use native.Mathlib.Omega.{arith}
use lib.ListN.{length, get_or, drop, set, length-set}
use borrow.Author.Tests.{lt-leb, le-leb, ne_eqb}
use Rattle.model.specs.Tables.{Tables}
use Rattle.model.specs.Update.{Tree, size, nodes, Update}
use Rattle.unroller.specs.Words.{Out, got, none, is_got, all_zero}
use Rattle.unroller.specs.Allowed.{may_write}
use Rattle.unroller.specs.Decode.{may_read, expr, update, updates}
use Rattle.unroller.specs.State.{State, Small, readable_in, writable_in}
use Rattle.unroller.specs.CheckAnswers.{answer_of, Reads, Updates, Follow}
use Rattle.unroller.proofs.Parts.{nodes_snoc}
use Rattle.unroller.proofs.CheckWords.{at_three, few}
use Rattle.unroller.proofs.CheckTrees.{answer-got}
use Rattle.unroller.proofs.CheckCells.{reads_same, writes_same, state_marked}

module _ (ops : List ℕ) (writes reads : ℕ → ℕ → Bool) (count : ℕ) (s : List ℕ) (at : ℕ) where
  update-few : (l : List ℕ) → length l < 3 → update ops writes reads count l ≡ none
  unfolding update
  update-few [] h = refl
  update-few (a ∷ []) h = refl
  update-few (a ∷ b ∷ []) h = refl
  update-few (a ∷ b ∷ c ∷ l) h = absurd (omega arith)

  pub up-few : length s < at + 3 → update ops writes reads count (drop at s) ≡ none
  up-few h = update-few (drop at s) (few s at h)

  module _ (h : at + 3 ≤ length s) where
    pub up-code : (get_or s at 0 ≡ 1 → ⊥) → update ops writes reads count (drop at s) ≡ none
    unfolding update
    up-code e = rw (at_three s at h, ne_eqb _ _ e)

    module _ (e : get_or s at 0 ≡ 1) where
      pub up-target : writes (get_or s (at + 1) 0) (get_or s (at + 2) 0) ≡ false → update ops writes reads count (drop at s) ≡ none
      unfolding update
      up-target w = rw (at_three s at h, e, w)

      module _ (w : writes (get_or s (at + 1) 0) (get_or s (at + 2) 0) ≡ true) where
        pub up-expr : (next : ℕ) → next ≡ 0 → Reads s (at + 3) (expr ops reads 12 (drop (at + 3) s)) (answer_of next) → update ops writes reads count (drop at s) ≡ none
        unfolding update
        up-expr zero f r = rw (at_three s at h, e, w, r)
        up-expr (suc n) f r = absurd (omega arith)

        module _ (t : Tree) (next : ℕ) (r : expr ops reads 12 (drop (at + 3) s) ≡ got t (drop next s)) where
          pub up-nodes : 8192 < count + size t → update ops writes reads count (drop at s) ≡ none
          unfolding update
          up-nodes l = rw (at_three s at h, e, w, r, lt-leb (count + size t) 8192 l)

          pub up_all : count + size t ≤ 8192 → update ops writes reads count (drop at s) ≡ got (record { array = get_or s (at + 1) 0; target = get_or s (at + 2) 0; source = t }) (drop next s)
          unfolding update
          up_all l = rw (at_three s at h, e, w, r, le-leb (count + size t) 8192 l)

-- the tree that was read, and its size from its words
pub read-tree : (s : List ℕ) (from : ℕ) (o : Out Tree) (next : ℕ) → 0 < next → Reads s from o (answer_of next) →
    (t : Tree) × (o ≡ got t (drop next s)) × (next ≡ from + 3 * size t)
read-tree s from o next h r = rw (answer-got next h) at r

pub third : (from next n : ℕ) → next ≡ from + 3 * n → (next - from) / 3 ≡ n
third from next n e = omega arith

-- updates
module _ (t : Tables) (before : List Update) (w : List ℕ) where
  ups_end : (left : ℕ) → all_zero w ≡ true → is_got (updates t left before w) ≡ true
  unfolding updates
  ups_end zero z = rw z
  ups_end (suc left) z = rw z

  ups_full : (left : ℕ) → all_zero w ≡ false → left ≡ 0 → updates t left before w ≡ none
  unfolding updates
  ups_full zero z e = rw z
  ups_full (suc left) z e = absurd (omega arith)

  module _ (z : all_zero w ≡ false) (o : Out Update) (e : update t.operators (may_write t.arrays) (may_read t.arrays before) (nodes before) w ≡ o) where
    ups_stop : (left : ℕ) → o ≡ none → updates t left before w ≡ none
    unfolding updates
    ups_stop zero q = rw z
    ups_stop (suc left) q = rw (z, e, q)

    ups_step : (left m : ℕ) (u : Update) (v : List ℕ) → left ≡ suc m → o ≡ got u v → updates t left before w ≡ updates t m (before ++ (u ∷ [])) v
    unfolding updates
    ups_step left m u v l q = rw (l, z, e, q)

same_update : (t : Tables) (ops : List ℕ) (before : List Update) (st : List ℕ) (count : ℕ) (w : List ℕ) → t.operators ≡ ops → Small t.arrays → State t.arrays before st →
    count ≡ nodes before → update t.operators (may_write t.arrays) (may_read t.arrays before) (nodes before) w ≡ update ops (writable_in st) (readable_in st) count w
same_update t ops before st count w a small state c =
    λ i. update (a i) (writes_same t.arrays before st small state i) (reads_same t.arrays before st small state i) (sym c i) w

-- the updates before `at` are read, and what follows decides
pub record Going (s ops st₀ st : List ℕ) (at left count : ℕ) : Type 0 where
  pub before : List Update
  pub counted : count ≡ nodes before
  pub same : (t : Tables) → t.operators ≡ ops → Small t.arrays → State t.arrays [] st₀ → (State t.arrays before st) × (updates t left before (drop at s) ≡ updates t 2048 [] (drop 98 s))

pub going_start : (s ops st : List ℕ) → Going s ops st st 98 2048 0
going_start s ops st = record { before = []; counted = refl; same = λ t a m z. (z, refl) }

module _ (s ops st₀ st : List ℕ) (at left count : ℕ) (g : Going s ops st₀ st at left count) where
  pub going_end : all_zero (drop at s) ≡ true → Follow s ops st₀ true
  going_end z t a m x = sym (ap is_got (sym (g.same t a m x).1) ∙ ups_end t g.before (drop at s) left z)

  -- behind the last update that there may be
  pub going_last : left ≡ 0 → (r : Bool) → r ≡ all_zero (drop at s) → Follow s ops st₀ r
  going_last e true z = going_end (sym z)
  going_last e false z = λ t a m x. sym (ap is_got (sym (g.same t a m x).1 ∙ ups_full t g.before (drop at s) left (sym z) e))

  pub going_stop : (st' : List ℕ) → all_zero (drop at s) ≡ false → Updates s at ops st count st' None → Follow s ops st₀ false
  going_stop st' z p t a m x =
      sym (ap is_got (sym (g.same t a m x).1 ∙ ups_stop t g.before (drop at s) z _ (same_update t ops g.before st count (drop at s) a m (g.same t a m x).0 g.counted) left p))

  pub going_step : (st' : List ℕ) (next n m : ℕ) → all_zero (drop at s) ≡ false → Updates s at ops st count st' (Some (next, n)) → left ≡ suc m →
      Going s ops st₀ st' next m n
  going_step st' next n m z p l =
      let u = p.0 in
      record {
        before = g.before ++ (u ∷ []);
        counted = p.2 ∙ ap (λ (k : ℕ). k + size u.source) g.counted ∙ sym (nodes_snoc g.before u);
        same = λ t a sm x.
            let y = g.same t a sm x in (
              subst (λ (l : List ℕ). State t.arrays (g.before ++ (u ∷ [])) l) (sym p.5) (state_marked t.arrays g.before st sm y.0 u p.4),
              sym (ups_step t g.before (drop at s) z _ (same_update t ops g.before st count (drop at s) a sm y.0 g.counted) left m u (drop next s) l p.1) ∙ y.1,
            );
      }

pub marked_length : (st : List ℕ) (k : ℕ) (st' : List ℕ) → st' ≡ set st k 2 → length st ≡ 32768 → length st' ≡ 32768
marked_length st k st' e l = ap length e ∙ length-set st k 2 ∙ l
