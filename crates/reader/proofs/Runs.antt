-- Steps of the proofs about items.
use mathlib.Core.Path.{◌≡◌, refl, sym}
use Prim.Native.Nat.{ℕ, zero, suc, ◌+◌, ◌-◌, ◌≤◌, ◌<◌}
use mathlib.Core.List.{List}
use native.Mathlib.Omega.{arith}
use native.Mathlib.Numerals.{unary_clauses, add-one}
use lib.ListN.{length, get_or}
use borrow.Author.Tests.{ne_eqb, eq-eqb}
use Rattle.std.specs.Prelude.{Result, Ok, Err}
use Rattle.model.specs.Tables.{Tables}
use Rattle.model.specs.Questions.{number_of}
use Rattle.model.specs.declared.question.Refusal.{Refusal}
use Rattle.reader.specs.Field.{got, no, Reader, byte}
use Rattle.reader.specs.Syntax.{Item, Items}
use Rattle.reader.specs.Grammar.{loop_of, guard_of, items, nested, body}
use Rattle.reader.specs.Answers.{ended, place_says}
use Rattle.reader.specs.Entries.{continued}
use Rattle.reader.proofs.Bytes.{byte_is, byte-not}
use Rattle.reader.proofs.Steps.{ended-got, ended_no, refused, made, step, stop, kept}

-- a run of items, as a loop takes them: those that are left have the answer of all
module _ (one : ℕ → ℕ → Reader Item) (s : List ℕ) where
  pub run_end : (most at : ℕ) → length s ≤ at → no 3 at ≡ ended (items one most s at)
  unfolding items
  run_end zero at h = refused _ refl
  run_end (suc most) at h = stop ended (byte s at) _ (sym (byte-not s at h)) (refused _ refl)

  pub run_close : (most at : ℕ) → at < length s → length s ≤ at + most → get_or s at 0 ≡ 0 → got 0 (at + 1) ≡ ended (items one most s at)
  unfolding items
  run_close zero at h w e = absurd (omega arith)
  run_close (suc most) at h w e = step ended (byte s at) _ (sym (byte_is s at h)) (rw (eq-eqb (get_or s at 0) 0 e) (made _ refl))

  module _ (at : ℕ) (h : at < length s) (e : get_or s at 0 ≡ 0 → ⊥) {r : Result ℕ Refusal} (k : place_says r ≡ ended (one (get_or s at 0) at s (at + 1))) where
    pub run_stop : (most : ℕ) {f : Refusal} → length s ≤ at + most → r ≡ Err f → no (number_of f.question) f.place ≡ ended (items one most s at)
    unfolding items
    run_stop zero w v = absurd (omega arith)
    run_stop (suc most) w v = step ended (byte s at) _ (sym (byte_is s at h)) (rw (ne_eqb (get_or s at 0) 0 e, ended_no (one (get_or s at 0) at s (at + 1)) k v) (refused _ refl))

    pub run_step : (most : ℕ) {next : ℕ} → length s ≤ at + most → r ≡ Ok next → ended (items one (most - 1) s next) ≡ ended (items one most s at)
    unfolding items
    run_step zero w v = absurd (omega arith)
    run_step (suc most) {next} w v =
        simp unary_clauses
        (step ended (byte s at) _ (sym (byte_is s at h))
        (rw (ne_eqb (get_or s at 0) 0 e, (ended-got (one (get_or s at 0) at s (at + 1)) k v).1) (kept (items one most s next) _)))

-- a loop or a guard, and its own items
module _ (t : Tables) (most loops code p at : ℕ) (s : List ℕ) where
  pub loop_is : (left : ℕ) → (left ≡ 0 → ⊥) → code ≡ 2 → (r : Result ℕ Refusal) → ((own : Reader Items) (p : ℕ) → continued r (λ next. ended (own s next)) ≡ ended (loop_of loops own p s at)) →
      continued r (λ next. ended (body t most (left - 1) (loops + 1) s next)) ≡ ended (nested t most left loops code p s at)
  unfolding nested body
  loop_is zero w e r k = absurd (w refl)
  loop_is (suc left) w e r k = rw (eq-eqb code 2 e) (simp (unary_clauses, add-one) (k _ p))

  pub guard_is : (left : ℕ) → (left ≡ 0 → ⊥) → (code ≡ 2 → ⊥) → nested t most left loops code p s at ≡ guard_of loops (body t most (left - 1) loops) p s at
  unfolding nested body
  guard_is zero w e = absurd (w refl)
  guard_is (suc left) w e = rw (ne_eqb code 2 e) (simp unary_clauses)
