-- The whole list.
use mathlib.Core.Path.{◌≡◌, refl, sym, ap, ◌∙◌}
use Prim.Native.Nat.{ℕ, zero, suc, ◌+◌, ◌-◌, ◌<◌, ◌≤◌}
use mathlib.Core.List.{List, []}
use mathlib.Core.Bool.{Bool, true, false}
use native.Mathlib.Omega.{arith}
use lib.ListN.{length, get_or, take, drop, replicate, length-replicate}
use borrow.Author.Tests.{lt-leb, le-leb}
use Rattle.unroller.specs.Words.{Out, got, none, and_then, is_got}
use Rattle.unroller.specs.Decode.{tables, updates, list, accepted as question}
use Rattle.unroller.specs.Unroll.{check_reply}
use Rattle.unroller.specs.CheckAnswers.{checked_says, Header, Follow}
use Rattle.std.specs.Prelude.{Ok, Err}
use Rattle.unroller.specs.declared.lists.ListError.TheVariants.{Refused, Short}

pub whole_none : (s : List ℕ) (r : Bool) → r ≡ false → tables s ≡ none → r ≡ question s
unfolding list question
whole_none s r e h = e ∙ rw h

got_then : {A B : Type 0} (o : Out A) (f : A → B) → is_got o ≡ is_got (and_then o (λ a rest. got (f a) rest))
got_then (got a rest) f = refl
got_then none f = refl

pub whole_all : (s st : List ℕ) (r : Bool) → Header s st true → Follow s (take (get_or s 0 0 + 1 - 1) (drop 1 s)) st r → r ≡ question s
unfolding list question
whole_all s st r (t, e, b, a, m, z) f = let o : get_or s 0 0 + 1 - 1 ≡ get_or s 0 0 = omega arith in rw e (f t (a ∙ ap (λ (k : ℕ). take k (drop 1 s)) (sym o)) m z ∙ got_then (updates t 2048 [] (drop 98 s)) (λ us. record { tables = t; updates = us }))

pub short : (s : List ℕ) → length s < 32768 → checked_says (Err Short) ≡ check_reply s
unfolding check_reply
short s h = rw (lt-leb 32768 (length s) h)

pub accepted : (s : List ℕ) (r : Bool) → 32768 ≤ length s → r ≡ true → r ≡ question s → checked_says (Ok tt) ≡ check_reply s
unfolding check_reply
accepted s r h e f = rw (le-leb 32768 (length s) h, ← f, e)

pub refused : (s : List ℕ) (r : Bool) → 32768 ≤ length s → r ≡ false → r ≡ question s → checked_says (Err Refused) ≡ check_reply s
unfolding check_reply
refused s r h e f = rw (le-leb 32768 (length s) h, ← f, e)

pub zero-array : (n : ℕ) → (length {A = ℕ} (replicate n 0) ≡ n) × ((i : ℕ) → get_or {A = ℕ} (replicate n 0) i 0 ≡ 0)
zero-array n = (length-replicate n 0, all n)
  where
    all : (n i : ℕ) → get_or {A = ℕ} (replicate n 0) i 0 ≡ 0
    all zero i = refl
    all (suc n) zero = refl
    all (suc n) (suc i) = all n i
