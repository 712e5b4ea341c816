-- An answer in two numbers tells a value from a refusal.
use Rattle.std.proofs.Common.{◌≡◌, ℕ, ◌+◌, Bool, true, false, ltb, leb, List, length, refl, arith, ltb-true, le-leb}
use Rattle.std.specs.Prelude.{Option, Some, None}
use Rattle.terms.specs.declared.Node.{Node}
use Rattle.terms.specs.Mix.{bucket_of}
use Rattle.terms.specs.Store.{kept_of, kept_says, Out, intern_of, by_found, find_of, head_at}

module _ (m : List ℕ) (count : ℕ) (n : Node) where
  -- what is kept of an answer in two numbers tells a value from a refusal, and names the question
  pub kept_read : kept_says (kept_of (intern_of m count n).answer) ≡ (intern_of m count n).answer
  unfolding intern_of
  kept_read = go (leb 32768 (length m)) refl (leb count 4096) refl
    where
      Read : Out → Type 0
      Read o = kept_says (kept_of o.answer) ≡ o.answer

      added : (room : Bool) → ltb count 4096 ≡ room → Read (by_found m count n None)
      added true q = rw (q, le-leb (count + 1) 4096 (omega (arith, ltb-true count 4096 q)))
      added false q = rw q

      walked : leb count 4096 ≡ true → (f : Option ℕ) → Read (by_found m count n f)
      walked e (Some r) = rw e
      walked e None = added (ltb count 4096) refl

      go : (long : Bool) → leb 32768 (length m) ≡ long → (few : Bool) → leb count 4096 ≡ few → Read (intern_of m count n)
      go false p few e = rw p
      go true p false e = rw (p, e)
      go true p true e = rw (p, e) (walked e (find_of m (head_at m (bucket_of n)) count n))
