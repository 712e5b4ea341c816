-- How many terms a store holds, and how many there are: question 24.
use Rattle.std.proofs.Common.{◌≡◌, ℕ, ◌<◌, ◌≤◌, Bool, ◌⊎◌, List, [], length, ◌∙◌, ⊎_elim, arith}
use Rattle.model.specs.Update.{Tree}
use Rattle.terms.specs.Term.{distinct, parts_of_all, term_count}
use Rattle.terms.specs.Stored.{In, Once, Stored, Over, Outcome, full, fine}
use Rattle.terms.proofs.Count.{count_of, count_over}
use Rattle.terms.proofs.Sets.{in_none}
use Rattle.terms.proofs.Members.{same_members, once-nodup}
use Rattle.terms.proofs.Laws.{counted}

module _ (swaps : ℕ → Bool) where
  -- different trees, those of a list and no others
  pub number_is : (ts l : List Tree) → Once swaps ts → ((x : Tree) → In swaps x ts → In swaps x l) → ((x : Tree) → In swaps x l → In swaps x ts) → length ts ≡ length (distinct swaps l)
  number_is ts l o f g = count_of swaps ts l (once-nodup swaps ts o) (same_members swaps ts l f g)

  pub number_over : (ts vs l : List Tree) → Over swaps ts vs → ((x : Tree) → In swaps x ts ⊎ In swaps x vs → In swaps x l) → 4096 < length (distinct swaps l)
  number_over ts vs l o f =
      let p : length o.these ≤ length (distinct swaps l) =
      count_over swaps o.these l (once-nodup swaps o.these o.once) (λ x e. f x (o.among x e)) in
      omega (arith, o.many)

  module _ (values : List Tree) where
    -- a store of the parts of these values, and of nothing else, has as many terms as there are
    pub count_is : (m : List ℕ) (count : ℕ) (ts : List Tree) → Stored swaps m count ts
        → ((x : Tree) → In swaps x ts → In swaps x (parts_of_all values)) → ((x : Tree) → In swaps x (parts_of_all values) → In swaps x ts) → count ≡ term_count swaps values
    unfolding term_count
    count_is m count ts S f g = counted swaps m count ts S ∙ number_is ts (parts_of_all values) S.known.once f g

    only : (x : Tree) → In swaps x [] ⊎ In swaps x (parts_of_all values) → In swaps x (parts_of_all values)
    only x h = ⊎_elim (λ (e : In swaps x []). absurd (in_none swaps x e)) (λ (e : In swaps x (parts_of_all values)). e) h

    -- where these values were put into an empty store: the count is right, or there are too many
    module _ (m : List ℕ) (count : ℕ) (P : List Tree → Type 0) where
      pub count_right : Outcome swaps [] (parts_of_all values) m count P → count ≤ 4096 → count ≡ term_count swaps values
      count_right (full k o) l = absurd (omega arith)
      count_right (fine us S G p) l = count_is m count us S (λ x h. only x (G.only x h)) G.all

      pub too_many : Outcome swaps [] (parts_of_all values) m count P → 4096 < count → 4096 < term_count swaps values
      unfolding term_count
      too_many (full k o) l = number_over [] (parts_of_all values) (parts_of_all values) o only
      too_many (fine us S G p) l = absurd (omega (arith, S.held.room))

      -- full was answered exactly where more than 4,096 different terms occur
      pub full_exactly : Outcome swaps [] (parts_of_all values) m count P → (4096 < count → 4096 < term_count swaps values) × (4096 < term_count swaps values → 4096 < count)
      full_exactly O = (too_many O, back O)
        where
          back : Outcome swaps [] (parts_of_all values) m count P → 4096 < term_count swaps values → 4096 < count
          back (full k o) l = k
          back (fine us S G p) l = let e : count ≡ term_count swaps values = count_is m count us S (λ x h. only x (G.only x h)) G.all in omega arith
