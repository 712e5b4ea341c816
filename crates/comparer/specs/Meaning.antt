-- Meanings, contents, and what a list of updates leaves (docs/FORMAT.md, "The match" and "The reordering rule").
use Rattle.std.specs.Prelude.{ℕ, ◌≡◌, List, [], ◌∷◌, Bool, true, cond, ℤ}
use Rattle.model.specs.Update.{Tree, Trees, Update, writes}
use Rattle.model.specs.Update.Tree.{cell, number, constant, operator}
use Rattle.model.specs.Update.Trees.{nil, cons}

-- A meaning: any set of values, a function to each operator, a value to each literal and constant.
pub record Meaning (S : Type 0) : Type 0 where
  pub operate : ℕ → List S → S
  pub literal : ℤ → S
  pub named : ℕ → S

-- each operator that may swap gives the same result for both orders of its arguments
abbrev pub Respects : {S : Type 0} → (ℕ → Bool) → Meaning S → Type 0
Respects {S} swaps m = (o : ℕ) → swaps o ≡ true → (x y : S) → m.operate o (x ∷ y ∷ []) ≡ m.operate o (y ∷ x ∷ [])

-- what each cell of each array holds
abbrev pub Content : Type 0 → Type 0
Content S = ℕ → ℕ → S

module _ {S : Type 0} (m : Meaning S) where
  -- the value of an expression; a read is what its cell holds at that moment
  unfoldable mutual
    pub value_of : Tree → Content S → S
    value_of (cell a c) h = h a c
    value_of (number z) h = m.literal z
    value_of (constant n) h = m.named n
    value_of (operator o ts) h = m.operate o (values_of ts h)

    pub values_of : Trees → Content S → List S
    values_of nil h = []
    values_of (cons t ts) h = value_of t h ∷ values_of ts h

  -- the target takes the value of the expression
  abbrev pub updated : Content S → Update → Content S
  updated h u a c = cond (writes u a c) (value_of u.source h) (h a c)

  -- update by update
  abbrev pub after : List Update → Content S → Content S
  after [] h = h
  after (u ∷ us) h = after us (updated h u)

abbrev pub trees_of : List Tree → Trees
trees_of [] = nil
trees_of (t ∷ ts) = cons t (trees_of ts)

-- the meaning whose values are terms: a value is its own expression
abbrev pub free : Meaning Tree
free = record { operate = λ o ts. operator o (trees_of ts); literal = number; named = constant }

-- the terms that the updates write, in order
abbrev pub values : List Update → Content Tree → List Tree
values [] h = []
values (u ∷ us) h = value_of free u.source h ∷ values us (updated free h u)
