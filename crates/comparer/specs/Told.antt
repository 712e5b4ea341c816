-- What a reply that is no refusal says (demand 2), over every starting content and every meaning that respects the marks.
use Rattle.std.specs.Prelude.{ℕ, ◌<◌, ◌≡◌, ◌⊎◌, ◌↔◌, List, true, ◌&&◌, cond}
use Rattle.model.specs.Test.{total}
use Rattle.model.specs.Tables.{Array, cells, array_at, starts, inside}
use Rattle.model.specs.Update.{Listed}
use Rattle.model.specs.Reply.{Reply, equal, differs}
use Rattle.comparer.specs.Meaning.{Meaning, Respects, Content, after}
use Rattle.comparer.specs.Match.{compared, compared_size, out, swapping}

-- cell e of array a is compared
abbrev pub Compared : ℕ → Listed → ℕ → ℕ → Type 0
Compared mask l a e = (compared mask a (array_at l.tables.arrays a) && inside l.tables.arrays a e) ≡ true

-- cell e of array a is an element of an out array
abbrev pub OutElement : Listed → ℕ → ℕ → Type 0
OutElement l a e = (out (array_at l.tables.arrays a) && inside l.tables.arrays a e) ≡ true

-- the sum of the sizes of the out arrays
abbrev pub out_size : List Array → ℕ
out_size = total (λ (x : Array). cond (out x) (cells x.extents) 0)

-- two starting contents, one for each side, the same on all in and inout arrays; of out and local arrays each side has contents of its own
abbrev pub Shared : {S : Type 0} → Listed → Content S → Content S → Type 0
Shared l h k = (a c : ℕ) → starts (array_at l.tables.arrays a) ≡ true → h a c ≡ k a c

-- For every starting content, and every meaning in which each operator that may swap gives the same result for both orders of its arguments,
-- both sides leave the same value in this element.
abbrev pub Agree : Listed → Listed → ℕ → ℕ → Type 1
Agree l r a e = (S : Type 0) (m : Meaning S) → Respects (swapping l) m → (h k : Content S) → Shared l h k → after m l.updates h a e ≡ after m r.updates k a e

-- some content, and some meaning of that kind, tell the sides apart at this element
pub record Apart (l r : Listed) (a e : ℕ) : Type 1 where
  pub S : Type 0
  pub meaning : Meaning S
  pub respects : Respects (swapping l) meaning
  pub one : Content S
  pub other : Content S
  pub shared : Shared l one other
  pub apart : after meaning l.updates one a e ≡ after meaning r.updates other a e → ⊥

-- by array number, then cell number
abbrev pub Earlier : ℕ → ℕ → ℕ → ℕ → Type 0
Earlier b d a e = (b < a) ⊎ ((b ≡ a) × (d < e))

-- the first of these elements that some content and meaning of that kind tell apart
abbrev pub FirstApart : (ℕ → ℕ → Type 0) → Listed → Listed → ℕ → ℕ → Type 1
FirstApart Element l r a e = Element a e × Apart l r a e × ((b d : ℕ) → Element b d → Earlier b d a e → Agree l r b d)

-- over these elements, so many: "equal" exactly where all of them agree, with their number; "differs" exactly at the first that does not
pub record ToldOver (size : ℕ) (Element : ℕ → ℕ → Type 0) (l r : Listed) (reply : Reply) : Type 1 where
  pub same : (n : ℕ) → (reply ≡ equal n) ↔ ((n ≡ size) × ((a e : ℕ) → Element a e → Agree l r a e))
  pub other : (a e : ℕ) → (reply ≡ differs a e) ↔ FirstApart Element l r a e

-- over the elements compared under a mask
abbrev pub Told : ℕ → Listed → Listed → Reply → Type 1
Told mask l r = ToldOver (compared_size mask 0 l.tables.arrays) (Compared mask l) l r

-- over the elements of the out arrays
abbrev pub ToldOut : Listed → Listed → Reply → Type 1
ToldOut l r = ToldOver (out_size l.tables.arrays) (OutElement l) l r
