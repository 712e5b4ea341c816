-- The mask of a comparison, as the code finds it in the words of the left's list.
use Prim.Native.Nat.{ℕ, zero, suc, ◌+◌, ◌-◌, ◌*◌, ◌^◌, ◌≤◌, ◌<◌}
use native.Mathlib.Nat.{pow-succ'}
use native.Mathlib.Omega.{arith}
use mathlib.Core.Path.{◌≡◌, refl, sym, ap, ap₂, ◌∙◌, subst}
use mathlib.Core.List.{List, [], ◌∷◌}
use mathlib.Core.Bool.{Bool, true, false, cond}
use lib.ListN.{length, get_or}
use lib.Dec.{eqb}
use lib.Pow.{pow_pos}
use borrow.Author.Tests.{eq-eqb, ne_eqb}
use Rattle.model.specs.Tables.{Array, array_at}
use Rattle.model.specs.Update.{Listed}
use Rattle.comparer.specs.Match.{out_bits}
use Rattle.comparer.specs.Asked.{Held}
use Rattle.comparer.specs.Headers.{bits_from}
use Rattle.comparer.specs.Laying.{mask_by, Masks}
use Rattle.std.specs.Prelude.{Option, Some, None}
use Rattle.comparer.proofs.ListEntries.{held_heads}

-- the bits of n arrays are below 2 ^ n
bits_below : (list : List ℕ) (a n m : ℕ) → n ≤ m → bits_from list a n < 2 ^ m
unfolding bits_from
bits_below list a zero m h = pow_pos m
bits_below list a (suc n) zero h = absurd (omega arith)
bits_below list a (suc n) (suc m) h = by (eqb (get_or list (18 + 5 * a) 0) 1) (bits_below list (suc a) n m (omega arith)) (pow-succ' 2 m)
  where
    by : (b : Bool) → bits_from list (suc a) n < 2 ^ m → 2 ^ suc m ≡ 2 * 2 ^ m → cond b 1 0 + 2 * bits_from list (suc a) n < 2 ^ suc m
    by true h e = omega arith
    by false h e = omega arith

-- array b before those whose bits are known
bits-step : (list : List ℕ) (n b bits : ℕ) → b < n → bits ≡ bits_from list (suc b) (n - suc b) → cond (eqb (get_or list (18 + 5 * b) 0) 1) 1 0 + 2 * bits ≡ bits_from list b (n - b)
unfolding bits_from
bits-step list n b bits h e =
    let z : n - b ≡ suc (n - suc b) = omega arith in
    ap (λ (x : ℕ). cond (eqb (get_or list (18 + 5 * b) 0) 1) 1 0 + 2 * x) e ∙ ap (bits_from list b) (sym z)

-- the bits of the arrays from number a on, of n
module _ (list : List ℕ) (n a bits : ℕ) (h : a ≤ n) (e : bits ≡ bits_from list a (n - a)) where
  module _ (p : 0 < a) where
    pub bits-room : n ≤ 16 → bits < 32768
    bits-room few = let b = bits_below list a (n - a) 15 (omega arith) in omega arith

    step : cond (eqb (get_or list (18 + 5 * (a - 1)) 0) 1) 1 0 + 2 * bits ≡ bits_from list (a - 1) (n - (a - 1))
    step = let z : a ≡ suc (a - 1) = omega arith in bits-step list n (a - 1) bits (omega arith) (subst (λ (k : ℕ). bits ≡ bits_from list k (n - k)) z e)

    pub bits_out : (next : ℕ) → next ≡ 2 * bits + 1 → get_or list (18 + 5 * (a - 1)) 0 ≡ 1 → next ≡ bits_from list (a - 1) (n - (a - 1))
    bits_out next f r = let s = rw (eq-eqb (get_or list (18 + 5 * (a - 1)) 0) 1 r) at step in omega arith

    pub bits-other : (next : ℕ) → next ≡ 2 * bits → (get_or list (18 + 5 * (a - 1)) 0 ≡ 1 → ⊥) → next ≡ bits_from list (a - 1) (n - (a - 1))
    bits-other next f r = let s = rw (ne_eqb (get_or list (18 + 5 * (a - 1)) 0) 1 r) at step in omega arith

  pub bits_all : a ≤ 0 → bits ≡ bits_from list 0 n
  bits_all z =
      let f : a ≡ 0 = omega arith in
      let g : n - a ≡ n = omega arith in
      e ∙ ap₂ (bits_from list) f g

pub bits_none : (list : List ℕ) (n : ℕ) → 0 ≡ bits_from list n (n - n)
unfolding bits_from
bits_none list n = let z : n - n ≡ 0 = omega arith in ap (bits_from list n) (sym z)

-- and by the tables
bits_are : (list : List ℕ) (k : ℕ) (xs : List Array) → ((i : ℕ) → i < length xs → get_or list (18 + 5 * (k + i)) 0 ≡ (array_at xs i).role) → bits_from list k (length xs) ≡ out_bits xs
unfolding bits_from out_bits
bits_are list k [] h = refl
bits_are list k (x ∷ xs) h =
    let z : k + 0 ≡ k = omega arith in
    let f : get_or list (18 + 5 * k) 0 ≡ x.role = subst (λ (a : ℕ). get_or list (18 + 5 * a) 0 ≡ x.role) z (h 0 (omega arith)) in
    ap₂ (λ (role bits : ℕ). cond (eqb role 1) 1 0 + 2 * bits) f (bits_are list (suc k) xs (λ i l. next i l))
  where
    next : (i : ℕ) → i < length xs → get_or list (18 + 5 * (suc k + i)) 0 ≡ (array_at xs i).role
    next i l = let z : k + suc i ≡ suc k + i = omega arith in subst (λ (a : ℕ). get_or list (18 + 5 * a) 0 ≡ (array_at xs i).role) z (h (suc i) (omega arith))

pub masks_given : (m : Option ℕ) (bits : ℕ) (words : List ℕ) → m ≡ Some bits → Masks m words bits
unfolding Masks
masks_given m bits words e l h = sym (ap (λ (m : Option ℕ). mask_by m l) e)

pub masks_outs : (m : Option ℕ) (bits : ℕ) (words : List ℕ) → m ≡ None → bits ≡ bits_from words 0 (get_or words 17 0) → Masks m words bits
unfolding Masks
masks_outs m bits words o e l h =
    let H = (held_heads h).header in
    e ∙ ap (bits_from words 0) H.count ∙ bits_are words 0 l.tables.arrays (λ i j. first i ∙ (H.array i j).role) ∙ sym (ap (λ (m : Option ℕ). mask_by m l) o)
  where
    first : (i : ℕ) → get_or words (18 + 5 * (0 + i)) 0 ≡ get_or words (18 + 5 * i) 0
    first i = let z : 0 + i ≡ i = omega arith in ap (λ (a : ℕ). get_or words (18 + 5 * a) 0) z

pub masks_are : (m : Option ℕ) (words : List ℕ) (bits : ℕ) → Masks m words bits → (l : Listed) → Held words l → bits ≡ mask_by m l
unfolding Masks
masks_are m words bits e = e
