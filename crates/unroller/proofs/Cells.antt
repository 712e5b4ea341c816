-- Cells by their subscripts, as the code works them out.
use Rattle.std.specs.Prelude.{Result, Ok, Err}
use Rattle.model.specs.Questions.{number_of}
use Rattle.model.specs.declared.question.Refusal.{Refusal}
use mathlib.Core.Path.{◌≡◌, refl, sym, ap, ◌∙◌, subst}
use Prim.Native.Nat.{ℕ, zero, suc, ◌+◌, ◌*◌, ◌≤◌, ◌<◌}
use native.Mathlib.Omega.{arith}
use native.Mathlib.Numerals.{add-one}
use native.Mathlib.Nat.{mul-le-mul, add-mul}
use mathlib.Core.List.{List, [], ◌∷◌}
use mathlib.Core.Bool.{true, false, false≢true}
use mathlib.Core.Logic.{◌⊎◌, inl, inr}
use lib.ListN.{length, get_or, drop, take, length-drop}
use lib.Seq.{drop-cons}
use lib.IntN.{ℤ, pos, negsuc, nat_abs}
use lib.Signed.{le_z, lt_z}
use borrow.Author.Tests.{ltb-true, lt-ltb, le-ltb, leb-true, leb-false}
use mir.Syntax.{w32}
use mir.Val.{to_z, of_z, SFits}
use mir.Facts.{to_z-of_z}
use Rattle.reader.specs.Field.{got, times}
use Rattle.reader.specs.Grammar.{form}
use Rattle.reader.proofs.Binds.{read_by, got_is}
use Rattle.unroller.specs.Run.{Ran, ok, stop, ◌>>=◌, value_at, in_extent, cell_from}
use Rattle.unroller.specs.Forms.{Values}
use Rattle.unroller.specs.Writes.{Part, CellIs, Below, InExtent, Subscript, CellsFrom}
use Rattle.unroller.proofs.Values.{values_none, values_some}

-- a subscript, read back from its bits
module _ (v : ℤ) (f : SFits w32 v) where
  abbrev back : ℤ
  back = to_z w32 (of_z w32 v)

  same : back ≡ v
  same = to_z-of_z {w = w32} {z = v} f

  -- against its extent
  extent_negative : (e next : ℕ) → lt_z back (pos 0) ≡ true → (g : Refusal) → number_of g.question ≡ 16 → InExtent e v next (Err g)
  unfolding InExtent
  extent_negative e next q g s p = go v (rw same at q)
    where
      go : (v : ℤ) → lt_z v (pos 0) ≡ true → CellIs (in_extent p e v) next (Err g)
      go (pos n) q = absurd (let h = ltb-true n 0 q in omega arith)
      go (negsuc n) q = s

  module _ (e next : ℕ) (small : e < 65536) where
    extent : to_z w32 (of_z w32 (pos e)) ≡ pos e
    extent = to_z-of_z {w = w32} {z = pos e} (record { sfits = omega arith })

    extent-beyond : le_z (to_z w32 (of_z w32 (pos e))) back ≡ true → (g : Refusal) → number_of g.question ≡ 16 → InExtent e v next (Err g)
    unfolding InExtent
    extent-beyond q g s p = go v (rw (extent, same) at q)
      where
        go : (v : ℤ) → le_z (pos e) v ≡ true → CellIs (in_extent p e v) next (Err g)
        go (pos n) q = rw (le-ltb n e (leb-true e n q)) s
        go (negsuc n) q = s

    pub extent-outside : (le_z (to_z w32 (of_z w32 (pos e))) back ≡ true) ⊎ ((le_z (to_z w32 (of_z w32 (pos e))) back ≡ false) × (lt_z back (pos 0) ≡ true)) → (g : Refusal) → number_of g.question ≡ 16 → InExtent e v next (Err g)
    extent-outside (inl h) = extent-beyond h
    extent-outside (inr (l, h)) = extent_negative e next h

    module _ (below : le_z (to_z w32 (of_z w32 (pos e))) back ≡ false) (positive : lt_z back (pos 0) ≡ false) where
      pub inside-below : nat_abs back < e
      inside-below = rw same (go v (rw (extent, same) at below) (rw same at positive))
        where
          go : (v : ℤ) → le_z (pos e) v ≡ false → lt_z v (pos 0) ≡ false → nat_abs v < e
          go (pos n) q h = leb-false e n q
          go (negsuc n) q h = absurd (false≢true (sym h))

      pub extent-inside : InExtent e v next (Ok (nat_abs back, next))
      unfolding InExtent
      extent-inside p = rw same (go v (rw same at positive) (rw same at inside-below))
        where
          go : (v : ℤ) → lt_z v (pos 0) ≡ false → nat_abs v < e → CellIs (in_extent p e v) next (Ok (nat_abs v, next))
          go (pos n) q h = rw (lt-ltb n e h) (refl, refl)
          go (negsuc n) q h = absurd (false≢true (sym q))

-- a subscript, worked out and asked
module _ (s : List ℕ) (at loops : ℕ) (is : List ℤ) (e : ℕ) where
  pub subscript_no : (r : Result (ℤ × ℕ) Refusal) (k : Refusal) → Values s at loops is r → r ≡ Err k → Subscript s at loops is e (Err k)
  unfolding Subscript Values
  subscript_no r k h q f next p g l i = values_none r (h f next g l i) q

  -- the value is handed on by its bits
  pub subscript_is : (r : Result (ℤ × ℕ) Refusal) (v : ℤ) (to : ℕ) (a : Part) → SFits w32 v → Values s at loops is r → r ≡ Ok (v, to) → InExtent e (to_z w32 (of_z w32 v)) to a → Subscript s at loops is e a
  unfolding Subscript Values InExtent
  subscript_is r v to a b h q x f next p g l i =
      let y = values_some r (h f next g l i) q in
      subst (λ (z : ℤ). CellIs (in_extent p e z) next a) y.0 (subst (λ (n : ℕ). CellIs (in_extent p e v) n a) y.1 (subst (λ (z : ℤ). CellIs (in_extent p e z) to a) (to_z-of_z {w = w32} {z = v} b) (x p)))

-- a part of a run that gave a cell, and what follows it
cell_no : (m : Ran ℕ) (f : ℕ → Ran ℕ) (at next : ℕ) (k : Refusal) → CellIs m at (Err k) → CellIs (m >>= f) next (Err k)
cell_no (ok c) f at next k h = absurd h
cell_no (stop question place) f at next k h = h

cell_is : (m : Ran ℕ) (f : ℕ → Ran ℕ) (at next c to : ℕ) (a : Part) → CellIs m at (Ok (c, to)) → (to ≡ at → CellIs (f c) next a) → CellIs (m >>= f) next a
cell_is (ok d) f at next c to a h g = subst (λ (d : ℕ). CellIs (f d) next a) h.0 (g h.1)
cell_is (stop question place) f at next c to a h g = absurd h

module _ (s : List ℕ) (loops : ℕ) (is : List ℤ) where
  pub cells_end : (at n : ℕ) (es : List ℕ) → length es ≡ 0 → CellsFrom s at loops is n es (Ok (n, at))
  unfolding CellsFrom cell_from times
  cells_end at n [] h fs next p g l i = (refl, cc)
  cells_end at n (e ∷ es) h fs next p g l i = absurd (omega arith)

  cells_no : (at n e : ℕ) (es : List ℕ) (k : Refusal) → Subscript s at loops is e (Err k) → CellsFrom s at loops is n (e ∷ es) (Err k)
  unfolding CellsFrom cell_from times Subscript
  cells_no at n e es k h fs next p g l i =
      read_by (form loops s at) _ g λ f at1 e1 r1.
      read_by (times [] ◌∷◌ (form loops) (length es) s at1) _ r1 λ gs at2 e2 r2.
      got_is (λ fs. CellIs (cell_from p (take loops is) n (e ∷ es) fs) next (Err k)) r2
      (cell_no (in_extent p e (value_at f (take loops is))) (λ v. cell_from p (take loops is) (n * e + v) es gs) at1 next k (h f at1 p e1 l i))

  cells-step : (at n e : ℕ) (es : List ℕ) (c to : ℕ) (a : Part) → Subscript s at loops is e (Ok (c, to)) → CellsFrom s to loops is (n * e + c) es a → CellsFrom s at loops is n (e ∷ es) a
  unfolding CellsFrom cell_from times Subscript
  cells-step at n e es c to a h w fs next p g l i =
      read_by (form loops s at) _ g λ f at1 e1 r1.
      read_by (times [] ◌∷◌ (form loops) (length es) s at1) _ r1 λ gs at2 e2 r2.
      let z : at2 ≡ next = cc in
      got_is (λ fs. CellIs (cell_from p (take loops is) n (e ∷ es) fs) next a) r2
      (cell_is (in_extent p e (value_at f (take loops is))) (λ v. cell_from p (take loops is) (n * e + v) es gs) at1 next c to a (h f at1 p e1 l i)
      (λ q. w gs next p (ap (λ (x : ℕ). times [] ◌∷◌ (form loops) (length es) s x) q ∙ e2 ∙ ap (λ (x : ℕ). got gs x) z) l i))

  module _ (es : List ℕ) (k : ℕ) (h : k < length es) where
    opened : drop k es ≡ get_or es k 0 ∷ drop (k + 1) es
    opened = rw (add-one, drop-cons es k 0 h)

    pub loop_no : (at n e : ℕ) (number : Refusal) (r : Part) → e ≡ get_or es k 0 → Subscript s at loops is e r → r ≡ Err number → CellsFrom s at loops is n (drop k es) (Err number)
    loop_no at n e number r q x y = rw (opened, ← q) (cells_no at n e (drop (k + 1) es) number (rw y at x))

    pub loop_is : (at n e c to m : ℕ) (r a : Part) → e ≡ get_or es k 0 → Subscript s at loops is e r → r ≡ Ok (c, to) → CellsFrom s to loops is m (drop (k + 1) es) a → m ≡ n * e + c → CellsFrom s at loops is n (drop k es) a
    loop_is at n e c to m r a q x y w f = rw (opened, ← q) (cells-step at n e (drop (k + 1) es) c to a (rw y at x) (rw f at w))

  pub loop_end : (es : List ℕ) (k at n : ℕ) → length es ≤ k → CellsFrom s at loops is n (drop k es) (Ok (n, at))
  loop_end es k at n h = cells_end at n (drop k es) (let l = length-drop k es in omega arith)

pub below_is : (e c to : ℕ) (r : Part) → Below e r → r ≡ Ok (c, to) → c < e
below_is e c to r h q = rw q at h

-- what k subscripts make stays below 2^48
abbrev pub most : ℕ → ℕ
most zero = 1
most (suc k) = most k * 65536

pub grows : (k n e c : ℕ) → n < most k → e < 65536 → c < e → n * e + c < most (k + 1)
grows k n e c h g l =
    rw add-one
    (let a : (n + 1) * e ≤ most k * 65536 = mul-le-mul (omega arith) (omega arith) in
    let b = add-mul n 1 e in
    omega arith)

pub grows_to : (k n e c m : ℕ) → n < most k → e < 65536 → c < e → m ≡ n * e + c → m < most (k + 1)
grows_to k n e c m h g l f = rw f (grows k n e c h g l)

pub cell-fits : (k n e c : ℕ) → k < 3 → n < most k → e < 65536 → c < e → n * e + c < 281474976710656
cell-fits k n e c h l g m = go k h (grows k n e c l g m)
  where
    go : (k : ℕ) → k < 3 → n * e + c < most (k + 1) → n * e + c < 281474976710656
    go zero h q = omega arith
    go (suc zero) h q = omega arith
    go (suc (suc zero)) h q = omega arith
    go (suc (suc (suc k))) h q = absurd (omega arith)
