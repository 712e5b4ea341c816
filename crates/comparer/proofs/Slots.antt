-- Cells and their slots; what holds goes on holding as the store grows.
use mathlib.Core.Path.{◌≡◌, refl, sym, ap, ◌∙◌, subst, subst₂}
use Rattle.std.specs.Prelude.{Option, None, Some}
use mathlib.Core.Logic.{◌⊎◌, inl, inr, ⊎_elim}
use mathlib.Core.Bool.{Bool, true, false}
use mathlib.Core.List.{List}
use Prim.Native.Nat.{ℕ, ◌+◌, ◌≤◌, ◌<◌}
use native.Mathlib.Omega.{arith}
use lib.ListN.{length, get_or, set, length-set}
use lib.Seq.{get_or-set_same, get_or-set_other}
use lib.Dec.{ltb, eqb}
use borrow.Author.Tests.{ltb-true, ltb-false, eqb-true, eqb-false}
use Rattle.model.specs.Tables.{swaps}
use Rattle.model.proofs.Operators.{unmarked, swaps_two, arity_plain}
use Rattle.model.specs.Update.{Tree}
use Rattle.model.specs.Update.Tree.{cell}
use Rattle.terms.specs.Stored.{Ref, Grown, Outcome, full, fine}
use Rattle.terms.proofs.Sets.{grown_ref}
use Rattle.unroller.specs.Stands.{Proper}
use Rattle.comparer.specs.Meaning.{Content}
use Rattle.comparer.specs.Work.{Table, slot_of, Finds, Arity, Byte, Shows, CellsHold, Holding}

-- ---- what `slot` and `arity` answer
module _ (table : List ℕ) (a c : ℕ) where
  pub finds_none : (17 ≤ a) ⊎ (4096 < get_or table a 0) → Finds table a c None
  unfolding Finds
  finds_none (inl l) h i = absurd (omega arith)
  finds_none (inr l) h i = absurd (omega arith)

  pub finds_at : Finds table a c (Some (get_or table a 0 + c))
  unfolding Finds
  finds_at h i = refl

module _ (list : List ℕ) (o k : ℕ) (e : k ≡ o) where
  pub byte_none : (b : ℕ) → 16 ≤ k → Byte list o b
  unfolding Byte
  byte_none b l h = absurd (omega arith)

  pub byte_at : (b : ℕ) → b ≡ get_or list (1 + k) 0 → Byte list o b
  unfolding Byte
  byte_at b f h = f ∙ ap (λ (x : ℕ). get_or list (1 + x) 0) e

module _ (b : ℕ) where
  pub arity_few : b ≤ 4 → Arity b b
  arity_few l = record { few = l; is = λ i. sym (arity_plain b (unmarked b (λ e. omega arith))) }

  pub arity_two : (r : ℕ) → r ≡ 2 → swaps b ≡ true → Arity b r
  arity_two r e q = record { few = omega arith; is = λ i. e ∙ sym (swaps_two b q) }

  pub arity_many : 4 < b → swaps b ≡ false → Arity b 0
  arity_many l q = record { few = omega arith; is = λ i. absurd (omega (arith, arity_plain b q)) }

-- ---- slots

module _ (table bases : List ℕ) (room : ℕ) (t : Table table bases room) where
  pub slot_in : (a c : ℕ) → Proper bases a c → slot_of bases a c < room
  slot_in a c p = omega (arith, t.fits (a + 1) p.array, p.inside)

  module _ (a c : ℕ) (p : Proper bases a c) where
    found : (r : Option ℕ) → Finds table a c r → r ≡ Some (slot_of bases a c)
    unfolding Finds
    found r f =
        let l : a < length bases = omega (arith, p.array) in
        let w = t.word a l in
        rw w at (f (omega (arith, t.short)) (omega (arith, t.fits a l, t.few)))

    pub slot_is : (k : ℕ) → Finds table a c (Some k) → k ≡ slot_of bases a c
    slot_is k f = let e = found (Some k) f in cc

    pub slot_none : Finds table a c None → ⊥
    slot_none f = let e = found None f in let z : ◌≡◌ {A = ℕ} 0 1 = cc in omega arith

  -- different cells have different slots
  pub slot_apart : (a c b d : ℕ) → Proper bases a c → Proper bases b d → slot_of bases a c ≡ slot_of bases b d → (a ≡ b) × (c ≡ d)
  slot_apart a c b d p q e = go (ltb a b) refl (ltb b a) refl
    where
      same : a ≡ b → (a ≡ b) × (c ≡ d)
      same s = let f : get_or bases a 0 ≡ get_or bases b 0 = ap (λ (i : ℕ). get_or bases i 0) s in (s, omega (arith, e))

      go : (x : Bool) → ltb a b ≡ x → (y : Bool) → ltb b a ≡ y → (a ≡ b) × (c ≡ d)
      go true l y m = absurd (omega (arith, t.sorted (a + 1) b (omega (arith, ltb-true a b l)) (omega (arith, q.array)), p.inside, e))
      go false l true m = absurd (omega (arith, t.sorted (b + 1) a (omega (arith, ltb-true b a m)) (omega (arith, p.array)), q.inside, e))
      go false l false m = same (omega (arith, ltb-false a b l, ltb-false b a m))

module _ (swaps : ℕ → Bool) where
  pub cells-on : (bases cells : List ℕ) (ts vs us : List Tree) (h : Content Tree) → Grown swaps ts vs us → CellsHold swaps bases cells ts h → CellsHold swaps bases cells us h
  cells-on bases cells ts vs us h g H a c p =
      ⊎_elim (λ (w : (get_or cells (slot_of bases a c) 0 ≡ 0) × (h a c ≡ cell a c)). inl w)
      (λ (w : Ref swaps ts (get_or cells (slot_of bases a c) 0) (h a c)). inr (grown_ref swaps ts vs us g (get_or cells (slot_of bases a c) 0) (h a c) w))
      (H a c p)

  -- the id of a cell's content is written to the cell: the content is the same
  module _ (table bases cells : List ℕ) (a c k id : ℕ) (ts : List Tree) (h : Content Tree) where
    pub holding_set : Table table bases (length cells) → Proper bases a c → k ≡ slot_of bases a c → Ref swaps ts id (h a c) → CellsHold swaps bases cells ts h
        → Holding swaps table bases (set cells k id) ts h
    holding_set t p e r H = (subst (λ (x : ℕ). Table table bases x) (sym (length-set cells k id)) t, λ b d q. go b d q (eqb (slot_of bases b d) k) refl)
      where
        go : (b d : ℕ) → Proper bases b d → (x : Bool) → eqb (slot_of bases b d) k ≡ x → Shows swaps ts (get_or (set cells k id) (slot_of bases b d) 0) (cell b d) (h b d)
        go b d q true f =
            let s : slot_of bases b d ≡ k = eqb-true (slot_of bases b d) k f in
            let x = slot_apart table bases (length cells) t a c b d p q (sym (s ∙ e)) in
            let w : get_or (set cells k id) (slot_of bases b d) 0 ≡ id =
            ap (λ (i : ℕ). get_or (set cells k id) i 0) s ∙ get_or-set_same cells k id 0 (omega (arith, e, slot_in table bases (length cells) t a c p)) in
            inr (subst (λ (i : ℕ). Ref swaps ts i (h b d)) (sym w) (subst₂ (λ (x y : ℕ). Ref swaps ts id (h x y)) x.0 x.1 r))
        go b d q false f =
            subst (λ (i : ℕ). Shows swaps ts i (cell b d) (h b d)) (sym (get_or-set_other cells k (slot_of bases b d) id 0 (eqb-false (slot_of bases b d) k f))) (H b d q)

  module _ (ts vs : List Tree) (m : List ℕ) (count : ℕ) (P : List Tree → Type 0) where
    pub outcome_on : (Q : List Tree → Type 0) → ((us : List Tree) → Grown swaps ts vs us → P us → Q us) → Outcome swaps ts vs m count P → Outcome swaps ts vs m count Q
    outcome_on Q f (full l o) = full l o
    outcome_on Q f (fine us s g p) = fine us s g (f us g p)
