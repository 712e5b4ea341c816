-- A loop's start, end and step as the code works them out.
use Rattle.std.specs.Prelude.{Result, Ok, Err, if◌then◌else◌}
use mathlib.Core.Path.{◌≡◌, refl, sym, ap, ◌∙◌}
use Prim.Native.Nat.{ℕ, zero, suc, ◌+◌, ◌≤◌}
use native.Mathlib.Omega.{arith}
use mathlib.Core.List.{List}
use mathlib.Core.Bool.{Bool, true, false}
use lib.ListN.{length}
use lib.IntN.{ℤ, pos, negsuc}
use Rattle.model.specs.declared.question.Refusal.{Refusal}
use Rattle.model.specs.declared.question.Question.TheVariants as question
use Rattle.reader.specs.Field.{Outcome, got, no, i16}
use Rattle.reader.specs.Syntax.{Form}
use Rattle.reader.specs.Grammar.{form, step}
use Rattle.reader.specs.Answers.{read_says}
use Rattle.reader.proofs.Steps.{read-got}
use Rattle.reader.proofs.Binds.{read_by}
use Rattle.reader.proofs.Bytes.{step-zero, step_is}
use Rattle.unroller.specs.Run.{value_at, fits16}
use Rattle.unroller.specs.Forms.{Values}
use Rattle.unroller.specs.Scopes.{bytes, around}
use Rattle.unroller.specs.WalkItems.{within16, Short, RangeIs, Ranges}
use Rattle.unroller.specs.declared.walk.Scope.{Scope}
use Rattle.unroller.specs.declared.items.Range.{Range}
use Rattle.unroller.proofs.Values.{values_none, values_some}

-- the step that is read is not 0, whatever the bytes are
pub steps_move : (s : List ℕ) (at : ℕ) (r : Result (ℤ × ℕ) Refusal) {c : ℤ} {to : ℕ} → read_says r ≡ step s at → r ≡ Ok (c, to) → c ≡ pos 0 → ⊥
unfolding step
steps_move s at r {c} {to} says case e = read_by (i16 s at) _ read λ z n e1 _. never z n e1
  where
    read : step s at ≡ got c to
    read = read-got says case

    other : (z : ℤ) (n : ℕ) → i16 s at ≡ got z n → (z ≡ pos 0 → ⊥) → ⊥
    other z n q nz = let g : ◌≡◌ {A = Outcome ℤ} (got z n) (got c to) = step_is s at z (sym q) nz ∙ read in let x : z ≡ pos 0 = cc in nz x

    never : (z : ℤ) (n : ℕ) → i16 s at ≡ got z n → ⊥
    never (pos zero) n q = let g : ◌≡◌ {A = Outcome ℤ} (no 11 at) (got c to) = step-zero s at (sym q) ∙ read in let w : ◌≡◌ {A = ℕ} 0 1 = cc in omega arith
    never (pos (suc m)) n q = other (pos (suc m)) n q (λ x. let w : ◌≡◌ {A = ℕ} 0 1 = cc in omega arith)
    never (negsuc m) n q = other (negsuc m) n q (λ x. let w : ◌≡◌ {A = ℕ} 0 1 = cc in omega arith)

-- an end in 16 signed bits, or not
module _ (p : ℕ) (v : ℤ) (r : Result ℤ Refusal) (s : Short p v r) where
  by_width : (b : Bool) → fits16 v ≡ b → r ≡ (if b then Ok v else Err (record { question = question.Range; place = p }))
  by_width b e = s ∙ ap (λ (b : Bool). if b then Ok v else Err (record { question = question.Range; place = p })) e

  short_none : {e : Refusal} → r ≡ Err e → (fits16 v ≡ false) × (e ≡ record { question = question.Range; place = p })
  short_none {e} q = go (fits16 v) refl
    where
      go : (b : Bool) → fits16 v ≡ b → (fits16 v ≡ false) × (e ≡ record { question = question.Range; place = p })
      go true h = let w = by_width true h in absurd (cc)
      go false h = let w = by_width false h in (h, cc)

  short_some : {x : ℤ} → r ≡ Ok x → (fits16 v ≡ true) × (x ≡ v)
  short_some {x} q = go (fits16 v) refl
    where
      go : (b : Bool) → fits16 v ≡ b → (fits16 v ≡ true) × (x ≡ v)
      go true h = let w = by_width true h in (h, cc)
      go false h = let w = by_width false h in absurd (cc)

module _ (p : ℕ) (a b z : ℤ) (next : ℕ) {v : ℤ} {r₀ : Result ℤ Refusal} where
  pub range-first : {e : Refusal} → Short p v r₀ → v ≡ a → r₀ ≡ Err e → RangeIs (within16 p a b) z next (Err e)
  unfolding within16
  range-first s h q = let k = short_none p v r₀ s q in rw (ap fits16 (sym h) ∙ k.0, k.1) (refl, refl)

  pub range-last : (w : ℤ) (r₁ : Result ℤ Refusal) {x : ℤ} {e : Refusal} → Short p v r₀ → v ≡ a → r₀ ≡ Ok x → Short p w r₁ → w ≡ b → r₁ ≡ Err e → RangeIs (within16 p a b) z next (Err e)
  unfolding within16
  range-last w r₁ s h q t i j = let k = short_some p v r₀ s q in let l = short_none p w r₁ t j in rw (ap fits16 (sym h) ∙ k.0, ap fits16 (sym i) ∙ l.0, l.1) (refl, refl)

  pub range_over : (w : ℤ) (r₁ : Result ℤ Refusal) {x y x' y' z' : ℤ} → Short p v r₀ → v ≡ a → r₀ ≡ Ok x → x' ≡ x → Short p w r₁ → w ≡ b → r₁ ≡ Ok y → y' ≡ y → z' ≡ z
      → RangeIs (within16 p a b) z next (Ok (record { first = x'; last = y'; step = z'; body = next }))
  unfolding within16
  range_over w r₁ s h q x t i j y e =
      let k = short_some p v r₀ s q in
      let l = short_some p w r₁ t j in
      rw (ap fits16 (sym h) ∙ k.0, ap fits16 (sym i) ∙ l.0, x ∙ k.1 ∙ h, y ∙ l.1 ∙ i, e) refl

-- a range's parts as they are read
module _ (scope : Scope) (p : ℕ) (v₀ : Result (ℤ × ℕ) Refusal) (w₀ : Values (bytes scope) (p + 1) scope.loops scope.indices v₀) where
  pub ranges_first : {e : Refusal} → v₀ ≡ Err e → Ranges scope p (Err e)
  unfolding Ranges Values
  ranges_first case f g z m n next e1 e2 e3 b8 l8 = values_none v₀ (w₀ f m e1 b8 l8) case

  module _ {a : ℤ} {mid : ℕ} (case : v₀ ≡ Ok (a, mid)) (v₁ : Result (ℤ × ℕ) Refusal) (w₁ : Values (bytes scope) mid scope.loops scope.indices v₁) where
    pub ranges_last : {e : Refusal} → v₁ ≡ Err e → Ranges scope p (Err e)
    unfolding Ranges Values
    ranges_last case₁ f g z m n next e1 e2 e3 b8 l8 =
        let q = values_some v₀ (w₀ f m e1 b8 l8) case in
        values_none v₁ (w₁ g n (ap (form scope.loops (bytes scope)) q.1 ∙ e2) b8 l8) case₁

    module _ {b : ℤ} {end : ℕ} (case₁ : v₁ ≡ Ok (b, end)) (v₂ : Result (ℤ × ℕ) Refusal) (says : read_says v₂ ≡ step (bytes scope) end) where
      stands : {f g : Form} {z : ℤ} {m n next : ℕ} → form scope.loops (bytes scope) (p + 1) ≡ got f m → form scope.loops (bytes scope) m ≡ got g n → step (bytes scope) n ≡ got z next
          → scope.loops ≤ 8 → length scope.indices ≡ 8 → (a ≡ value_at f (around scope)) × (b ≡ value_at g (around scope)) × (read_says v₂ ≡ got z next)
      unfolding Values
      stands {f} {g} {z} {m} {n} {next} e1 e2 e3 b8 l8 =
          let q = values_some v₀ (w₀ f m e1 b8 l8) case in
          let q₁ = values_some v₁ (w₁ g n (ap (form scope.loops (bytes scope)) q.1 ∙ e2) b8 l8) case₁ in
          (q.0, q₁.0, says ∙ ap (step (bytes scope)) q₁.1 ∙ e3)

      pub ranges_step : {e : Refusal} → v₂ ≡ Err e → Ranges scope p (Err e)
      unfolding Ranges
      ranges_step case₂ f g z m n next e1 e2 e3 b8 l8 = values_none v₂ (stands e1 e2 e3 b8 l8).2 case₂

      pub ranges_read : {c : ℤ} {to : ℕ} → v₂ ≡ Ok (c, to) → (r : Result Range Refusal) → RangeIs (within16 p a b) c to r → Ranges scope p r
      unfolding Ranges
      ranges_read case₂ r h f g z m n next e1 e2 e3 b8 l8 =
          let k = stands e1 e2 e3 b8 l8 in
          let q = values_some v₂ k.2 case₂ in
          rw (← k.0, ← k.1, ← q.0, ← q.1) h
