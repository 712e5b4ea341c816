-- Forms worked out over arrays of eight numbers have the values that the definition gives them.
use mathlib.Core.Path.{◌≡◌, refl, sym, ap, ap₂, ◌∙◌, subst}
use Rattle.std.specs.Prelude.{Result, Ok, Err, IsErr, IsErrAnd}
use Prim.Native.Nat.{ℕ, zero, suc, ◌-◌, ◌≤◌}
use native.Mathlib.Omega.{arith}
use mathlib.Core.Bool.{false≢true}
use mathlib.Core.List.{List, [], ◌∷◌}
use lib.ListN.{length, take, length-take}
use lib.IntN.{ℤ, pos, ◌+ℤ◌, ◌*ℤ◌}
use borrow.Author.Tests.{le-leb}
use Rattle.reader.specs.Field.{Outcome, got}
use Rattle.reader.specs.Syntax.{Form}
use Rattle.reader.proofs.Binds.{not-got}
use Rattle.reader.specs.Grammar.{form}
use Rattle.reader.specs.Answers.{through, read_says}
use Rattle.reader.specs.Entries.{form_step, form_in, filled, padded}
use Rattle.reader.specs.declared.forms.Form.{Form as Filled}
use Rattle.model.specs.declared.question.Refusal.{Refusal}
use Rattle.unroller.specs.Run.{products}
use Rattle.unroller.specs.Forms.{form_sum, Values}
use Rattle.unroller.proofs.Sums.{sum_same, sum-value}
use Rattle.unroller.proofs.Stands.{default_behind}

-- index values behind the last coefficient do not matter
products-cut : (cs is : List ℤ) (n : ℕ) → length cs ≤ n → products cs (take n is) ≡ products cs is
products-cut [] is n h = refl
products-cut (c ∷ cs) is zero h = absurd (omega arith)
products-cut (c ∷ cs) [] (suc n) h = refl
products-cut (c ∷ cs) (i ∷ is) (suc n) h = ap (λ (z : ℤ). c *ℤ i +ℤ z) (products-cut cs is n (omega arith))

module _ (s : List ℕ) (at loops : ℕ) (is : List ℤ) (r : Result (Filled × ℕ) Refusal) (e : read_says r ≡ through filled (form_step loops s at)) (i : through (form_in loops) (read_says r) ≡ form_step loops s at) where
  -- what was read is the form, with zeros, where there are at most 8 loops
  says : (f : Form) (next : ℕ) → form loops s at ≡ got f next → loops ≤ 8 → read_says r ≡ got (filled f) next
  unfolding form_step through
  says f next h few = let q : form_step loops s at ≡ got f next = rw (le-leb loops 8 few) h in e ∙ ap (through filled) q

  -- so there are no more coefficients than loops
  few_coefficients : (f : Form) (next : ℕ) → form loops s at ≡ got f next → loops ≤ 8 → length f.coefficients ≤ loops
  unfolding form_step through
  few_coefficients f next h few =
      let q : form_step loops s at ≡ got f next = rw (le-leb loops 8 few) h in
      let g : ◌≡◌ {A = Outcome Form} (got (form_in loops (filled f)) next) (got f next) = ap (through (form_in loops)) (sym (says f next h few)) ∙ i ∙ q in
      let x : form_in loops (filled f) ≡ f = cc in
      let n = length-take loops (padded 8 (pos 0) f.coefficients) in
      subst (λ (l : List ℤ). length l ≤ loops) (ap (λ (f : Form). f.coefficients) x) (omega arith)

  pub value-refused : (g : Refusal) → r ≡ Err g → Values s at loops is (Err g)
  unfolding Values
  value-refused g q f next h few l = not-got (sym (ap read_says q) ∙ says f next h few)

  pub value_formed : (F : Filled) (to : ℕ) (v : ℤ) → r ≡ Ok (F, to) → v ≡ form_sum F.constant F.coefficients is 8 → Values s at loops is (Ok (v, to))
  unfolding Values
  value_formed F to v q w f next h few l =
      let g : ◌≡◌ {A = Outcome Filled} (got F to) (got (filled f) next) = sym (ap read_says q) ∙ says f next h few in
      let x : F ≡ filled f = cc in
      let n = few_coefficients f next h few in
      ap₂ (λ (v : ℤ) (to : ℕ). got v to)
      (w ∙ ap (λ (F : Filled). form_sum F.constant F.coefficients is 8) x
      ∙ sum_same f.constant (padded 8 (pos 0) f.coefficients) f.coefficients is 8 (λ k b. default_behind (pos 0) f.coefficients (8 - length f.coefficients) k)
      ∙ sum-value f.constant f.coefficients is 8 (omega arith)
      ∙ ap (λ (p : ℤ). f.constant +ℤ p) (sym (products-cut f.coefficients is loops (omega arith))))
      cc

-- a refusal that `?` hands on
pub handed : {A E : Type 0} {r : Result A E} {e : E} → IsErr r × IsErrAnd r (λ f. f ≡ e) → r ≡ Err e
handed {r = Ok x} h = absurd (false≢true h.0)
handed {r = Err f} h = ap Err h.1

-- an answer is one value or none
pub values_none : {A P : Type 0} (r : Result (A × ℕ) Refusal) {x : A} {next : ℕ} {g : Refusal} → read_says r ≡ got x next → r ≡ Err g → P
values_none r e q = not-got (sym (ap read_says q) ∙ e)

pub values_some : {A : Type 0} (r : Result (A × ℕ) Refusal) {x y : A} {next to : ℕ} → read_says r ≡ got x next → r ≡ Ok (y, to) → (y ≡ x) × (to ≡ next)
values_some {A} r {x} {y} {next} {to} e q = let g : ◌≡◌ {A = Outcome A} (got y to) (got x next) = sym (ap read_says q) ∙ e in (cc, cc)
