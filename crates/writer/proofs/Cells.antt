-- A cell's number and its subscripts, over any number of dimensions.
use mathlib.Core.Path.{◌≡◌, refl, sym, ap, ap₂, ◌∙◌}
use Prim.Native.Nat.{ℕ, suc, ◌+◌, ◌*◌, ◌/◌, ◌%◌, ◌≤◌, ◌<◌}
use mathlib.Core.List.{List, [], ◌∷◌, ◌++◌, map}
use mathlib.Core.Bool.{true}
use native.Mathlib.Omega.{arith}
use native.Mathlib.Nat.{mul-le-mul_right, add-mul, mul_assoc, mod-lt, mod-eq_of_lt, div-add-mod', div-lt_iff_lt-mul, div-eq_of_lt, mul-add-div_right, mul-add-mod_self_right}
use lib.ListN.{length}
use lib.Dec.{ltb}
use lib.IntN.{ℤ, pos, negsuc, ◌+ℤ◌, +ℤ_idr}
use borrow.Author.Tests.{le-leb, ltb-true, lt-ltb}
use Rattle.model.specs.Test.{within, every}
use Rattle.model.specs.Tables.{cells}
use Rattle.reader.specs.Syntax.{Form}
use Rattle.unroller.specs.Run.{Ran, ok, ◌>>=◌, products, value_at, fits16, in_extent, cell_from}
use Rattle.unroller.proofs.Parts.{both, join, within_low, within-high}
use Rattle.unroller.proofs.Runs.{run_by, ask_by, ok_is}
use Rattle.writer.specs.File.{in_row, subscripts_of, form_bytes}
use Rattle.writer.proofs.Fields.{constant_form}

-- inside no loop a form's value is its constant
pub value-alone : (f : Form) → value_at f [] ≡ f.constant
value-alone f = go f.coefficients
  where
    go : (cs : List ℤ) → f.constant +ℤ products cs [] ≡ f.constant
    go [] = +ℤ_idr f.constant
    go (c ∷ cs) = +ℤ_idr f.constant

-- the forms of a cell's subscripts
abbrev pub forms_of : List ℕ → ℕ → List Form
forms_of es c = map (λ k. constant_form (pos k)) (subscripts_of es c)

pub subscripts-many : (es : List ℕ) (c : ℕ) → length (subscripts_of es c) ≡ length es
unfolding subscripts_of
subscripts-many [] c = refl
subscripts-many (e ∷ es) c = ap suc (subscripts-many es (c % cells es))

pub cells_some : (es : List ℕ) → every (within 1 1024) es ≡ true → 0 < cells es
cells_some [] a = omega arith
cells_some (e ∷ es) a =
    let p = both (within 1 1024 e) (every (within 1 1024) es) a in
    let h = cells_some es p.1 in
    let l = within_low 1 1024 e p.0 in
    let m : 1 * cells es ≤ e * cells es = mul-le-mul_right (cells es) l in
    omega arith

-- the first subscript lies in its extent, and the number of the rest inside theirs
first_below : (e : ℕ) (es : List ℕ) (c : ℕ) → every (within 1 1024) es ≡ true → c < e * cells es → (c / cells es < e) × (c % cells es < cells es)
first_below e es c a h = let q = cells_some es a in ((div-lt_iff_lt-mul {k = cells es} {x = c} {y = e} q).1 h, mod-lt c {m = cells es} q)

pub subscripts-narrow : (es : List ℕ) (c : ℕ) → every (within 1 1024) es ≡ true → c < cells es → every (λ k. fits16 (pos k)) (subscripts_of es c) ≡ true
unfolding subscripts_of
subscripts-narrow [] c a h = refl
subscripts-narrow (e ∷ es) c a h =
    let p = both (within 1 1024 e) (every (within 1 1024) es) a in
    let f = first_below e es c p.1 h in
    let u = within-high 1 1024 e p.0 in
    let k = f.0 in
    join (fits16 (pos (c / cells es))) (every (λ k. fits16 (pos k)) (subscripts_of es (c % cells es))) (le-leb (c / cells es) 32767 (omega arith)) (subscripts-narrow es (c % cells es) p.1 f.1)

in_extent_lem : (p e k : ℕ) → k < e → in_extent p e (value_at (constant_form (pos k)) []) ≡ ok k
in_extent_lem p e k h = ap (in_extent p e) (value-alone (constant_form (pos k))) ∙ rw (lt-ltb k e h)

pub cell_in : (p n : ℕ) (es : List ℕ) (c : ℕ) → every (within 1 1024) es ≡ true → c < cells es → cell_from p [] n es (forms_of es c) ≡ ok (n * cells es + c)
unfolding cell_from subscripts_of
cell_in p n [] c a h = let e : n ≡ n * 1 + c = omega arith in ap ok e
cell_in p n (e ∷ es) c a h =
    let q = both (within 1 1024 e) (every (within 1 1024) es) a in
    let f = first_below e es c q.1 h in
    let k = f.0 in
    let m : (n * e + c / cells es) * cells es ≡ n * e * cells es + c / cells es * cells es = add-mul (n * e) (c / cells es) (cells es) in
    let d : n * e * cells es ≡ n * (e * cells es) = mul_assoc n e (cells es) in
    let r : c / cells es * cells es + c % cells es ≡ c = div-add-mod' c (cells es) in
    let v : (n * e + c / cells es) * cells es + c % cells es ≡ n * (e * cells es) + c = omega arith in
    ap (λ (m : Ran ℕ). m >>= (λ k. cell_from p [] (n * e + k) es (forms_of es (c % cells es)))) (in_extent_lem p e (c / cells es) k) ∙ (cell_in p (n * e + c / cells es) es (c % cells es) q.1 f.1 ∙ ap ok v)

-- The number that a run gives to subscripts, behind those that made n; its subscripts again.
pub record CellIs (es : List ℕ) (n : ℕ) (fs : List Form) (c : ℕ) : Type 0 where
  pub own : ℕ
  pub below : own < cells es
  pub whole : n * cells es + own ≡ c
  pub bytes : in_row (λ f. form_bytes f.constant) fs ≡ in_row (λ k. form_bytes (pos k)) (subscripts_of es own)

extent_is : (p e : ℕ) (v : ℤ) {k : ℕ} → in_extent p e v ≡ ok k → (v ≡ pos k) × (k < e)
extent_is p e (pos v) r = ask_by 16 p (ltb v e) _ r λ h r1. ok_is (λ k. (pos v ≡ pos k) × (k < e)) r1 (refl, ltb-true v e h)
extent_is p e (negsuc v) r = absurd (let z : ◌≡◌ {A = ℕ} 0 1 = cc in omega arith)

joined : (n e k own c : ℕ) (es : List ℕ) (f : Form) (fs : List Form) → k < e → own < cells es → (n * e + k) * cells es + own ≡ c → f.constant ≡ pos k
    → in_row (λ f. form_bytes f.constant) fs ≡ in_row (λ k. form_bytes (pos k)) (subscripts_of es own) → CellIs (e ∷ es) n (f ∷ fs) c
unfolding subscripts_of
joined n e k own c es f fs h b w v q =
    let m : (k + 1) * cells es ≤ e * cells es = mul-le-mul_right (cells es) (omega arith) in
    let a : (n * e + k) * cells es ≡ n * e * cells es + k * cells es = add-mul (n * e) k (cells es) in
    let j : (k + 1) * cells es ≡ k * cells es + 1 * cells es = add-mul k 1 (cells es) in
    let d : n * e * cells es ≡ n * (e * cells es) = mul_assoc n e (cells es) in
    let high : (k * cells es + own) / cells es ≡ k = mul-add-div_right {m = cells es} (omega arith) k own ∙ ap (λ (x : ℕ). k + x) (div-eq_of_lt b) ∙ (let z : k + 0 ≡ k = omega arith in z) in
    let low : (k * cells es + own) % cells es ≡ own = mul-add-mod_self_right k (cells es) own ∙ mod-eq_of_lt b in
    record {
      own = k * cells es + own;
      below = omega arith;
      whole = omega arith;
      bytes = ap₂ ◌++◌ (ap form_bytes (v ∙ ap pos (sym high))) (q ∙ ap (λ (x : ℕ). in_row (λ k. form_bytes (pos k)) (subscripts_of es x)) (sym low));
    }

pub cell_out : (p n : ℕ) (es : List ℕ) (fs : List Form) (c : ℕ) → length fs ≡ length es → cell_from p [] n es fs ≡ ok c → CellIs es n fs c
unfolding cell_from subscripts_of
cell_out p n [] [] c l r = ok_is (CellIs [] n []) r (record { own = 0; below = omega arith; whole = omega arith; bytes = refl })
cell_out p n [] (f ∷ fs) c l r = absurd (omega arith)
cell_out p n (e ∷ es) [] c l r = absurd (omega arith)
cell_out p n (e ∷ es) (f ∷ fs) c l r =
    run_by (in_extent p e (value_at f [])) _ r λ k e2 r2.
    let x = extent_is p e (value_at f []) e2 in
    let q = cell_out p (n * e + k) es fs c (omega arith) r2 in
    joined n e k q.own c es f fs x.1 q.below q.whole (sym (value-alone f) ∙ x.0) q.bytes
