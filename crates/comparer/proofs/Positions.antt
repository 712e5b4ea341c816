-- A new order, as a list of positions, is a reordering step by step.
use Prim.Native.Nat.{ℕ, zero, suc, ◌<◌}
use native.Mathlib.Omega.{arith}
use mathlib.Core.Path.{◌≡◌, refl, sym, ap, ◌∙◌, subst}
use mathlib.Core.Logic.{◌⊎◌, inl, inr, ⊎_elim}
use mathlib.Core.List.Memᴰ
use mathlib.Core.List.Memᴰ.{head as first}
use mathlib.Core.List.Memᴰ.{tail as rest}
use mathlib.Core.List.{List, [], ◌∷◌, map, Memᴰ as Mem}
use mathlib.Core.Bool.{Bool, true, false}
use lib.ListN.{length, get_or, length-map}
use Rattle.model.specs.Update.{Update}
use Rattle.comparer.specs.Order.{conflict, at, in_order, NewOrder}
use Rattle.comparer.proofs.Reorder.{Pick, here, later, Reordered, none, next}

mem_place : {j : ℕ} {ps : List ℕ} → Mem j ps → (i : ℕ) × (i < length ps) × (get_or ps i 0 ≡ j)
mem_place (first e) = (0, omega arith, sym e)
mem_place (rest m) = let t = mem_place m in (suc t.0, (let q = t.1 in omega arith), t.2)

-- no place twice
abbrev Once : List ℕ → Type 0
Once [] = Unit {0}
Once (i ∷ ps) = (Mem i ps → ⊥) × Once ps

once : (ps : List ℕ) → ((i j : ℕ) → i < j → j < length ps → get_or ps i 0 ≡ get_or ps j 0 → ⊥) → Once ps
once [] h = tt
once (p ∷ ps) h = (λ m. let t = mem_place m in h 0 (suc t.0) (omega arith) (let q = t.1 in omega arith) (sym t.2), once ps (λ i j l k e. h (suc i) (suc j) (omega arith) (omega arith) e))

-- each place below those after it
abbrev Rising : List ℕ → Type 0
Rising [] = Unit {0}
Rising (p ∷ ps) = ((j : ℕ) → Mem j ps → p < j) × Rising ps

-- one place taken out
data Out (i : ℕ) : List ℕ → List ℕ → Type 0 where
  now : {p : ℕ} {ps : List ℕ} → i ≡ p → Out i (p ∷ ps) ps
  then : {p : ℕ} {ps qs : List ℕ} → Out i ps qs → Out i (p ∷ ps) (p ∷ qs)

out : {i : ℕ} {ps : List ℕ} → Mem i ps → (qs : List ℕ) × Out i ps qs
out (first {xs = xs} e) = (xs, now e)
out (rest {x = x} m) = let t = out m in (x ∷ t.0, then t.1)

out_mem : {i : ℕ} {ps qs : List ℕ} → Out i ps qs → Mem i ps
out_mem (now e) = first e
out_mem (then o) = rest (out_mem o)

out_back : {i : ℕ} {ps qs : List ℕ} → Out i ps qs → (j : ℕ) → Mem j qs → Mem j ps
out_back (now e) j m = rest m
out_back (then o) j m = ⊎_elim (λ e. first e) (λ n. rest (out_back o j n)) (Memᴰ.cases_cons m)

out_cases : {i : ℕ} {ps qs : List ℕ} → Out i ps qs → (j : ℕ) → Mem j ps → (j ≡ i) ⊎ Mem j qs
out_cases (now e) j m = ⊎_elim (λ f. inl (f ∙ sym e)) (λ n. inr n) (Memᴰ.cases_cons m)
out_cases (then o) j m = ⊎_elim (λ f. inr (first f)) (λ n. ⊎_elim (λ f. inl f) (λ k. inr (rest k)) (out_cases o j n)) (Memᴰ.cases_cons m)

out_length : {i : ℕ} {ps qs : List ℕ} → Out i ps qs → length ps ≡ suc (length qs)
out_length (now e) = refl
out_length (then o) = ap suc (out_length o)

out_rising : {i : ℕ} {ps qs : List ℕ} → Out i ps qs → Rising ps → Rising qs
out_rising (now e) r = r.1
out_rising (then o) r = (λ j m. r.0 j (out_back o j m), out_rising o r.1)

-- the rest of an order, among the rest of the places
left : {i : ℕ} {ps qs is : List ℕ} → Out i ps qs → ((j : ℕ) → Mem j (i ∷ is) → Mem j ps) → (Mem i is → ⊥) → (j : ℕ) → Mem j is → Mem j qs
left {i} {is} o f n j m = ⊎_elim (λ (e : j ≡ i). absurd (n (subst (λ (x : ℕ). Mem x is) e m))) (λ k. k) (out_cases o j (f j (rest m)))

-- as many places as there are, and none twice: every place
covers : (is ps : List ℕ) → length is ≡ length ps → ((j : ℕ) → Mem j is → Mem j ps) → Once is → (j : ℕ) → Mem j ps → Mem j is
covers [] [] e f o j m = m
covers [] (p ∷ ps) e f o j m = absurd (omega arith)
covers (i ∷ is) ps e f o j m =
    let t = out (f i (first refl)) in
    let n : length is ≡ length t.0 = (let q = out_length t.1 in omega arith) in
    ⊎_elim (λ k. first k) (λ k. rest (covers is t.0 n (left t.1 f o.0) o.1 j k)) (out_cases t.1 j m)

module _ (f : ℕ → Update) where
  abbrev Keeps : List ℕ → Type 0
  Keeps [] = Unit {0}
  Keeps (i ∷ is) = ((j : ℕ) → Mem j is → conflict (f i) (f j) ≡ true → i < j) × Keeps is

  keeps : (ps : List ℕ) → ((i j : ℕ) → i < j → j < length ps → conflict (f (get_or ps i 0)) (f (get_or ps j 0)) ≡ true → get_or ps i 0 < get_or ps j 0) → Keeps ps
  keeps [] h = tt
  keeps (p ∷ ps) h = (λ j m. at_place j (mem_place m), keeps ps (λ i j l k e. h (suc i) (suc j) (omega arith) (omega arith) e))
    where
      at_place : (j : ℕ) → (i : ℕ) × (i < length ps) × (get_or ps i 0 ≡ j) → conflict (f p) (f j) ≡ true → p < j
      at_place j t e =
          let q = t.1 in
          subst (λ (x : ℕ). p < x) t.2 (h 0 (suc t.0) (omega arith) (omega arith) (subst (λ (x : ℕ). conflict (f p) (f x) ≡ true) (sym t.2) e))

  lift : {i : ℕ} {ps qs : List ℕ} → Out i ps qs → Rising ps → ((j : ℕ) → Mem j qs → j < i → conflict (f i) (f j) ≡ false) → Pick (f i) (map f ps) (map f qs)
  lift {i} (now {ps = ps} e) r h = subst (λ (q : ℕ). Pick (f i) (f q ∷ map f ps) (map f ps)) e here
  lift {i} (then {p = p} o) r h = later (h p (first refl) (r.0 i (out_mem o))) (lift o r.1 (λ j m l. h j (rest m) l))

  steps : (is ps : List ℕ) → length is ≡ length ps → ((j : ℕ) → Mem j is → Mem j ps) → Once is → Rising ps → Keeps is → Reordered (map f ps) (map f is)
  steps [] [] e g o r k = none
  steps [] (p ∷ ps) e g o r k = absurd (omega arith)
  steps (i ∷ is) ps e g o r k =
      let t = out (g i (first refl)) in
      let n : length is ≡ length t.0 = (let q = out_length t.1 in omega arith) in
      let l : (j : ℕ) → Mem j is → Mem j t.0 = left t.1 g o.0 in
      next (lift t.1 r (λ j m b. quiet j (covers is t.0 n l o.1 j m) b (conflict (f i) (f j)) refl)) (steps is t.0 n l o.1 (out_rising t.1 r) k.1)
    where
      quiet : (j : ℕ) → Mem j is → j < i → (b : Bool) → conflict (f i) (f j) ≡ b → conflict (f i) (f j) ≡ false
      quiet j m l true c = absurd (let q = k.0 j m c in omega arith)
      quiet j m l false c = c

abbrev range : ℕ → List ℕ
range zero = []
range (suc n) = 0 ∷ map suc (range n)

length-range : (n : ℕ) → length (range n) ≡ n
length-range zero = refl
length-range (suc n) = ap suc (length-map (range n) suc ∙ length-range n)

mem_range : (n j : ℕ) → j < n → Mem j (range n)
mem_range zero j h = absurd (omega arith)
mem_range (suc n) zero h = first refl
mem_range (suc n) (suc j) h = rest (Memᴰ.map suc (mem_range n j (omega arith)))

rising_suc : (ps : List ℕ) → Rising ps → Rising (map suc ps)
rising_suc [] r = tt
rising_suc (p ∷ ps) r = (λ j m. let t = Memᴰ.of_map suc ps m in let q = r.0 t.0 t.1 in let z = t.2 in omega arith, rising_suc ps r.1)

rising_range : (n : ℕ) → Rising (range n)
rising_range zero = tt
rising_range (suc n) = (λ j m. let t = Memᴰ.of_map suc (range n) m in let z = t.2 in omega arith, rising_suc (range n) (rising_range n))

at_suc : (u : Update) (us : List Update) (ps : List ℕ) → map (at (u ∷ us)) (map suc ps) ≡ map (at us) ps
at_suc u us [] = refl
at_suc u us (p ∷ ps) = ap {B = List Update} (λ r. at us p ∷ r) (at_suc u us ps)

at_range : (us : List Update) → map (at us) (range (length us)) ≡ us
at_range [] = refl
at_range (u ∷ us) = ap {B = List Update} (λ r. u ∷ r) (at_suc u us (range (length us)) ∙ at_range us)

pub reordered : (us : List Update) (order : List ℕ) → NewOrder us order → Reordered us (in_order us order)
reordered us order h =
    subst (λ (l : List Update). Reordered l (in_order us order)) (at_range us)
    (steps (at us) order (range (length us)) (h.count ∙ sym (length-range (length us)))
    (λ j m. mem_range (length us) j (let t = mem_place m in subst (λ (x : ℕ). x < length us) t.2 (h.inside t.0 t.1)))
    (once order h.once) (rising_range (length us)) (keeps (at us) order h.keeps))
