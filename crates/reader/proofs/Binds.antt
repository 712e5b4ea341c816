-- Taking a reading apart, field by field.
use Rattle.std.specs.Prelude.{if◌then◌else◌}
use mathlib.Core.Path.{◌≡◌, refl, subst}
use Prim.Native.Nat.{ℕ}
use native.Mathlib.Omega.{arith}
use mathlib.Core.List.{List}
use mathlib.Core.Bool.{Bool, true, false}
use Rattle.reader.specs.Field.{Outcome, got, no, Reader, and_then, ask}

-- no reading both ends well and stops
pub not-got : {A : Type 0} {P : Type 0} {k p : ℕ} {a : A} {next : ℕ} → ◌≡◌ {A = Outcome A} (no k p) (got a next) → P
not-got e = absurd (let z : ◌≡◌ {A = ℕ} 0 1 = cc in omega arith)

-- a reading that ends well: its first part did, and then the rest
pub read_by : {A B : Type 0} {P : Type 0} (m : Outcome A) (f : A → ℕ → Outcome B) {b : B} {end : ℕ} → and_then m f ≡ got b end → ((a : A) (next : ℕ) → m ≡ got a next → f a next ≡ got b end → P) → P
read_by (got a next) f e k = k a next refl e
read_by (no question place) f e k = not-got e

pub asked_by : {B : Type 0} {P : Type 0} (question place : ℕ) (test : Bool) (s : List ℕ) (at : ℕ) (f : ℕ → ℕ → Outcome B) {b : B} {end : ℕ}
    → and_then (ask question place test s at) f ≡ got b end → (test ≡ true → f 0 at ≡ got b end → P) → P
asked_by question place true s at f e k = k refl e
asked_by question place false s at f e k = not-got e

pub choose_by : {A : Type 0} {P : Type 0} (z : Bool) (one other : Reader A) (s : List ℕ) (at : ℕ) {x : A} {next : ℕ}
    → (if z then one else other) s at ≡ got x next → (z ≡ true → one s at ≡ got x next → P) → (z ≡ false → other s at ≡ got x next → P) → P
choose_by true one other s at e f g = f refl e
choose_by false one other s at e f g = g refl e

-- what holds of a value that was got and of the place past it,
pub got_so : {A : Type 0} (P : A → ℕ → Type 0) {a b : A} {n m : ℕ} → ◌≡◌ {A = Outcome A} (got a n) (got b m) → P a n → P b m
got_so P {a} {b} {n} {m} e p = let x : a ≡ b = cc in let y : n ≡ m = cc in subst (λ (c : _). P c m) x (subst (λ (k : ℕ). P a k) y p)

-- and of the value alone
pub got_is : {A : Type 0} (P : A → Type 0) {a b : A} {n m : ℕ} → ◌≡◌ {A = Outcome A} (got a n) (got b m) → P a → P b
got_is P e p = got_so (λ a _. P a) e p
