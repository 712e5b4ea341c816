-- Steps of the proofs about the head of a file: things in a row that a loop stores.
use mathlib.Core.Path.{◌≡◌, refl, sym, ap, ◌∙◌}
use Prim.Native.Nat.{ℕ, zero, suc, ◌+◌, ◌*◌, ◌^◌, ◌≤◌, ◌<◌}
use mathlib.Core.List.{List, [], ◌∷◌, ◌++◌, append-nil, append_assoc}
use native.Mathlib.Omega.{arith}
use native.Mathlib.Nat.{zero-add, mul-le-mul, pow-le-pow_right}
use native.Mathlib.Numerals.{unary_clauses}
use mathlib.Core.Bool.{Bool, true, false}
use borrow.Author.Tests.{le-leb, leb-true}
use Rattle.std.proofs.lemmas.Bool.{and_parts}
use lib.Dec.{leb, eqb}
use lib.ListN.{length, replicate, length-replicate}
use Rattle.std.specs.Prelude.{Result, Ok, Err, if◌then◌else◌}
use Rattle.std.proofs.lemmas.List.{drop-replicate}
use Rattle.std.proofs.lemmas.List.Edits.{sets, sets-eq}
use Rattle.model.specs.declared.question.Refusal.{Refusal}
use Rattle.model.specs.Test.{within}
use Rattle.model.specs.Tables.{Array, Tables, cells, local}
use Rattle.reader.specs.Field.{Outcome, got, no, Reader, and_then, ask, byte, times}
use Rattle.reader.specs.Grammar.{head, operator_of, operators, extent, array, arrays, tables}
use Rattle.reader.proofs.Stores.{stored_is, unpacked-packed}
use Rattle.reader.specs.Parts.{checked, role_test, extents_in, array_in, array_table, with_array, stored, sizes, Small}
use Rattle.reader.specs.declared.header.Array.{Array as Filled}
use Rattle.reader.specs.declared.tables.Tables.{Tables as Packed}
use Rattle.reader.specs.declared.header.Extents.{Extents}
use Rattle.reader.specs.Answers.{through, read_says, refusal_says}
use Rattle.reader.specs.Entries.{padded, packed, unpacked, tables_step}
use Rattle.reader.proofs.Forward.{Held, held_then, held-ask}
use Rattle.reader.proofs.Steps.{read-got, read_no, made_no, remade}

any : {A : Type 0} (m : Outcome A) → Held (λ _ _. Unit {0}) m
any (got a next) = tt
any (no k p) = tt

held_weak : {A : Type 0} (P Q : A → ℕ → Type 0) (m : Outcome A) → Held P m → ((a : A) (next : ℕ) → P a next → Q a next) → Held Q m
held_weak P Q (got a next) h f = f a next h
held_weak P Q (no k p) h f = tt

-- what is made of a value, where something is known of it
through_held : {A B : Type 0} (P : A → ℕ → Type 0) (f g : A → B) (m : Outcome A) → Held P m → ((a : A) (next : ℕ) → P a next → f a ≡ g a) → through f m ≡ through g m
unfolding through
through_held P f g (got a next) h e = ap (λ (b : _). got b next) (e a next h)
through_held P f g (no k p) h e = refl

pub padded_sets : {A : Type 0} (n : ℕ) (z : A) (l : List A) → length l ≤ n → sets (replicate n z) 0 l ≡ padded n z l
padded_sets n z l h = sets-eq l (replicate n z) 0 (simp length-replicate (omega arith)) ∙ rw (drop-replicate, zero-add)

-- things in a row, and what a loop makes of those that are left
module _ {A : Type 0} (one : Reader A) (s : List ℕ) where
  pub row-held : (n at : ℕ) → Held (λ l _. length l ≡ n) (times [] ◌∷◌ one n s at)
  unfolding times
  row-held zero at = refl
  row-held (suc n) at =
      held_then (λ _ _. Unit {0}) (λ l _. length l ≡ suc n) (one s at) _ (any (one s at)) λ x p _.
      held_then (λ l _. length l ≡ n) (λ l _. length l ≡ suc n) (times [] ◌∷◌ one n s p) _ (row-held n p) λ l q e. omega arith

  module _ {B : Type 0} (f g : List A → B) where
    pub row_start : (n m at : ℕ) → m ≡ n → ((l : List A) → length l ≡ n → g l ≡ f l) → through g (times [] ◌∷◌ one m s at) ≡ through f (times [] ◌∷◌ one n s at)
    row_start n m at w h = rw w (through_held (λ l _. length l ≡ n) g f _ (row-held n at) λ l q. h l)

    pub row_more : (n m at : ℕ) {r : Result (A × ℕ) Refusal} {x : A} {next : ℕ} → read_says r ≡ one s at → r ≡ Ok (x, next) → n ≡ suc m → ((l : List A) → g l ≡ f (x ∷ l)) →
        through g (times [] ◌∷◌ one m s next) ≡ through f (times [] ◌∷◌ one n s at)
    unfolding times
    row_more zero m at e q w h = absurd (omega arith)
    row_more (suc n) m at e q w h = let v : n ≡ m = omega arith in rw (read-got e q, v) (remade _ f g (times [] ◌∷◌ one m s _) h)

  module _ {B : Type 0} (f : List A → B) where
    pub row_none : {b : B} (n at : ℕ) → n ≡ 0 → b ≡ f [] → got b at ≡ through f (times [] ◌∷◌ one n s at)
    unfolding times through
    row_none zero at h e = rw e
    row_none (suc n) at h e = absurd (omega arith)

    pub row_stop : (n at : ℕ) {r : Result (A × ℕ) Refusal} {e : Refusal} → 0 < n → read_says r ≡ one s at → r ≡ Err e → refusal_says e ≡ through f (times [] ◌∷◌ one n s at)
    unfolding times through
    row_stop zero at h e q = absurd (omega arith)
    row_stop (suc n) at h e q = rw (read_no e q)

-- at most three extents, of at most 1,024
pub size_more : (k size x : ℕ) → size ≤ 1024 ^ k → x ≤ 1024 → size * x ≤ 1024 ^ (k + 1)
size_more k size x h w = simp unary_clauses (mul-le-mul h w)

pub size_below : (k size : ℕ) → k ≤ 3 → size ≤ 1024 ^ k → size ≤ 1073741824
size_below k size h w = omega (arith, pow-le-pow_right {n = 1024} (omega arith) h)

-- parts of parts in a row
then_then : {A B C : Type 0} (m : Outcome A) (f : A → ℕ → Outcome B) (g : B → ℕ → Outcome C) → and_then (and_then m f) g ≡ and_then m (λ a n. and_then (f a n) g)
then_then (got a n) f g = refl
then_then (no k p) f g = refl

then_same : {A B : Type 0} (m : Outcome A) (f g : A → B) → ((a : A) → f a ≡ g a) → and_then m (λ a n. got (f a) n) ≡ and_then m (λ a n. got (g a) n)
then_same (got a n) f g h = ap (λ (b : _). got b n) (h a)
then_same (no k p) f g h = refl

-- a checked byte, and what follows it
module _ {B : Type 0} (n : ℕ) (test : ℕ → Bool) (s : List ℕ) (at : ℕ) (f : ℕ → ℕ → Outcome B) where
  pub checked_then : and_then (checked n test s at) f ≡ and_then (byte s at) (λ x y. and_then (ask n at (test x) s y) (λ _ z. f x z))
  unfolding checked
  checked_then = simp then_then

  pub checked-got : {x y : ℕ} → checked n test s at ≡ got x y → f x y ≡ and_then (byte s at) (λ x y. and_then (ask n at (test x) s y) (λ _ z. f x z))
  checked-got e = sym (ap (λ (m : Outcome ℕ). and_then m f) e) ∙ checked_then

  pub checked_no : {k p : ℕ} → checked n test s at ≡ no k p → no k p ≡ and_then (byte s at) (λ x y. and_then (ask n at (test x) s y) (λ _ z. f x z))
  checked_no e = sym (ap (λ (m : Outcome ℕ). and_then m f) e) ∙ checked_then

-- what a loop stores: l is stored, and the rest, of m, is behind it
abbrev pub Behind : {A : Type 0} → Outcome (List A) → List A → Outcome (List A) → Type 0
Behind all l rest = all ≡ and_then rest (λ r next. got (l ++ r) next)

pub behind_none : {A : Type 0} (m : Outcome (List A)) → Behind m [] m
behind_none (got l n) = refl
behind_none (no k p) = refl

module _ {A : Type 0} {all : Outcome (List A)} (l : List A) (rest : Outcome (List A)) (i : Behind all l rest) where
  pub behind-stop : {k p : ℕ} → rest ≡ no k p → all ≡ no k p
  behind-stop e = rw e at i

  pub behind_all : {next : ℕ} → rest ≡ got [] next → all ≡ got l next
  behind_all e = rw (e, append-nil) at i

  pub behind_more : (x : A) (m : Outcome (List A)) → rest ≡ and_then m (λ r next. got (x ∷ r) next) → Behind all (l ++ (x ∷ [])) m
  behind_more x m e =
      i
      ∙ ap (λ (o : Outcome (List A)). and_then o (λ r next. got (l ++ r) next)) e
      ∙ then_then m (λ r next. got (x ∷ r) next) (λ r next. got (l ++ r) next)
      ∙ then_same m _ _ (λ r. sym (append_assoc l (x ∷ []) r))

-- an array by its checked parts
pub array_parts : (after : Bool) (before : ℕ) (s : List ℕ) (at : ℕ) → array after before s at
    ≡ and_then (checked 7 (role_test after) s at) (λ role q.
    and_then (checked 7 (within 1 3) s q) (λ d y.
    and_then (times [] ◌∷◌ extent d s y) (λ l z.
    and_then (ask 8 at (leb (before + cells l) 2048) s z) (λ _ w. got (record { role = role; extents = l }) w))))
unfolding array checked
array_parts after before s at = simp then_then

pub array_is : (role d next : ℕ) (e : Extents) (l : List ℕ) → extents_in l ≡ e → length l ≡ d →
    got (record { role = role; dimensions = d; extents = e.extents; size = e.size }) next ≡ got (array_in (record { role = role; extents = l })) next
array_is role d next e l h w = rw (← h, ← w)

-- arrays in a row, and what a loop makes of those that are left
module _ (s : List ℕ) where
  pub arrays_none : (f : List Array → Packed) (n : ℕ) (after : Bool) (before at : ℕ) → n ≡ 0 → got (f []) at ≡ through f (arrays n after before s at)
  unfolding arrays through
  arrays_none f zero after before at h = refl
  arrays_none f (suc n) after before at h = absurd (omega arith)

  pub arrays_stop : (f : List Array → Packed) (n : ℕ) (after : Bool) (before at : ℕ) {r : Result (Filled × ℕ) Refusal} {e : Refusal} →
      read_says r ≡ through array_in (array after before s at) → r ≡ Err e → 0 < n → refusal_says e ≡ through f (arrays n after before s at)
  unfolding arrays through
  arrays_stop f zero after before at e w h = absurd (omega arith)
  arrays_stop f (suc n) after before at e w h = rw (made_no array_in _ e w)

  pub arrays_more : (n m : ℕ) (after : Bool) (before at : ℕ) (t u : Packed) (k b : ℕ) (a : Array) {x : Filled} {next : ℕ} →
      array after before s at ≡ got a next → array_in a ≡ x → n ≡ suc m → u ≡ with_array t k x b → b ≡ before + x.size →
      through (stored u (k + 1) b) (arrays m (eqb x.role 3) b s next) ≡ through (stored t k before) (arrays n after before s at)
  unfolding arrays
  arrays_more zero m after before at t u k b a e q h v w = absurd (omega arith)
  arrays_more (suc n) m after before at t u k b a e q h v w = let z : n ≡ m = omega arith in rw (v, w, ← q, e, z) (remade _ _ _ _ λ l. refl)

pub array_table_parts : (s : List ℕ) (at : ℕ) → array_table s at ≡ and_then (checked 7 (within 1 16) s at) (λ n y. arrays n false 0 s y)
unfolding array_table checked
array_table_parts s at = simp then_then

zero_leb : (n : ℕ) → leb 0 n ≡ true
zero_leb n = le-leb 0 n (omega arith)

pub tables_parts : (s : List ℕ) (at : ℕ) → tables s at
    ≡ and_then (head s at) (λ version x.
    and_then (checked 6 (within 0 16) s x) (λ n y.
    and_then (times [] ◌∷◌ (operator_of version) n s y) (λ ops z.
    and_then (array_table s z) (λ xs w. got (record { operators = ops; arrays = xs }) w))))
unfolding tables operators array_table checked
tables_parts s at = simp (then_then, zero_leb)

pub tables_are : (s : List ℕ) (at : ℕ) {version x n y z : ℕ} {ops : List ℕ} → head s at ≡ got version x → checked 6 (within 0 16) s x ≡ got n y →
    times [] ◌∷◌ (operator_of version) n s y ≡ got ops z → through (λ xs. packed (record { operators = ops; arrays = xs })) (array_table s z) ≡ through packed (tables s at)
tables_are s at e f g = rw (tables_parts, e, f, g) (remade _ _ _ _ λ xs. refl)

-- what the tables hold
array-held : (after : Bool) (before : ℕ) (s : List ℕ) (at : ℕ) → Held (λ x _. length x.extents ≤ 3) (array after before s at)
unfolding array
array-held after before s at =
    held_then (λ _ _. Unit {0}) (λ x _. length x.extents ≤ 3) (byte s at) _ (any (byte s at)) λ role x _.
    held-ask (λ x _. length x.extents ≤ 3) 7 at (role_test after role) s x _ λ _.
    held_then (λ _ _. Unit {0}) (λ x _. length x.extents ≤ 3) (byte s x) _ (any (byte s x)) λ d y _.
    held-ask (λ x _. length x.extents ≤ 3) 7 x (within 1 3 d) s y _ λ e.
    held_then (λ l _. length l ≡ d) (λ x _. length x.extents ≤ 3) (times [] ◌∷◌ extent d s y) _ (row-held extent s d y) λ l z w.
    held-ask (λ x _. length x.extents ≤ 3) 8 at (leb (before + cells l) 2048) s z _ λ _.
    omega (arith, w, leb-true d 3 (and_parts (leb 1 d) (leb d 3) e).1)

arrays-held : (s : List ℕ) (n : ℕ) (after : Bool) (before at : ℕ) → Held (λ xs _. (length xs ≡ n) × Small xs) (arrays n after before s at)
unfolding arrays Small
arrays-held s zero after before at = (refl, tt)
arrays-held s (suc n) after before at =
    held_then (λ x _. length x.extents ≤ 3) (λ xs _. (length xs ≡ suc n) × Small xs) (array after before s at) _ (array-held after before s at) λ x p h.
    held_then (λ xs _. (length xs ≡ n) × Small xs) (λ xs _. (length xs ≡ suc n) × Small xs) (arrays n (local x) (before + cells x.extents) s p) _ (arrays-held s n (local x) (before + cells x.extents) p) λ xs q w.
    (omega (arith, w.0), (h, w.1))

pub arrays_start : (s : List ℕ) (n at : ℕ) (ops : List ℕ) (empty : Packed) → n ≤ 16 → empty ≡ packed (record { operators = ops; arrays = [] }) →
    through (stored empty 0 0) (arrays n false 0 s at) ≡ through (λ xs. packed (record { operators = ops; arrays = xs })) (arrays n false 0 s at)
unfolding Small sizes
arrays_start s n at ops empty h e = rw e (through_held _ _ _ _ (arrays-held s n false 0 at) λ xs next w. stored_is ops [] xs 0 0 refl (omega (arith, w.0)) tt w.1 refl)

operators-held : (version : ℕ) (s : List ℕ) (at : ℕ) → Held (λ l _. length l ≤ 16) (operators version s at)
unfolding operators
operators-held version s at =
    held_then (λ _ _. Unit {0}) (λ l _. length l ≤ 16) (byte s at) _ (any (byte s at)) λ n x _.
    held-ask (λ l _. length l ≤ 16) 6 at (leb n 16) s x _ λ e. held_weak _ (λ l _. length l ≤ 16) _ (row-held (operator_of version) s n x) λ l y w. omega (arith, w, leb-true n 16 e)

abbrev Fitting : Tables → ℕ → Type 0
Fitting t next = (length t.operators ≤ 16) × (length t.arrays ≤ 16) × Small t.arrays

tables-held : (s : List ℕ) (at : ℕ) → Held Fitting (tables s at)
unfolding tables
tables-held s at =
    held_then (λ _ _. Unit {0}) Fitting (head s at) _ (any (head s at)) λ version x _.
    held_then (λ l _. length l ≤ 16) Fitting (operators version s x) _ (operators-held version s x) λ ops y h.
    held_then (λ _ _. Unit {0}) Fitting (byte s y) _ (any (byte s y)) λ n z _.
    held-ask Fitting 7 y (within 1 16 n) s z _ λ e.
    held_then (λ xs _. (length xs ≡ n) × Small xs) Fitting (arrays n false 0 s z) _ (arrays-held s n false 0 z) λ xs w k.
    (h, omega (arith, k.0, leb-true n 16 (and_parts (leb 1 n) (leb n 16) e).1), k.1)

step-held : (s : List ℕ) → Held Fitting (tables_step s)
unfolding tables_step
step-held s = go (leb (length s) 16384)
  where
    go : (t : Bool) → Held Fitting (if t then tables s 0 else no 2 0)
    go true = tables-held s 0
    go false = tt

-- tables that were packed are read back
pub tables_back : (s : List ℕ) → through unpacked (through packed (tables_step s)) ≡ tables_step s
unfolding through
tables_back s = go (tables_step s) (step-held s)
  where
    go : (m : Outcome Tables) → Held Fitting m → through unpacked (through packed m) ≡ m
    go (got t next) h = rw (unpacked-packed t.operators t.arrays h.0 h.1 h.2)
    go (no k p) h = refl
