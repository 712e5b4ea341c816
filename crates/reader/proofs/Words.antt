-- Eight bytes as one number, and a form's coefficients, the last of them.
use mathlib.Core.Path.{◌≡◌, refl, sym, ap, ap₂, ◌∙◌, subst}
use Prim.Native.Nat.{ℕ, zero, suc, ◌+◌, ◌-◌, ◌*◌, ◌/◌, ◌%◌, ◌^◌, ◌≤◌, ◌<◌}
use native.Mathlib.Nat.{div-one}
use native.Mathlib.Omega.{arith}
use mathlib.Core.List.{List, [], ◌∷◌, ◌++◌}
use lib.ListN.{length, get_or, take, replicate, get_or-append}
use lib.IntN.{ℤ, pos}
use lib.Pow.{shr-shr, shr_lt}
use mir.Syntax.{w8}
use mir.Val.{to_z, of_z}
use mir.Facts.{of_z-to_z}
use Rattle.std.proofs.Common.{rules, length-take-le}
use Rattle.std.proofs.lemmas.Grind.{common_steps}
use Rattle.std.proofs.lemmas.List.{get_or-take}
use Rattle.std.specs.Int.{w64, to_le_bytes, from_le_bytes}
use Rattle.reader.proofs.Numbers.{by_order}
use Rattle.reader.specs.Entries.{padded, signeds, bytes_of, Before}

zeros : (n : ℕ) → bytes_of n 0 ≡ replicate n (pos 0)
unfolding bytes_of
zeros zero = refl
zeros (suc n) = ap (λ (l : List ℤ). pos 0 ∷ l) (zeros n)

-- the eight bytes of a number, each taken as two's complement
module _ (w : ℕ) {l : List ℕ} (e : l ≡ to_le_bytes w64 w) where
  signed : (k n : ℕ) {z : ℤ} → z ≡ to_z w8 (get_or l k 0) → get_or (to_le_bytes w64 w) k 0 ≡ n % 256 → to_z w8 (of_z w8 z) ≡ to_z w8 (n % 256)
  signed k n {z} q h =
      let b : z ≡ to_z w8 (n % 256) = q ∙ ap (λ (m : List ℕ). to_z w8 (get_or m k 0)) e ∙ ap (to_z w8) h in
      ap (λ (z : ℤ). to_z w8 (of_z w8 z)) b ∙ ap (to_z w8) (of_z-to_z {w = w8} {n = n % 256} (record { fits = omega arith }))

  pub bytes-eight : {a b c d e f g h : ℤ} → a ≡ to_z w8 (get_or l 0 0) → b ≡ to_z w8 (get_or l 1 0) → c ≡ to_z w8 (get_or l 2 0) → d ≡ to_z w8 (get_or l 3 0) → e ≡ to_z w8 (get_or l 4 0) → f ≡ to_z w8 (get_or l 5 0) → g ≡ to_z w8 (get_or l 6 0) → h ≡ to_z w8 (get_or l 7 0) →
      (to_z w8 (of_z w8 a) ∷ to_z w8 (of_z w8 b) ∷ to_z w8 (of_z w8 c) ∷ to_z w8 (of_z w8 d) ∷ to_z w8 (of_z w8 e) ∷ to_z w8 (of_z w8 f) ∷ to_z w8 (of_z w8 g) ∷ to_z w8 (of_z w8 h) ∷ []) ≡ bytes_of 8 w
  unfolding bytes_of
  bytes-eight p q r s t u v x = rw (signed 0 (w) p (omega arith), signed 1 (w / 256) q (omega arith), signed 2 (w / 256 / 256) r (omega arith), signed 3 (w / 256 / 256 / 256) s (omega arith), signed 4 (w / 256 / 256 / 256 / 256) t (omega arith), signed 5 (w / 256 / 256 / 256 / 256 / 256) u (omega arith), signed 6 (w / 256 / 256 / 256 / 256 / 256 / 256) v (omega arith), signed 7 (w / 256 / 256 / 256 / 256 / 256 / 256 / 256) x (omega arith))

-- a number of so many bytes, which stand at `at`
bytes-signeds : (s : List ℕ) (loops n at v : ℕ) → loops ≤ n → v < 2 ^ (8 * loops) → ((k : ℕ) → k < loops → v / 2 ^ (8 * k) % 256 ≡ get_or s (at + k) 0) →
    bytes_of n v ≡ padded n (pos 0) (signeds loops s at)
unfolding bytes_of signeds
bytes-signeds s zero n at v h l f =
    let z : v ≡ 0 = omega arith in
    let m : n - 0 ≡ n = omega arith in
    rw (z, m) (zeros n)
bytes-signeds s (suc loops) zero at v h l f = absurd (omega arith)
bytes-signeds s (suc loops) (suc n) at v h l f =
    let m : at + 0 ≡ at = omega arith in
    let head : v % 256 ≡ get_or s at 0 = ap (λ (x : ℕ). x % 256) (sym (div-one v)) ∙ f 0 (omega arith) ∙ ap (λ (i : ℕ). get_or s i 0) m in
    let e : 8 * suc loops ≡ 8 * loops + 8 = omega arith in
    let small : v / 256 < 2 ^ (8 * loops) = shr_lt (8 * loops) 8 (subst (λ (x : ℕ). v < 2 ^ x) e l) in
    let z : suc n - suc (length (signeds loops s (at + 1))) ≡ n - length (signeds loops s (at + 1)) = omega arith in
    rw z (ap₂ (λ (x : ℕ) (l : List ℤ). to_z w8 x ∷ l) head (bytes-signeds s loops n (at + 1) (v / 256) (omega arith) small next))
  where
    next : (k : ℕ) → k < loops → v / 256 / 2 ^ (8 * k) % 256 ≡ get_or s (at + 1 + k) 0
    next k g =
        let e : 8 + 8 * k ≡ 8 * suc k = omega arith in
        let i : at + suc k ≡ at + 1 + k = omega arith in
        ap (λ (x : ℕ). x % 256) (shr-shr v 8 (8 * k) ∙ ap (λ (x : ℕ). v / 2 ^ x) e) ∙ f (suc k) (omega arith) ∙ ap (λ (i : ℕ). get_or s i 0) i

pub coefficients_are : (s : List ℕ) (at loops w half : ℕ) (l : List ℤ) → l ≡ bytes_of 8 (w / 2 ^ half / 2 ^ half) → half ≡ 32 - 4 * loops → loops ≤ 8 → Before s (at + loops) w
    → l ≡ padded 8 (pos 0) (signeds loops s at)
coefficients_are s at loops w half l q d h b =
    let e : half + half ≡ 8 * (8 - loops) = omega arith in
    let v : w / 2 ^ half / 2 ^ half ≡ w / 2 ^ (8 * (8 - loops)) = shr-shr w half half ∙ ap (λ (x : ℕ). w / 2 ^ x) e in
    let m : 64 ≡ 8 * loops + 8 * (8 - loops) = omega arith in
    q ∙ ap (bytes_of 8) v ∙ bytes-signeds s loops 8 at (w / 2 ^ (8 * (8 - loops))) h (shr_lt (8 * loops) (8 * (8 - loops)) (subst (λ (x : ℕ). w < 2 ^ x) m b.eight)) byte
  where
    byte : (k : ℕ) → k < loops → w / 2 ^ (8 * (8 - loops)) / 2 ^ (8 * k) % 256 ≡ get_or s (at + k) 0
    byte k g =
        let e : 8 * (8 - loops) + 8 * k ≡ 8 * (8 - loops + k) = omega arith in
        let i : at + loops + (8 - loops + k) - 8 ≡ at + k = omega arith in
        ap (λ (x : ℕ). x % 256) (shr-shr w (8 * (8 - loops)) (8 * k) ∙ ap (λ (x : ℕ). w / 2 ^ x) e) ∙ b.bytes (8 - loops + k) (omega arith) (omega arith) ∙ ap (λ (i : ℕ). get_or s i 0) i

pub same_before : (s : List ℕ) (end w : ℕ) → 8 ≤ end → Before s (end - 8 + 8) w → Before s end w
same_before s end w h b = let e : end - 8 + 8 ≡ end = omega arith in rw e at b

-- the bytes of a number of eight bytes
digits : (b : List ℕ) → ((i : ℕ) → i < 8 → get_or b i 0 < 256) → (j : ℕ) → j < 8 → from_le_bytes w64 b / 2 ^ (8 * j) % 256 ≡ get_or b j 0
digits b f j h = search rules

-- fewer than eight bytes, with zeros before them
module _ (s q : List ℕ) (end : ℕ) (h : end < 8) (w : end ≤ length s) where
  abbrev led : List ℕ
  led = take (8 - end) (replicate 8 0) ++ (take end s ++ q)

  leads : (j : ℕ) → j < 8 - end → get_or led j 0 ≡ 0
  leads j g = grind (arith, common_steps, get_or-append, get_or-take, length-take-le)

  follows : (j : ℕ) → j < 8 → 8 ≤ end + j → get_or led j 0 ≡ get_or s (end + j - 8) 0
  follows j g l = grind (arith, common_steps, get_or-append, get_or-take, length-take-le)

  pub before_led : ((i : ℕ) → get_or s i 0 < 256) → (v : ℕ) → v < 2 ^ 64 → v ≡ from_le_bytes w64 led → Before s end v
  before_led f v k e = record { eight = k; bytes = λ j g l. rw e (digits led small j g ∙ follows j g l) }
    where
      small : (i : ℕ) → i < 8 → get_or led i 0 < 256
      small i g = by_order 8 (end + i) (λ l. rw (follows i g l) (f _)) (λ l. rw (leads i (omega arith)) (omega arith))
