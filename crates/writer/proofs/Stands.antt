-- Bytes that stand in a file from one place to another: what a reader reads, and what was read.
use mathlib.Core.Path.{◌≡◌, refl, sym, ap, ap₂, subst, ◌∙◌}
use Prim.Native.Nat.{ℕ, suc, ◌+◌, ◌≤◌, ◌<◌}
use mathlib.Core.List.{List, [], ◌∷◌, ◌++◌}
use native.Mathlib.Omega.{arith}
use lib.ListN.{length, get_or, drop, length-drop, drop_of_length-le}
use lib.Seq.{get_or-drop, drop-drop, drop-cons}
use Rattle.reader.specs.Field.{Outcome, got, byte}
use Rattle.reader.proofs.Bytes.{byte_is}
use Rattle.reader.proofs.Forward.{held-got, byte-held}

pub record Here (s : List ℕ) (at b : ℕ) : Type 0 where
  pub room : at < length s
  pub is : get_or s at 0 ≡ b

unfoldable pub Stands : List ℕ → ℕ → List ℕ → ℕ → Type 0
Stands s at [] next = next ≡ at
Stands s at (b ∷ bs) next = Here s at b × Stands s (at + 1) bs next

module _ (s : List ℕ) where
  pub stands_end : (at next : ℕ) → Stands s at [] next → next ≡ at
  unfolding Stands
  stands_end at next h = h

  pub stands_here : (at b : ℕ) (bs : List ℕ) (next : ℕ) → Stands s at (b ∷ bs) next → Here s at b
  unfolding Stands
  stands_here at b bs next h = h.0

  pub stands-behind : (at b : ℕ) (bs : List ℕ) (next : ℕ) → Stands s at (b ∷ bs) next → Stands s (at + 1) bs next
  unfolding Stands
  stands-behind at b bs next h = h.1

  pub here-byte : {at b : ℕ} → Here s at b → byte s at ≡ got b (at + 1)
  here-byte {at} h = sym (byte_is s at h.room) ∙ ap (λ (x : ℕ). got x (at + 1)) h.is

  pub byte-here : (at b next : ℕ) → byte s at ≡ got b next → Here s at b × (next ≡ at + 1)
  byte-here at b next e =
      let f = held-got (λ x next. (next ≡ at + 1) × (next ≤ length s)) (byte-held s at) e in
      let r : at < length s = (let p = f.0 in let q = f.1 in omega arith) in
      let k : ◌≡◌ {A = Outcome ℕ} (got (get_or s at 0) (at + 1)) (got b next) = byte_is s at r ∙ e in
      let i : get_or s at 0 ≡ b = cc in
      (record { room = r; is = i }, f.0)

  pub nothing-stands : (at : ℕ) → Stands s at [] at
  unfolding Stands
  nothing-stands at = refl

  -- a byte that was read, and what stands behind it
  pub byte-stands : (at b mid : ℕ) (bs : List ℕ) (next : ℕ) → byte s at ≡ got b mid → Stands s mid bs next → Stands s at (b ∷ bs) next
  unfolding Stands
  byte-stands at b mid bs next e h = let f = byte-here at b mid e in (f.0, subst (λ (m : ℕ). Stands s m bs next) f.1 h)

  pub stands-join : (bs cs : List ℕ) (at mid next : ℕ) → Stands s at bs mid → Stands s mid cs next → Stands s at (bs ++ cs) next
  unfolding Stands
  stands-join [] cs at mid next h k = subst (λ (m : ℕ). Stands s m cs next) h k
  stands-join (b ∷ bs) cs at mid next h k = (h.0, stands-join bs cs (at + 1) mid next h.1 k)

  pub stands-split : {P : Type 0} (bs cs : List ℕ) (at next : ℕ) → Stands s at (bs ++ cs) next → ((mid : ℕ) → Stands s at bs mid → Stands s mid cs next → P) → P
  unfolding Stands
  stands-split [] cs at next h k = k at refl h
  stands-split (b ∷ bs) cs at next h k = stands-split bs cs (at + 1) next h.1 λ mid p q. k mid (h.0, p) q

  pub stands-length : (bs : List ℕ) (at next : ℕ) → Stands s at bs next → next ≡ at + length bs
  unfolding Stands
  stands-length [] at next h = omega (arith, h)
  stands-length (b ∷ bs) at next h = let e = stands-length bs (at + 1) next h.1 in omega arith

  -- the whole file
  pub all_stands : (rest : List ℕ) (at : ℕ) → drop at s ≡ rest → at ≤ length s → Stands s at rest (length s)
  unfolding Stands
  all_stands [] at e h = let p = length-drop at s in let q = ap length e in omega arith
  all_stands (b ∷ rest) at e h =
      let p = length-drop at s in
      let q = ap length e in
      let r : at < length s = omega arith in
      let z : at + 0 ≡ at = omega arith in
      let i : get_or s at 0 ≡ b = rw z at (sym (get_or-drop at s 0 0) ∙ ap (λ (l : List ℕ). get_or l 0 0) e) in
      (record { room = r; is = i }, all_stands rest (at + 1) (sym (drop-drop 1 at s) ∙ ap (drop 1) e) (omega arith))

  pub stands_all : (bs : List ℕ) (at : ℕ) → Stands s at bs (length s) → drop at s ≡ bs
  unfolding Stands
  stands_all [] at h = drop_of_length-le s (let k : length s ≤ at = omega (arith, h) in k)
  stands_all (b ∷ bs) at h =
      let e : at + 1 ≡ suc at = omega arith in
      let i = h.0.is in
      let r = rw e at (stands_all bs (at + 1) h.1) in
      drop-cons s at 0 h.0.room ∙ ap₂ ◌∷◌ i r
