-- Tables by value, stored array by array, and read back.
use mathlib.Core.Path.{◌≡◌, refl, sym, ap, subst, ◌∙◌}
use Prim.Native.Nat.{ℕ, zero, suc, ◌+◌, ◌-◌, ◌*◌, ◌≤◌, ◌<◌, min}
use mathlib.Core.List.{List, [], ◌∷◌, ◌++◌, map, append-nil, append_assoc}
use native.Mathlib.Omega.{arith}
use lib.ListN.{length, get_or, set, replicate, length-append, length-map}
use lib.Seq.{get_or_at}
use Rattle.model.specs.Tables.{Array, cells}
use Rattle.reader.specs.Entries.{padded, cut, array_of, arrays_of, unpacked, threes, bases, packed}
use Rattle.reader.specs.Parts.{Small, sizes, with_array, array_in, stored}
use Rattle.reader.specs.declared.tables.Tables.{Tables as Packed}
use Rattle.reader.proofs.Lists.{length-padded, padded-set}

map_append : {A B : Type 0} (f : A → B) (xs ys : List A) → map f (xs ++ ys) ≡ map f xs ++ map f ys
map_append f [] ys = refl
map_append f (x ∷ xs) ys = ap (λ (l : List _). f x ∷ l) (map_append f xs ys)

threes_append : (xs ys : List Array) → threes (xs ++ ys) ≡ threes xs ++ threes ys
unfolding threes
threes_append [] ys = refl
threes_append (x ∷ xs) ys = ap (λ (l : List ℕ). padded 3 0 x.extents ++ l) (threes_append xs ys) ∙ sym (append_assoc (padded 3 0 x.extents) (threes xs) (threes ys))

length-threes : (xs : List Array) → Small xs → length (threes xs) ≡ 3 * length xs
unfolding threes Small
length-threes [] h = refl
length-threes (x ∷ xs) h =
    length-append (padded 3 0 x.extents) (threes xs)
    ∙ let a : length (padded 3 0 x.extents) ≡ 3 = length-padded 3 0 x.extents h.0 in let b = length-threes xs h.1 in omega (arith, a, b)

pub length-bases : (b : ℕ) (xs : List Array) → length (bases b xs) ≡ length xs + 1
unfolding bases
length-bases b [] = refl
length-bases b (x ∷ xs) = let e = length-bases (b + cells x.extents) xs in omega (arith, e)

bases_snoc : (b : ℕ) (xs : List Array) (x : Array) → bases b xs ++ ((b + sizes xs + cells x.extents) ∷ []) ≡ bases b (xs ++ (x ∷ []))
unfolding bases sizes
bases_snoc b [] x = let e : b + 0 + cells x.extents ≡ b + cells x.extents = omega arith in rw e
bases_snoc b (y ∷ xs) x =
    let e : b + (cells y.extents + sizes xs) + cells x.extents ≡ b + cells y.extents + sizes xs + cells x.extents = omega arith in
    rw e (ap (λ (l : List ℕ). b ∷ l) (bases_snoc (b + cells y.extents) xs x))

pub sizes_snoc : (xs : List Array) (x : Array) → sizes xs + cells x.extents ≡ sizes (xs ++ (x ∷ []))
unfolding sizes
sizes_snoc [] x = omega arith
sizes_snoc (y ∷ xs) x = let e = sizes_snoc xs x in omega (arith, e)

pub small_snoc : (xs : List Array) (x : Array) → Small xs → length x.extents ≤ 3 → Small (xs ++ (x ∷ []))
unfolding Small
small_snoc [] x h w = (w, tt)
small_snoc (y ∷ xs) x h w = (h.0, small_snoc xs x h.1 w)

three : (l : List ℕ) → length l ≡ 3 → l ≡ get_or l 0 0 ∷ get_or l 1 0 ∷ get_or l 2 0 ∷ []
three [] h = absurd (omega arith)
three (a ∷ []) h = absurd (omega arith)
three (a ∷ b ∷ []) h = absurd (omega arith)
three (a ∷ b ∷ c ∷ []) h = refl
three (a ∷ b ∷ c ∷ d ∷ l) h = absurd (omega arith)

three-sets : (l : List ℕ) (k a b c : ℕ) → length l ≡ 3 * k → k < 16 →
    set (set (set (padded 48 0 l) (3 * k) a) (3 * k + 1) b) (3 * k + 2) c ≡ padded 48 0 (l ++ (a ∷ b ∷ c ∷ []))
three-sets l k a b c e h =
    ap (λ (m : List ℕ). set (set m (3 * k + 1) b) (3 * k + 2) c) (padded-set 48 0 l (3 * k) a e (omega arith))
    ∙ ap (λ (m : List ℕ). set m (3 * k + 2) c) (padded-set 48 0 (l ++ (a ∷ [])) (3 * k + 1) b (simp length-append (omega arith)) (omega arith))
    ∙ padded-set 48 0 ((l ++ (a ∷ [])) ++ (b ∷ [])) (3 * k + 2) c (simp length-append (omega arith)) (omega arith)
    ∙ ap (padded 48 0) (append_assoc (l ++ (a ∷ [])) (b ∷ []) (c ∷ []) ∙ append_assoc l (a ∷ []) (b ∷ c ∷ []))

snoc_set : (f : Array → ℕ) (xs : List Array) (x : Array) (k : ℕ) → length xs ≡ k → k < 16 → set (padded 16 0 (map f xs)) k (f x) ≡ padded 16 0 (map f (xs ++ (x ∷ [])))
snoc_set f xs x k e h = padded-set 16 0 (map f xs) k (f x) (length-map xs f ∙ e) h ∙ ap (padded 16 0) (sym (map_append f xs (x ∷ [])))

-- one array more
packed_more : (ops : List ℕ) (xs : List Array) (x : Array) (k total : ℕ) → length xs ≡ k → k < 16 → Small xs → length x.extents ≤ 3 → total ≡ sizes xs + cells x.extents →
    with_array (packed (record { operators = ops; arrays = xs })) k (array_in x) total ≡ packed (record { operators = ops; arrays = xs ++ (x ∷ []) })
unfolding with_array packed threes
packed_more ops xs x k total e h s w d =
    let p1 : k + 1 ≡ length (xs ++ (x ∷ [])) = simp length-append (omega arith) in
    let p2 = snoc_set (λ x. x.role) xs x k e h in
    let p3 = snoc_set (λ x. length x.extents) xs x k e h in
    let l = padded 3 0 x.extents in
    let p4 : set (set (set (padded 48 0 (threes xs)) (3 * k) (get_or l 0 0)) (3 * k + 1) (get_or l 1 0)) (3 * k + 2) (get_or l 2 0) ≡ padded 48 0 (threes (xs ++ (x ∷ []))) =
    three-sets (threes xs) k _ _ _ (length-threes xs s ∙ ap (λ (n : ℕ). 3 * n) e) h
    ∙ ap (λ (m : List ℕ). padded 48 0 (threes xs ++ m)) (sym (three l (length-padded 3 0 x.extents w)) ∙ sym (append-nil l))
    ∙ ap (padded 48 0) (sym (threes_append xs (x ∷ []))) in
    let p5 : set (padded 17 0 (bases 0 xs)) (k + 1) total ≡ padded 17 0 (bases 0 (xs ++ (x ∷ []))) =
    (let z : total ≡ 0 + sizes xs + cells x.extents = omega arith in
    ap (λ (v : ℕ). set (padded 17 0 (bases 0 xs)) (k + 1) v) z
    ∙ padded-set 17 0 (bases 0 xs) (k + 1) (0 + sizes xs + cells x.extents) (length-bases 0 xs ∙ ap (λ (n : ℕ). n + 1) e) (omega arith) ∙ ap (padded 17 0) (bases_snoc 0 xs x)) in
    rw (p2, p3, p4, p5, p1)

-- all of them
pub stored_is : (ops : List ℕ) (xs ys : List Array) (k before : ℕ) → length xs ≡ k → k + length ys ≤ 16 → Small xs → Small ys → before ≡ sizes xs →
    stored (packed (record { operators = ops; arrays = xs })) k before ys ≡ packed (record { operators = ops; arrays = xs ++ ys })
unfolding Small
stored_is ops xs [] k before e h s w b = rw append-nil
stored_is ops xs (y ∷ ys) k before e h s w b =
    rw (packed_more ops xs y k (before + cells y.extents) e (omega arith) s w.0 (omega arith))
    (stored_is ops (xs ++ (y ∷ [])) ys (k + 1) (before + cells y.extents) (simp length-append (omega arith)) (omega arith) (small_snoc xs y s w.0) w.1 (omega (arith, sizes_snoc xs y))
    ∙ ap (λ (l : List Array). packed (record { operators = ops; arrays = l })) (append_assoc xs (y ∷ []) ys))

-- a part of a list, read back
pub cut_mid : (n from : ℕ) (p l q : List ℕ) → length l ≡ n → length p ≡ from → cut n from (p ++ (l ++ q)) ≡ l
unfolding cut
cut_mid zero from p [] q e h = refl
cut_mid zero from p (a ∷ l) q e h = absurd (omega arith)
cut_mid (suc n) from p [] q e h = absurd (omega arith)
cut_mid (suc n) from p (a ∷ l) q e h =
    let u : cut n (from + 1) (p ++ (a ∷ (l ++ q))) ≡ l =
    ap (cut n (from + 1)) (sym (append_assoc p (a ∷ []) (l ++ q))) ∙ cut_mid n (from + 1) (p ++ (a ∷ [])) l q (omega arith) (simp length-append (omega arith)) in
    rw (get_or_at p a (l ++ q) 0 from h, u)

get_d_mid : (f : Array → ℕ) (ps xs : List Array) (x : Array) (n : ℕ) → get_or (padded n 0 (map f (ps ++ (x ∷ xs)))) (length ps) 0 ≡ f x
get_d_mid f ps xs x n =
    ap (λ (l : List ℕ). get_or (padded n 0 l) (length ps) 0) (map_append f ps (x ∷ xs))
    ∙ ap (λ (l : List ℕ). get_or l (length ps) 0) (append_assoc (map f ps) (f x ∷ map f xs) (replicate (n - length (map f ps ++ (f x ∷ map f xs))) 0))
    ∙ get_or_at (map f ps) (f x) (map f xs ++ replicate (n - length (map f ps ++ (f x ∷ map f xs))) 0) 0 (length ps) (length-map ps f)

module _ (ops : List ℕ) where
  abbrev with_arrays : List Array → Packed
  with_arrays xs = packed (record { operators = ops; arrays = xs })

  array_back : (ps xs : List Array) (x : Array) → Small ps → length x.extents ≤ 3 → array_of (with_arrays (ps ++ (x ∷ xs))) (length ps) ≡ x
  unfolding array_of packed threes
  array_back ps xs x s w =
      let d : min (get_or (padded 16 0 (map (λ x. length x.extents) (ps ++ (x ∷ xs)))) (length ps) 0) 3 ≡ length x.extents =
      omega (arith, get_d_mid (λ x. length x.extents) ps xs x 16) in
      let rest = replicate (3 - length x.extents) 0 ++ (threes xs ++ replicate (48 - length (threes (ps ++ (x ∷ xs)))) 0) in
      let e : padded 48 0 (threes (ps ++ (x ∷ xs))) ≡ threes ps ++ (x.extents ++ rest) =
      ap (λ (l : List ℕ). l ++ replicate (48 - length (threes (ps ++ (x ∷ xs)))) 0) (threes_append ps (x ∷ xs)) ∙ simp append_assoc in
      rw (get_d_mid (λ x. x.role) ps xs x 16, d, e, cut_mid (length x.extents) (3 * length ps) (threes ps) x.extents rest refl (length-threes ps s))

  arrays-back : (ps xs : List Array) → Small ps → Small xs → arrays_of (with_arrays (ps ++ xs)) (length xs) (length ps) ≡ xs
  unfolding arrays_of Small
  arrays-back ps [] s h = refl
  arrays-back ps (x ∷ xs) s h =
      let n : length (ps ++ (x ∷ [])) ≡ length ps + 1 = simp length-append in
      let u : arrays_of (with_arrays (ps ++ (x ∷ xs))) (length xs) (length ps + 1) ≡ xs =
      subst (λ (m : ℕ). arrays_of (with_arrays (ps ++ (x ∷ xs))) (length xs) m ≡ xs) n
      (subst (λ (l : List Array). arrays_of (with_arrays l) (length xs) (length (ps ++ (x ∷ []))) ≡ xs) (append_assoc ps (x ∷ []) xs)
      (arrays-back (ps ++ (x ∷ [])) xs (small_snoc ps x s h.0) h.1)) in
      rw (array_back ps xs x s h.0, u)

  operators-back : length ops ≤ 16 → (xs : List Array) → cut (min (with_arrays xs).operators 16) 0 (with_arrays xs).bytes ≡ ops
  unfolding packed
  operators-back h xs = let m : min (length ops) 16 ≡ length ops = omega arith in rw m (cut_mid (length ops) 0 [] ops (replicate (16 - length ops) 0) refl refl)

  arrays-kept : (xs : List Array) → length xs ≤ 16 → min (with_arrays xs).arrays 16 ≡ length xs
  unfolding packed
  arrays-kept xs h = omega arith

-- tables that were packed are read back
pub unpacked-packed : (ops : List ℕ) (xs : List Array) → length ops ≤ 16 → length xs ≤ 16 → Small xs →
    unpacked (packed (record { operators = ops; arrays = xs })) ≡ record { operators = ops; arrays = xs }
unfolding unpacked Small
unpacked-packed ops xs h w s = rw (operators-back ops h xs, arrays-kept ops xs w, arrays-back ops [] xs tt s)
