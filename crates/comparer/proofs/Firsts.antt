-- What `first_cell` and `first_array` answer, round by round: what answers the rest answers the whole.
use mathlib.Core.Path.{◌≡◌, refl, sym, ap, ap₂, ◌∙◌, subst, subst₂}
use mathlib.Core.Logic.{◌⊎◌, inl, inr}
use mathlib.Core.Bool.{Bool, true, false, ◌&&◌, cond}
use mathlib.Core.List.{List, [], ◌∷◌}
use Prim.Native.Nat.{ℕ, zero, suc, ◌+◌, ◌-◌, ◌≤◌, ◌<◌}
use native.Mathlib.Numerals.{add-one}
use native.Mathlib.Omega.{arith}
use lib.ListN.{length, get_or, drop}
use lib.Seq.{drop-cons}
use lib.Dec.{eqb, ltb, leb}
use borrow.Author.Tests.{lt-ltb, le-ltb, leb-false}
use Rattle.model.specs.Tables.{Array, Tables, cells, array_at, starts}
use Rattle.model.specs.Reply as model
use Rattle.terms.specs.Term.{alike}
use Rattle.unroller.specs.Allowed.{allowed_tables}
use Rattle.unroller.specs.Stands.{HeaderAt}
use Rattle.unroller.proofs.Parts.{tables-parts}
use Rattle.comparer.specs.Match.{compared, compared_size, first_cell, first_difference}
use Rattle.comparer.specs.Answers.{reply_says}
use Rattle.comparer.specs.declared.reply.Reply.{Reply}
use Rattle.comparer.specs.declared.reply.Reply.TheVariants as reply
use Rattle.comparer.specs.Comparing.{role_at, compared_at, size_at, BothGiven, Final, Sides, agree, FirstCell, FirstArray}
use Rattle.comparer.proofs.Sizes.{count-few, compared_is, inout_is, size-cells}

-- ---- first_cell_lem
module _ (left right m : List ℕ) (inout : Bool) (p q a size : ℕ) where
  -- no array has its cells outside
  pub cells_outside : (leb (p + size) (length left) ≡ false) ⊎ (leb (q + size) (length right) ≡ false) → (d : ℕ) → FirstCell left right m inout p q a size 0 d
  unfolding FirstCell
  cells_outside (inl h) d swaps l r S found none = absurd (omega (arith, leb-false (p + size) (length left) h, S.left_room))
  cells_outside (inr h) d swaps l r S found none = absurd (omega (arith, leb-false (q + size) (length right) h, S.right_room))

  module _ (c : ℕ) where
    pub cell_end : size ≤ c → FirstCell left right m inout p q a size c size
    unfolding FirstCell
    cell_end h swaps l r S found none =
        let e : size - c ≡ 0 = omega arith in
        rw (e, le-ltb size size (omega arith))

    module _ (h : c < size) (b : Bool) (A : BothGiven m inout (get_or left (p + c) 0) (get_or right (q + c) 0) a c b) where
      test : (swaps : ℕ → Bool) (l r : Final) → Sides swaps left right m inout p q a size l r → b ≡ agree swaps l r a c
      unfolding BothGiven
      test swaps l r S =
          A swaps S.count S.ts (l.1 a c) (r.1 a c) S.stored (S.left_shows c h) (S.right_shows c h)
          ∙ ap₂ (λ (x y : Bool). x && (y && alike swaps (l.1 a c) (r.1 a c))) (sym (S.left_given c h)) (sym (S.right_given c h))

      one_more : size - c ≡ suc (size - (c + 1))
      one_more = omega arith

      pub cell-stop : b ≡ false → FirstCell left right m inout p q a size c c
      unfolding FirstCell
      cell-stop e swaps l r S found none = rw (one_more, sym (test swaps l r S) ∙ e, lt-ltb c size h)

      pub cell-step : b ≡ true → (d : ℕ) → FirstCell left right m inout p q a size (c + 1) d → FirstCell left right m inout p q a size c d
      unfolding FirstCell
      cell-step e d F swaps l r S found none =
          rw (one_more, sym (test swaps l r S) ∙ e)
          (ap (λ (x : ℕ). first_cell (size - (c + 1)) x (agree swaps l r a) found none) (sym (add-one c)) ∙ F swaps l r S found none)

-- ---- one array more
module _ (mask a : ℕ) (x : Array) (xs : List Array) (ag : ℕ → ℕ → Bool) (sum : ℕ) where
  -- the reply on x and on those behind it; on those behind it, after k elements
  abbrev Whole : model.Reply
  Whole = first_difference mask a (x ∷ xs) ag (model.equal (sum + compared_size mask a (x ∷ xs)))

  abbrev Behind : ℕ → model.Reply
  Behind k = first_difference mask (suc a) xs ag (model.equal (k + compared_size mask (suc a) xs))

  abbrev reply_of_lem : ℕ → model.Reply
  reply_of_lem k = first_difference mask (suc a) xs ag (model.equal k)

  first_off : compared mask a x ≡ false → Behind sum ≡ Whole
  first_off e =
      let k = compared_size mask (suc a) xs in
      let z : sum + k ≡ sum + (0 + k) = omega arith in
      rw e (ap reply_of_lem z)

  module _ (e : compared mask a x ≡ true) (size d : ℕ) (z : size ≡ cells x.extents)
      (F : (none : model.Reply) → first_cell size 0 (ag a) (model.differs a) none ≡ cond (ltb d size) (model.differs a d) none) where
    cells_of : (none : model.Reply) (b : Bool) → ltb d size ≡ b → first_cell (cells x.extents) 0 (ag a) (model.differs a) none ≡ cond b (model.differs a d) none
    cells_of none b q =
        ap (λ (n : ℕ). first_cell n 0 (ag a) (model.differs a) none) (sym z) ∙ F none ∙ ap (λ (t : Bool). cond t (model.differs a d) none) q

    first_here : d < size → model.differs a d ≡ Whole
    first_here h = rw e (sym (cells_of (reply_of_lem (sum + (cells x.extents + compared_size mask (suc a) xs))) true (lt-ltb d size h)))

    first_past : size ≤ d → Behind (sum + size) ≡ Whole
    first_past h =
        let k = compared_size mask (suc a) xs in
        let y : sum + size + k ≡ sum + (cells x.extents + k) = omega arith in
        rw e (ap reply_of_lem y ∙ sym (cells_of (reply_of_lem (sum + (cells x.extents + k))) false (le-ltb d size h)))

-- ---- first_array
module _ (list : List ℕ) (mask : ℕ) (lefts rights left right m : List ℕ) where
  abbrev First : ℕ → ℕ → Reply → Type 0
  First = FirstArray list mask lefts rights left right m

  -- no table has so many arrays
  pub arrays-many : (n : ℕ) → n ≡ get_or list 17 0 → 16 < n → (x : Reply) → First 0 0 x
  unfolding FirstArray
  arrays-many n e h x swaps t l r H P S = absurd (omega (arith, H.count, count-few list t H (tables-parts t P)))

  module _ (n : ℕ) (e : n ≡ get_or list 17 0) (a sum : ℕ) where
    pub array_end : n ≤ a → First a sum (reply.Equal sum)
    unfolding FirstArray
    array_end h swaps t l r H P S = go (drop a t.arrays) (drop_all t.arrays a (omega (arith, H.count)))
      where
        drop_all : (xs : List Array) (k : ℕ) → length xs ≤ k → drop k xs ≡ []
        drop_all [] zero i = refl
        drop_all [] (suc k) i = refl
        drop_all (x ∷ xs) zero i = absurd (omega arith)
        drop_all (x ∷ xs) (suc k) i = drop_all xs k (omega arith)

        go : (xs : List Array) → xs ≡ [] → model.equal sum ≡ first_difference mask a xs (agree swaps l r) (model.equal (sum + compared_size mask a xs))
        go xs q = let z : sum ≡ sum + 0 = omega arith in rw q (ap model.equal z)

    module _ (h : a < n) where
      module _ (swaps : ℕ → Bool) (t : Tables) (l r : Final) (H : HeaderAt list t) where
        inside : a < length t.arrays
        inside = omega (arith, H.count)

        -- the arrays from a on are array a and those behind it
        from_here : (k : ℕ) (x : model.Reply)
            → x ≡ Whole mask a (array_at t.arrays a) (drop (suc a) t.arrays) (agree swaps l r) k
            → x ≡ first_difference mask a (drop a t.arrays) (agree swaps l r) (model.equal (k + compared_size mask a (drop a t.arrays)))
        from_here k x w = rw (drop-cons t.arrays a (array_at [] 0) inside) w

        from_next : (k : ℕ) (x : model.Reply)
            → x ≡ first_difference mask (a + 1) (drop (a + 1) t.arrays) (agree swaps l r) (model.equal (k + compared_size mask (a + 1) (drop (a + 1) t.arrays)))
            → x ≡ Behind mask a (array_at t.arrays a) (drop (suc a) t.arrays) (agree swaps l r) k k
        from_next k x w =
            subst (λ (b : ℕ). x ≡ first_difference mask b (drop b t.arrays) (agree swaps l r) (model.equal (k + compared_size mask b (drop b t.arrays)))) (add-one a) w

        answered : allowed_tables t ≡ true → (b : Bool) → b ≡ compared_at list mask a → compared mask a (array_at t.arrays a) ≡ b
        answered P b q = sym (q ∙ compared_is list t H (tables-parts t P) a inside mask)

      pub array_skip : false ≡ compared_at list mask a → (x : Reply) → First (a + 1) sum x → First a sum x
      unfolding FirstArray
      array_skip q x F swaps t l r H P S =
          from_here swaps t l r H sum (reply_says x)
          (from_next swaps t l r H sum (reply_says x) (F swaps t l r H P S)
          ∙ first_off mask a (array_at t.arrays a) (drop (suc a) t.arrays) (agree swaps l r) sum (answered swaps t l r H P false q))

      module _ (q : true ≡ compared_at list mask a) (size : ℕ) (z : size ≡ size_at list a) (role : ℕ) (o : role ≡ role_at list a) (d : ℕ)
          (D : FirstCell left right m (eqb role 2) (get_or lefts a 0) (get_or rights a 0) a size 0 d) where
        module _ (swaps : ℕ → Bool) (t : Tables) (l r : Final) (H : HeaderAt list t) (P : allowed_tables t ≡ true) where
          size_own : size ≡ cells (array_at t.arrays a).extents
          size_own = z ∙ size-cells list t H (tables-parts t P) a (inside swaps t l r H)

          first_is : compared mask a (array_at t.arrays a) ≡ true
              → Sides swaps left right m (starts (array_at t.arrays a)) (get_or lefts a 0) (get_or rights a 0) a (cells (array_at t.arrays a).extents) l r → (none : model.Reply)
              → first_cell size 0 (agree swaps l r a) (model.differs a) none ≡ cond (ltb d size) (model.differs a d) none
          unfolding FirstCell
          first_is on S none =
              let y : size ≡ size - 0 = omega arith in
              ap (λ (k : ℕ). first_cell k 0 (agree swaps l r a) (model.differs a) none) y
              ∙ D swaps l r
              (subst₂ (λ (b : Bool) (k : ℕ). Sides swaps left right m b (get_or lefts a 0) (get_or rights a 0) a k l r)
              (sym (inout_is list t H (tables-parts t P) a (inside swaps t l r H) mask role o on)) (sym size_own) S) (model.differs a) none

        pub array-differs : d < size → First a sum (reply.Differs a d)
        unfolding FirstArray
        array-differs i swaps t l r H P S =
            let on = answered swaps t l r H P true q in
            from_here swaps t l r H sum (model.differs a d)
            (first_here mask a (array_at t.arrays a) (drop (suc a) t.arrays) (agree swaps l r) sum on size d (size_own swaps t l r H P)
            (first_is swaps t l r H P on (S a (inside swaps t l r H) on)) i)

        pub array_more : size ≤ d → (x : Reply) → First (a + 1) (sum + size) x → First a sum x
        unfolding FirstArray
        array_more i x F swaps t l r H P S =
            let on = answered swaps t l r H P true q in
            from_here swaps t l r H sum (reply_says x)
            (from_next swaps t l r H (sum + size) (reply_says x) (F swaps t l r H P S)
            ∙ first_past mask a (array_at t.arrays a) (drop (suc a) t.arrays) (agree swaps l r) sum on size d (size_own swaps t l r H P)
            (first_is swaps t l r H P on (S a (inside swaps t l r H) on)) i)
