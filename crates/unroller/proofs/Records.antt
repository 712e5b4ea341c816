-- An expression's records in the list: what each writer leaves, from what it called.
use Rattle.std.specs.Prelude.{Result, Ok, Err}
use Rattle.model.specs.declared.question.Refusal.{Refusal}
use mathlib.Core.Path.{◌≡◌, refl, sym, ap, ap₂, ◌∙◌, subst}
use Prim.Native.Nat.{ℕ, suc, ◌+◌, ◌*◌, ◌≤◌, ◌<◌}
use native.Mathlib.Omega.{arith}
use mathlib.Core.List.{List, [], ◌∷◌, ◌++◌}
use mathlib.Core.Bool.{true}
use lib.ListN.{length, get_or, take, set, length-append}
use lib.Seq.{sets}
use lib.IntN.{ℤ}
use borrow.Author.Tests.{ne_eqb}
use mir.Syntax.{w32}
use mir.Val.{of_z, to_z, SFits}
use mir.Facts.{to_z-of_z}
use Rattle.model.specs.Tables.{Tables, array_at, inside}
use Rattle.model.specs.Update.{Tree, Trees, size, sizes}
use Rattle.model.specs.Update.Tree.{cell as cell_of}
use Rattle.reader.specs.Field.{Bytes, Outcome, got, no, u32, times}
use Rattle.reader.specs.Syntax.{Form, Expr, Exprs, count, counts}
use Rattle.reader.specs.Syntax.Expr.{read, apply, literal, named}
use Rattle.reader.specs.Syntax.Exprs.{none, more}
use Rattle.reader.specs.Grammar.{form, subscripts, index, read_of, literal_of, constant_of}
use Rattle.reader.specs.Answers.{read_says}
use Rattle.reader.proofs.Binds.{read_by, got_is}
use Rattle.reader.proofs.Steps.{read-got, read_no}
use Rattle.reader.proofs.Flattened.{sets_append}
use Rattle.unroller.specs.Run.{Ran, ok, stop, ◌>>=◌, cell_at, tree, trees}
use Rattle.unroller.specs.Forms.{Values}
use Rattle.unroller.specs.Allowed.{allowed_tables}
use Rattle.unroller.specs.Layout.{tree_words}
use Rattle.unroller.specs.Stands.{bases_of}
use Rattle.unroller.specs.Writes.{Part, CellIs, CellsFrom, CellOf, WroteIs, WritesRead, WritesLiteral, WritesConstant, WritesLeaf}
use Rattle.unroller.proofs.Parts.{within-high, TablesParts, tables-parts, room}
use Rattle.unroller.proofs.Laws.{tree-length}
use Rattle.unroller.proofs.Runs.{run_by, ok_is}
use Rattle.unroller.proofs.Accepted.{cell_at-inside, index_below, u32-below, subscripts-length}
use Rattle.unroller.proofs.Values.{values_none, values_some}
use Rattle.unroller.proofs.Stands.{bases-length, bases_last, bases-sorted, proper-inside}

-- three stores are one run
pub put_is : (l : List ℕ) (to a b c : ℕ) → set (set (set l to a) (to + 1) b) (to + 2) c ≡ sets l to (a ∷ b ∷ c ∷ [])
put_is l to a b c =
    let e : to + 1 ≡ suc to = omega arith in
    let f : to + 2 ≡ suc (suc to) = omega arith in
    rw (e, f) refl

-- a tree has as many nodes as its expression
module _ (t : Tables) (p : ℕ) (is : List ℤ) where
  mutual
    unfolding tree trees size sizes count counts

    pub tree-size : (e : Expr) (x : Tree) → tree e t p is ≡ ok x → size x ≡ count e
    tree-size (read a fs) x r = run_by (cell_at t p is a fs) _ r λ c _ r1. ok_is (λ x. size x ≡ 1) r1 refl
    tree-size (apply o es) x r = run_by (trees es t p is) _ r λ xs e1 r1. ok_is (λ x. size x ≡ suc (counts es)) r1 (ap suc (trees-size es xs e1))
    tree-size (literal f) x r = ok_is (λ x. size x ≡ 1) r refl
    tree-size (named n) x r = ok_is (λ x. size x ≡ 1) r refl

    pub trees-size : (es : Exprs) (xs : Trees) → trees es t p is ≡ ok xs → sizes xs ≡ counts es
    trees-size none xs r = ok_is (λ xs. sizes xs ≡ 0) r refl
    trees-size (more e es) xs r =
        run_by (tree e t p is) _ r λ x e1 r1.
        run_by (trees es t p is) _ r1 λ ys e2 r2.
        ok_is (λ xs. sizes xs ≡ count e + counts es) r2 (ap₂ ◌+◌ (tree-size e x e1) (trees-size es ys e2))

  pub words_count : (e : Expr) (x : Tree) → tree e t p is ≡ ok x → length (tree_words x) ≡ 3 * count e
  words_count e x r = tree-length x ∙ ap (λ (n : ℕ). 3 * n) (tree-size e x r)

pub count_some : (e : Expr) → 1 ≤ count e
unfolding count
count_some (read a fs) = omega arith
count_some (apply o es) = omega arith
count_some (literal f) = omega arith
count_some (named n) = omega arith

-- a declared cell has a number below 2,048 among all cells
pub spot-below : (t : Tables) (a c : ℕ) → TablesParts t → inside t.arrays a c ≡ true → get_or (bases_of t.arrays) a 0 + c < 2048
spot-below t a c p h =
    let q = proper-inside t.arrays a c h in
    let l = bases-length t.arrays in
    let m = bases_last t.arrays in
    let s = bases-sorted t.arrays (a + 1) (length t.arrays) (omega (arith, q.array)) (omega arith) in
    omega (arith, q.inside, p.fits)

-- words that follow others
pub wrote_more : {A B : Type 0} (f : A → List ℕ) (g : B → List ℕ) (make : A → B) (ws : List ℕ) → ((a : A) → g (make a) ≡ ws ++ f a) →
    (list list1 : List ℕ) (to to1 next : ℕ) → list1 ≡ sets list to ws → to1 ≡ to + length ws →
    (k : Ran A) (r : Part) (list2 : List ℕ) → WroteIs f list1 to1 next k r list2 → WroteIs g list to next (k >>= λ a. ok (make a)) r list2
wrote_more f g make ws w list list1 to to1 next e1 e2 (ok a) (Ok (at, end)) list2 h =
    let n = ap length (w a) in
    let m = length-append ws (f a) in
    let z = h.1 in (
      h.0,
      omega arith,
      h.2 ∙ ap₂ (λ (l : List ℕ) (i : ℕ). sets l i (f a)) e1 e2 ∙ sym (sets_append list to ws (f a)) ∙ ap (λ (v : List ℕ). sets list to v) (sym (w a)),
    )
wrote_more f g make ws w list list1 to to1 next e1 e2 (ok a) (Err k) list2 h = absurd h
wrote_more f g make ws w list list1 to to1 next e1 e2 (stop question place) (Ok (at, end)) list2 h = absurd h
wrote_more f g make ws w list list1 to to1 next e1 e2 (stop question place) (Err k) list2 h = h

-- literals
module _ (s : List ℕ) (at loops : ℕ) (is : List ℤ) (list : List ℕ) (to : ℕ) (list' : List ℕ) (r : Result (ℤ × ℕ) Refusal) (v : Values s at loops is r) where
  pub literal_no : (k : Refusal) → r ≡ Err k → WritesLiteral s at loops is list to (Err k) list'
  unfolding WritesLiteral Values literal_of
  literal_no k q t e next p g l i a w = read_by (form loops s at) _ g λ f at1 e1 r1. values_none r (v f at1 e1 l i) q

  pub literal_is : (z : ℤ) (n word : ℕ) → SFits w32 z → r ≡ Ok (z, n) → word ≡ of_z w32 (to_z w32 (of_z w32 z)) → list' ≡ sets list to (18 ∷ word ∷ 0 ∷ []) →
      WritesLiteral s at loops is list to (Ok (n, to + 3)) list'
  unfolding WritesLiteral Values literal_of tree tree_words
  literal_is z n word j q b w t e next p g l i a room =
      read_by (form loops s at) _ g λ f at1 e1 r1.
      let x : at1 ≡ next = cc in
      let h = values_some r (v f at1 e1 l i) q in
      got_is (λ e. WroteIs tree_words list to next (tree e t p (take loops is)) (Ok (n, to + 3)) list') r1
      (h.1 ∙ x, refl, w ∙ ap (λ (x : ℕ). sets list to (18 ∷ x ∷ 0 ∷ [])) (b ∙ ap (of_z w32) (to_z-of_z {w = w32} {z = z} j ∙ h.0)))

-- constants
module _ (s : List ℕ) (at : ℕ) (list : List ℕ) (to : ℕ) (list' : List ℕ) (r : Result (ℕ × ℕ) Refusal) (says : read_says r ≡ u32 s at) where
  pub constant_no : (k : Refusal) → r ≡ Err k → WritesConstant s at list to (Err k) list'
  unfolding WritesConstant constant_of
  constant_no k x t loops is e next p g l i a w =
      let h = read_no says x in
      read_by (u32 s at) _ g λ n at1 e1 r1. absurd (let z : ◌≡◌ {A = ℕ} 0 1 = cc in omega arith)

  pub constant_is : Bytes s → (n to1 word : ℕ) → r ≡ Ok (n, to1) → (n < 4294967296 → word ≡ n) → list' ≡ sets list to (19 ∷ word ∷ 0 ∷ []) →
      WritesConstant s at list to (Ok (to1, to + 3)) list'
  unfolding WritesConstant constant_of tree tree_words
  constant_is b n to1 word x y w t loops is e next p g l i a room =
      let h : u32 s at ≡ got n to1 = read-got says x in
      read_by (u32 s at) _ g λ m at1 e1 r1.
      let z : n ≡ m = cc in
      let d : to1 ≡ next = cc in
      got_is (λ e. WroteIs tree_words list to next (tree e t p (take loops is)) (Ok (to1, to + 3)) list') r1
      (d, refl, w ∙ ap (λ (b : ℕ). sets list to (19 ∷ b ∷ 0 ∷ [])) (y (u32-below s at b h) ∙ z))

-- reads
module _ (s : List ℕ) (at : ℕ) (t : Tables) (loops : ℕ) (is : List ℤ) (list : List ℕ) (to : ℕ) (list' : List ℕ)
    (r : Result (ℕ × ℕ) Refusal) (says : read_says r ≡ index (length t.arrays) s at) where
  pub read-index_no : (k : Refusal) → r ≡ Err k → WritesRead s at t loops is list to (Err k) list'
  unfolding WritesRead read_of
  read-index_no k x e next p g l i a w =
      let h = read_no says x in
      read_by (index (length t.arrays) s at) _ g λ n at1 e1 r1. absurd (let z : ◌≡◌ {A = ℕ} 0 1 = cc in omega arith)

  module _ (b at1 : ℕ) (x : r ≡ Ok (b, at1)) (m : Part) (y : CellOf s at1 t loops is b m) where
    -- the read that stands there
    pub read_by_cell : (out : Part) →
        ((fs : List Form) (next p : ℕ) → b < length t.arrays → subscripts t loops b s at1 ≡ got fs next → CellIs (cell_at t p (take loops is) b fs) next m → loops ≤ 8 → allowed_tables t ≡ true
        → WroteIs tree_words list to next (tree (read b fs) t p (take loops is)) out list') →
        WritesRead s at t loops is list to out list'
    unfolding WritesRead read_of CellOf CellsFrom subscripts cell_at
    read_by_cell out f e next p g l i a w =
        let h : index (length t.arrays) s at ≡ got b at1 = read-got says x in
        read_by (index (length t.arrays) s at) _ g λ b1 at2 e1 r1.
        read_by (times _ _ (form loops) (length (array_at t.arrays b1).extents) s at2) _ r1 λ fs at3 e2 r2.
        let z : b1 ≡ b = cc in
        let d : at2 ≡ at1 = cc in
        let n : at3 ≡ next = cc in
        let e3 : subscripts t loops b s at1 ≡ got fs next = subst (λ (b : ℕ). subscripts t loops b s at1 ≡ got fs next) z (subst (λ (at : ℕ). subscripts t loops b1 s at ≡ got fs next) d (e2 ∙ ap (got fs) n)) in
        got_is (λ e. WroteIs tree_words list to next (tree e t p (take loops is)) out list') r2
        (subst (λ (b : ℕ). WroteIs tree_words list to next (tree (read b fs) t p (take loops is)) out list') (sym z) (f fs next p (index_below (length t.arrays) s at h) e3 (y (index_below (length t.arrays) s at h) fs next p e3 l i) l a))

    pub read-cell_no : (k : Refusal) → m ≡ Err k → WritesRead s at t loops is list to (Err k) list'
    unfolding tree
    read-cell_no k q =
        read_by_cell (Err k) λ fs next p d e2 c l a. go p fs next (cell_at t p (take loops is) b fs) (subst (λ (m : Part). CellIs (cell_at t p (take loops is) b fs) next m) q c)
      where
        go : (p : ℕ) (fs : List Form) (next : ℕ) (n : Ran ℕ) → CellIs n next (Err k) → WroteIs tree_words list to next (n >>= λ c. ok (cell_of b c)) (Err k) list'
        go p fs next (ok c) h = absurd h
        go p fs next (stop question place) h = h

    pub read_is : (c to1 word1 word2 : ℕ) → m ≡ Ok (c, to1) → (b < 4294967296 → word1 ≡ b) → (c < 4294967296 → word2 ≡ c) → list' ≡ sets list to (16 ∷ word1 ∷ word2 ∷ []) →
        WritesRead s at t loops is list to (Ok (to1, to + 3)) list'
    unfolding tree tree_words
    read_is c to1 word1 word2 q u v w =
        read_by_cell (Ok (to1, to + 3)) λ fs next p d e2 h l a.
        go p fs next d e2 a (cell_at t p (take loops is) b fs) refl (subst (λ (m : Part). CellIs (cell_at t p (take loops is) b fs) next m) q h)
      where
        go : (p : ℕ) (fs : List Form) (next : ℕ) → b < length t.arrays → subscripts t loops b s at1 ≡ got fs next → allowed_tables t ≡ true → (n : Ran ℕ) → cell_at t p (take loops is) b fs ≡ n → CellIs n next (Ok (c, to1)) →
            WroteIs tree_words list to next (n >>= λ c. ok (cell_of b c)) (Ok (to1, to + 3)) list'
        go p fs next d e2 a (ok n) f h =
            let ps = tables-parts t a in
            let few = within-high 1 16 (length t.arrays) ps.count in
            let i = cell_at-inside t p (take loops is) b fs (subscripts-length t loops s b at1 e2) f in
            let k = spot-below t b n ps i in
            let z = h.0 in
            (h.1, refl, w ∙ ap₂ (λ (x y : ℕ). sets list to (16 ∷ x ∷ y ∷ [])) (u (omega arith)) (v (omega arith) ∙ h.0))
        go p fs next d e2 a (stop question place) f h = absurd h

module _ (s : List ℕ) (at : ℕ) (t : Tables) (loops : ℕ) (is : List ℤ) (code : ℕ) (list : List ℕ) (to : ℕ) (r : Part) (list' : List ℕ) where
  pub leaf_read : code ≡ 16 → WritesRead s at t loops is list to r list' → WritesLeaf s at t loops is code list to r list'
  unfolding WritesLeaf WritesRead
  leaf_read q h k e next p g l i a w = h e next p (rw q at g) l i a w

  pub leaf_literal : code ≡ 18 → WritesLiteral s at loops is list to r list' → WritesLeaf s at t loops is code list to r list'
  unfolding WritesLeaf WritesLiteral
  leaf_literal q h k e next p g l i a w = h t e next p (rw q at g) l i a w

  pub leaf_constant : code ≡ 19 → WritesConstant s at list to r list' → WritesLeaf s at t loops is code list to r list'
  unfolding WritesLeaf WritesConstant
  leaf_constant q h k e next p g l i a w = h t loops is e next p (rw q at g) l i a w

  pub leaf_none : (code ≡ 16 → ⊥) → (code ≡ 18 → ⊥) → (code ≡ 19 → ⊥) → WritesLeaf s at t loops is code list to r list'
  unfolding WritesLeaf
  leaf_none x y z k e next p g l i a w =
      let h : ◌≡◌ {A = Outcome Expr} (no 9 k) (got e next) = rw (ne_eqb code 16 x, ne_eqb code 18 y, ne_eqb code 19 z) at g in
      absurd (let z : ◌≡◌ {A = ℕ} 0 1 = cc in omega arith)
