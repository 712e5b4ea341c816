-- An expression written node by node in prefix order: what each record leaves to be written, and the loop over them.
use Rattle.std.specs.Prelude.{Result, Ok, Err}
use Rattle.model.specs.declared.question.Refusal.{Refusal}
use mathlib.Core.Path.{◌≡◌, refl, sym, ap, ap₂, ◌∙◌, subst}
use Prim.Native.Nat.{ℕ, zero, suc, ◌+◌, ◌-◌, ◌*◌, ◌≤◌, ◌<◌}
use native.Mathlib.Omega.{arith}
use mathlib.Core.List.{List, [], ◌∷◌, ◌++◌, append_assoc, append-nil}
use mathlib.Core.Bool.{true, false}
use lib.ListN.{length, get_or, take, length-append}
use lib.Seq.{sets, length-sets}
use lib.Dec.{eqb}
use lib.IntN.{ℤ}
use borrow.Author.Tests.{eqb-true}
use Rattle.model.specs.Tables.{Tables, operator_byte, arity_at}
use Rattle.model.specs.Update.{Tree, Trees}
use Rattle.model.specs.Update.Tree.{operator}
use Rattle.model.specs.Update.Trees.{cons}
use Rattle.reader.specs.Field.{got, byte, times, refuse}
use Rattle.reader.specs.Syntax.{Expr, Exprs, count, counts}
use Rattle.reader.specs.Syntax.Expr.{apply}
use Rattle.reader.specs.Syntax.Exprs.{none, more}
use Rattle.reader.specs.Grammar.{form, subscripts, index, read_of, literal_of, constant_of, apply_of, node, applied}
use Rattle.reader.specs.Field.{u32}
use Rattle.reader.specs.Answers.{read_says}
use Rattle.reader.proofs.Binds.{not-got, read_by, choose_by, got_is}
use Rattle.reader.proofs.Steps.{read-got, read_no}
use Rattle.unroller.specs.Run.{Ran, ok, stop, ◌>>=◌, tree, trees}
use Rattle.unroller.specs.Allowed.{allowed_tables}
use Rattle.unroller.specs.Layout.{tree_words, trees_words}
use Rattle.unroller.specs.Writes.{Part, WroteIs, leaf_of, WritesLeaf, WritesNode, Chain, forest, total, WritesRest, WritesRecord, WritesOperator, Roomy, Ends}
use Rattle.model.proofs.Operators.{arity_few}
use Rattle.unroller.proofs.Parts.{within-high, every_at, tables-parts}
use Rattle.unroller.proofs.Accepted.{index_below}
use Rattle.unroller.proofs.Records.{words_count, count_some, wrote_more}

-- arguments as a list
listed : Exprs → List Expr
listed none = []
listed (more e es) = e ∷ listed es

total_append : (xs ys : List Expr) → total (xs ++ ys) ≡ total xs + total ys
unfolding total
total_append [] ys = omega arith
total_append (x ∷ xs) ys = let h = total_append xs ys in omega arith

total-args : (es : Exprs) → total (listed es) ≡ counts es
unfolding total listed counts
total-args none = refl
total-args (more e es) = ap (λ (n : ℕ). count e + n) (total-args es)

module _ (s : List ℕ) (t : Tables) (loops : ℕ) (is : List ℤ) where
  chain_append : (xs ys : List Expr) (a b c : ℕ) → Chain s t loops is a xs b → Chain s t loops is b ys c → Chain s t loops is a (xs ++ ys) c
  unfolding Chain
  chain_append [] ys a b c h k = subst (λ (q : ℕ). Chain s t loops is q ys c) (sym h) k
  chain_append (x ∷ xs) ys a b c h k = (h.0, h.1, h.2, chain_append xs ys h.1 b c h.3 k)

  chain_args : (left n at : ℕ) (es : Exprs) (next : ℕ) → times none more (node t loops (applied t loops left)) n s at ≡ got es next → Chain s t loops is at (listed es) next × (length (listed es) ≡ n)
  unfolding times listed Chain
  chain_args left zero at es next g = let z : at ≡ next = cc in got_is (λ es. Chain s t loops is at (listed es) next × (length (listed es) ≡ 0)) g (z, refl)
  chain_args left (suc n) at es next g =
      read_by (node t loops (applied t loops left) s at) _ g λ e at1 e1 v1.
      read_by (times none more (node t loops (applied t loops left)) n s at1) _ v1 λ ds at2 e2 v2.
      let z : at2 ≡ next = cc in
      let h = chain_args left n at1 ds next (e2 ∙ ap (got ds) z) in
      got_is (λ es. Chain s t loops is at (listed es) next × (length (listed es) ≡ suc n)) v2 ((left, at1, e1, h.0), ap suc h.1)

  same_run : (m : Ran (List ℕ)) → (m >>= λ ws. ok ws) ≡ m
  same_run (ok ws) = refl
  same_run (stop k q) = refl

  forest-args : (es : Exprs) (rest : List Expr) (p : ℕ) →
      forest s t loops is (listed es ++ rest) p ≡ (trees es t p (take loops is) >>= λ xs. forest s t loops is rest p >>= λ ws. ok (trees_words xs ++ ws))
  unfolding forest listed trees trees_words
  forest-args none rest p = sym (same_run (forest s t loops is rest p))
  forest-args (more e es) rest p =
      rw (forest-args es rest p) (go (tree e t p (take loops is)) (trees es t p (take loops is)) (forest s t loops is rest p))
    where
      go : (k : Ran Tree) (l : Ran Trees) (m : Ran (List ℕ)) → (k >>= λ x. (l >>= λ xs. m >>= λ ws. ok (trees_words xs ++ ws)) >>= λ ws. ok (tree_words x ++ ws))
          ≡ ((k >>= λ x. l >>= λ xs. ok (cons x xs)) >>= λ xs. m >>= λ ws. ok (trees_words xs ++ ws))
      go (ok x) (ok xs) (ok ws) = ap (λ (v : List ℕ). ok v) (sym (append_assoc (tree_words x) (trees_words xs) ws))
      go (ok x) (ok xs) (stop k q) = refl
      go (ok x) (stop k q) m = refl
      go (stop k q) l m = refl

  forest-apply : (o : ℕ) (es : Exprs) (rest : List Expr) (p : ℕ) → forest s t loops is (apply o es ∷ rest) p ≡ (forest s t loops is (listed es ++ rest) p >>= λ ws. ok (17 ∷ o ∷ 0 ∷ ws))
  unfolding forest tree tree_words
  forest-apply o es rest p = rw (forest-args es rest p) (go (trees es t p (take loops is)) (forest s t loops is rest p))
    where
      go : (l : Ran Trees) (m : Ran (List ℕ)) → ((l >>= λ ts. ok (operator o ts)) >>= λ x. m >>= λ ws. ok (tree_words x ++ ws)) ≡ ((l >>= λ xs. m >>= λ ws. ok (trees_words xs ++ ws)) >>= λ ws. ok (17 ∷ o ∷ 0 ∷ ws))
      go (ok ts) (ok ws) = refl
      go (ok ts) (stop k q) = refl
      go (stop k q) m = refl

  -- the first of the expressions that stand there
  rest_by : (at n : ℕ) (list : List ℕ) (to : ℕ) (r : Part) (list' : List ℕ) →
      ((e : Expr) (rest : List Expr) (left mid next p : ℕ) → node t loops (applied t loops left) s at ≡ got e mid → Chain s t loops is mid rest next → length rest ≡ n → loops ≤ 8 → length is ≡ 8
      → allowed_tables t ≡ true → to + 3 * (count e + total rest) ≤ length list → WroteIs (λ ws. ws) list to next (forest s t loops is (e ∷ rest) p) r list')
      → WritesRest s t loops is at (suc n) list to r list'
  unfolding WritesRest Chain total
  rest_by at n list to r list' f [] next p ch len l i a w = absurd (omega arith)
  rest_by at n list to r list' f (e ∷ rest) next p ch len l i a w = f e rest ch.0 ch.1 next p ch.2 ch.3 (omega arith) l i a w

  -- ---- the loop's end and its beginning
  pub rest_end : (at n : ℕ) (list : List ℕ) (to : ℕ) → n ≡ 0 → WritesRest s t loops is at n list to (Ok (at, to)) list
  unfolding WritesRest Chain forest
  rest_end at n list to z [] next p ch len l i a w = (ch, omega arith, refl)
  rest_end at n list to z (e ∷ es) next p ch len l i a w = absurd (omega arith)

  pub rest_whole : (at left : ℕ) (list : List ℕ) (to : ℕ) (r : Part) (list' : List ℕ) → WritesRest s t loops is at 1 list to r list' → WritesNode s at t loops is left list to r list'
  unfolding WritesRest WritesNode Chain forest total
  rest_whole at left list to r list' h e next p g l i a w =
      go (tree e t p (take loops is)) r (h (e ∷ []) next p (left, next, g, refl) refl l i a (let z : count e + 0 ≡ count e = omega arith in rw z w))
    where
      go : (m : Ran Tree) (r : Part) → WroteIs (λ ws. ws) list to next (m >>= λ x. ok (tree_words x ++ [])) r list' → WroteIs tree_words list to next m r list'
      go (ok x) (Ok (a, b)) h = rw (append-nil (tree_words x)) at h
      go (ok x) (Err k) h = absurd h
      go (stop k q) (Ok (a, b)) h = absurd h
      go (stop k q) (Err j) h = h

  -- ---- one record
  module _ (at : ℕ) (list : List ℕ) (to : ℕ) (list1 : List ℕ) where
    pub record-short : (k : Refusal) → length list < to + 3 → WritesRecord s t loops is at list to (Err k) list1
    unfolding WritesRecord
    record-short k h n list' = rest_by at n list to (Err k) list' λ e rest left mid next p g ch len l i a w. absurd (let z = count_some e in omega arith)

    module _ (m : Result (ℕ × ℕ) Refusal) (says : read_says m ≡ byte s at) where
      pub record_no : (k : Refusal) → m ≡ Err k → WritesRecord s t loops is at list to (Err k) list1
      unfolding WritesRecord node
      record_no k x n list' = rest_by at n list to (Err k) list' λ e rest left mid next p g ch len l i a w.
          let h = read_no says x in
          read_by (byte s at) _ g λ c at1 e1 r1. absurd (let z : ◌≡◌ {A = ℕ} 0 1 = cc in omega arith)

      module _ (code at1 : ℕ) (x : m ≡ Ok (code, at1)) where
        pub record-operator : (r : Part) → eqb code 17 ≡ true → WritesOperator s at1 t list to r list1 → WritesRecord s t loops is at list to r list1
        unfolding WritesOperator
        record-operator r q h = h at loops is (read-got says x ∙ ap (λ (c : ℕ). got c at1) (eqb-true code 17 q))

        leaf_count : (q : ℕ) (e : Expr) (mid : ℕ) → leaf_of s at1 t loops is code q s at1 ≡ got e mid → count e ≡ 1
        unfolding read_of literal_of constant_of subscripts count
        leaf_count q e mid g =
            choose_by (eqb code 0x10) (read_of t loops) _ s at1 g
            (λ z g1. read_by (index (length t.arrays) s at1) _ g1 λ b at2 e1 r1. read_by (subscripts t loops b s at2) _ r1 λ fs at3 e2 r2. got_is (λ e. count e ≡ 1) r2 refl)
            λ z g1. choose_by (eqb code 0x12) (literal_of t loops) _ s at1 g1
            (λ z g2. read_by (form loops s at1) _ g2 λ f at2 e1 r1. got_is (λ e. count e ≡ 1) r1 refl)
            λ z g2. choose_by (eqb code 0x13) (constant_of t loops) (refuse 9 q) s at1 g2
            (λ z g3. read_by (u32 s at1) _ g3 λ c at2 e1 r1. got_is (λ e. count e ≡ 1) r1 refl)
            (λ z g3. not-got g3)

        leaf_is : (q left : ℕ) (e : Expr) (mid : ℕ) → eqb code 17 ≡ false → node t loops (applied t loops left) s at ≡ got e mid → leaf_of s at1 t loops is code at s at1 ≡ got e mid
        unfolding node
        leaf_is q left e mid z g = let b : byte s at ≡ got code at1 = read-got says x in rw (b, z) at g

        module _ (z : eqb code 17 ≡ false) (v : Part) (y : WritesLeaf s at1 t loops is code list to v list1) where
          pub record_leaf_no : (k : Refusal) → v ≡ Err k → WritesRecord s t loops is at list to (Err k) list1
          unfolding WritesRecord WritesLeaf forest
          record_leaf_no k q n list' = rest_by at n list to (Err k) list' λ e rest left mid next p g ch len l i a w.
              go e rest p next mid (tree e t p (take loops is)) (subst (λ (v : Part). WroteIs tree_words list to mid (tree e t p (take loops is)) v list1) q (y at e mid p (leaf_is at left e mid z g) l i a (omega arith)))
            where
              go : (e : Expr) (rest : List Expr) (p next mid : ℕ) (m : Ran Tree) → WroteIs tree_words list to mid m (Err k) list1 →
                  WroteIs (λ ws. ws) list to next (m >>= λ x. forest s t loops is rest p >>= λ ws. ok (tree_words x ++ ws)) (Err k) list'
              go e rest p next mid (ok x) h = absurd h
              go e rest p next mid (stop j q) h = h

          pub record_leaf : (b c : ℕ) → v ≡ Ok (b, c) → WritesRecord s t loops is at list to (Ok (b, 0)) list1
          unfolding WritesRecord WritesLeaf WritesRest forest
          record_leaf b c q n r list' h = rest_by at n list to r list' λ e rest left mid next p g ch len l i a w.
              let g1 = leaf_is at left e mid z g in
              go e rest p next mid (leaf_count at e mid g1) ch len l i a w (tree e t p (take loops is)) refl
              (subst (λ (v : Part). WroteIs tree_words list to mid (tree e t p (take loops is)) v list1) q (y at e mid p g1 l i a (omega arith)))
            where
              go : (e : Expr) (rest : List Expr) (p next mid : ℕ) → count e ≡ 1 → Chain s t loops is mid rest next → length rest ≡ n → loops ≤ 8 → length is ≡ 8 → allowed_tables t ≡ true
                  → to + 3 * (count e + total rest) ≤ length list → (m : Ran Tree) → tree e t p (take loops is) ≡ m → WroteIs tree_words list to mid m (Ok (b, c)) list1 →
                  WroteIs (λ ws. ws) list to next (m >>= λ x. forest s t loops is rest p >>= λ ws. ok (tree_words x ++ ws)) r list'
              go e rest p next mid one ch len l i a w (ok x) f k =
                  let wc = words_count t p (take loops is) e x f in
                  let len1 = ap length k.2 ∙ length-sets list to (tree_words x) in
                  let place = k.0 in
                  let to3 : to + 3 ≡ to + length (tree_words x) = omega arith in
                  wrote_more (λ ws. ws) (λ ws. ws) (λ ws. tree_words x ++ ws) (tree_words x) (λ ws. refl) list list1 to (to + 3) next k.2 to3 (forest s t loops is rest p) r list'
                  (h rest next p (subst (λ (q : ℕ). Chain s t loops is q rest next) (sym place) ch) (omega arith) l i a (omega arith))
              go e rest p next mid one ch len l i a w (stop j q) f k = absurd k

-- behind an operator's code
module _ (s : List ℕ) (at : ℕ) (t : Tables) (list : List ℕ) (to : ℕ) (list1 : List ℕ) (m : Result (ℕ × ℕ) Refusal) (says : read_says m ≡ index (length t.operators) s at) where
  -- the operator that stands there, and its arguments
  operator_by : {P : Type 0} (place loops left : ℕ) {e : Expr} {mid : ℕ} → byte s place ≡ got 17 at → node t loops (applied t loops left) s place ≡ got e mid →
      ((less o at1 : ℕ) (es : Exprs) → index (length t.operators) s at ≡ got o at1 → times none more (node t loops (applied t loops less)) (arity_at t.operators o) s at1 ≡ got es mid → apply o es ≡ e → P) → P
  unfolding node applied apply_of
  operator_by {P} place loops left {e} {mid} b g f = go left (rw b at g)
    where
      go : (left : ℕ) → applied t loops left place s at ≡ got e mid → P
      go zero h = not-got h
      go (suc less) h =
          read_by (index (length t.operators) s at) _ h λ o at1 e1 r1.
          read_by (times none more (node t loops (applied t loops less)) (arity_at t.operators o) s at1) _ r1 λ es at2 e2 r2.
          let v : at2 ≡ mid = cc in
          let u : apply o es ≡ e = cc in
          f less o at1 es e1 (e2 ∙ ap (got es) v) u

  pub operator_no : (k : Refusal) → m ≡ Err k → WritesOperator s at t list to (Err k) list1
  unfolding WritesOperator WritesRecord
  operator_no k x place loops is b n list' = rest_by s t loops is place n list to (Err k) list' λ e rest left mid next p g ch len l i a w.
      let h = read_no says x in
      operator_by place loops left b g λ less o at1 es e1 e2 u. absurd (let z : ◌≡◌ {A = ℕ} 0 1 = cc in omega arith)

  module _ (o at1 n : ℕ) (x : m ≡ Ok (o, at1)) (d : n ≡ arity_at t.operators o) where
    found : index (length t.operators) s at ≡ got o at1
    found = read-got says x

    pub operator-many : (j : Refusal) → 4 < n → WritesOperator s at t list to (Err j) list1
    unfolding WritesOperator WritesRecord
    operator-many j h place loops is b k list' = rest_by s t loops is place k list to (Err j) list' λ e rest left mid next p g ch len l i a w.
        absurd (let v = arity_few 2 (get_or t.operators o 0) (every_at operator_byte t.operators 0 o (tables-parts t a).bytes (index_below (length t.operators) s at found)) in omega arith)

    pub operator_is : (word : ℕ) → (o < 4294967296 → word ≡ o) → list1 ≡ sets list to (17 ∷ word ∷ 0 ∷ []) → WritesOperator s at t list to (Ok (at1, n)) list1
    unfolding WritesOperator WritesRecord WritesRest count
    operator_is word y f place loops is b k r list' h = rest_by s t loops is place k list to r list' λ e rest left mid next p g ch len l i a w.
        operator_by place loops left b g λ less o1 at2 es e1 e2 u.
        let fo = found in
        let same : o1 ≡ o = cc in
        let there : at2 ≡ at1 = cc in
        let ps = tables-parts t a in
        let few = within-high 0 16 (length t.operators) ps.operators in
        let small = index_below (length t.operators) s at fo in
        let f1 : list1 ≡ sets list to (17 ∷ o ∷ 0 ∷ []) = f ∙ ap (λ (b : ℕ). sets list to (17 ∷ b ∷ 0 ∷ [])) (y (omega arith)) in
        let len1 = ap length f1 ∙ length-sets list to (17 ∷ o ∷ 0 ∷ []) in
        let g2 : times none more (node t loops (applied t loops less)) n s at1 ≡ got es mid =
        ap₂ (λ (k q : ℕ). times none more (node t loops (applied t loops less)) k s q) (d ∙ ap (λ (o : ℕ). arity_at t.operators o) (sym same)) (sym there) ∙ e2 in
        let v = chain_args s t loops is less n at1 es mid g2 in
        let ct : count (apply o1 es) ≡ count e = ap count u in
        let ta = total_append (listed es) rest in
        let tb = total-args es in
        let la = length-append (listed es) rest in
        let lb = v.1 in
        let z : apply o es ≡ e = ap (λ (o : ℕ). apply o es) (sym same) ∙ u in
        subst (λ (e : Expr). WroteIs (λ ws. ws) list to next (forest s t loops is (e ∷ rest) p) r list') z
        (subst (λ (m : Ran (List ℕ)). WroteIs (λ ws. ws) list to next m r list') (sym (forest-apply s t loops is o es rest p))
        (wrote_more (λ ws. ws) (λ ws. ws) (λ ws. 17 ∷ o ∷ 0 ∷ ws) (17 ∷ o ∷ 0 ∷ []) (λ ws. refl) list list1 to (to + 3) next f1 refl (forest s t loops is (listed es ++ rest) p) r list'
        (h (listed es ++ rest) next p (chain_append s t loops is (listed es) rest at1 mid next v.0 ch) (omega arith) l i a (omega arith))))

-- ---- the loop over records
module _ (s : List ℕ) (t : Tables) (loops : ℕ) (is : List ℤ) (at n : ℕ) (some : 0 < n) (list : List ℕ) (to : ℕ) (r : Part) (list1 : List ℕ) (w : WritesRecord s t loops is at list to r list1) where
  again : n ≡ suc (n - 1)
  again = omega arith

  pub rest_stop : (k : Refusal) (list' : List ℕ) → r ≡ Err k → WritesRest s t loops is at n list to (Err k) list'
  unfolding WritesRecord
  rest_stop k list' e =
      subst (λ (n : ℕ). WritesRest s t loops is at n list to (Err k) list') (sym again)
      (subst (λ (r : Part). WritesRecord s t loops is at list to r list1) e w (n - 1) list')

  pub rest_step : (next m : ℕ) → r ≡ Ok (next, m) → (v : Part) (list' : List ℕ) → WritesRest s t loops is next (n - 1 + m) list1 (to + 3) v list' → WritesRest s t loops is at n list to v list'
  unfolding WritesRecord
  rest_step next m e v list' h =
      let c : n - 1 + m ≡ m + (n - 1) = omega arith in
      subst (λ (n : ℕ). WritesRest s t loops is at n list to v list') (sym again)
      (subst (λ (r : Part). WritesRecord s t loops is at list to r list1) e w (n - 1) v list' (subst (λ (j : ℕ). WritesRest s t loops is next j list1 (to + 3) v list') c h))

pub roomy_is : (to room : ℕ) (r : Part) (at n : ℕ) → Roomy to room r → r ≡ Ok (at, n) → (to + 3 ≤ room) × (n ≤ 4)
roomy_is to room r at n h e = subst (λ (r : Part). Roomy to room r) e h

pub ends_is : (to room : ℕ) (r : Part) (at end : ℕ) → Ends to room r → r ≡ Ok (at, end) → (to ≤ end) × (end ≤ room)
ends_is to room r at end h e = subst (λ (r : Part). Ends to room r) e h
