-- One executed statement: from its parts to the run's answer.
use Rattle.std.specs.Prelude.{Result, Ok, Err}
use Rattle.model.specs.Questions.{number_of}
use Rattle.model.specs.declared.question.Refusal.{Refusal}
use mathlib.Core.Path.{◌≡◌, refl, sym, ap, ap₂, ◌∙◌, subst}
use Prim.Native.Nat.{ℕ, ◌+◌, ◌*◌, ◌/◌, ◌≤◌, ◌<◌}
use native.Mathlib.Omega.{arith}
use mathlib.Core.List.{List, [], ◌∷◌, ◌++◌, append_assoc}
use mathlib.Core.Bool.{Bool, true, false, not}
use lib.ListN.{length, get_or, take, drop, set, length-append, length-set, length-take}
use lib.Seq.{sets, sets-eq, length-sets, drop_at}
use lib.Dec.{ltb, leb, eqb}
use lib.IntN.{ℤ, pos, negsuc}
use borrow.Author.Tests.{le-leb, lt-leb, ltb-true, ltb-false, leb-true, leb-false}
use Rattle.model.specs.Tables.{Tables, array_at, inside}
use Rattle.model.specs.Update.{Tree, Update, size}
use Rattle.model.specs.Update.Tree.{cell as cell_of, operator}
use Rattle.model.specs.Update.Trees.{cons}
use Rattle.reader.specs.Field.{Outcome, got, no, times}
use Rattle.reader.specs.Syntax.{Form, Expr, Exprs, count}
use Rattle.reader.specs.Syntax.Expr.{read, apply, literal, named}
use Rattle.reader.specs.Syntax.Exprs.{none, more}
use Rattle.reader.specs.Grammar.{form, subscripts, index, applied, expression, statement_of}
use Rattle.reader.specs.Answers.{through, ended, read_says, place_says}
use Rattle.reader.specs.Entries.{forms_step, expression_step}
use Rattle.reader.proofs.Binds.{read_by, asked_by, got_is}
use Rattle.reader.proofs.Steps.{read-got, read_no}
use Rattle.reader.proofs.Depth.{forms_shallow, expression-shallow}
use Rattle.reader.proofs.Flattened.{sets_append}
use Rattle.reader.proofs.Forward.{held-got, index-held, Counted, nodes-held}
use Rattle.unroller.specs.Scopes as In
use Rattle.unroller.specs.declared.walk.Scope.{Scope}
use Rattle.unroller.specs.declared.walk.Progress.{Progress}
use Rattle.unroller.specs.declared.statement.Target.{Target}
use Rattle.model.specs.declared.question.Question.TheVariants.{Unwritten, Updates, Nodes}
use Rattle.unroller.specs.Run.{Ran, ok, stop, ◌>>=◌, ask, value_at, in_extent, cell_from, cell_at, tree, trees, readable, Done, update, run}
use Rattle.unroller.specs.Layout.{tree_words, update_words, words, layout}
use Rattle.unroller.specs.Stands.{bases_of}
use Rattle.unroller.specs.Walk.{Walk, Based, Holds, Walked, RunsStatement}
use Rattle.unroller.specs.Writes.{Part, CellIs, CellsFrom, CellOf, WroteIs, WritesNode, spot, may_read, scanned, Marks, UpdateIs, Within, update_of, Stated, WritesUpdate, Sources, FewNodes, RunsUpdate}
use Rattle.unroller.proofs.Parts.{within-high, tables-parts, nodes_snoc}
use Rattle.unroller.proofs.Laws.{words_long, layout_snoc}
use Rattle.unroller.proofs.Runs.{run_by, ok_is}
use Rattle.unroller.proofs.Accepted.{Any, Sound, cell_at-inside, subscripts-length, node_sound, applied_sound, index_below, tree-declared}
use Rattle.unroller.proofs.Records.{tree-size, words_count, spot-below}
use Rattle.unroller.proofs.Scan.{scan_whole, fine-readable, spot_is, may_is, marked_more}

-- the expression behind a target's subscripts
module _ (s : List ℕ) (at : ℕ) (t : Tables) (loops a d : ℕ) (w : d ≡ length (array_at t.arrays a).extents)
    (m : Result ℕ Refusal) (says : place_says m ≡ ended (forms_step loops d s at)) where
  said : loops ≤ 8 → place_says m ≡ ended (subscripts t loops a s at)
  unfolding subscripts
  said l = says ∙ ap (λ (o : Outcome (List Form)). ended o) (forms_shallow s at loops d l ∙ ap (λ (n : ℕ). times [] ◌∷◌ (form loops) n s at) w)

  pub source_no : (k : Refusal) → m ≡ Err k → (r : Result ℕ Refusal) → Sources s at t loops a r
  unfolding Sources through
  source_no k x r fs source e next g h l =
      let z : ◌≡◌ {A = Outcome ℕ} (no (number_of k.question) k.place) (got 0 source) = sym (ap place_says x) ∙ said l ∙ ap (λ (o : Outcome (List Form)). ended o) g in
      absurd (let z : ◌≡◌ {A = ℕ} 0 1 = cc in omega arith)

  module _ (to : ℕ) (x : m ≡ Ok to) (n : Result (ℕ × ℕ) Refusal) (tells : read_says n ≡ through count (expression_step t loops s to)) where
    counted : (fs : List Form) (source : ℕ) (e : Expr) (next : ℕ) → subscripts t loops a s at ≡ got fs source → expression t loops s source ≡ got e next → loops ≤ 8 → (to ≡ source) × (read_says n ≡ got (count e) next)
    unfolding through
    counted fs source e next g h l =
        let z : ◌≡◌ {A = Outcome ℕ} (got 0 to) (got 0 source) = sym (ap place_says x) ∙ said l ∙ ap (λ (o : Outcome (List Form)). ended o) g in
        let y : to ≡ source = cc in
        (y, tells ∙ ap (λ (o : Outcome Expr). through count o) (expression-shallow s to t loops l ∙ ap (expression t loops s) y ∙ h))

    pub behind_no : (k : Refusal) → n ≡ Err k → (r : Result ℕ Refusal) → Sources s at t loops a r
    unfolding Sources
    behind_no k y r fs source e next g h l =
        let z : ◌≡◌ {A = Outcome ℕ} (no (number_of k.question) k.place) (got (count e) next) = sym (ap read_says y) ∙ (counted fs source e next g h l).1 in
        absurd (let z : ◌≡◌ {A = ℕ} 0 1 = cc in omega arith)

    pub behind_is : (c end : ℕ) → n ≡ Ok (c, end) → Sources s at t loops a (Ok c)
    unfolding Sources
    behind_is c end y fs source e next g h l =
        let f = counted fs source e next g h l in
        let z : ◌≡◌ {A = Outcome ℕ} (got c end) (got (count e) next) = sym (ap read_says y) ∙ f.1 in
        let v : c ≡ count e = cc in
        ap (λ (i : ℕ). Ok i) v

-- a refusal names the place p
abbrev pub At : {A : Type 0} → ℕ → Ran A → Type 0
At p (ok a) = Unit {0}
At p (stop question q) = q ≡ p

at_then : {A B : Type 0} (p : ℕ) (m : Ran A) (f : A → Ran B) → At p m → ((a : A) → At p (f a)) → At p (m >>= f)
at_then p (ok a) f h g = g a
at_then p (stop question q) f h g = h

at_ask : (k p : ℕ) (b : Bool) → At p (ask k p b)
at_ask k p true = tt
at_ask k p false = refl

module _ (p : ℕ) (is : List ℤ) where
  extent_at : (e : ℕ) (v : ℤ) → At p (in_extent p e v)
  extent_at e (pos v) = at_then p (ask 16 p (ltb v e)) (λ _. ok v) (at_ask 16 p (ltb v e)) (λ _. tt)
  extent_at e (negsuc v) = refl

  cell_from_at : (n : ℕ) (es : List ℕ) (fs : List Form) → At p (cell_from p is n es fs)
  unfolding cell_from
  cell_from_at n [] fs = tt
  cell_from_at n (e ∷ es) [] = tt
  cell_from_at n (e ∷ es) (f ∷ fs) =
      at_then p (in_extent p e (value_at f is)) (λ k. cell_from p is (n * e + k) es fs) (extent_at e (value_at f is)) (λ k. cell_from_at (n * e + k) es fs)

  module _ (t : Tables) where
    cell_at_lem : (a : ℕ) (fs : List Form) → At p (cell_at t p is a fs)
    unfolding cell_at
    cell_at_lem a fs = cell_from_at 0 (array_at t.arrays a).extents fs

    mutual
      unfolding tree trees

      tree_at : (e : Expr) → At p (tree e t p is)
      tree_at (read a fs) = at_then p (cell_at t p is a fs) (λ c. ok (cell_of a c)) (cell_at_lem a fs) (λ _. tt)
      tree_at (apply o es) = at_then p (trees es t p is) (λ ts. ok (operator o ts)) (trees_at es) (λ _. tt)
      tree_at (literal f) = tt
      tree_at (named n) = tt

      trees_at : (es : Exprs) → At p (trees es t p is)
      trees_at none = tt
      trees_at (more e es) =
          at_then p (tree e t p is) (λ x. trees es t p is >>= λ xs. ok (cons x xs)) (tree_at e)
          (λ x. at_then p (trees es t p is) (λ xs. ok (cons x xs)) (trees_at es) (λ _. tt))

    update_at : (a : ℕ) (fs : List Form) (e : Expr) → At p (update_of t p is a fs e)
    update_at a fs e =
        at_then p (cell_at t p is a fs) (λ c. tree e t p is >>= λ x. ok (record { array = a; target = c; source = x })) (cell_at_lem a fs)
        (λ c. at_then p (tree e t p is) (λ x. ok (record { array = a; target = c; source = x })) (tree_at e) (λ _. tt))

-- the record of a target and the expression's behind it
abbrev pub out_of : ℕ → Part → Result Target Refusal
out_of c (Ok r) = Ok (record { cell = c; next = r.0; end = r.1 })
out_of c (Err k) = Err k

module _ (s : List ℕ) (a at : ℕ) (t : Tables) (loops : ℕ) (is : List ℤ) (list : List ℕ) (to : ℕ) (list' : List ℕ)
    (m : Part) (y : CellOf s at t loops is a m) where
  target-cell : (fs : List Form) (source : ℕ) (e : Expr) (next p : ℕ) → Stated s at source t loops is a fs e next → CellIs (cell_at t p (take loops is) a fs) source m
  unfolding CellOf CellsFrom cell_at subscripts
  target-cell fs source e next p st = y st.declared fs source p st.target st.few_loops st.eight

  pub target_no : (k : Refusal) → m ≡ Err k → WritesUpdate s a at t loops is list to (Err k) list'
  unfolding WritesUpdate
  target_no k q fs source e next p st al room =
      go (cell_at t p (take loops is) a fs) (tree e t p (take loops is)) (subst (λ (m : Part). CellIs (cell_at t p (take loops is) a fs) source m) q (target-cell fs source e next p st))
    where
      go : (n : Ran ℕ) (x : Ran Tree) → CellIs n source (Err k) → UpdateIs list to next (n >>= λ c. x >>= λ x. ok (record { array = a; target = c; source = x })) (Err k) list'
      go (ok c) x h = absurd h
      go (stop question place) x h = h

  module _ (c n word1 word2 : ℕ) (q : m ≡ Ok (c, n)) (u : a < 4294967296 → word1 ≡ a) (v : c < 4294967296 → word2 ≡ c)
      (list1 : List ℕ) (w : list1 ≡ sets list to (1 ∷ word1 ∷ word2 ∷ [])) (r : Part) (z : WritesNode s n t loops is 12 list1 (to + 3) r list') where
    written : WritesUpdate s a at t loops is list to (out_of c r) list'
    unfolding WritesUpdate WritesNode expression
    written fs source e next p st al room =
        go (cell_at t p (take loops is) a fs) refl (subst (λ (m : Part). CellIs (cell_at t p (take loops is) a fs) source m) q (target-cell fs source e next p st))
      where
        few : a < 4294967296
        few = let f = within-high 1 16 (length t.arrays) (tables-parts t al).count in let d = st.declared in omega arith

        last : (c1 : ℕ) → c ≡ c1 → list1 ≡ sets list to (1 ∷ a ∷ c1 ∷ []) → (k : Ran Tree) (r : Part) → WroteIs tree_words list1 (to + 3) next k r list' →
            UpdateIs list to next (k >>= λ x. ok (record { array = a; target = c1; source = x })) (out_of c r) list'
        last c1 i j (ok x) (Ok (nx, end)) h = let l = h.1 in (i, h.0, omega arith, h.2 ∙ ap (λ (l : List ℕ). sets l (to + 3) (tree_words x)) j ∙ sym (sets_append list to (1 ∷ a ∷ c1 ∷ []) (tree_words x)))
        last c1 i j (ok x) (Err k) h = absurd h
        last c1 i j (stop question place) (Ok (nx, end)) h = absurd h
        last c1 i j (stop question place) (Err k) h = h

        go : (k : Ran ℕ) → cell_at t p (take loops is) a fs ≡ k → CellIs k source (Ok (c, n)) →
            UpdateIs list to next (k >>= λ c. tree e t p (take loops is) >>= λ x. ok (record { array = a; target = c; source = x })) (out_of c r) list'
        go (ok c1) f h =
            let i = cell_at-inside t p (take loops is) a fs (subscripts-length t loops s a at st.target) f in
            let small = spot-below t a c1 (tables-parts t al) i in
            let same = h.0 in
            let j : list1 ≡ sets list to (1 ∷ a ∷ c1 ∷ []) = w ∙ ap₂ (λ (x y : ℕ). sets list to (1 ∷ x ∷ y ∷ [])) (u few) (v (omega arith) ∙ same) in
            let len = ap length j ∙ length-sets list to (1 ∷ a ∷ c1 ∷ []) in
            last c1 same j (tree e t p (take loops is)) r (z e next p (ap (expression t loops s) h.1 ∙ st.behind) st.few_loops st.eight al (omega arith))
        go (stop question place) f h = absurd h

    pub written_no : (k : Refusal) → r ≡ Err k → WritesUpdate s a at t loops is list to (Err k) list'
    written_no k x = subst (λ (r : Part). WritesUpdate s a at t loops is list to (out_of c r) list') x written

    pub written_is : (next end : ℕ) → r ≡ Ok (next, end) → WritesUpdate s a at t loops is list to (Ok (record { cell = c; next = next; end = end })) list'
    written_is next end x = subst (λ (r : Part). WritesUpdate s a at t loops is list to (out_of c r) list') x written

drop-run : (l : List ℕ) (i : ℕ) (vs : List ℕ) → i + length vs ≤ length l → drop i (sets l i vs) ≡ vs ++ drop (i + length vs) l
drop-run l i vs h = ap (drop i) (sets-eq vs l i h ∙ append_assoc (take i l) vs (drop (i + length vs) l)) ∙ drop_at (take i l) (vs ++ drop (i + length vs) l) i (let e = length-take i l in omega arith)

expression_sound : (t : Tables) (loops : ℕ) (s : List ℕ) → loops ≤ 8 → (at : ℕ) (e : Expr) (next : ℕ) → expression t loops s at ≡ got e next → Sound Any e t 12
unfolding expression
expression_sound t loops s few at e next g = node_sound Any t loops s (λ _ _ _ _. tt) few 12 (applied t loops 12) (λ p at e next r. applied_sound Any t loops s (λ _ _ _ _. tt) few 12 p at e next r) at e next g

-- question 20
module _ (s : List ℕ) (at : ℕ) (t : Tables) (loops a n : ℕ) where
  -- no expression has more nodes than the file has bytes
  pub few_bytes : ltb 8192 (n + length s) ≡ false → FewNodes s at t loops a n true
  unfolding FewNodes expression
  few_bytes h fs source e next g x _ =
      let v = held-got (Counted s t loops source) (nodes-held s t loops 12 source) x in
      let k = ltb-false 8192 (n + length s) h in
      sym (le-leb (n + count e) 8192 (omega (arith, v.0, v.1)))

  module _ (m : Result ℕ Refusal) (tells : Sources s at t loops a m) where
    pub few_none : (k : Refusal) → m ≡ Err k → (r : Bool) → FewNodes s at t loops a n r
    unfolding FewNodes Sources
    few_none k y r fs source e next g x l = let v = tells fs source e next g x l in absurd (let z : ◌≡◌ {A = ℕ} 0 1 = cc in omega arith)

    pub few-told : (c : ℕ) → m ≡ Ok c → (b : Bool) → b ≡ ltb 8192 (n + c) → FewNodes s at t loops a n (not b)
    unfolding FewNodes Sources
    few-told c y b w fs source e next g x l =
        let v = tells fs source e next g x l in
        let z : c ≡ count e = cc in
        go b (w ∙ ap (λ (k : ℕ). ltb 8192 (n + k)) z)
      where
        go : (b : Bool) → b ≡ ltb 8192 (n + count e) → not b ≡ leb (n + count e) 8192
        go true h = sym (lt-leb (n + count e) 8192 (ltb-true 8192 (n + count e) (sym h)))
        go false h = sym (le-leb (n + count e) 8192 (ltb-false 8192 (n + count e) (sym h)))

-- a statement in its scope
module _ (scope : Scope) where
  abbrev s : List ℕ
  s = In.bytes scope

  abbrev t : Tables
  t = In.tables scope

  abbrev bases : List ℕ
  bases = In.bases scope

  abbrev loops : ℕ
  loops = scope.loops

  abbrev is : List ℤ
  is = scope.indices

  -- behind questions 19 and 20
  module _ (p a at : ℕ) (progress : Progress) (list flags : List ℕ) (to : ℕ)
      (z : to ≡ 98 + 3 * (progress.updates + progress.nodes)) (few : progress.updates < 2048) (long : 32768 ≤ length list)
      (m : Result Target Refusal) (list1 : List ℕ) (w : WritesUpdate s a at t loops is list to m list1) where
    abbrev made : ℕ → Tree → Update
    made c x = record { array = a; target = c; source = x }

    abbrev done : Done → Expr → Update → Done
    done d e u = record { rounds = d.rounds; nodes = d.nodes + count e; updates = d.updates ++ (u ∷ []) }

    abbrev rest : Done → Expr → Update → Ran Done
    rest d e u = ask 17 p (readable u.source t.arrays d.updates) >>= λ _. ok (done d e u)

    split : (fs : List Form) (e : Expr) (d : Done) → progress.nodes + count e ≤ 8192 → Holds t d progress list flags → update t p (take loops is) a fs e d ≡ (update_of t p (take loops is) a fs e >>= rest d e)
    unfolding update
    split fs e d q h =
        let x = h.updates in
        let y = h.count in
        rw (le-leb (length d.updates + 1) 2048 (omega arith), le-leb (d.nodes + count e) 8192 (omega arith)) (go (cell_at t p (take loops is) a fs) (tree e t p (take loops is)))
      where
        go : (k : Ran ℕ) (l : Ran Tree) → (k >>= λ c. l >>= λ x. rest d e (made c x)) ≡ ((k >>= λ c. l >>= λ x. ok (made c x)) >>= rest d e)
        go (ok c) (ok x) = refl
        go (ok c) (stop question q) = refl
        go (stop question q) l = refl

    abbrev Goal : Walk → List ℕ → List ℕ → Type 0
    Goal r list' flags' = RunsUpdate scope p a at progress list flags r list' flags'

    by_update : (r : Walk) (list' flags' : List ℕ) →
        ((fs : List Form) (source : ℕ) (e : Expr) (next : ℕ) (d : Done) → Stated s at source t loops is a fs e next → progress.nodes + count e ≤ 8192 → Based t bases → Holds t d progress list flags
        → (k : Ran Update) → update_of t p (take loops is) a fs e ≡ k → UpdateIs list to next k m list1 → Walked t next (k >>= rest d e) r list' flags') → Goal r list' flags'
    unfolding RunsUpdate WritesUpdate
    by_update r list' flags' f fs source e next d st q bs h =
        subst (λ (k : Ran Done). Walked t next k r list' flags') (sym (split fs e d q h))
        (let x = h.updates in let y = h.count in f fs source e next d st q bs h (update_of t p (take loops is) a fs e) refl (w fs source e next p st h.tables-allowed (omega arith)))

    pub run_no : (k g : Refusal) (list' flags' : List ℕ) → m ≡ Err k → g ≡ record { question = k.question; place = p } → Goal (Err g) list' flags'
    run_no k g list' flags' x j =
        rw j (by_update (Err (record { question = k.question; place = p })) list' flags' λ fs source e next d st q bs h o f y.
        go next d e o (subst (λ (o : Ran Update). At p o) f (update_at p (take loops is) t a fs e)) (subst (λ (m : Result Target Refusal). UpdateIs list to next o m list1) x y))
      where
        go : (next : ℕ) (d : Done) (e : Expr) (o : Ran Update) → At p o → UpdateIs list to next o (Err k) list1 → Walked t next (o >>= rest d e) (Err (record { question = k.question; place = p })) list' flags'
        go next d e (ok u) i y = absurd y
        go next d e (stop question q) i y = (y, sym i)

    module _ (made_is : Target) (n : ℕ) (x : m ≡ Ok made_is) (quot : (j : ℕ) → made_is.end ≡ to + 3 + 3 * j → n ≡ j) where
      abbrev c : ℕ
      c = made_is.cell

      abbrev past : ℕ
      past = made_is.next

      -- what an update that was written is known by
      record Known (e : Expr) (next : ℕ) (d : Done) (u : Update) : Type 0 where
        array : u.array ≡ a
        target : u.target ≡ c
        place : past ≡ next
        cell_in : inside t.arrays a u.target ≡ true
        counted : n ≡ count e
        nodes_are : size u.source ≡ n
        list_is : list1 ≡ sets list to (update_words u)
        reads : scanned (may_read t bases flags) n (drop (to + 3) list1) ≡ readable u.source t.arrays d.updates

      known : (fs : List Form) (source : ℕ) (e : Expr) (next : ℕ) (d : Done) → Stated s at source t loops is a fs e next → progress.nodes + count e ≤ 8192 → Based t bases → Holds t d progress list flags →
          (c1 : ℕ) (x1 : Tree) → cell_at t p (take loops is) a fs ≡ ok c1 → tree e t p (take loops is) ≡ ok x1 → UpdateIs list to next (ok (made c1 x1)) (Ok made_is) list1 → Known e next d (made c1 x1)
      known fs source e next d st q bs h c1 x1 f1 f2 y =
          let parts = tables-parts t h.tables-allowed in
          let i = cell_at-inside t p (take loops is) a fs (subscripts-length t loops s a at st.target) f1 in
          let pr = tree-declared Any t p (take loops is) e 12 x1 (expression_sound t loops s st.few_loops source e next st.behind) f2 in
          let sz = tree-size t p (take loops is) e x1 f2 in
          let len = words_count t p (take loops is) e x1 f2 in
          let hu = h.updates in
          let hc = h.count in
          let here = y.2 in
          let nc : n ≡ count e = quot (count e) (omega arith) in
          let base : List ℕ = sets list to (1 ∷ a ∷ c1 ∷ []) in
          let l1 = length-sets list to (1 ∷ a ∷ c1 ∷ []) in
          let whole : list1 ≡ sets base (to + 3) (tree_words x1) = y.3 ∙ sets_append list to (1 ∷ a ∷ c1 ∷ []) (tree_words x1) in
          let cut : drop (to + 3) list1 ≡ tree_words x1 ++ drop (to + 3 + length (tree_words x1)) base = ap (drop (to + 3)) whole ∙ drop-run base (to + 3) (tree_words x1) (omega arith) in
          record {
            array = refl;
            target = sym y.0;
            place = y.1;
            cell_in = i;
            counted = nc;
            nodes_are = sz ∙ sym nc;
            list_is = y.3;
            reads = ap (scanned (may_read t bases flags) n) cut
                ∙ scan_whole (may_read t bases flags) x1 n (drop (to + 3 + length (tree_words x1)) base) (nc ∙ sym sz)
                ∙ fine-readable (may_read t bases flags) t d.updates (may_is t bases parts bs flags d.updates h.marked) x1 pr;
          }

      by_known : (r : Walk) (list' flags' : List ℕ) →
          ((e : Expr) (next : ℕ) (d : Done) (u : Update) → progress.nodes + count e ≤ 8192 → Based t bases → Holds t d progress list flags → Known e next d u → Walked t next (rest d e u) r list' flags')
          → Goal r list' flags'
      by_known r list' flags' g =
          by_update r list' flags' λ fs source e next d st q bs h o f y. go fs source e next d st q bs h o f (subst (λ (m : Result Target Refusal). UpdateIs list to next o m list1) x y)
        where
          go : (fs : List Form) (source : ℕ) (e : Expr) (next : ℕ) (d : Done) → Stated s at source t loops is a fs e next → progress.nodes + count e ≤ 8192 → Based t bases → Holds t d progress list flags →
              (o : Ran Update) → update_of t p (take loops is) a fs e ≡ o → UpdateIs list to next o (Ok made_is) list1 → Walked t next (o >>= rest d e) r list' flags'
          go fs source e next d st q bs h (ok u) f y =
              g e next d u q bs h
              (run_by (cell_at t p (take loops is) a fs) _ f λ c1 f1 r1.
              run_by (tree e t p (take loops is)) _ r1 λ x1 f2 r2.
              ok_is (λ u. UpdateIs list to next (ok u) (Ok made_is) list1 → Known e next d u) r2 (λ y. known fs source e next d st q bs h c1 x1 f1 f2 y) y)
          go fs source e next d st q bs h (stop question place) f y = absurd y

      -- some cell read is not written
      pub run_unread : (g : Refusal) → g ≡ record { question = Unwritten; place = p } → (r : Bool) (list' flags' : List ℕ) → r ≡ scanned (may_read t bases flags) n (drop (to + 3) list1) → r ≡ false → Goal (Err g) list' flags'
      run_unread g j r list' flags' v y =
          by_known (Err g) list' flags' λ e next d u q bs h k.
          let i : readable u.source t.arrays d.updates ≡ false = sym (v ∙ k.reads) ∙ y in
          rw (i, j) (refl, refl)

      pub run_on : (r : Bool) (flags' : List ℕ) → r ≡ scanned (may_read t bases flags) n (drop (to + 3) list1) → r ≡ true → (k : ℕ) → k ≡ spot bases a c → Marks flags k flags' →
          (after : Progress) → (after.rounds ≡ progress.rounds) × (after.nodes ≡ progress.nodes + n) × (after.updates ≡ progress.updates + 1) → Goal (Ok (past, after)) list1 flags'
      unfolding Marks
      run_on r flags' v y k f marks after so =
          by_known (Ok (past, after)) list1 flags' λ e next d u q bs h o.
          let i : readable u.source t.arrays d.updates ≡ true = sym (v ∙ o.reads) ∙ y in
          rw i (o.place, holds e next d u o.counted q bs h o.array o.target o.cell_in o.nodes_are o.list_is)
        where
          holds : (e : Expr) (next : ℕ) (d : Done) (u : Update) → n ≡ count e → progress.nodes + count e ≤ 8192 → Based t bases → Holds t d progress list flags → u.array ≡ a → u.target ≡ c → inside t.arrays a u.target ≡ true →
              size u.source ≡ n → list1 ≡ sets list to (update_words u) → Holds t (done d e u) after list1 flags'
          holds e next d u nc q bs h ua ut ci ns li =
              let parts = tables-parts t h.tables-allowed in
              let within : inside t.arrays u.array u.target ≡ true = subst (λ (a : ℕ). inside t.arrays a u.target ≡ true) (sym ua) ci in
              let sp : k ≡ get_or (bases_of t.arrays) u.array 0 + u.target = f ∙ ap₂ (spot bases) (sym ua) (sym ut) ∙ spot_is t bases parts bs u.array u.target within in
              let below = spot-below t u.array u.target parts within in
              let set_is : flags' ≡ set flags (get_or (bases_of t.arrays) u.array 0 + u.target) 1 = marks (omega arith) ∙ ap (λ (j : ℕ). set flags j 1) sp in
              let len = ap length li ∙ length-sets list to (update_words u) in
              let more-updates = length-append d.updates (u ∷ []) in
              let more-nodes = nodes_snoc d.updates u in
              let rounds-are = so.0 in
              let nodes_are = so.1 in
              let updates-are = so.2 in
              let hc = h.count in
              let hu = h.updates in
              let hn = h.counted in
              let long-now = words_long (record { tables = t; updates = d.updates }) parts in
              let long-then = words_long (record { tables = t; updates = d.updates ++ (u ∷ []) }) parts in
              let here : to ≡ length (words (record { tables = t; updates = d.updates })) = omega arith in
              record {
                tables-allowed = h.tables-allowed;
                rounds = rounds-are ∙ h.rounds;
                count = omega arith;
                updates = omega arith;
                counted = omega arith;
                few = omega arith;
                small = omega arith;
                few-rounds = h.few-rounds;
                long = omega arith;
                lies = li
                    ∙ ap₂ (λ (l : List ℕ) (i : ℕ). sets l i (update_words u)) h.lies here
                    ∙ layout_snoc t d.updates u (length list) (omega arith)
                    ∙ ap (layout (record { tables = t; updates = d.updates ++ (u ∷ []) })) (sym len);
                flags_long = ap length set_is ∙ length-set flags _ 1 ∙ h.flags_long;
                marked = marked_more t bases parts bs flags d.updates h.flags_long h.marked u within flags' set_is;
              }

  -- the whole statement
  module _ (at : ℕ) (progress : Progress) (list flags : List ℕ) (r : Walk) (list' flags' : List ℕ) where
    abbrev Runs : Type 0
    Runs = RunsStatement scope at progress list flags r list' flags'

    by_statement : ((a target source : ℕ) (fs : List Form) (e : Expr) (next : ℕ) (d : Done) → index (length t.arrays) s (at + 1) ≡ got a target → Stated s target source t loops is a fs e next
        → Based t bases → Holds t d progress list flags → Walked t next (update t at (take loops is) a fs e d) r list' flags') → Runs
    unfolding RunsStatement statement_of run
    by_statement f i next d g l n bs h =
        read_by (index (length t.arrays) s (at + 1)) _ g λ a at1 e1 r1.
        asked_by 13 (at + 1) (not (eqb (array_at t.arrays a).role 0)) s at1 _ r1 λ _ r2.
        read_by (subscripts t loops a s at1) _ r2 λ fs at2 e2 r3.
        read_by (expression t loops s at2) _ r3 λ e at3 e3 r4.
        let z : at3 ≡ next = cc in
        got_is (λ i. Walked t next (run i t (take loops is) d) r list' flags') r4
        (f a at1 at2 fs e next d e1 (record { target = e2; behind = e3 ∙ ap (got e) z; few_loops = l; eight = n; declared = index_below (length t.arrays) s (at + 1) e1 }) bs h)

    pub asked_19 : (g : Refusal) → g ≡ record { question = Updates; place = at } → r ≡ Err g → 2047 < progress.updates → Runs
    unfolding update
    asked_19 g j q x = by_statement λ a target source fs e next d i st bs h. let y = h.updates in rw (q, j, lt-leb (length d.updates + 1) 2048 (omega arith)) (refl, refl)

    pub no_code : length s ≤ at → Runs
    no_code x =
        by_statement λ a target source fs e next d i st bs h.
        absurd (let k = held-got (λ x next. (x < length t.arrays) × (next ≡ at + 1 + 1) × (next ≤ length s)) (index-held s (length t.arrays) (at + 1)) i in omega (arith, k.1, k.2))

    pub no_list : length list < 32768 → Runs
    no_list x = by_statement λ a target source fs e next d i st bs h. absurd (let k = h.long in omega arith)

    pub many-nodes : 8192 < progress.nodes → Runs
    many-nodes x = by_statement λ a target source fs e next d i st bs h. absurd (let k = h.count in let l = h.small in omega arith)

    module _ (m : Result (ℕ × ℕ) Refusal) (says : read_says m ≡ index (length t.arrays) s (at + 1)) where
      pub no_array : (k : Refusal) → m ≡ Err k → Runs
      no_array k x =
          let v = read_no says x in
          by_statement λ a target source fs e next d i st bs h. absurd (let z : ◌≡◌ {A = ℕ} 0 1 = cc in omega arith)

      module _ (a target : ℕ) (x : m ≡ Ok (a, target)) where
        by_array : ((source : ℕ) (fs : List Form) (e : Expr) (next : ℕ) (d : Done) → Stated s target source t loops is a fs e next → Based t bases → Holds t d progress list flags
            → Walked t next (update t at (take loops is) a fs e d) r list' flags') → Runs
        by_array f =
            by_statement λ a1 target1 source fs e next d i st bs h.
            let v : index (length t.arrays) s (at + 1) ≡ got a target = read-got says x in
            let y : a1 ≡ a = cc in
            let w : target1 ≡ target = cc in
            let st1 : Stated s target source t loops is a fs e next = subst (λ (a : ℕ). Stated s target source t loops is a fs e next) y (subst (λ (q : ℕ). Stated s q source t loops is a1 fs e next) w st) in
            subst (λ (a : ℕ). Walked t next (update t at (take loops is) a fs e d) r list' flags') (sym y) (f source fs e next d st1 bs h)

        module _ (b : Bool) (tells : FewNodes s target t loops a progress.nodes b) where
          told : (fs : List Form) (source : ℕ) (e : Expr) (next : ℕ) → Stated s target source t loops is a fs e next → b ≡ leb (progress.nodes + count e) 8192
          unfolding FewNodes
          told fs source e next st = tells fs source e next st.target st.behind st.few_loops

          pub asked_20 : b ≡ false → progress.updates ≤ 2047 → (g : Refusal) → g ≡ record { question = Nodes; place = at } → r ≡ Err g → Runs
          unfolding update
          asked_20 z few g j q =
              by_array λ source fs e next d st bs h.
              let v = leb-false (progress.nodes + count e) 8192 (sym (told fs source e next st) ∙ z) in
              let k = h.updates in
              let l = h.count in
              rw (q, j, le-leb (length d.updates + 1) 2048 (omega arith), lt-leb (d.nodes + count e) 8192 (omega arith)) (refl, refl)

          pub updates_it : b ≡ true → RunsUpdate scope at a target progress list flags r list' flags' → Runs
          unfolding RunsUpdate
          updates_it z u =
              by_array λ source fs e next d st bs h. u fs source e next d st (leb-true (progress.nodes + count e) 8192 (sym (told fs source e next st) ∙ z)) bs h

pub within_is : (to room : ℕ) (r : Result Target Refusal) (g : Target) → Within to room r → r ≡ Ok g → (to + 3 ≤ g.end) × (g.end ≤ room)
within_is to room r g h e = subst (λ (r : Result Target Refusal). Within to room r) e h

-- a third of a number, three times
pub thirds_fit : (n : ℕ) → 3 * (n / 3) ≤ n
thirds_fit n = omega arith
