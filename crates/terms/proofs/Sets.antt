-- Lists of trees as sets, up to swaps: members and places, parts, growth, and what fits.
use Rattle.std.proofs.Common.{◌≡◌, ℕ, zero, suc, ◌+◌, ◌-◌, ◌<◌, ◌≤◌, Bool, true, ◌⊎◌, List, [], ◌∷◌, ◌++◌, length, get_or, sym, refl, ap, ◌∙◌, subst, inl, inr, ⊎_elim, append_assoc, append-nil, not-suc-le-zero, arith, length-append, below_more}
use mathlib.Core.Bool.{false≢true, and-eq-true_iff, or-true, or-false}
use lib.ListN.{get_or-append}
use lib.Seq.{get_or_at}
use Rattle.model.specs.Update.{Tree, Trees}
use Rattle.model.specs.Update.Tree.{cell, number, constant, operator}
use Rattle.model.specs.Update.Trees.{nil, cons}
use Rattle.terms.specs.declared.Node.{Node}
use Rattle.terms.specs.Term.{turned, alike, alikes, among, parts, parts_of}
use Rattle.terms.specs.Store.{args_of}
use Rattle.terms.specs.Holds.{term}
use Rattle.terms.specs.Stored.{In, tree, Ref, Args, Means, Once, Known, Stored, Grown, Over, Outcome, full, fine}
use Rattle.terms.proofs.Alike.{or_one, alike_refl, alike_sym, operators-alike}
use Rattle.terms.proofs.Count.{among_append, among_class}
use Rattle.terms.proofs.Trees.{means_all, means-alike, ref_grow}

module _ (swaps : ℕ → Bool) where
  -- ---- members
  pub in_none : (x : Tree) → In swaps x [] → ⊥
  in_none x h = false≢true h

  pub in_head : (x y : Tree) (l : List Tree) → alike swaps x y ≡ true → In swaps x (y ∷ l)
  in_head x y l e = rw e

  pub in_tail : (x y : Tree) (l : List Tree) → In swaps x l → In swaps x (y ∷ l)
  in_tail x y l h = rw h (or-true (alike swaps x y))

  pub in_cons : (x y : Tree) (l : List Tree) → In swaps x (y ∷ l) → (alike swaps x y ≡ true) ⊎ In swaps x l
  in_cons x y l h = or_one (alike swaps x y) (among swaps x l) h

  pub in_one : (x y : Tree) → In swaps x (y ∷ []) → alike swaps x y ≡ true
  in_one x y h = sym (or-false (alike swaps x y)) ∙ h

  pub in_left : (x : Tree) (l k : List Tree) → In swaps x l → In swaps x (l ++ k)
  in_left x l k h = among_append swaps x l k ∙ rw h

  pub in_right : (x : Tree) (l k : List Tree) → In swaps x k → In swaps x (l ++ k)
  in_right x l k h = among_append swaps x l k ∙ rw h (or-true (among swaps x l))

  pub in_either : (x : Tree) (l k : List Tree) → In swaps x (l ++ k) → In swaps x l ⊎ In swaps x k
  in_either x l k h = or_one (among swaps x l) (among swaps x k) (sym (among_append swaps x l k) ∙ h)

  -- a tree alike to a member
  pub in_alike : (x y : Tree) (l : List Tree) → alike swaps x y ≡ true → In swaps y l → In swaps x l
  in_alike x y l e h = among_class swaps x y l e ∙ h

  -- ---- members and places
  pub place : (x : Tree) (ts : List Tree) → In swaps x ts → (i : ℕ) × (i < length ts) × (alike swaps x (tree ts i) ≡ true)
  place x [] h = absurd (in_none x h)
  place x (t ∷ ts) h =
      ⊎_elim (λ (e : alike swaps x t ≡ true). (0, omega arith, e))
      (λ (m : In swaps x ts). let p = place x ts m in (suc p.0, omega (arith, p.1), p.2))
      (in_cons x t ts h)

  pub placed : (ts : List Tree) (i : ℕ) → i < length ts → In swaps (tree ts i) ts
  placed [] i l = absurd (not-suc-le-zero l)
  placed (t ∷ ts) zero l = in_head t t ts (alike_refl swaps t)
  placed (t ∷ ts) (suc i) l = in_tail (tree ts i) t ts (placed ts i (omega arith))

  pub ref_in : (ts : List Tree) (r : ℕ) (t : Tree) → Ref swaps ts r t → In swaps t ts
  ref_in ts r t h = in_alike t (tree ts (r - 1)) ts h.is (placed ts (r - 1) (omega (arith, h.some, h.within)))

  -- ---- what is stored is closed under parts
  -- every one of these is in the list
  abbrev AllIn : List Tree → Trees → Type 0
  AllIn ts nil = Unit {0}
  AllIn ts (cons u us) = In swaps u ts × AllIn ts us

  args_in : (ts : List Tree) (ids : List ℕ) (k : ℕ) (us : Trees) → Args swaps ts ids k us → AllIn ts us
  unfolding Args
  args_in ts ids k nil h = tt
  args_in ts ids k (cons u us) h = (ref_in ts (get_or ids k 0) u h.0, args_in ts ids (suc k) us h.1)

  all_alike : (ts : List Tree) (us vs : Trees) → alikes swaps us vs ≡ true → AllIn ts vs → AllIn ts us
  unfolding alikes
  all_alike ts nil nil e h = tt
  all_alike ts nil (cons v vs) e h = tt
  all_alike ts (cons u us) nil e h = absurd (false≢true e)
  all_alike ts (cons u us) (cons v vs) e h =
      let p = (and-eq-true_iff (alike swaps u v) (alikes swaps us vs)).0 e in
      (in_alike u v ts p.0 h.0, all_alike ts us vs p.1 h.1)

  all_turned : (ts : List Tree) (vs : Trees) → AllIn ts vs → AllIn ts (turned vs)
  unfolding turned
  all_turned ts nil h = h
  all_turned ts (cons x nil) h = h
  all_turned ts (cons x (cons y nil)) h = (h.1.0, (h.0, tt))
  all_turned ts (cons x (cons y (cons z vs))) h = h

  module _ (ns : List Node) (ts : List Tree) (K : Known swaps ns ts) (y : Tree) where
    means_in : (t : Tree) → In swaps t ts → (n : Node) × Means swaps ts n t
    means_in t h =
        let p = place t ts h in
        (term ns p.0, means-alike swaps ts (term ns p.0) (tree ts p.0) t p.2 (means_all swaps ns ts K p.0 p.1))

    operands : (o : ℕ) (us : Trees) → In swaps (operator o us) ts → AllIn ts us
    unfolding Means
    operands o us h =
        let w = (means_in (operator o us) h).1.3 in
        let a = args_in ts (args_of (means_in (operator o us) h).0) 0 w.order w.args in
        ⊎_elim (λ (e : alikes swaps us w.order ≡ true). all_alike ts us w.order e a)
        (λ (e : (swaps o ≡ true) × (alikes swaps us (turned w.order) ≡ true)). all_alike ts us (turned w.order) e.1 (all_turned ts w.order a))
        (operators-alike swaps o o us w.order w.like).arguments

    mutual
      unfolding parts parts_of

      pub closed : (t : Tree) → In swaps t ts → In swaps y (parts t) → In swaps y ts
      closed (cell a c) h m = in_alike y (cell a c) ts (in_one y (cell a c) m) h
      closed (number z) h m = in_alike y (number z) ts (in_one y (number z) m) h
      closed (constant c) h m = in_alike y (constant c) ts (in_one y (constant c) m) h
      closed (operator o us) h m =
          ⊎_elim (λ (e : alike swaps y (operator o us) ≡ true). in_alike y (operator o us) ts e h)
          (λ (l : In swaps y (parts_of us)). closed_all us (operands o us h) l)
          (in_cons y (operator o us) (parts_of us) m)

      pub closed_all : (us : Trees) → AllIn ts us → In swaps y (parts_of us) → In swaps y ts
      closed_all nil a m = absurd (in_none y m)
      closed_all (cons u us) a m =
          ⊎_elim (λ (l : In swaps y (parts u)). closed u a.0 l)
          (λ (l : In swaps y (parts_of us)). closed_all us a.1 l)
          (in_either y (parts u) (parts_of us) m)

  -- ---- growth
  pub grown_none : (ts vs : List Tree) → ((x : Tree) → In swaps x vs → In swaps x ts) → Grown swaps ts vs ts
  grown_none ts vs h = record { more = []; longer = sym (append-nil ts); only = λ x m. inl m; all = h }

  pub grown_in : (ts vs us : List Tree) → Grown swaps ts vs us → (x : Tree) → In swaps x ts → In swaps x us
  grown_in ts vs us g x m = subst (λ (l : List Tree). In swaps x l) (sym g.longer) (in_left x ts g.more m)

  -- ids keep their trees
  pub grown_ref : (ts vs us : List Tree) → Grown swaps ts vs us → (r : ℕ) (t : Tree) → Ref swaps ts r t → Ref swaps us r t
  grown_ref ts vs us g r t h = subst (λ (l : List Tree). Ref swaps l r t) (sym g.longer) (ref_grow swaps ts g.more r t h)

  pub grown_then : (ts vs ts1 ws ts2 : List Tree) → Grown swaps ts vs ts1 → Grown swaps ts1 ws ts2 → Grown swaps ts (vs ++ ws) ts2
  grown_then ts vs ts1 ws ts2 g h = record {
    more = g.more ++ h.more;
    longer = h.longer ∙ ap (λ (l : List Tree). l ++ h.more) g.longer ∙ append_assoc ts g.more h.more;
    only = λ x m.
        ⊎_elim
        (λ (l : In swaps x ts1). ⊎_elim (λ (k : In swaps x ts). inl k) (λ (k : In swaps x vs). inr (in_left x vs ws k)) (g.only x l))
        (λ (l : In swaps x ws). inr (in_right x vs ws l))
        (h.only x m);
    all = λ x m.
        ⊎_elim (λ (l : In swaps x vs). grown_in ts1 ws ts2 h x (g.all x l)) (λ (l : In swaps x ws). h.all x l) (in_either x vs ws m);
  }

  pub over_then : (ts vs ts1 ws : List Tree) → Grown swaps ts vs ts1 → Over swaps ts1 ws → Over swaps ts (vs ++ ws)
  over_then ts vs ts1 ws g h = record {
    these = h.these;
    once = h.once;
    many = h.many;
    among = λ x m.
        ⊎_elim
        (λ (l : In swaps x ts1). ⊎_elim (λ (k : In swaps x ts). inl k) (λ (k : In swaps x vs). inr (in_left x vs ws k)) (g.only x l))
        (λ (l : In swaps x ws). inr (in_right x vs ws l))
        (h.among x m);
  }

  pub over_more : (ts vs ws : List Tree) → ((x : Tree) → In swaps x vs → In swaps x ws) → Over swaps ts vs → Over swaps ts ws
  over_more ts vs ws s h = record {
    these = h.these;
    once = h.once;
    many = h.many;
    among = λ x m. ⊎_elim (λ (l : In swaps x ts). inl l) (λ (l : In swaps x vs). inr (s x l)) (h.among x m);
  }

  pub grown_same : (ts vs ws us : List Tree) → ((x : Tree) → In swaps x vs → In swaps x ws) → ((x : Tree) → In swaps x ws → In swaps x vs) → Grown swaps ts vs us → Grown swaps ts ws us
  grown_same ts vs ws us s t g = record {
    more = g.more;
    longer = g.longer;
    only = λ x m. ⊎_elim (λ (l : In swaps x ts). inl l) (λ (l : In swaps x vs). inr (s x l)) (g.only x m);
    all = λ x m. g.all x (t x m);
  }

  -- ---- outcomes
  module _ (m : List ℕ) (count : ℕ) (P : List Tree → Type 0) where
    pub after_grown : (ts vs ts1 ws : List Tree) → Grown swaps ts vs ts1 → Outcome swaps ts1 ws m count P → Outcome swaps ts (vs ++ ws) m count P
    after_grown ts vs ts1 ws g (full l o) = full l (over_then ts vs ts1 ws g o)
    after_grown ts vs ts1 ws g (fine us s h p) = fine us s (grown_then ts vs ts1 ws us g h) p

    pub same_set : (ts vs ws : List Tree) → ((x : Tree) → In swaps x vs → In swaps x ws) → ((x : Tree) → In swaps x ws → In swaps x vs) → Outcome swaps ts vs m count P → Outcome swaps ts ws m count P
    same_set ts vs ws s t (full l o) = full l (over_more ts vs ws s o)
    same_set ts vs ws s t (fine us h g p) = fine us h (grown_same ts vs ws us s t g) p

    -- what a test of the count tells
    pub is_full : (ts vs : List Tree) → 4096 < count → Outcome swaps ts vs m count P → Over swaps ts vs
    is_full ts vs l (full k o) = o
    is_full ts vs l (fine us h g p) = absurd (omega (arith, h.held.room))

    abbrev pub Fine : List Tree → List Tree → Type 0
    Fine ts vs = (us : List Tree) × Stored swaps m count us × Grown swaps ts vs us × P us

    pub is_fine : (ts vs : List Tree) → count ≤ 4096 → Outcome swaps ts vs m count P → Fine ts vs
    is_fine ts vs l (full k o) = absurd (omega arith)
    is_fine ts vs l (fine us h g p) = (us, h, g, p)

  -- ---- a new tree behind others
  module _ (ts : List Tree) (t : Tree) where
    pub old_tree : (i : ℕ) → i < length ts → tree (ts ++ (t ∷ [])) i ≡ tree ts i
    old_tree i l = get_or-append ts (t ∷ []) (constant 0) i l

    pub new_tree : tree (ts ++ (t ∷ [])) (length ts) ≡ t
    new_tree = get_or_at ts t [] (constant 0) (length ts) refl

    pub long_more : length (ts ++ (t ∷ [])) ≡ length ts + 1
    long_more = length-append ts (t ∷ [])

    pub once_more : Once swaps ts → ((i : ℕ) → i < length ts → alike swaps t (tree ts i) ≡ true → ⊥) → Once swaps (ts ++ (t ∷ []))
    once_more o w = λ i j l m. go i (omega (arith, long_more)) j (omega (arith, long_more))
      where
        P : ℕ → ℕ → Type 0
        P i j = alike swaps (tree (ts ++ (t ∷ [])) i) (tree (ts ++ (t ∷ [])) j) ≡ true → i ≡ j

        go : (i : ℕ) → i < length ts + 1 → (j : ℕ) → j < length ts + 1 → P i j
        go =
            below_more (λ i. (j : ℕ) → j < length ts + 1 → P i j) (length ts)
            (λ i l. below_more (λ j. P i j) (length ts)
            (λ j m e. o i j l m (rw (old_tree i l, old_tree j m) at e))
            (λ e. absurd (w i l (alike_sym swaps (tree ts i) t (rw (old_tree i l, new_tree) at e)))))
            (below_more (λ j. P (length ts) j) (length ts)
            (λ j m e. absurd (w j m (rw (old_tree j m, new_tree) at e)))
            (λ e. refl))

    pub grown_one : Grown swaps ts (t ∷ []) (ts ++ (t ∷ []))
    grown_one = record {
      more = t ∷ [];
      longer = refl;
      only = λ x m. in_either x ts (t ∷ []) m;
      all = λ x m. in_right x ts (t ∷ []) m;
    }
