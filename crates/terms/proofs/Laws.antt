-- The laws of the store: what interning does where memory holds trees. No statement here names the mix.
use Rattle.std.proofs.Common.{◌≡◌, ℕ, ◌+◌, ◌-◌, ◌<◌, ◌≤◌, Bool, true, false, ltb, ◌⊎◌, List, [], ◌∷◌, ◌++◌, length, take, sym, refl, ap, ◌∙◌, subst, inl, inr, ⊎_elim, true≢false, not-suc-le-zero, add-one, arith, length-append, length-take, below_more, ltb-false, ltb-true, lt-ltb, le-leb, leb, leb-true, Option, Some, None, if◌then◌else◌}
use native.Mathlib.Nat.{min-le_left}
use lib.ListN.{get_or-append}
use lib.Seq.{get_or_at, take-append-le, take-length}
use Rattle.model.specs.Memory.{cleared, term_words}
use Rattle.model.specs.Update.{Tree, Trees}
use Rattle.model.specs.Update.Tree.{cell, operator}
use Rattle.terms.specs.declared.Node.{Node}
use Rattle.terms.specs.declared.Kept.{Kept}
use Rattle.terms.specs.Term.{alike}
use Rattle.terms.specs.Store.{Says, gives, refused, kept, node_of, node_at, args_of, eq_node, Out, out, find_of, head_at, appended, by_found, intern_of, starts_at}
use Rattle.terms.specs.Mix.{bucket_of}
use Rattle.terms.specs.Holds.{New, term}
use Rattle.terms.specs.Stored.{In, tree, Ref, Arguments, Means, Known, Stored, Answered, Puts, Starts}
use Rattle.terms.proofs.Alike.{alike_refl, alike_sym, alike_trans}
use Rattle.terms.proofs.Words.{eq_node_true, eq_node_same}
use Rattle.terms.proofs.Nodes.{empty_nodes, present, absent, no_room, holds_more}
use Rattle.terms.proofs.Trees.{means_all, means-alike, means_same, means_one, ref_same, ref_one}
use Rattle.terms.proofs.Sets.{in_one, in_alike, in_either, placed, old_tree, new_tree, long_more, once_more, grown_one, grown_none}
use Rattle.terms.proofs.Members.{untrue, in_or_not}

-- zeros hold the empty store
pub empty : (swaps : ℕ → Bool) (m : List ℕ) → 32768 ≤ length m → Stored swaps (cleared m) 0 []
empty swaps m l = record {
  nodes = [];
  held = empty_nodes (length m) l;
  known = record { long = refl; means = λ i h. absurd (not-suc-le-zero h); once = λ i j h k e. absurd (not-suc-le-zero h) };
}

module _ (swaps : ℕ → Bool) (m : List ℕ) (count : ℕ) (ts : List Tree) (S : Stored swaps m count ts) where
  pub counted : count ≡ length ts
  counted = sym S.held.counted ∙ S.known.long

  -- one id for each class of trees that are alike: ids are equal where trees are alike, and only there
  pub same_id : (r s : ℕ) (t u : Tree) → Ref swaps ts r t → Ref swaps ts s u → (r ≡ s → alike swaps t u ≡ true) × (alike swaps t u ≡ true → r ≡ s)
  same_id r s t u g h =
      (λ e. ref_same swaps ts s t u (subst (λ (x : ℕ). Ref swaps ts x t) e g) h, λ e. ref_one swaps ts r s t u S.known.once e g h)

  -- the node at an id is its tree over the earlier ones
  pub read_back : (i : ℕ) → i < count → Means swaps (take i ts) (node_at m i) (tree ts i)
  read_back i l = subst (λ (x : Node). Means swaps (take i ts) x (tree ts i)) (sym (S.held.words i l)) (S.known.means i (omega (arith, counted)))

  -- each argument of an operator is earlier than the operator
  pub earlier : (i : ℕ) → i < count → (o : ℕ) (us : Trees) → tree ts i ≡ operator o us → Arguments swaps (take i ts) (args_of (node_at m i)) o us
  unfolding Means
  earlier i l o us e = (subst (λ (t : Tree). Means swaps (take i ts) (node_at m i) t) e (read_back i l)).3

pub ref_earlier : (swaps : ℕ → Bool) (ts : List Tree) (i r : ℕ) (t : Tree) → Ref swaps (take i ts) r t → r ≤ i
ref_earlier swaps ts i r t h = omega (arith, h.within, length-take i ts, min-le_left i (length ts))

module _ (swaps : ℕ → Bool) (m : List ℕ) (count : ℕ) (ts : List Tree) (S : Stored swaps m count ts) (n : Node) (t : Tree) (T : Means swaps ts n t) where
  long : count ≡ length ts
  long = counted swaps m count ts S

  -- a tree alike to a stored one is found, and nothing changes
  pub finds : (i : ℕ) → i < count → alike swaps t (tree ts i) ≡ true → intern_of m count n ≡ out (gives (kept count (i + 1))) m
  finds i l e =
      let k : i < length ts = omega (arith, long) in
      present m count S.nodes S.held n i (omega (arith, S.held.counted))
      (means_one swaps ts (term S.nodes i) n (tree ts i) t S.known.once (alike_sym swaps t (tree ts i) e) (means_all swaps S.nodes ts S.known i k) T)
      ∙ ap (λ (r : ℕ). out (gives (kept count r)) m) (sym (add-one i))

  module _ (w : In swaps t ts → ⊥) where
    is_new_lem : New S.nodes n
    is_new_lem i l e =
        let k : i < length ts = omega (arith, S.known.long) in
        w (in_alike swaps t (tree ts i) ts
        (means_same swaps ts n t (tree ts i) T (subst (λ (x : Node). Means swaps ts x (tree ts i)) e (means_all swaps S.nodes ts S.known i k)))
        (placed swaps ts i k))

    -- a new tree where 4,096 are stored is refused, and nothing changes
    pub refuses : 4096 ≤ count → intern_of m count n ≡ out (refused 24) m
    refuses h = no_room m count S.nodes S.held n is_new_lem h

    new_id : (i : ℕ) → i < length ts → alike swaps t (tree ts i) ≡ true → ⊥
    new_id i l e = w (in_alike swaps t (tree ts i) ts e (placed swaps ts i l))

    known_more : Known swaps (S.nodes ++ (n ∷ [])) (ts ++ (t ∷ []))
    known_more = record {
      long = length-append S.nodes (n ∷ []) ∙ ap (λ (k : ℕ). k + 1) S.known.long ∙ sym (long_more swaps ts t);
      means = λ i l. go i (omega (arith, long_more swaps ts t));
      once = once_more swaps ts t S.known.once new_id;
    }
      where
        M : ℕ → Type 0
        M i = Means swaps (take i (ts ++ (t ∷ []))) (term (S.nodes ++ (n ∷ [])) i) (tree (ts ++ (t ∷ [])) i)

        old_node : (i : ℕ) → i < length ts → term (S.nodes ++ (n ∷ [])) i ≡ term S.nodes i
        old_node i l = get_or-append S.nodes (n ∷ []) (node_of 0 0 []) i (omega (arith, S.known.long))

        new_node : term (S.nodes ++ (n ∷ [])) (length ts) ≡ n
        new_node = get_or_at S.nodes n [] (node_of 0 0 []) (length ts) S.known.long

        all : take (length ts) (ts ++ (t ∷ [])) ≡ ts
        all = take-append-le (length ts) ts (t ∷ []) (omega arith) ∙ take-length ts

        go : (i : ℕ) → i < length ts + 1 → M i
        go =
            below_more (λ i. M i) (length ts)
            (λ i l. rw (take-append-le i ts (t ∷ []) (omega arith), old_node i l, old_tree swaps ts t i l) (S.known.means i l))
            (rw (all, new_node, new_tree swaps ts t) T)

    -- a new tree is stored behind the others, where there is room
    pub adds : count < 4096
        → ((intern_of m count n).answer ≡ gives (kept (count + 1) (count + 1))) × Stored swaps (intern_of m count n).memory (count + 1) (ts ++ (t ∷ []))
    adds h =
        let e = absent m count S.nodes S.held n is_new_lem h in (
          ap (λ (o : Out). o.answer) e,
          subst (λ (x : List ℕ). Stored swaps x (count + 1) (ts ++ (t ∷ []))) (sym (ap (λ (o : Out). o.memory) e))
              (record { nodes = S.nodes ++ (n ∷ []); held = holds_more m count S.nodes S.held n is_new_lem h; known = known_more }),
        )

  -- full is answered only for a new tree where 4,096 are stored
  pub full-only : (intern_of m count n).answer ≡ refused 24 → (count ≡ 4096) × (In swaps t ts → ⊥)
  full-only e = go (in_or_not swaps t ts)
    where
      never : (k : Kept) → (intern_of m count n).answer ≡ gives k → ⊥
      never k p = cc

      go : ((i : ℕ) × (i < length ts) × (alike swaps t (tree ts i) ≡ true)) ⊎ (In swaps t ts → ⊥) → (count ≡ 4096) × (In swaps t ts → ⊥)
      go (inl p) = absurd (never (kept count (p.0 + 1)) (ap (λ (o : Out). o.answer) (finds p.0 (omega (arith, p.1, long)) p.2)))
      go (inr w) = (room (ltb count 4096) refl, w)
        where
          room : (b : Bool) → ltb count 4096 ≡ b → count ≡ 4096
          room true q = absurd (never (kept (count + 1) (count + 1)) (adds w (ltb-true count 4096 q)).0)
          room false q = let l = ltb-false count 4096 q in omega (arith, S.held.room)

  Answer : Out → Type 0
  Answer o = Answered swaps ts (t ∷ []) o.memory (λ (k : Kept). k.count) (λ (k : Kept) us. Ref swaps us k.id t) o.answer

  found_answer : (i : ℕ) → i < length ts → alike swaps t (tree ts i) ≡ true → Answer (intern_of m count n)
  unfolding Answer
  found_answer i l e =
      subst Answer (sym (finds i (omega (arith, long)) e)) (
        ts,
        S,
        grown_none swaps ts (t ∷ []) (λ x q.
            in_alike swaps x (tree ts i) ts (alike_trans swaps x t (tree ts i) (in_one swaps x t q) e) (placed swaps ts i l)),
        record { some = omega arith; within = omega arith; is = ap (λ (k : ℕ). alike swaps t (tree ts k)) less ∙ e },
      )
    where
      less : i + 1 - 1 ≡ i
      less = omega arith

  added_answer : (In swaps t ts → ⊥) → count < 4096 → Answer (intern_of m count n)
  unfolding Answer
  added_answer w l =
      let a = adds w l in
      subst (λ (s : Says Kept). Answered swaps ts (t ∷ []) (intern_of m count n).memory (λ (k : Kept). k.count) (λ (k : Kept) us. Ref swaps us k.id t) s) (sym a.0) (
        ts ++ (t ∷ []),
        a.1,
        grown_one swaps ts t,
        record {
          some = omega arith;
          within = omega (arith, long_more swaps ts t, long);
          is = ap (alike swaps t) (ap (tree (ts ++ (t ∷ []))) (less ∙ long) ∙ new_tree swaps ts t) ∙ alike_refl swaps t;
        },
      )
    where
      less : count + 1 - 1 ≡ count
      less = omega arith

  full_answer : (In swaps t ts → ⊥) → 4096 ≤ count → Answer (intern_of m count n)
  unfolding Answer
  full_answer w l =
      subst Answer (sym (refuses w l))
      (record {
        these = ts ++ (t ∷ []);
        once = once_more swaps ts t S.known.once (new_id w);
        many = omega (arith, long_more swaps ts t, long);
        among = λ x q. in_either swaps x ts (t ∷ []) q;
      })

  -- interning stores the tree, once for all that are alike, or there is no room
  pub interns : Answered swaps ts (t ∷ []) (intern_of m count n).memory (λ (k : Kept). k.count) (λ (k : Kept) us. Ref swaps us k.id t) (intern_of m count n).answer
  unfolding Answer
  interns =
      ⊎_elim
      (λ (p : (i : ℕ) × (i < length ts) × (alike swaps t (tree ts i) ≡ true)). found_answer p.0 p.1 p.2)
      (λ (w : In swaps t ts → ⊥). go w (ltb count 4096) refl)
      (in_or_not swaps t ts)
    where
      go : (In swaps t ts → ⊥) → (b : Bool) → ltb count 4096 ≡ b → Answer (intern_of m count n)
      go w true p = added_answer w (ltb-true count 4096 p)
      go w false p = full_answer w (ltb-false count 4096 p)

-- what `put` promises, for trees
pub puts : (m : List ℕ) (count kind payload : ℕ) (ids : List ℕ) (answer : Says Kept) (m' : List ℕ)
    → out answer m' ≡ intern_of m count (node_of kind payload ids) → Puts m count kind payload ids answer m'
unfolding Puts
puts m count kind payload ids answer m' e swaps ts t S T =
    subst (λ (o : Out). Answered swaps ts (t ∷ []) o.memory (λ (k : Kept). k.count) (λ (k : Kept) us. Ref swaps us k.id t) o.answer) (sym e)
    (interns swaps m count ts S (node_of kind payload ids) t T)

-- no more terms than there is room for, whatever memory holds
pub few : (m : List ℕ) (count : ℕ) (n : Node) (k : Kept) (m' : List ℕ) → out (gives k) m' ≡ intern_of m count n → k.count ≤ 4096
unfolding intern_of
few m count n k m' e = long (leb term_words (length m)) e
  where
    same : {a b : Kept} {l l' : List ℕ} → out (gives a) l ≡ out (gives b) l' → a.count ≡ b.count
    same q = let z : ◌≡◌ {A = Says Kept} (gives _) (gives _) = ap (λ (o : Out). o.answer) q in cc

    never : {a : Kept} {q : ℕ} {l l' : List ℕ} → out (gives a) l ≡ out (refused q) l' → ⊥
    never q = let z : ◌≡◌ {A = Says Kept} (gives _) (refused _) = ap (λ (o : Out). o.answer) q in cc

    room : (b : Bool) → ltb count 4096 ≡ b → out (gives k) m' ≡ (if b then out (gives (kept (count + 1) (count + 1))) (appended m count n) else out (refused 24) m) → k.count ≤ 4096
    room true h q = let z = same q in let w = ltb-true count 4096 h in omega arith
    room false h q = absurd (never q)

    found : (f : Option ℕ) → leb count 4096 ≡ true → out (gives k) m' ≡ by_found m count n f → k.count ≤ 4096
    found (Some r) h q = let z = same q in let w = leb-true count 4096 h in omega arith
    found None h q = room (ltb count 4096) refl q

    full : (b : Bool) → leb count 4096 ≡ b → out (gives k) m' ≡ (if b then by_found m count n (find_of m (head_at m (bucket_of n)) count n) else out (refused 24) m) → k.count ≤ 4096
    full true h q = found _ h q
    full false h q = absurd (never q)

    long : (b : Bool) → out (gives k) m' ≡ (if b then (if leb count 4096 then by_found m count n (find_of m (head_at m (bucket_of n)) count n) else out (refused 24) m) else out (refused 25) m) → k.count ≤ 4096
    long true q = full (leb count 4096) refl q
    long false q = absurd (never q)

-- what `is_start` promises, for trees
module _ (m : List ℕ) (r a c : ℕ) (b : Bool) where
  -- memory that holds trees is long enough
  pub starts-short : refused 25 ≡ starts_at m r a c → Starts m r a c b
  unfolding Starts starts_at
  starts-short q swaps count ts t S R = let z : ◌≡◌ {A = Says Bool} (refused 25) (gives _) = rw (le-leb 32768 (length m) S.held.long) at q in absurd (cc)

  pub starts : gives b ≡ starts_at m r a c → Starts m r a c b
  unfolding Starts starts_at Means
  starts q swaps count ts t S R = value q ∙ go (eq_node (node_at m i) n) refl
    where
      i : ℕ
      i = r - 1

      n : Node
      n = node_of 16 a (c ∷ [])

      long : count ≡ length ts
      long = counted swaps m count ts S

      there : starts_at m r a c ≡ gives (eq_node (node_at m i) n)
      there = rw (le-leb 32768 (length m) S.held.long, lt-ltb 0 r R.some, le-leb r 4096 (omega (arith, R.within, long, S.held.room)))

      value : gives b ≡ starts_at m r a c → b ≡ eq_node (node_at m i) n
      value e = cc there

      is : Means swaps ts (node_at m i) t
      is =
          let l : i < length ts = omega (arith, R.some, R.within) in
          let k : i < count = omega (arith, long) in
          means-alike swaps ts (node_at m i) (tree ts i) t R.is (subst (λ (x : Node). Means swaps ts x (tree ts i)) (sym (S.held.words i k)) (means_all swaps S.nodes ts S.known i l))

      go : (x : Bool) → eq_node (node_at m i) n ≡ x → x ≡ alike swaps t (cell a c)
      go true p = sym (means_same swaps ts n t (cell a c) (subst (λ (y : Node). Means swaps ts y t) (eq_node_true (node_at m i) n p) is) refl)
      go false p =
          sym (untrue (alike swaps t (cell a c)) (λ f.
          true≢false (sym (eq_node_same (node_at m i) n (means-alike swaps ts (node_at m i) t (cell a c) (alike_sym swaps t (cell a c) f) is)) ∙ p)))
