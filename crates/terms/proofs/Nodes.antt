-- What interning does where memory holds a list of nodes. Of the mix only `bucket_lt` is used.
use Rattle.std.proofs.Common.{le-leb, le-ltb, Option, Some, None, ◌≡◌, ℕ, suc, ◌+◌, ◌*◌, ◌<◌, ◌≤◌, Bool, true, false, eqb, List, [], ◌∷◌, ◌++◌, length, replicate, sym, refl, ap, ◌∙◌, subst, not-suc-le-zero, add-one, arith, length-append, below_more, lt-ltb, eqb-true}
use lib.ListN.{length-replicate, get_or-replicate, get_or-append}
use lib.Seq.{get_or_at}
use borrow.Author.Tests.{eqb-false}
use Rattle.terms.specs.declared.Node.{Node}
use Rattle.terms.specs.Mix.{bucket_of, step_of}
use Rattle.terms.specs.Chain.{look}
use Rattle.terms.specs.Store.{gives, refused, kept, out, node_of, node_at, link_at, head_at, eq_node, appended, find_of, by_found, intern_of}
use Rattle.terms.specs.Holds.{Holds, New, term, bucket_in, last_in, seek}
use Rattle.terms.proofs.Chains.{last_here, last_past, last_same, seek_none, seek_one, look_last}
use Rattle.terms.proofs.Words.{written-there, written-before, linked-length, linked-node, link_old, link_new, head_old, head_new, eq_node_true, eq_node_same, eq_node-other}

pub bucket_lt : (n : Node) → bucket_of n < 4096
unfolding bucket_of step_of
bucket_lt n = omega arith

pub empty_nodes : (a : ℕ) → 32768 ≤ a → Holds (replicate a 0) 0 []
empty_nodes a p = record {
  long = rw length-replicate p;
  room = omega arith;
  counted = refl;
  words = λ i l. absurd (not-suc-le-zero l);
  once = λ i j l k e. absurd (not-suc-le-zero l);
  linked = λ i l. absurd (not-suc-le-zero l);
  headed = λ b l. unfold last_in in get_or-replicate a (b * 8 + 7) 0 0 (omega arith);
}

module _ (m : List ℕ) (count : ℕ) (ns : List Node) (H : Holds m count ns) (n : Node) where
  test : ℕ → Bool
  test i = eq_node (node_at m i) n

  found-seek : find_of m (head_at m (bucket_of n)) count n ≡ seek test count
  unfolding find_of test
  found-seek =
      ap (look test (λ i. link_at m i) count) (H.headed (bucket_of n) (bucket_lt n))
      ∙ look_last test (λ i. link_at m i) (bucket_in ns) (bucket_of n) count H.linked
      (λ i l e. ap bucket_of (sym (H.words i l) ∙ eq_node_true (node_at m i) n e))

  by_seek : (f : Option ℕ) → seek test count ≡ f → intern_of m count n ≡ by_found m count n f
  unfolding intern_of
  by_seek f e = rw (le-leb 32768 (length m) H.long, le-leb count 4096 H.room) (ap (by_found m count n) (found-seek ∙ e))

  -- a node that is there is found, and nothing changes
  pub present : (i : ℕ) → i < length ns → term ns i ≡ n → intern_of m count n ≡ out (gives (kept count (suc i))) m
  unfolding test
  present i l e =
      let l' : i < count = subst (λ (k : ℕ). i < k) H.counted l in
      by_seek (Some (suc i))
      (seek_one test count i l' (eq_node_same (node_at m i) n (H.words i l' ∙ e))
      (λ j q t. H.once j i q l' (sym (H.words j q) ∙ eq_node_true (node_at m j) n t ∙ sym e)))

  seek_new : New ns n → seek test count ≡ None
  unfolding test
  seek_new w =
      seek_none test count
      (λ i l. eq_node-other (node_at m i) n (λ e. w i (subst (λ (k : ℕ). i < k) (sym H.counted) l) (sym (H.words i l) ∙ e)))

  -- a new node, and no room
  pub no_room : New ns n → 4096 ≤ count → intern_of m count n ≡ out (refused 24) m
  no_room w h = by_seek None (seek_new w) ∙ rw (le-ltb count 4096 h)

  -- a new node, and room: it is stored
  pub absent : New ns n → count < 4096 → intern_of m count n ≡ out (gives (kept (count + 1) (count + 1))) (appended m count n)
  absent w h = by_seek None (seek_new w) ∙ rw (lt-ltb count 4096 h)

  more : List Node
  more = ns ++ (n ∷ [])

  old : (i : ℕ) → i < count → term more i ≡ term ns i
  unfolding more
  old i l = get_or-append ns (n ∷ []) (node_of 0 0 []) i (subst (λ (k : ℕ). i < k) (sym H.counted) l)

  new : term more count ≡ n
  unfolding more
  new = get_or_at ns n [] (node_of 0 0 []) count H.counted

  last_more : (b k : ℕ) → k ≤ count → last_in (bucket_in ns) b k ≡ last_in (bucket_in more) b k
  last_more b k h = last_same (bucket_in ns) (bucket_in more) b k (λ j l. ap bucket_of (sym (old j (omega arith))))

  heads_more : (b : ℕ) → b < 4096 → head_at (appended m count n) b ≡ last_in (bucket_in more) b (count + 1)
  heads_more b l = go (eqb b (bucket_of n)) refl
    where
      go : (t : Bool) → eqb b (bucket_of n) ≡ t → head_at (appended m count n) b ≡ last_in (bucket_in more) b (count + 1)
      go true e =
          let p : b ≡ bucket_of n = eqb-true b (bucket_of n) e in
          ap (λ (k : ℕ). head_at (appended m count n) k) p
          ∙ head_new m count (bucket_of n) (head_at m (bucket_of n)) n (omega (arith, H.long, bucket_lt n))
          ∙ add-one count
          ∙ sym (last_here (bucket_in more) b count (ap bucket_of new ∙ sym p))
          ∙ ap (last_in (bucket_in more) b) (sym (add-one count))
      go false e =
          let p : b ≡ bucket_of n → ⊥ = eqb-false b (bucket_of n) e in
          head_old m count (bucket_of n) (head_at m (bucket_of n)) n b p
          ∙ H.headed b l
          ∙ last_more b count (omega arith)
          ∙ sym (last_past (bucket_in more) b count (λ q. p (sym q ∙ ap bucket_of new)))
          ∙ ap (last_in (bucket_in more) b) (sym (add-one count))

  fresh : New ns n → (i : ℕ) → i < count → term more i ≡ n → ⊥
  fresh w i l e = w i (subst (λ (k : ℕ). i < k) (sym H.counted) l) (sym (old i l) ∙ e)

  once_more : New ns n → (i : ℕ) → i < count + 1 → (j : ℕ) → j < count + 1 → term more i ≡ term more j → i ≡ j
  once_more w =
      below_more (λ i. (j : ℕ) → j < count + 1 → term more i ≡ term more j → i ≡ j) count
      (λ i l. below_more (λ j. term more i ≡ term more j → i ≡ j) count
      (λ j k e. H.once i j l k (sym (old i l) ∙ e ∙ old j k))
      (λ e. absurd (fresh w i l (e ∙ new))))
      (below_more (λ j. term more count ≡ term more j → count ≡ j) count
      (λ j k e. absurd (fresh w j k (sym e ∙ new)))
      (λ e. refl))

  -- what is stored holds the nodes with the new one behind them
  pub holds_more : New ns n → count < 4096 → Holds (appended m count n) (count + 1) (ns ++ (n ∷ []))
  unfolding more
  holds_more w h =
      let b : ℕ = bucket_of n in
      let s : ℕ = head_at m (bucket_of n) in
      record {
        long = omega (arith, linked-length m count b s n, H.long);
        room = omega arith;
        counted = omega (arith, length-append ns (n ∷ []), H.counted);
        words = below_more (λ i. node_at (appended m count n) i ≡ term more i) count
            (λ i l. linked-node m count b s n i ∙ written-before m count n i l ∙ H.words i l ∙ sym (old i l))
            (linked-node m count b s n count ∙ written-there m count n (omega (arith, H.long)) ∙ sym new);
        once = λ i j l k. once_more w i l j k;
        linked = below_more (λ i. link_at (appended m count n) i ≡ last_in (bucket_in more) (bucket_in more i) i) count
            (λ i l.
            link_old m count b s n i l
            ∙ H.linked i l
            ∙ ap (λ (x : ℕ). last_in (bucket_in ns) x i) (ap bucket_of (sym (old i l)))
            ∙ last_more (bucket_in more i) i (omega arith))
            (link_new m count b s n (omega (arith, H.long))
            ∙ H.headed b (bucket_lt n)
            ∙ ap (λ (x : ℕ). last_in (bucket_in ns) x count) (ap bucket_of (sym new))
            ∙ last_more (bucket_in more count) count (omega arith));
        headed = heads_more;
      }
