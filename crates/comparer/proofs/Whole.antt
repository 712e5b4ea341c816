-- What `match_lists` answers.
use mathlib.Core.Path.{◌≡◌, refl, sym, ap, ◌∙◌, subst, subst₂}
use mathlib.Core.Logic.{inl, ⊎_elim}
use mathlib.Core.Bool.{Bool, true, false}
use mathlib.Core.List.{List, [], ◌++◌}
use Prim.Native.Nat.{ℕ, ◌+◌, ◌≤◌, ◌<◌}
use native.Mathlib.Omega.{arith}
use lib.ListN.{length, get_or, take, drop}
use borrow.Author.Tests.{le-leb, lt-leb, lt-ltb}
use Rattle.model.specs.Tables.{Array, cells, array_at, starts, swaps_at}
use Rattle.model.specs.Update.{Tree, Listed}
use Rattle.model.specs.Update.Tree.{cell}
use Rattle.model.specs.Reply as model
use Rattle.model.specs.Memory.{cleared}
use Rattle.terms.specs.Term.{parts_of_all, term_count}
use Rattle.terms.specs.Stored.{In, Stored, Grown, Outcome, full}
use Rattle.terms.proofs.Sets.{in_none, in_left, in_either, after_grown, is_full, is_fine, over_more}
use Rattle.terms.proofs.Members.{parts_append}
use Rattle.terms.proofs.Laws.{empty}
use Rattle.terms.proofs.Number.{too_many, count_right}
use Rattle.unroller.specs.Allowed.{allowed}
use Rattle.unroller.specs.Stands.{bases_of, HeaderAt, Stands}
use Rattle.unroller.proofs.Parts.{within-high, TablesParts, list-parts, tables-whole}
use Rattle.unroller.proofs.Stands.{bases-length, bases-step, proper-inside}
use Rattle.comparer.specs.Meaning.{Content, after, free, values}
use Rattle.comparer.specs.Match.{swapping, given, compared_size, first_difference, agree_at, written_terms, matched}
use Rattle.comparer.specs.Matching.{Matches}
use Rattle.comparer.specs.declared.reply.Reply.{Reply}
use Rattle.comparer.specs.declared.reply.Reply.TheVariants as reply
use Rattle.comparer.specs.declared.reply.Side.TheVariants as side
use Rattle.comparer.specs.Work.{Operators, Table, slot_of, Shows, CellsHold, Applies}
use Rattle.comparer.specs.Comparing.{Sums, filled, final, FirstArray}
use Rattle.comparer.proofs.SameTables.{compared-shared}
use Rattle.comparer.proofs.Unwritten.{not-stored, given_is}
use Rattle.comparer.proofs.Shared.{not-local-inside, shared-local, shared-array}
use Rattle.comparer.proofs.Slots.{slot_in, cells-on, outcome_on}
use Rattle.comparer.proofs.Sizes.{table_of}
use Rattle.comparer.proofs.Halves.{Blank, after_one, after_two, first_long, second-long, first_blank, second_blank, second-part, first_is, second_is}

-- ---- one side
module _ (list table : List ℕ) (l : Listed) (H : HeaderAt list l.tables) (P : TablesParts l.tables) (S : Sums list table) where
  slots_of : (slots : List ℕ) → length slots ≡ 2048 → Table table (bases_of l.tables.arrays) (length slots)
  slots_of slots e = subst (λ (n : ℕ). Table table (bases_of l.tables.arrays) n) (sym e) (table_of list l.tables H P table S)

  operators_of : Operators list l.tables.operators
  operators_of = record { few = within-high 0 16 (length l.tables.operators) P.operators; word = H.word }

  -- the updates, from cells that nobody wrote
  side-done : (slots m : List ℕ) (count : ℕ) (slots' m' : List ℕ) (n : ℕ) (ts : List Tree) → Applies table list 98 slots m count n slots' m'
      → Stands list l → length slots ≡ 2048 → Blank slots → Stored (swapping l) m count ts
      → Outcome (swapping l) ts (parts_of_all (values l.updates cell)) m' n (λ vs. CellsHold (swapping l) (bases_of l.tables.arrays) slots' vs (after free l.updates cell))
  unfolding Applies
  side-done slots m count slots' m' n ts A W e z T =
      let t = slots_of slots e in
      A l.tables.operators (bases_of l.tables.arrays) l.updates ts cell operators_of W.updates
      (record { slots = t; stored = T; holds = λ a c p. inl (z (slot_of (bases_of l.tables.arrays) a c) (slot_in table (bases_of l.tables.arrays) (length slots) t a c p), refl) })

  -- the same, where the operators may swap as those of another list
  side_with : (slots m : List ℕ) (count : ℕ) (slots' m' : List ℕ) (n : ℕ) (ts : List Tree) → Applies table list 98 slots m count n slots' m'
      → Stands list l → length slots ≡ 2048 → Blank slots → (swaps : ℕ → Bool) → swapping l ≡ swaps → Stored swaps m count ts
      → Outcome swaps ts (parts_of_all (values l.updates cell)) m' n (λ vs. CellsHold swaps (bases_of l.tables.arrays) slots' vs (after free l.updates cell))
  side_with slots m count slots' m' n ts A W e z swaps q =
      subst (λ (w : ℕ → Bool). Stored w m count ts
      → Outcome w ts (parts_of_all (values l.updates cell)) m' n (λ vs. CellsHold w (bases_of l.tables.arrays) slots' vs (after free l.updates cell))) q
      (side-done slots m count slots' m' n ts A W e z)

  -- the cells of one array
  module _ (slots : List ℕ) (e : length slots ≡ 2048) (a : ℕ) (i : a < length l.tables.arrays) where
    word : get_or table a 0 ≡ get_or (bases_of l.tables.arrays) a 0
    word = (slots_of slots e).word a (omega (arith, bases-length l.tables.arrays))

    side-room : get_or table a 0 + cells (array_at l.tables.arrays a).extents ≤ length slots
    side-room =
        omega (arith, word, bases-step l.tables.arrays a i, (slots_of slots e).fits (a + 1) (omega (arith, bases-length l.tables.arrays)))

    side-shows : (swaps : ℕ → Bool) (ts : List Tree) (h : Content Tree) → CellsHold swaps (bases_of l.tables.arrays) slots ts h
        → (c : ℕ) → c < cells (array_at l.tables.arrays a).extents → Shows swaps ts (get_or slots (get_or table a 0 + c) 0) (cell a c) (h a c)
    side-shows swaps ts h C c j =
        subst (λ (b : ℕ). Shows swaps ts (get_or slots (b + c) 0) (cell a c) (h a c)) (sym word)
        (C a c (proper-inside l.tables.arrays a c (lt-ltb c (cells (array_at l.tables.arrays a).extents) j)))

-- ---- the reply
module _ (mask : ℕ) (l r : Listed) where
  abbrev First : model.Reply
  First = first_difference mask 0 l.tables.arrays (agree_at l r) (model.equal (compared_size mask 0 l.tables.arrays))

  over_reply : 4096 < term_count (swapping l) (written_terms l r) → model.refused model.both 24 0 ≡ matched mask l r
  over_reply h = rw (lt-leb (term_count (swapping l) (written_terms l r)) 4096 h)

  fine-reply : term_count (swapping l) (written_terms l r) ≤ 4096 → First ≡ matched mask l r
  fine-reply h = rw (le-leb (term_count (swapping l) (written_terms l r)) 4096 h)

-- the store of both sides holds no cell of an array that does not start alike on both
module _ (l r : Listed) (p : allowed l ≡ true) (q : allowed r ≡ true) (ts : List Tree) (G : Grown (swapping l) [] (parts_of_all (written_terms l r)) ts) where
  none_stored : (a c : ℕ) → starts (array_at l.tables.arrays a) ≡ false → starts (array_at r.tables.arrays a) ≡ false → In (swapping l) (cell a c) ts → ⊥
  none_stored a c e f i =
      let lv = values l.updates cell in
      let rv = values r.updates cell in
      ⊎_elim (in_none (swapping l) (cell a c))
      (λ j. ⊎_elim (not-stored l.tables.arrays (swapping l) a c l.updates (list-parts l p).reads e)
      (not-stored r.tables.arrays (swapping l) a c r.updates (list-parts r q).reads f)
      (in_either (swapping l) (cell a c) (parts_of_all lv) (parts_of_all rv) (subst (In (swapping l) (cell a c)) (parts_append lv rv) j))) (G.only (cell a c) i)

-- ---- where nothing is to be shown
module _ (left right : List ℕ) (mask : ℕ) (xs m : List ℕ) (x : Reply) where
  pub match_left : length left < 98 → Matches left right mask xs m x
  unfolding Matches
  match_left h l r L R = absurd (omega (arith, L.header.room))

  pub match_right : length right < 98 → Matches left right mask xs m x
  unfolding Matches
  match_right h l r L R = absurd (omega (arith, R.header.room))

  pub match_cells : length xs < 4096 → Matches left right mask xs m x
  unfolding Matches
  match_cells h l r L R p q e o n = absurd (omega arith)

-- ---- both sides
module _ (left right : List ℕ) (mask : ℕ) (xs m lefts rights : List ℕ) (SL : Sums left lefts) (SR : Sums right rights) (ys m1 : List ℕ) (n : ℕ)
    (A : Applies lefts left 98 (take 2048 xs) m 0 n ys m1) (room : 4096 ≤ length xs) where
  module _ (l : Listed) (L : Stands left l) (p : allowed l ≡ true) (z : xs ≡ cleared xs) (w : 32768 ≤ length m) (v : m ≡ cleared m) where
    abbrev LeftHolds : List Tree → Type 0
    LeftHolds vs = CellsHold (swapping l) (bases_of l.tables.arrays) ys vs (after free l.updates cell)

    first : Outcome (swapping l) [] (parts_of_all (values l.updates cell)) m1 n LeftHolds
    first =
        side-done left lefts l L.header (list-parts l p).tables-allowed SL (take 2048 xs) m 0 ys m1 n [] A L
        (first_long xs room) (first_blank xs room z) (subst (λ (x : List ℕ). Stored (swapping l) x 0 []) (sym v) (empty (swapping l) m w))

  -- too many on the left
  pub match_full : 4096 < n → Matches left right mask xs m (reply.Refused side.Both 24 0)
  unfolding Matches
  match_full h l r L R p q e o k w z v =
      let lv = values l.updates cell in
      let rv = values r.updates cell in
      over_reply mask l r
      (too_many (swapping l) (lv ++ rv) m1 n (λ vs. CellsHold (swapping l) (bases_of l.tables.arrays) ys vs (after free l.updates cell))
      (full h (over_more (swapping l) [] (parts_of_all lv) (parts_of_all (lv ++ rv))
      (λ t i. rw (parts_append lv rv) (in_left (swapping l) t (parts_of_all lv) (parts_of_all rv) i))
      (is_full (swapping l) m1 n (λ vs. CellsHold (swapping l) (bases_of l.tables.arrays) ys vs (after free l.updates cell)) [] (parts_of_all lv) h (first l L p z w v)))) h)

  module _ (g : n ≤ 4096) (s : length ys ≡ length (take 2048 xs)) (zs m2 : List ℕ) (k : ℕ)
      (B : Applies rights right 98 (take 2048 (drop 2048 (after_one xs ys))) m1 n k zs m2) where
    abbrev Held : Listed → Listed → List Tree → Type 0
    Held l r vs = CellsHold (swapping l) (bases_of l.tables.arrays) ys vs (after free l.updates cell) × CellsHold (swapping l) (bases_of r.tables.arrays) zs vs (after free r.updates cell)

    second : (l r : Listed) → Stands left l → Stands right r → allowed l ≡ true → allowed r ≡ true → l.tables.operators ≡ r.tables.operators → xs ≡ cleared xs → 32768 ≤ length m → m ≡ cleared m
        → Outcome (swapping l) [] (parts_of_all (written_terms l r)) m2 k (Held l r)
    second l r L R p q o z w v =
        let lv = values l.updates cell in
        let rv = values r.updates cell in
        let LH : List Tree → Type 0 = λ vs. CellsHold (swapping l) (bases_of l.tables.arrays) ys vs (after free l.updates cell) in
        let RH : List Tree → Type 0 = λ vs. CellsHold (swapping l) (bases_of r.tables.arrays) zs vs (after free r.updates cell) in
        let F = is_fine (swapping l) m1 n LH [] (parts_of_all lv) g (first l L p z w v) in
        let B' : Applies rights right 98 (take 2048 (drop 2048 xs)) m1 n k zs m2 =
        subst (λ (x : List ℕ). Applies rights right 98 x m1 n k zs m2) (second-part xs room ys s) B in
        subst (λ (x : List Tree). Outcome (swapping l) [] x m2 k (Held l r)) (sym (parts_append lv rv))
        (after_grown (swapping l) m2 k (Held l r) [] (parts_of_all lv) F.0 (parts_of_all rv) F.2
        (outcome_on (swapping l) F.0 (parts_of_all rv) m2 k RH (Held l r)
        (λ vs G C. (cells-on (swapping l) (bases_of l.tables.arrays) ys F.0 (parts_of_all rv) vs (after free l.updates cell) G F.3, C))
        (side_with right rights r R.header (list-parts r q).tables-allowed SR (take 2048 (drop 2048 xs)) m1 n zs m2 k F.0 B' R
        (second-long xs room) (second_blank xs room z) (swapping l) (ap swaps_at (sym o)) F.1)))

    -- too many on both sides together
    pub match_over : 4096 < k → Matches left right mask xs m (reply.Refused side.Both 24 0)
    unfolding Matches
    match_over h l r L R p q e o i w z v = over_reply mask l r (too_many (swapping l) (written_terms l r) m2 k (Held l r) (second l r L R p q o z w v) h)

    pub match_done : k ≤ 4096 → length zs ≡ length (take 2048 (drop 2048 (after_one xs ys))) → (x : Reply)
        → FirstArray left mask lefts rights (take 2048 (after_two xs ys zs)) (take 2048 (drop 2048 (after_two xs ys zs))) m2 0 0 x
        → Matches left right mask xs m x
    unfolding Matches FirstArray
    match_done h u x C l r L R p q e o i w z v =
        let O = second l r L R p q o z w v in
        let F = is_fine (swapping l) m2 k (Held l r) [] (parts_of_all (written_terms l r)) h O in
        let c : k ≡ term_count (swapping l) (written_terms l r) = count_right (swapping l) (written_terms l r) m2 k (Held l r) O h in
        let D : FirstArray left mask lefts rights ys zs m2 0 0 x =
        subst₂ (λ (f g : List ℕ). FirstArray left mask lefts rights f g m2 0 0 x) (first_is xs room ys s zs u) (second_is xs room ys s zs u) C in
        let PL = (list-parts l p).tables-allowed in
        let PR = (list-parts r q).tables-allowed in
        let ly : length ys ≡ 2048 = s ∙ first_long xs room in
        let lz : length zs ≡ 2048 = u ∙ ap length (second-part xs room ys s) ∙ second-long xs room in
        let y : 0 + compared_size mask 0 l.tables.arrays ≡ compared_size mask 0 l.tables.arrays = omega arith in
        D (swapping l) l.tables (final l) (final r) L.header (tables-whole l.tables PL)
        (λ b j on.
        let f = compared-shared mask b (array_at l.tables.arrays b) on in
        let a = shared-array l.tables.arrays r.tables.arrays PL.order PR.order e b f in
        let t = not-local-inside r.tables.arrays b (shared-local l.tables.arrays r.tables.arrays PL.order PR.order e b f) in
        let n : (c : ℕ) → starts (array_at l.tables.arrays b) ≡ false → In (swapping l) (cell b c) F.0 → ⊥ = λ c g. none_stored l r p q F.0 F.2 b c g (ap starts a ∙ g) in
        let ls = side-shows left lefts l L.header PL SL ys ly b j (swapping l) F.0 (after free l.updates cell) F.3.0 in
        let rs = side-shows right rights r R.header PR SR zs lz b t (swapping l) F.0 (after free r.updates cell) F.3.1 in
        record {
          count = k;
          ts = F.0;
          stored = F.1;
          left_room = side-room left lefts l L.header PL SL ys ly b j;
          right_room = subst (λ (o : Array). get_or rights b 0 + cells o.extents ≤ length zs) a (side-room right rights r R.header PR SR zs lz b t);
          left_given = λ c g. given_is l.tables.arrays (swapping l) b c l.updates (list-parts l p).reads F.0 (get_or ys (get_or lefts b 0 + c) 0) (n c) (ls c g);
          right_given = subst (λ (o : Array). (c : ℕ) → c < cells o.extents → given r b c ≡ filled (starts o) (get_or zs (get_or rights b 0 + c) 0)) a
              (λ c g. given_is r.tables.arrays (swapping l) b c r.updates (list-parts r q).reads F.0 (get_or zs (get_or rights b 0 + c) 0) (λ d. n c (sym (ap starts a) ∙ d)) (rs c g));
          left_shows = ls;
          right_shows = subst (λ (o : Array). (c : ℕ) → c < cells o.extents → Shows (swapping l) F.0 (get_or zs (get_or rights b 0 + c) 0) (cell b c) (after free r.updates cell b c)) a rs;
        })
        ∙ ap (λ (o : ℕ). first_difference mask 0 l.tables.arrays (agree_at l r) (model.equal o)) y
        ∙ fine-reply mask l r (omega arith)
