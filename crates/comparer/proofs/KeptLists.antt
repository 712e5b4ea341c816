-- A new order in which conflicting updates keep their order changes nothing, of lists.
use Prim.Native.Nat.{ℕ}
use mathlib.Core.Path.{◌≡◌, sym, ap, ap₂, ◌∙◌, fun_ext}
use mathlib.Core.List.{List, [], ◌++◌}
use mathlib.Core.Bool.{Bool, ◌&&◌, ◌||◌, cond}
use lib.ListN.{length}
use lib.Dec.{leb, eqb}
use Rattle.model.specs.Tables.{Array, array_at, starts}
use Rattle.model.specs.Update.{Tree, Update, Listed, size, nodes}
use Rattle.model.specs.Update.Tree.{cell}
use Rattle.model.specs.Reply.{Reply, equal, refused, both}
use Rattle.terms.specs.Term.{among, parts_of_all, term_count}
use Rattle.terms.proofs.Members.{parts_append}
use Rattle.terms.proofs.Count.{among_append, same_count}
use Rattle.unroller.specs.Allowed.{allowed, allowed_tables, allowed_update}
use Rattle.comparer.specs.Meaning.{Meaning, Content, after, free, values}
use Rattle.comparer.specs.Match.{swapping, compared_size, first_difference, matched, same_table, same_array, non_local, lists_reply}
use Rattle.comparer.specs.Comparing.{Final, final, agree}
use Rattle.comparer.specs.Order.{in_order, NewOrder, reorder}
use Rattle.comparer.proofs.Reorder.{Reordered, after_reordered, written_reordered, total_reordered, every_reordered, length_reordered, read_all_reordered, occurs_reordered}
use Rattle.comparer.proofs.Positions.{reordered}

pub record KeptLists (l new : Listed) : Type 1 where
  pub accepts : allowed new ≡ allowed l
  pub count : length new.updates ≡ length l.updates
  pub small : nodes new.updates ≡ nodes l.updates
  pub leaves : (S : Type 0) (m : Meaning S) (h : Content S) (a c : ℕ) → after m new.updates h a c ≡ after m l.updates h a c
  pub on_left : (mask : ℕ) (r : Listed) → lists_reply mask new r ≡ lists_reply mask l r
  pub on_right : (mask : ℕ) (r : Listed) → lists_reply mask r new ≡ lists_reply mask r l

-- how many terms occur on either side
abbrev terms : (ℕ → Bool) → List Update → List Update → ℕ
terms swaps us vs = term_count swaps (values us cell ++ values vs cell)

-- the reply from the number of terms and what the two sides leave
abbrev reply : (ℕ → Bool) → ℕ → List Array → ℕ → Final → Final → Reply
reply swaps mask xs n left right = cond (leb n 4096) (first_difference mask 0 xs (agree swaps left right) (equal (compared_size mask 0 xs))) (refused both 24 0)

pub among-parts : (swaps : ℕ → Bool) (t : Tree) (xs ys : List Tree) → among swaps t (parts_of_all (xs ++ ys)) ≡ among swaps t (parts_of_all xs) || among swaps t (parts_of_all ys)
among-parts swaps t xs ys = ap (among swaps t) (parts_append xs ys) ∙ among_append swaps t (parts_of_all xs) (parts_of_all ys)

module _ (l : Listed) (us : List Update) (s : Reordered l.updates us) where
  new : Listed
  new = record { tables = l.tables; updates = us }

  terms_left : (swaps : ℕ → Bool) (vs : List Update) → terms swaps us vs ≡ terms swaps l.updates vs
  unfolding term_count
  terms_left swaps vs = same_count swaps (parts_of_all (values us cell ++ values vs cell)) (parts_of_all (values l.updates cell ++ values vs cell)) (λ t.
      among-parts swaps t (values us cell) (values vs cell) ∙ ap (λ (b : Bool). b || among swaps t (parts_of_all (values vs cell))) (sym (occurs_reordered swaps t s cell)) ∙ sym (among-parts swaps t (values l.updates cell) (values vs cell)))

  terms_right : (swaps : ℕ → Bool) (vs : List Update) → terms swaps vs us ≡ terms swaps vs l.updates
  unfolding term_count
  terms_right swaps vs = same_count swaps (parts_of_all (values vs cell ++ values us cell)) (parts_of_all (values vs cell ++ values l.updates cell)) (λ t.
      among-parts swaps t (values vs cell) (values us cell) ∙ ap (λ (b : Bool). among swaps t (parts_of_all (values vs cell)) || b) (sym (occurs_reordered swaps t s cell)) ∙ sym (among-parts swaps t (values vs cell) (values l.updates cell)))

  same_final : final new ≡ final l
  unfolding new
  same_final =
      ap₂ (λ (g : ℕ → ℕ → Bool) (h : Content Tree). (g, h))
      (fun_ext (λ a. fun_ext (λ c. ap (λ (w : Bool). starts (array_at l.tables.arrays a) || w) (sym (written_reordered s a c))))) (sym (after_reordered free s cell))

  on_left_lem : (mask : ℕ) (r : Listed) → matched mask new r ≡ matched mask l r
  unfolding new
  on_left_lem mask r = ap₂ (λ (n : ℕ) (left : Final). reply (swapping l) mask l.tables.arrays n left (final r)) (terms_left (swapping l) r.updates) same_final

  on_right_lem : (mask : ℕ) (r : Listed) → matched mask r new ≡ matched mask r l
  unfolding new
  on_right_lem mask r = ap₂ (λ (n : ℕ) (right : Final). reply (swapping r) mask r.tables.arrays n (final r) right) (terms_right (swapping r) r.updates) same_final

  kept : KeptLists l new
  unfolding new lists_reply
  kept = record {
    accepts = accepts;
    count = sym (length_reordered s);
    small = sym (total_reordered (λ u. size u.source) s);
    leaves = λ S m h a c. ap (λ (k : Content S). k a c) (sym (after_reordered m s h));
    on_left = λ mask r. ap (λ (x : Reply). answer l r x) (on_left_lem mask r);
    on_right = λ mask r. ap (λ (x : Reply). answer r l x) (on_right_lem mask r);
  }
    where
      accepts : allowed new ≡ allowed l
      accepts = unfold allowed in
          λ i.
          allowed_tables l.tables
          && (leb (sym (length_reordered s) i) 2048
          && (leb (sym (total_reordered (λ u. size u.source) s) i) 8192
          && (sym (every_reordered (allowed_update l.tables) s) i && sym (read_all_reordered l.tables.arrays s []) i)))

      answer : Listed → Listed → Reply → Reply
      answer x y match = same_table same_array 22 (same_table eqb 23 match 0 x.tables.operators y.tables.operators) 0 (non_local x.tables.arrays) (non_local y.tables.arrays)

-- every list, every new order
pub reordered_kept : (l : Listed) (order : List ℕ) → NewOrder l.updates order → KeptLists l (reorder l order)
unfolding new
reordered_kept l order h = kept l (in_order l.updates order) (reordered l.updates order h)
