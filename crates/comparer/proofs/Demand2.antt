-- Demand 2: what "equal" and "differs" say, for every starting content and every meaning that respects the marks.
use Prim.Native.Nat.{ℕ}
use native.Mathlib.Omega.{arith}
use mathlib.Core.Path.{◌≡◌, refl, sym, ap, ap₂, ◌∙◌, subst}
use mathlib.Core.Logic.{◌⊎◌, inl, inr}
use mathlib.Core.List.{List, []}
use mathlib.Core.Bool.{Bool, true, false, ◌&&◌, ◌||◌, not, cond, false≢true, true≢false, and-eq-true_iff, or-false}
use lib.Dec.{eqb, leb}
use borrow.Author.Tests.{eqb-true}
use Rattle.model.specs.Tables.{Array, array_at, starts}
use Rattle.model.specs.Update.{Tree, Update, Listed, written}
use Rattle.model.specs.Update.Tree.{cell}
use Rattle.model.specs.Reply.{Reply, equal, differs, refused, both, is_refused}
use Rattle.terms.specs.Term.{alike, term_count}
use Rattle.unroller.specs.Allowed.{locals_last, read_all}
use Rattle.comparer.specs.Meaning.{Meaning, Content, after, free}
use Rattle.comparer.specs.Match.{swapping, given, compared_size, first_difference, agree_at, written_terms, matched, same_array, non_local, operators_reply, lists_reply}
use Rattle.comparer.specs.Told.{Compared, Agree, Apart, Earlier, FirstApart, Told}
use Rattle.comparer.proofs.Values.{after_law}
use Rattle.comparer.proofs.Classes.{alike-value, classes, starting, classes_respect, same_class}
use Rattle.comparer.proofs.Alike.{or_split, unwritten_after, after-alike}
use Rattle.comparer.proofs.First.{compared_in, ElementAt, ElementNone, first_difference_lem, same_place}
use Rattle.comparer.proofs.SameTables.{same_array_sound, tables_cases, non_local-role}

-- two tests and a third
both-and : (a b c : Bool) → (a && (b && c)) ≡ true → (b ≡ true) × (c ≡ true)
both-and true b c e = (and-eq-true_iff b c).0 e
both-and false b c e = absurd (false≢true e)

-- it is not the second
first_true : (a b : Bool) → (a || b) ≡ true → b ≡ false → a ≡ true
first_true true b e f = refl
first_true false b e f = absurd (true≢false (sym e ∙ f))

other_one : (b : Bool) → b ≡ not b → ⊥
other_one true e = true≢false e
other_one false e = false≢true e

-- two values, and every operator gives one of them
flat : Meaning Bool
flat = record { operate = λ o xs. true; literal = λ z. true; named = λ n. true }

-- what demand 2 rests on: every allowed list has it, and every list that a run gives
pub record Sound (l : Listed) : Type 0 where
  pub ordered : locals_last false l.tables.arrays ≡ true
  pub reads : read_all l.tables.arrays [] l.updates ≡ true

-- 22, 23 and 24 have a yes
pub record Passed (mask : ℕ) (l r : Listed) : Type 0 where
  pub arrays : non_local l.tables.arrays ≡ non_local r.tables.arrays
  pub operators : l.tables.operators ≡ r.tables.operators
  pub terms : leb (term_count (swapping l) (written_terms l r)) 4096 ≡ true

abbrev pub found : ℕ → Listed → Listed → Reply
found mask l r = first_difference mask 0 l.tables.arrays (agree_at l r) (equal (compared_size mask 0 l.tables.arrays))

module _ (mask : ℕ) (l r : Listed) where
  never : {A : Type 0} (s : Reply) → is_refused s ≡ false → is_refused s ≡ true → A
  never s p q = absurd (false≢true (sym p ∙ q))

  passed : is_refused (lists_reply mask l r) ≡ false → Passed mask l r × (lists_reply mask l r ≡ found mask l r)
  unfolding lists_reply
  passed n = arrays (tables_cases same_array same_array_sound 22 operators 0 (non_local l.tables.arrays) (non_local r.tables.arrays))
    where
      operators : Reply
      operators = operators_reply mask l r

      few : Bool
      few = leb (term_count (swapping l) (written_terms l r)) 4096

      terms : non_local l.tables.arrays ≡ non_local r.tables.arrays → l.tables.operators ≡ r.tables.operators → lists_reply mask l r ≡ matched mask l r
          → (b : Bool) → few ≡ b → matched mask l r ≡ cond b (found mask l r) (refused both 24 0) → Passed mask l r × (lists_reply mask l r ≡ found mask l r)
      terms p q e true f g = (record { arrays = p; operators = q; terms = f }, e ∙ g)
      terms p q e false f g = never (lists_reply mask l r) n (ap is_refused (e ∙ g))

      by_operators : non_local l.tables.arrays ≡ non_local r.tables.arrays → lists_reply mask l r ≡ operators
          → ((l.tables.operators ≡ r.tables.operators) × (operators ≡ matched mask l r)) ⊎ ((j : ℕ) × (operators ≡ refused both 23 j)) → Passed mask l r × (lists_reply mask l r ≡ found mask l r)
      by_operators p e (inl q) = terms p q.0 (e ∙ q.1) few refl refl
      by_operators p e (inr q) = never (lists_reply mask l r) n (ap is_refused (e ∙ q.1))

      arrays : ((non_local l.tables.arrays ≡ non_local r.tables.arrays) × (lists_reply mask l r ≡ operators)) ⊎ ((j : ℕ) × (lists_reply mask l r ≡ refused both 22 j))
          → Passed mask l r × (lists_reply mask l r ≡ found mask l r)
      arrays (inl p) = by_operators p.0 p.1 (tables_cases eqb eqb-true 23 (matched mask l r) 0 l.tables.operators r.tables.operators)
      arrays (inr p) = never (lists_reply mask l r) n (ap is_refused p.1)

  same_role : Sound l → Sound r → Passed mask l r → (a : ℕ) → (array_at l.tables.arrays a).role ≡ (array_at r.tables.arrays a).role
  same_role p q y a = sym (non_local-role false l.tables.arrays p.ordered a) ∙ ap (λ (xs : List Array). (array_at xs a).role) y.arrays ∙ non_local-role false r.tables.arrays q.ordered a

  same_start : Sound l → Sound r → Passed mask l r → (a : ℕ) → starts (array_at l.tables.arrays a) ≡ starts (array_at r.tables.arrays a)
  same_start p q y a = ap (λ (k : ℕ). eqb k 0 || eqb k 2) (same_role p q y a)

  agree_true : Sound l → Sound r → Passed mask l r → (a e : ℕ) → agree_at l r a e ≡ true → Agree l r a e
  agree_true p q y a e s S m respects h k shared =
      let t = both-and (given l a e) (given r a e) (alike (swapping l) (after free l.updates cell a e) (after free r.updates cell a e)) s in
      after_law m h l.updates a e
      ∙ alike-value (swapping l) m respects h (after free l.updates cell a e) (after free r.updates cell a e) t.1
      ∙ sym (after_law m h r.updates a e)
      ∙ after-alike m r.tables.arrays r.updates [] h k (λ b d f. shared b d (same_start p q y b ∙ sym (or-false (starts (array_at r.tables.arrays b))) ∙ f)) q.reads a e
      (λ f. shared a e (same_start p q y a ∙ first_true (starts (array_at r.tables.arrays a)) (written r.updates a e) t.0 f))

  -- what the sides leave has the same value where terms are told by their classes: they are alike
  classed : (a e : ℕ) → after (classes (swapping l)) l.updates (starting (swapping l)) a e ≡ after (classes (swapping l)) r.updates (starting (swapping l)) a e → alike (swapping l) (after free l.updates cell a e) (after free r.updates cell a e) ≡ true
  classed a e g =
      same_class (swapping l) (after free l.updates cell a e) (after free r.updates cell a e)
      (sym (after_law (classes (swapping l)) (starting (swapping l)) l.updates a e) ∙ g ∙ after_law (classes (swapping l)) (starting (swapping l)) r.updates a e)

  -- contents that are shared where they must be, and elsewhere x
  apart_from : Bool → Content Bool
  apart_from x b d = cond (starts (array_at l.tables.arrays b)) true x

  -- what updates leave from contents that are true everywhere
  held : List Update → ℕ → ℕ → Bool
  held us a e = after flat us (λ b d. true) a e

  -- one side leaves the element as it was: let that be another value than the other side's
  other-value : (us vs : List Update) (a e : ℕ) → starts (array_at l.tables.arrays a) ≡ false → written us a e ≡ false
      → after flat us (apart_from (not (held vs a e))) a e ≡ held vs a e → ⊥
  unfolding apart_from
  other-value us vs a e s w g = other_one (held vs a e) (sym g ∙ unwritten_after flat us (apart_from (not (held vs a e))) a e w ∙ rw s)

  module _ (a e : ℕ) (s : starts (array_at l.tables.arrays a) ≡ false) where
    left_missing : written l.updates a e ≡ false → Apart l r a e
    unfolding flat held apart_from
    left_missing w = record {
      S = Bool;
      meaning = flat;
      respects = λ o s x y. refl;
      one = apart_from (not (held r.updates a e));
      other = λ b d. true;
      shared = λ b d g. rw g;
      apart = λ g. other-value l.updates r.updates a e s w g;
    }

    right_missing : written r.updates a e ≡ false → Apart l r a e
    unfolding flat held apart_from
    right_missing w = record {
      S = Bool;
      meaning = flat;
      respects = λ o s x y. refl;
      one = λ b d. true;
      other = apart_from (not (held l.updates a e));
      shared = λ b d g. rw g;
      apart = λ g. other-value r.updates l.updates a e s w (sym g);
    }

  terms-differ : (a e : ℕ) → alike (swapping l) (after free l.updates cell a e) (after free r.updates cell a e) ≡ false → Apart l r a e
  terms-differ a e f = record {
    S = Tree → Bool;
    meaning = classes (swapping l);
    respects = classes_respect (swapping l);
    one = starting (swapping l);
    other = starting (swapping l);
    shared = λ b d g. refl;
    apart = λ g. true≢false (sym (classed a e g) ∙ f);
  }

  apart_false : Sound l → Sound r → Passed mask l r → (a e : ℕ) → agree_at l r a e ≡ false → Apart l r a e
  apart_false p q y a e f = go (given l a e) refl (given r a e) refl f
    where
      on_left_lem : given l a e ≡ false → Apart l r a e
      on_left_lem g = let n = or_split (starts (array_at l.tables.arrays a)) (written l.updates a e) g in left_missing a e n.0 n.1

      on_right_lem : given r a e ≡ false → Apart l r a e
      on_right_lem g = let n = or_split (starts (array_at r.tables.arrays a)) (written r.updates a e) g in right_missing a e (same_start p q y a ∙ n.0) n.1

      go : (b : Bool) → given l a e ≡ b → (d : Bool) → given r a e ≡ d
          → (b && (d && alike (swapping l) (after free l.updates cell a e) (after free r.updates cell a e))) ≡ false → Apart l r a e
      go false g d h i = on_left_lem g
      go true g false h i = on_right_lem h
      go true g true h i = terms-differ a e i

  not-apart : (a e : ℕ) → Agree l r a e → Apart l r a e → ⊥
  not-apart a e g p = p.apart (g p.S p.meaning p.respects p.one p.other p.shared)

  told : Sound l → Sound r → Passed mask l r → lists_reply mask l r ≡ found mask l r
      → ElementNone l.tables.arrays 0 mask (agree_at l r) (equal (compared_size mask 0 l.tables.arrays)) (found mask l r) ⊎ ElementAt l.tables.arrays 0 mask (agree_at l r) (found mask l r)
      → Told mask l r (lists_reply mask l r)
  told p q y f (inl z) = record {
    same = λ n. (λ e. (count n e, all), λ g. is ∙ ap equal (sym g.0));
    other = λ a e. (λ d. absurd (crash a e d), λ g. absurd (not-apart a e (all a e g.0) g.1));
  }
    where
      is : lists_reply mask l r ≡ equal (compared_size mask 0 l.tables.arrays)
      is = f ∙ z.is

      count : (n : ℕ) → lists_reply mask l r ≡ equal n → n ≡ compared_size mask 0 l.tables.arrays
      count n e = cc is

      all : (a e : ℕ) → Compared mask l a e → Agree l r a e
      all a e c = agree_true p q y a e (z.all a a e (omega arith) c)

      crash : (a e : ℕ) → lists_reply mask l r ≡ differs a e → ⊥
      crash a e d = let w : ◌≡◌ {A = ℕ} 0 1 = cc is in omega arith
  told p q y f (inr z) = record {
    same = λ n. (λ e. absurd (crash n e), λ g. absurd (not-apart z.a z.e (g.1 z.a z.e here) apart));
    other = λ a e. (λ d. move a e d, λ g. place a e g);
  }
    where
      is : lists_reply mask l r ≡ differs z.a z.e
      is = f ∙ z.is

      crash : (n : ℕ) → lists_reply mask l r ≡ equal n → ⊥
      crash n d = let w : ◌≡◌ {A = ℕ} 0 1 = cc is in omega arith

      here : Compared mask l z.a z.e
      here = let w : z.i ≡ z.a = (let v = z.at in omega arith) in subst (λ (i : ℕ). compared_in mask z.a (array_at l.tables.arrays i) z.e ≡ true) w z.inside

      apart : Apart l r z.a z.e
      apart = apart_false p q y z.a z.e z.differ

      before : (b d : ℕ) → Compared mask l b d → Earlier b d z.a z.e → Agree l r b d
      before b d c w = agree_true p q y b d (z.before b b d (omega arith) c w)

      first : FirstApart (Compared mask l) l r z.a z.e
      first = (here, apart, before)

      move : (a e : ℕ) → lists_reply mask l r ≡ differs a e → FirstApart (Compared mask l) l r a e
      move a e d =
          let v : z.a ≡ a = cc is in
          let w : z.e ≡ e = cc is in
          subst (λ (i : ℕ). FirstApart (Compared mask l) l r i e) v (subst (λ (i : ℕ). FirstApart (Compared mask l) l r z.a i) w first)

      place : (a e : ℕ) → FirstApart (Compared mask l) l r a e → lists_reply mask l r ≡ differs a e
      place a e g =
          let w = same_place z.a z.e a e
          (λ w. not-apart z.a z.e (g.2 z.a z.e here w) apart)
          (λ w. not-apart a e (before a e g.0 w) g.1) in
          is ∙ ap₂ differs w.0 w.1

  pub demand2 : Sound l → Sound r → is_refused (lists_reply mask l r) ≡ false → Told mask l r (lists_reply mask l r)
  demand2 p q n = let y = passed n in told p q y.0 y.1 (first_difference_lem mask (agree_at l r) (equal (compared_size mask 0 l.tables.arrays)) l.tables.arrays 0)
