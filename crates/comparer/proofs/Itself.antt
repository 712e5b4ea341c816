-- A list beside a new order of itself.
use Prim.Native.Nat.{ℕ, suc, ◌≤◌, ◌<◌}
use native.Mathlib.Omega.{arith}
use mathlib.Core.Path.{◌≡◌, refl, sym, ap, ap₂, ◌∙◌, subst, fun_ext}
use mathlib.Core.Logic.{◌⊎◌, inl, inr}
use mathlib.Core.List.{List, [], ◌∷◌}
use mathlib.Core.Bool.{Bool, true, false, ◌&&◌, ◌||◌, cond, true≢false}
use lib.ListN.{length}
use lib.Dec.{leb, eqb}
use borrow.Author.Tests.{eq-eqb, leb-true, leb-false}
use Rattle.model.specs.Tables.{Array, array_at}
use Rattle.model.specs.Update.{Listed}
use Rattle.model.specs.Update.Tree.{cell}
use Rattle.model.specs.Reply.{Reply, equal, differs, refused, both}
use Rattle.terms.specs.Term.{alike, among, parts_of_all, term_count}
use Rattle.terms.proofs.Alike.{alike_refl}
use Rattle.terms.proofs.Count.{same_count}
use Rattle.unroller.specs.Layout.{layout}
use Rattle.comparer.specs.Meaning.{after, free, values}
use Rattle.comparer.specs.Match.{swapping, given, compared_size, first_difference, agree_at, written_terms, matched, same_array, non_local, same_table, operators_reply, lists_reply}
use Rattle.comparer.specs.Entry.{words_reply}
use Rattle.comparer.specs.Order.{reorder}
use Rattle.comparer.specs.Claims.{own_terms, AllGiven, FirstMissing, Beside, BesideItself, BesideItselfWords}
use Rattle.comparer.proofs.SameTables.{same_numbers_lem}
use Rattle.comparer.proofs.First.{compared_in, ElementAt, ElementNone, first_difference_lem, same_place}
use Rattle.comparer.proofs.KeptLists.{among-parts, reordered_kept}
use Rattle.comparer.proofs.Theorems.{demand3}

-- a table beside itself agrees
self_tables : {A : Type 0} (alike : A → A → Bool) → ((x : A) → alike x x ≡ true) → (question : ℕ) (agreed : Reply) (k : ℕ) (xs : List A) → same_table alike question agreed k xs xs ≡ agreed
self_tables alike h question agreed k [] = refl
self_tables alike h question agreed k (x ∷ xs) = rw (h x, self_tables alike h question agreed (suc k) xs)

same_array_lem : (x : Array) → same_array x x ≡ true
same_array_lem x = rw (eq-eqb x.role x.role refl, same_numbers_lem x.extents)

self_matched : (mask : ℕ) (l : Listed) → lists_reply mask l l ≡ matched mask l l
unfolding lists_reply
self_matched mask l =
    self_tables same_array same_array_lem 22 (operators_reply mask l l) 0 (non_local l.tables.arrays)
    ∙ self_tables eqb (λ x. eq-eqb x x refl) 23 (matched mask l l) 0 l.tables.operators

module _ (mask : ℕ) (l : Listed) where
  whole : Reply
  whole = equal (compared_size mask 0 l.tables.arrays)

  found : Reply
  found = first_difference mask 0 l.tables.arrays (given l) whole

  -- the list's own terms, twice, are its own terms
  terms-once : term_count (swapping l) (written_terms l l) ≡ own_terms l
  unfolding term_count
  terms-once = same_count (swapping l) (parts_of_all (written_terms l l)) (parts_of_all (values l.updates cell)) (λ t.
      among-parts (swapping l) t (values l.updates cell) (values l.updates cell) ∙ twice (among (swapping l) t (parts_of_all (values l.updates cell))))
    where
      twice : (b : Bool) → (b || b) ≡ b
      twice true = refl
      twice false = refl

  agree-given : agree_at l l ≡ given l
  agree-given = fun_ext (λ a. fun_ext (λ c. rw (alike_refl (swapping l) (after free l.updates cell a c)) (twice (given l a c))))
    where
      twice : (b : Bool) → (b && (b && true)) ≡ b
      twice true = refl
      twice false = refl

  self_is : lists_reply mask l l ≡ cond (leb (own_terms l) 4096) found (refused both 24 0)
  unfolding found whole
  self_is =
      self_matched mask l
      ∙ ap₂ (λ (n : ℕ) (f : ℕ → ℕ → Bool). cond (leb n 4096) (first_difference mask 0 l.tables.arrays f (equal (compared_size mask 0 l.tables.arrays))) (refused both 24 0)) terms-once agree-given

  module _ (reply : Reply) where
    over : reply ≡ refused both 24 0 → 4096 < own_terms l → Beside mask l reply
    over e h = record {
      many = (λ z. h, λ z. e);
      whole = λ n. (λ z. absurd (let y : ◌≡◌ {A = ℕ} 0 1 = cc e in omega arith), λ z. absurd (omega (arith, z.0)));
      part = λ a d. (λ z. absurd (let y : ◌≡◌ {A = ℕ} 0 1 = cc e in omega arith), λ z. absurd (omega (arith, z.0)));
    }

    all : reply ≡ equal (compared_size mask 0 l.tables.arrays) → own_terms l ≤ 4096 → AllGiven mask l → Beside mask l reply
    all e h g = record {
      many = (λ z. absurd (let y : ◌≡◌ {A = ℕ} 0 1 = cc e in omega arith), λ z. absurd (omega arith));
      whole = λ n. (λ z. (h, (let y : n ≡ compared_size mask 0 l.tables.arrays = cc e in y), g), λ z. e ∙ ap equal (sym z.1));
      part = λ a d. (λ z. absurd (let y : ◌≡◌ {A = ℕ} 0 1 = cc e in omega arith), λ z. absurd (true≢false (sym (g a d z.1.here) ∙ z.1.missing)));
    }

    some_missing : (a d : ℕ) → reply ≡ differs a d → own_terms l ≤ 4096 → FirstMissing mask l a d → Beside mask l reply
    some_missing a d e h f = record {
      many = (λ z. absurd (let y : ◌≡◌ {A = ℕ} 0 1 = cc e in omega arith), λ z. absurd (omega arith));
      whole = λ n. (λ z. absurd (let y : ◌≡◌ {A = ℕ} 0 1 = cc e in omega arith), λ z. absurd (true≢false (sym (z.2 a d f.here) ∙ f.missing)));
      part = λ b c. (λ z. (h, move b c z), λ z. place b c z.1);
    }
      where
        move : (b c : ℕ) → reply ≡ differs b c → FirstMissing mask l b c
        move b c z =
            let v : a ≡ b = cc e in
            let w : d ≡ c = cc e in
            subst (λ (i : ℕ). FirstMissing mask l i c) v (subst (λ (i : ℕ). FirstMissing mask l a i) w f)

        place : (b c : ℕ) → FirstMissing mask l b c → reply ≡ differs b c
        place b c g =
            let w = same_place a d b c
            (λ w. true≢false (sym (g.before a d f.here w) ∙ f.missing))
            (λ w. true≢false (sym (f.before b c g.here w) ∙ g.missing)) in
            e ∙ ap₂ differs w.0 w.1

    beside_self : reply ≡ cond (leb (own_terms l) 4096) found (refused both 24 0) → Beside mask l reply
    unfolding found whole
    beside_self e = go (leb (own_terms l) 4096) refl e (first_difference_lem mask (given l) (equal (compared_size mask 0 l.tables.arrays)) l.tables.arrays 0)
      where
        few : Bool → Reply
        few b = cond b (first_difference mask 0 l.tables.arrays (given l) (equal (compared_size mask 0 l.tables.arrays))) (refused both 24 0)

        go : (b : Bool) → leb (own_terms l) 4096 ≡ b → reply ≡ few b
            → ElementNone l.tables.arrays 0 mask (given l) (equal (compared_size mask 0 l.tables.arrays)) (few true) ⊎ ElementAt l.tables.arrays 0 mask (given l) (few true)
            → Beside mask l reply
        go false f z y = over z (leb-false (own_terms l) 4096 f)
        go true f z (inl y) = all (z ∙ y.is) (leb-true (own_terms l) 4096 f) (λ a d c. y.all a a d (omega arith) c)
        go true f z (inr y) =
            let w : y.i ≡ y.a = (let v = y.at in omega arith) in
            some_missing y.a y.e (z ∙ y.is) (leb-true (own_terms l) 4096 f) (record {
              here = subst (λ (i : ℕ). compared_in mask y.a (array_at l.tables.arrays i) y.e ≡ true) w y.inside;
              missing = y.differ;
              before = λ b d c s. y.before b b d (omega arith) c s;
            })

pub beside_itself : BesideItself
beside_itself mask l order h =
    let k = reordered_kept l order h in (
      beside_self mask l (lists_reply mask l (reorder l order)) (k.on_right mask l ∙ self_is mask l),
      beside_self mask l (lists_reply mask (reorder l order) l) (k.on_left mask l ∙ self_is mask l),
    )

pub beside_itself_words : BesideItselfWords
unfolding words_reply
beside_itself_words old l e order h mask cells terms n =
    let k = demand3 old l e order h in
    let itself : words_reply mask old old cells terms ≡ lists_reply mask l l = rw (n, e) in (
      beside_self mask l (words_reply mask old (layout (reorder l order) (length old)) cells terms) (k.on_right mask old cells terms ∙ itself ∙ self_is mask l),
      beside_self mask l (words_reply mask (layout (reorder l order) (length old)) old cells terms) (k.on_left mask old cells terms ∙ itself ∙ self_is mask l),
    )
