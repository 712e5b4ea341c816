-- The claims of specs/Claims.antt, proved of the definitions.
use Prim.Native.Nat.{ℕ}
use native.Mathlib.Omega.{arith}
use mathlib.Core.Path.{◌≡◌, refl, sym, ap, ap₂, ◌∙◌, subst}
use mathlib.Core.List.{List, []}
use mathlib.Core.Option.{Option, none, some}
use mathlib.Core.Bool.{Bool, true, false, ◌||◌, true≢false, or-false}
use lib.ListN.{length}
use Rattle.model.specs.Tables.{array_at, starts}
use Rattle.model.specs.Update.{Listed, written}
use Rattle.model.specs.Reply.{Reply, left, right, is_refused}
use Rattle.unroller.specs.Run.{Ran, ok, stop}
use Rattle.unroller.specs.Allowed.{allowed}
use Rattle.unroller.specs.Layout.{layout}
use Rattle.unroller.specs.Decode.{decode, accepted}
use Rattle.unroller.specs.Unroll.{unrolled}
use Rattle.unroller.proofs.Parts.{list-parts}
use Rattle.unroller.proofs.Encode.{decode-layout}
use Rattle.unroller.proofs.Inverse.{layout-decode, layout-injective as injective}
use Rattle.unroller.proofs.Laws.{accepted_sound, accepted_complete, layout-length, decoded_fit, layout_same}
use Rattle.unroller.proofs.Accepted.{unrolled-allowed as allowed-run}
use Rattle.unroller.proofs.Fits.{indices_fit as index_values_fit, product_bounded, sums_bounded, forms_bounded, forms_wrapped, forms_fit as forms_in_32}
use Rattle.unroller.proofs.Question21.{run_question21, unrolled_question21}
use Rattle.unroller.proofs.Runs.{unrolled_last, unrolled-reads}
use Rattle.comparer.specs.Meaning.{Meaning, Content, after}
use Rattle.comparer.specs.Match.{lists_reply}
use Rattle.comparer.specs.Entry.{decoded_reply, enough, entry_reply, words_reply, side_reply, programs_by}
use Rattle.comparer.specs.Told.{Shared, Told}
use Rattle.comparer.specs.Order.{reorder}
use Rattle.comparer.specs.Claims.{Demand2Lists, ToldOf, Demand2Words, Demand2Programs, Demand3, LayoutRead, LayoutOnly, LayoutInjective, LayoutFits, Question26, UnrolledAllowed, IndicesFit, FormsSmall, FormsFit, ProductsSmall, SumsSmall, SumsExact, Question21, RepliesWithout21, FreeStandsForAll}
use Rattle.comparer.proofs.Values.{meaning_of_value}
use Rattle.comparer.proofs.Alike.{after-alike}
use Rattle.comparer.proofs.Demand2.{Sound, demand2}
use Rattle.comparer.proofs.KeptLists.{KeptLists, reordered_kept}

allowed_sound : (l : Listed) → allowed l ≡ true → Sound l
allowed_sound l e = let p = list-parts l e in record { ordered = p.tables-allowed.order; reads = p.reads }

pub demand2_lists : Demand2Lists
demand2_lists mask l r p q n = demand2 mask l r (allowed_sound l p) (allowed_sound r q) n

pub layout-read : LayoutRead
layout-read = decode-layout

pub layout-only : LayoutOnly
layout-only = layout-decode

pub layout-injective : LayoutInjective
layout-injective = injective

pub layout-fits : LayoutFits
layout-fits = layout-length

pub question26 : Question26
question26 w = (accepted_sound w, λ p. subst (λ (v : List ℕ). accepted v ≡ true) (sym p.2) (accepted_complete p.0 (length w) p.1))

pub unrolled-allowed : UnrolledAllowed
unrolled-allowed = allowed-run

pub indices_fit : IndicesFit
indices_fit = index_values_fit

pub forms_small : FormsSmall
forms_small f is n h = let b = forms_bounded _ f is n h in omega arith

pub forms_fit : FormsFit
forms_fit = forms_in_32

pub products-small : ProductsSmall
products-small c i h k = let b = product_bounded _ _ c i h k in omega arith

pub sums_small : SumsSmall
sums_small z cs is k f h j l = let b = sums_bounded _ _ _ z cs is k f h j in omega arith

pub sums_exact : SumsExact
sums_exact = forms_wrapped

pub question21 : Question21
question21 = run_question21

pub replies_without21 : RepliesWithout21
unfolding programs_by
replies_without21 mask one other =
    ap₂ (λ (m n : Ran Listed). side_reply left m (λ x. side_reply right n (λ y. lists_reply (mask x) x y))) (unrolled_question21 one) (unrolled_question21 other)

pub free-stands_for_all : FreeStandsForAll
free-stands_for_all S m h t σ = meaning_of_value m h t σ

-- a reply after 25 that is no refusal
pub entered : (long : Bool) (reply : Reply) → is_refused (entry_reply long reply) ≡ false → entry_reply long reply ≡ reply
entered true reply n = refl
entered false reply n = absurd (true≢false n)

pub demand2_words : Demand2Words
unfolding words_reply
demand2_words mask one other cells terms n =
    let long = enough (length one) (length other) cells terms in
    let e = entered long (decoded_reply mask (decode one) (decode other)) n in
    go (decode one) refl (decode other) refl e (sym (ap is_refused e) ∙ n)
  where
    go : (x : Option Listed) → decode one ≡ x → (y : Option Listed) → decode other ≡ y → words_reply mask one other cells terms ≡ decoded_reply mask x y → is_refused (decoded_reply mask x y) ≡ false
        → ToldOf (Told mask) (λ w l. decode w ≡ some l) one other (words_reply mask one other cells terms)
    go none p y q e z = absurd (true≢false z)
    go (some l) p none q e z = absurd (true≢false z)
    go (some l) p (some r) q e z = record {
      l = l;
      r = r;
      is_left = p;
      is_right = q;
      told = subst (Told mask l r) (sym e) (demand2_lists mask l r (layout-decode one l p).1 (layout-decode other r q).1 z);
    }

pub unrolled_sound : (bytes : List ℕ) (l : Listed) → unrolled bytes ≡ ok l → Sound l
unrolled_sound bytes l e = record { ordered = unrolled_last bytes l e; reads = unrolled-reads bytes l e }

-- two programs, under a mask that the left's list tells
pub demand2_by : (mask : Listed → ℕ) (one other : List ℕ) → is_refused (programs_by mask one other) ≡ false
    → ToldOf (λ l r reply. Told (mask l) l r reply) (λ p l. unrolled p ≡ ok l) one other (programs_by mask one other)
unfolding programs_by
demand2_by mask one other n = go (unrolled one) refl (unrolled other) refl refl n
  where
    go : (x : Ran Listed) → unrolled one ≡ x → (y : Ran Listed) → unrolled other ≡ y
        → programs_by mask one other ≡ side_reply left x (λ l. side_reply right y (λ r. lists_reply (mask l) l r))
        → is_refused (side_reply left x (λ l. side_reply right y (λ r. lists_reply (mask l) l r))) ≡ false
        → ToldOf (λ l r reply. Told (mask l) l r reply) (λ p l. unrolled p ≡ ok l) one other (programs_by mask one other)
    go (stop question place) p y q e z = absurd (true≢false z)
    go (ok l) p (stop question place) q e z = absurd (true≢false z)
    go (ok l) p (ok r) q e z = record {
      l = l;
      r = r;
      is_left = p;
      is_right = q;
      told = subst (Told (mask l) l r) (sym e) (demand2 (mask l) l r (unrolled_sound one l p) (unrolled_sound other r q) z);
    }

pub demand2_programs : Demand2Programs
demand2_programs mask = demand2_by (λ l. mask)

-- contents that agree on in and inout arrays: a cell that is written, or on which they agree, ends alike
module _ (l : Listed) (p : allowed l ≡ true) {S : Type 0} (m : Meaning S) (h g : Content S) (shared : Shared l h g) where
  ends-alike : (a c : ℕ) → (written l.updates a c ≡ false → h a c ≡ g a c) → after m l.updates h a c ≡ after m l.updates g a c
  ends-alike a c e = after-alike m l.tables.arrays l.updates [] h g readable (allowed_sound l p).reads a c e
    where
      readable : (b d : ℕ) → (starts (array_at l.tables.arrays b) || false) ≡ true → h b d ≡ g b d
      readable b d f = shared b d (sym (or-false (starts (array_at l.tables.arrays b))) ∙ f)

pub demand3 : Demand3
unfolding words_reply
demand3 old l e order h = record { accepts = is_new; size = size; leaves = leaves; on_left = on_left; on_right = on_right }
  where
    new : Listed
    new = reorder l order

    k : KeptLists l new
    k = reordered_kept l order h

    was : allowed l ≡ true
    was = (layout-decode old l e).1

    is_new : decode (layout new (length old)) ≡ some new
    is_new = decode-layout new (length old) (k.accepts ∙ was)

    size : length (layout new (length old)) ≡ length old
    size = layout_same l new (length old) was (k.accepts ∙ was) k.count k.small (decoded_fit old l e)

    leaves : (S : Type 0) (m : Meaning S) (h g : Content S) → Shared l h g → (a c : ℕ)
        → (written l.updates a c ≡ false → h a c ≡ g a c) → after m new.updates h a c ≡ after m l.updates g a c
    leaves S m h g shared a c w = k.leaves S m h a c ∙ ends-alike l was m h g shared a c w

    decoded_left : (mask : ℕ) (y : Option Listed) → decoded_reply mask (some new) y ≡ decoded_reply mask (some l) y
    decoded_left mask none = refl
    decoded_left mask (some r) = k.on_left mask r

    decoded_right : (mask : ℕ) (x : Option Listed) → decoded_reply mask x (some new) ≡ decoded_reply mask x (some l)
    decoded_right mask none = refl
    decoded_right mask (some r) = k.on_right mask r

    on_left : (mask : ℕ) (third : List ℕ) (cells terms : ℕ) → words_reply mask (layout new (length old)) third cells terms ≡ words_reply mask old third cells terms
    on_left mask third cells terms = ap₂ (λ (n : ℕ) (r : Reply). entry_reply (enough n (length third) cells terms) r) size
        (ap (λ (x : Option Listed). decoded_reply mask x (decode third)) is_new ∙ decoded_left mask (decode third) ∙ ap (λ (x : Option Listed). decoded_reply mask x (decode third)) (sym e))

    on_right : (mask : ℕ) (third : List ℕ) (cells terms : ℕ) → words_reply mask third (layout new (length old)) cells terms ≡ words_reply mask third old cells terms
    on_right mask third cells terms = ap₂ (λ (n : ℕ) (r : Reply). entry_reply (enough (length third) n cells terms) r) size
        (ap (λ (x : Option Listed). decoded_reply mask (decode third) x) is_new ∙ decoded_right mask (decode third) ∙ ap (λ (x : Option Listed). decoded_reply mask (decode third) x) (sym e))
