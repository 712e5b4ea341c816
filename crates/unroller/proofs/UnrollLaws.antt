-- The reply and the words of `unroll`, by what is asked first.
use Rattle.std.specs.Prelude.{Result, Ok, Err}
use mathlib.Core.Path.{◌≡◌, refl, sym, ap, ◌∙◌}
use Prim.Native.Nat.{ℕ, ◌≤◌, ◌<◌}
use native.Mathlib.Omega.{arith}
use mathlib.Core.List.{List}
use lib.ListN.{length, replicate, length-replicate}
use borrow.Author.Tests.{le-leb, lt-leb}
use Rattle.model.specs.Memory.{cleared}
use Rattle.model.specs.Questions.{number_of}
use Rattle.model.specs.declared.question.Refusal.{Refusal}
use Rattle.model.specs.Reply.{left}
use Rattle.reader.specs.Field.{Outcome, got, no}
use Rattle.reader.specs.Syntax.{Program}
use Rattle.reader.specs.Grammar.{read_program}
use Rattle.reader.specs.Verdicts.{accepted, refused, said, verdict_says}
use Rattle.unroller.specs.Run.{run_program}
use Rattle.unroller.specs.Unroll as Unroll
use Rattle.unroller.specs.Unroll.{unrolled, words_of, unroll_reply, unroll_leaves}
use Rattle.unroller.specs.UnrollAnswers.{unrolled_says, Unrolls}
use Rattle.unroller.specs.declared.entry.UnrollError.{UnrollError}
use Rattle.unroller.specs.declared.entry.UnrollError.TheVariants.{Refused, Short}

module _ (s list : List ℕ) where
  abbrev Replies : Result ℕ UnrollError → List ℕ → Type 0
  Replies r list' = (unrolled_says r ≡ unroll_reply s (length list)) × (list' ≡ unroll_leaves s list)

  pub unroll_short : length list < 32768 → Replies (Err Short) list
  unfolding unroll_reply unroll_leaves
  unroll_short h = rw (lt-leb 32768 (length list) h) (refl, refl)

  module _ (h : 32768 ≤ length list) (v : Result (Unit {0}) Refusal) (says : verdict_says v ≡ said (read_program s)) where
    said_no : (g : Refusal) → v ≡ Err g → read_program s ≡ no (number_of g.question) g.place
    unfolding said
    said_no g e = go (read_program s) (sym (ap verdict_says e) ∙ says)
      where
        go : (o : Outcome Program) → refused left (number_of g.question) g.place ≡ said o → o ≡ no (number_of g.question) g.place
        go (got p next) x = absurd (let z : ◌≡◌ {A = ℕ} 0 1 = cc in omega arith)
        go (no a b) x = cc

    said-got : (u : Unit {0}) → v ≡ Ok u → (p : Program) × (next : ℕ) × (read_program s ≡ got p next)
    unfolding said
    said-got u e = go (read_program s) refl (sym (ap verdict_says e) ∙ says)
      where
        go : (o : Outcome Program) → read_program s ≡ o → accepted ≡ said o → (p : Program) × (next : ℕ) × (read_program s ≡ got p next)
        go (got p next) q x = (p, next, q)
        go (no a b) q x = absurd (let z : ◌≡◌ {A = ℕ} 0 1 = cc in omega arith)

    pub unroll_refused : (g : Refusal) → v ≡ Err g → (list' : List ℕ) → list' ≡ cleared list → Replies (Err (Refused g)) list'
    unfolding unroll_reply unroll_leaves unrolled
    unroll_refused g e list' c = rw (le-leb 32768 (length list) h, said_no g e) (refl, c)

    pub unroll_run : (u : Unit {0}) → v ≡ Ok u → (r : Result ℕ UnrollError) (list₁ list' : List ℕ) → list₁ ≡ cleared list → Unrolls s list₁ r list' → Replies r list'
    unfolding unroll_reply unroll_leaves unrolled Unrolls
    unroll_run k e r list₁ list' c u =
        let g = said-got k e in
        let n : length list₁ ≡ length list = ap length c ∙ length-replicate (length list) 0 in
        let z : list₁ ≡ cleared list₁ = c ∙ ap (λ (n : ℕ). replicate n 0) (sym n) in
        let w = u g.0 g.1 g.2 z in
        rw (le-leb 32768 (length list) h, g.2) (w.0, w.1 ∙ ap (words_of (Unroll.listed_by g.0.tables (run_program g.0))) n)
