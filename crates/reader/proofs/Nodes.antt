-- Steps of the proofs about expressions.
use mathlib.Core.Path.{◌≡◌, refl, sym, ap, ◌∙◌}
use Prim.Native.Nat.{ℕ, zero, suc, ◌+◌, ◌-◌, ◌≤◌, ◌<◌}
use native.Mathlib.Omega.{arith}
use mathlib.Core.List.{List}
use lib.ListN.{length}
use Rattle.std.specs.Prelude.{Result, Ok, Err}
use Rattle.model.specs.Tables.{Tables, arity_at}
use Rattle.model.specs.Questions.{number_of}
use Rattle.model.specs.declared.question.Refusal.{Refusal}
use Rattle.reader.specs.Field.{got, no, Reader, byte, times}
use Rattle.reader.specs.Syntax.{Expr, count, counts}
use Rattle.reader.specs.Syntax.Exprs.{none, more}
use Rattle.reader.specs.Grammar.{index, node, applied, apply_of}
use Rattle.reader.specs.Answers.{through, read_says}
use Rattle.reader.specs.Entries.{arity_step}
use Rattle.reader.proofs.Steps.{read-got, made-got, made_no, made, refused, step, stop, remade}
use Rattle.reader.proofs.Binds.{not-got, read_by}
use Rattle.reader.proofs.Forward.{held-got, Counted, Counteds, byte-held, index-held, nodes-held, arguments_held}

-- a code takes a byte
pub code_fits : (s : List ℕ) (at : ℕ) {r : Result (ℕ × ℕ) Refusal} {x next : ℕ} → read_says r ≡ byte s at → r ≡ Ok (x, next) → next ≡ at + 1
code_fits s at e q = let h = held-got (λ x next. (next ≡ at + 1) × (next ≤ length s)) (byte-held s at) (read-got e q) in h.0

-- an operator takes its number's byte, and a level of nesting
pub arity_held : (t : Tables) (s : List ℕ) (left p at : ℕ) {r : Result (ℕ × ℕ) Refusal} {n next : ℕ} → read_says r ≡ arity_step t left p s at → r ≡ Ok (n, next) → (0 < left) × (next ≡ at + 1) × (next ≤ length s)
unfolding arity_step
arity_held t s zero p at e q = not-got (read-got e q)
arity_held t s (suc left) p at {next = next} e q = read_by (index (length t.operators) s at) _ (read-got e q) λ o x e1 v.
    let h = held-got (λ x n. (x < length t.operators) × (n ≡ at + 1) × (n ≤ length s)) (index-held s (length t.operators) at) e1 in
    let w : x ≡ next = cc in (omega arith, omega (arith, h.1), omega (arith, h.2))

-- an operator by its arity, and what its arguments answer
pub operator_is : (t : Tables) (loops left p at : ℕ) (s : List ℕ) {q r : Result (ℕ × ℕ) Refusal} {n first k past c : ℕ} →
    read_says q ≡ arity_step t left p s at → q ≡ Ok (n, first) →
    read_says r ≡ through counts (times none more (node t loops (applied t loops (left - 1))) n s first) → r ≡ Ok (k, past) → c ≡ k + 1 →
    got c past ≡ through count (applied t loops left p s at)
unfolding arity_step applied apply_of count
operator_is t loops zero p at s e q h v z = not-got (read-got e q)
operator_is t loops (suc left) p at s {n = n} {first} {k} {past} {c} e q h v z =
    read_by (index (length t.operators) s at) _ (read-got e q) λ o x e1 w.
    let a : n ≡ arity_at t.operators o = cc in
    let b : x ≡ first = cc in
    let l : suc left - 1 ≡ left = omega arith in
    let g = made-got counts (times none more (node t loops (applied t loops left)) n s first) (rw l at h) v in
    let d : c ≡ suc (counts g.0) = omega (arith, g.2, z) in
    rw (e1, b, sym a) (step (through count) (times none more (node t loops (applied t loops left)) n s first) _ g.1 (ap (λ (c : ℕ). got c past) d ∙ made count refl))

-- arguments in a row, as a loop takes them, c nodes being counted
module _ (one : Reader Expr) (s : List ℕ) (c : ℕ) where
  pub args_end : (n at : ℕ) → n ≤ 0 → got c at ≡ through (λ es. c + counts es) (times none more one n s at)
  unfolding times through counts
  args_end zero at h = let e : c ≡ c + 0 = omega arith in ap (λ (x : ℕ). got x at) e
  args_end (suc n) at h = absurd (omega arith)

  module _ (at : ℕ) {r : Result (ℕ × ℕ) Refusal} (e : read_says r ≡ through count (one s at)) where
    pub args_stop : (n : ℕ) {f : Refusal} → 0 < n → r ≡ Err f → no (number_of f.question) f.place ≡ through (λ es. c + counts es) (times none more one n s at)
    unfolding times
    args_stop zero h q = absurd (omega arith)
    args_stop (suc n) h q = stop (through (λ es. c + counts es)) (one s at) _ (made_no count (one s at) e q) (refused _ refl)

    pub args_step : (n l d : ℕ) {k next : ℕ} → r ≡ Ok (k, next) → n ≡ l + 1 → d ≡ c + k →
        through (λ es. d + counts es) (times none more one l s next) ≡ through (λ es. c + counts es) (times none more one n s at)
    unfolding times counts
    args_step zero l d q h w = absurd (omega arith)
    args_step (suc n) l d {k} {next} q h w =
        let g = made-got count (one s at) e q in
        let v : l ≡ n = omega arith in
        rw v
        (step (through (λ es. c + counts es)) (one s at) _ g.1
        (remade (more g.0) (λ es. c + counts es) (λ es. d + counts es) (times none more one n s next) (λ es. omega (arith, g.2, w))))

module _ (t : Tables) (loops left : ℕ) (s : List ℕ) (at : ℕ) {r : Result (ℕ × ℕ) Refusal} where
  -- each node takes a byte at least
  pub node_fits : read_says r ≡ through count (node t loops (applied t loops left) s at) → {k next : ℕ} → r ≡ Ok (k, next) → (at + k ≤ next) × (next ≤ length s)
  node_fits e q =
      let g = made-got count (node t loops (applied t loops left) s at) e q in
      let v = held-got (Counted s t loops at) (nodes-held s t loops left at) g.1 in
      (omega (arith, g.2, v.0), v.1)

  pub args_fits : (n : ℕ) → at ≤ length s → read_says r ≡ through counts (times none more (node t loops (applied t loops left)) n s at) → {k end : ℕ} → r ≡ Ok (k, end) → (at + k ≤ end) × (end ≤ length s)
  args_fits n b e q =
      let g = made-got counts (times none more (node t loops (applied t loops left)) n s at) e q in
      let v = held-got (Counteds s t loops at) (arguments_held s t loops left n at b) g.1 in
      (omega (arith, g.2, v.0), v.1)
