-- Question 21 was never answered with a "no": the run that asks it has the outcome of the run that does not.
use Prim.Native.Nat.{ℕ, zero, suc, ◌+◌, ◌*◌, ◌≤◌}
use native.Mathlib.Omega.{arith}
use mathlib.Core.Path.{◌≡◌, refl, ap, ap₂, ◌∙◌}
use mathlib.Core.List.{List, [], ◌∷◌, ◌++◌}
use mathlib.Core.Bool.{Bool, true, false, ◌&&◌}
use lib.ListN.{length}
use lib.Dec.{leb}
use lib.IntN.{ℤ, pos}
use lib.Signed.{le_z}
use Rattle.model.specs.Test.{every}
use Rattle.model.specs.Tables.{Tables, array_at, arity_at}
use Rattle.model.specs.Update.{Tree, Trees}
use Rattle.model.specs.Update.Tree.{cell, number, operator}
use Rattle.model.specs.Update.Trees.{cons}
use Rattle.reader.specs.Field.{Outcome, got, no}
use Rattle.reader.specs.Syntax.{Form, Expr, Exprs, Item, Items, Program, count}
use Rattle.reader.specs.Syntax.Expr.{read, apply, literal, named}
use Rattle.reader.specs.Syntax.Exprs.{none, more}
use Rattle.reader.specs.Syntax.Item.{statement, loop, guard}
use Rattle.reader.specs.Syntax.Items.{end, item}
use Rattle.reader.specs.Grammar.{read_program}
use Rattle.unroller.specs.Run.{Ran, ok, stop, ◌>>=◌, ask, value_at, in_extent, cell_from, cell_at, tree, trees, readable, Done, update, indices, rounds, signed, fits16, run, runs, nothing, run_program}
use Rattle.unroller.specs.Unroll.{listed_by, unrolled_by, unrolled}
use Rattle.unroller.specs.Asking as Asking
use Rattle.unroller.specs.Fits.{narrow}
use Rattle.unroller.proofs.Parts.{both}
use Rattle.unroller.proofs.Fits.{abs_signed, indices_fit, forms_bounded}
use Rattle.unroller.proofs.Accepted.{Any, Sound, SoundAll, SoundItem, SoundItems, every_snoc, program_sound}

-- what goes on alike
after : {A B : Type 0} (m : Ran A) (f g : A → Ran B) → ((a : A) → f a ≡ g a) → (m >>= f) ≡ (m >>= g)
after (ok a) f g h = h a
after (stop question place) f g h = refl

-- at index values of 16 signed bits
module _ (p : ℕ) (is : List ℤ) (fit : every fits16 is ≡ true) where
  asked_is : (f : Form) → narrow f ≡ true → (m : ℕ) → 33587200 ≤ m → (ask 21 p (signed m (value_at f is)) >>= λ _. ok (value_at f is)) ≡ ok (value_at f is)
  asked_is f n m h = ap (λ (b : Bool). ask 21 p b >>= λ _. ok (value_at f is)) (abs_signed m (value_at f is) (let b = forms_bounded 32767 f is n fit in omega arith))

  worked_is : (f : Form) → narrow f ≡ true → Asking.worked p is f ≡ ok (value_at f is)
  unfolding Asking.worked
  worked_is f n = asked_is f n _ (omega arith)

  cell_from_same : (n : ℕ) (es : List ℕ) (fs : List Form) → every narrow fs ≡ true → Asking.cell_from p is n es fs ≡ cell_from p is n es fs
  unfolding Asking.cell_from cell_from
  cell_from_same n [] fs h = refl
  cell_from_same n (e ∷ es) [] h = refl
  cell_from_same n (e ∷ es) (f ∷ fs) h =
      let q = both (narrow f) (every narrow fs) h in
      ap (λ (m : Ran ℤ). m >>= λ v. in_extent p e v >>= λ k. Asking.cell_from p is (n * e + k) es fs) (worked_is f q.0)
      ∙ after (in_extent p e (value_at f is)) (λ k. Asking.cell_from p is (n * e + k) es fs) (λ k. cell_from p is (n * e + k) es fs) (λ k. cell_from_same (n * e + k) es fs q.1)

  module _ (t : Tables) where
    cell_same : (a : ℕ) (fs : List Form) → every narrow fs ≡ true → Asking.cell_at t p is a fs ≡ cell_at t p is a fs
    unfolding Asking.cell_at cell_at
    cell_same a fs h = cell_from_same 0 (array_at t.arrays a).extents fs h

    mutual
      unfolding Asking.tree Asking.trees tree trees Sound SoundAll

      tree_same : (e : Expr) (left : ℕ) → Sound Any e t left → Asking.tree e t p is ≡ tree e t p is
      tree_same (read a fs) left s = ap (λ (m : Ran ℕ). m >>= λ c. ok (cell a c)) (cell_same a fs s.1)
      tree_same (apply o es) zero s = absurd s
      tree_same (apply o es) (suc left) s = ap (λ (m : Ran Trees). m >>= λ ts. ok (operator o ts)) (trees_same es left (arity_at t.operators o) s.1)
      tree_same (literal f) left s = ap (λ (m : Ran ℤ). m >>= λ v. ok (number v)) (worked_is f s)
      tree_same (named n) left s = refl

      trees_same : (es : Exprs) (left n : ℕ) → SoundAll Any es t left n → Asking.trees es t p is ≡ trees es t p is
      trees_same none left n s = refl
      trees_same (more e es) left zero s = absurd s
      trees_same (more e es) left (suc n) s =
          ap₂ (λ (m : Ran Tree) (n : Ran Trees). m >>= λ x. n >>= λ xs. ok (cons x xs)) (tree_same e left s.0) (trees_same es left n s.1)

    update_same : (a : ℕ) (fs : List Form) (e : Expr) (d : Done) → SoundItem Any (statement p a fs e) t → Asking.update t p is a fs e d ≡ update t p is a fs e d
    unfolding Asking.update update SoundItem
    update_same a fs e d s =
        ap₂ (λ (m : Ran ℕ) (n : Ran Tree). ask 19 p (leb (length d.updates + 1) 2048) >>= λ _. ask 20 p (leb (d.nodes + count e) 8192) >>= λ _. m >>= λ c. n >>= λ x.
        ask 17 p (readable x t.arrays d.updates) >>= λ _.
        ok (record { rounds = d.rounds; nodes = d.nodes + count e; updates = d.updates ++ (record { array = a; target = c; source = x } ∷ []) }))
        (cell_same a fs s.1) (tree_same e 12 s.3)

-- rounds of index values of 16 signed bits
module _ (p : ℕ) (f g : ℤ → Done → Ran Done) (h : (i : ℤ) → fits16 i ≡ true → (d : Done) → f i d ≡ g i d) where
  rounds_same : (is : List ℤ) → every fits16 is ≡ true → (d : Done) → rounds is p f d ≡ rounds is p g d
  unfolding rounds
  rounds_same [] fit d = refl
  rounds_same (i ∷ is) fit d =
      let q = both (fits16 i) (every fits16 is) fit in
      let n : Done = record { rounds = d.rounds + 1; nodes = d.nodes; updates = d.updates } in
      ap (λ (m : Ran Done). ask 18 p (leb (d.rounds + 1) 65536) >>= λ _. m >>= rounds is p f) (h i q.0 n)
      ∙ after (ask 18 p (leb (d.rounds + 1) 65536)) (λ _. g i n >>= rounds is p f) (λ _. g i n >>= rounds is p g) (λ _. after (g i n) (rounds is p f) (rounds is p g) (λ d. rounds_same is q.1 d))

  -- those of a loop, behind 15
  loop_same : (step first last : ℤ) (d : Done) → (ask 15 p (fits16 first && fits16 last) >>= λ _. rounds (indices 65536 step last first) p f d) ≡ (ask 15 p (fits16 first && fits16 last) >>= λ _. rounds (indices 65536 step last first) p g d)
  loop_same step first last d = go (fits16 first && fits16 last) refl
    where
      go : (b : Bool) → (fits16 first && fits16 last) ≡ b → (ask 15 p b >>= λ _. rounds (indices 65536 step last first) p f d) ≡ (ask 15 p b >>= λ _. rounds (indices 65536 step last first) p g d)
      go true e = let q = both (fits16 first) (fits16 last) e in rounds_same (indices 65536 step last first) (indices_fit 65536 step first last q.0 q.1) d
      go false e = refl

module _ (t : Tables) where
  mutual
    unfolding Asking.run Asking.runs run runs SoundItem SoundItems

    run_same : (i : Item) (is : List ℤ) (d : Done) → every fits16 is ≡ true → SoundItem Any i t → Asking.run i t is d ≡ run i t is d
    run_same (statement p a fs e) is d fit s = update_same p is fit t a fs e d s
    run_same (loop p f e step body) is d fit s =
        ap₂ (λ (m n : Ran ℤ). m >>= λ first. n >>= λ last. ask 15 p (fits16 first && fits16 last) >>= λ _. rounds (indices 65536 step last first) p (λ i d. Asking.runs body t (is ++ (i ∷ [])) d) d)
        (worked_is p is fit f s.0) (worked_is p is fit e s.1)
        ∙ loop_same p (λ i d. Asking.runs body t (is ++ (i ∷ [])) d) (λ i d. runs body t (is ++ (i ∷ [])) d)
        (λ i h d. runs_same body (is ++ (i ∷ [])) d (every_snoc fits16 is i fit h) s.2) step (value_at f is) (value_at e is) d
    run_same (guard p f body) is d fit s =
        ap₂ (λ (m : Ran ℤ) (r : Ran Done). m >>= λ v. elim (le_z (pos 0) v) as (λ b. Ran Done) [ true ↦ r | false ↦ ok d ])
        (worked_is p is fit f s.0) (runs_same body is d fit s.1)

    runs_same : (js : Items) (is : List ℤ) (d : Done) → every fits16 is ≡ true → SoundItems Any js t → Asking.runs js t is d ≡ runs js t is d
    runs_same end is d fit s = refl
    runs_same (item i rest) is d fit s =
        ap (λ (m : Ran Done). m >>= Asking.runs rest t is) (run_same i is d fit s.0)
        ∙ after (run i t is d) (Asking.runs rest t is) (runs rest t is) (λ d. runs_same rest is d fit s.1)

pub run_question21 : (bytes : List ℕ) (p : Program) (next : ℕ) → read_program bytes ≡ got p next → Asking.run_program p ≡ run_program p
unfolding Asking.run_program run_program
run_question21 bytes p next e = runs_same p.tables p.items [] nothing refl (program_sound Any bytes (λ _ _ _ _. tt) p next e).items-parts

-- so every file unrolls to the same list or has the same refusal
pub unrolled_question21 : (bytes : List ℕ) → Asking.unrolled bytes ≡ unrolled bytes
unfolding Asking.unrolled unrolled
unrolled_question21 bytes = go (read_program bytes) refl
  where
    go : (o : Outcome Program) → read_program bytes ≡ o → Asking.unrolled_by o ≡ unrolled_by o
    go (got p next) e = ap (listed_by p.tables) (run_question21 bytes p next e)
    go (no question place) e = refl
