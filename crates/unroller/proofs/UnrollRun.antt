-- An accepted program, from its tables to its updates in the list.
use Rattle.std.specs.Prelude.{if◌then◌else◌, Result, Ok, Err}
use Rattle.std.specs.Borrow.{Bor}
use mathlib.Core.Path.{◌≡◌, refl, sym, ap, ap₂, ◌∙◌, subst}
use Prim.Native.Nat.{ℕ, ◌+◌, ◌-◌, ◌≤◌}
use native.Mathlib.Omega.{arith}
use mathlib.Core.List.{List, [], ◌∷◌, append-nil}
use mathlib.Core.Bool.{Bool, true, false}
use lib.ListN.{length, get_or, replicate, length-replicate}
use lib.Seq.{sets, length-sets}
use lib.Dec.{leb, eqb}
use lib.IntN.{pos}
use Rattle.model.specs.Tables.{Array, Tables, cells}
use Rattle.model.specs.Memory.{cleared}
use Rattle.model.specs.Reply.{left}
use Rattle.model.specs.declared.question.Refusal.{Refusal}
use Rattle.reader.specs.Field.{Outcome, got, no}
use Rattle.reader.specs.Syntax.{Items, Program}
use Rattle.reader.specs.Grammar.{tables, body, program, read_program}
use Rattle.reader.specs.Answers.{through, read_says}
use Rattle.reader.specs.Entries.{unpacked, packed, bases, viewed, tables_in, flattened, tables_step}
use Rattle.reader.specs.declared.tables.Tables.{Tables as Packed}
use Rattle.reader.proofs.Binds.{not-got, read_by, asked_by}
use Rattle.reader.proofs.Depth.{tables-got}
use Rattle.reader.proofs.Flattened.{Words, tables_flat, bases_flat}
use Rattle.unroller.specs.Run.{Ran, ok, stop, Done, runs, nothing, run_program}
use Rattle.unroller.specs.Layout.{padded, table_words, words, layout}
use Rattle.unroller.specs.Stands.{bases_from, bases_of}
use Rattle.unroller.specs.Unroll as Unroll
use Rattle.unroller.specs.Walk.{Walk, Holds, Walked, Based, RunsItems}
use Rattle.unroller.specs.declared.walk.Scope.{Scope}
use Rattle.unroller.specs.declared.walk.Progress.{Progress}
use Rattle.unroller.specs.declared.entry.UnrollError.TheVariants.{Refused}
use Rattle.unroller.specs.UnrollAnswers.{unrolled_says, head_words, Unrolls}
use Rattle.unroller.proofs.Parts.{TablesParts, tables-whole, within-high}
use Rattle.unroller.proofs.Laws.{padded-sets, table_length}
use Rattle.unroller.proofs.Accepted.{tables-allowed}
use Rattle.unroller.proofs.Stands.{zero-behind}
use Rattle.unroller.proofs.HeaderWords.{head_words_lem}

-- a program that was read, taken apart
pub program_by : {P : Type 0} (s : List ℕ) {p : Program} {next : ℕ} → read_program s ≡ got p next
    → ((t : Tables) (first : ℕ) (js : Items) (end : ℕ) → tables_step s ≡ got t first → body t (length s) 8 0 s first ≡ got js end → p ≡ record { tables = t; items = js } → P) → P
unfolding read_program program tables_step
program_by {P} s {p} {next} e k = go (leb (length s) 16384) e k
  where
    go : (z : Bool) → ◌≡◌ {A = Outcome Program} (if z then program s 0 else no 2 0) (got p next)
        → ((t : Tables) (first : ℕ) (js : Items) (end : ℕ) → ◌≡◌ {A = Outcome Tables} (if z then tables s 0 else no 2 0) (got t first)
        → body t (length s) 8 0 s first ≡ got js end → p ≡ record { tables = t; items = js } → P) → P
    go true r k =
        read_by (tables s 0) _ r λ t first e1 r1.
        read_by (body t (length s) 8 0 s first) _ r1 λ js end e2 r2.
        asked_by 14 end (eqb end (length s)) s end _ r2 λ _ r3.
        let x : p ≡ record { tables = t; items = js } = cc in
        k t first js end e1 e2 x
    go false r k = absurd (let z : ◌≡◌ {A = ℕ} 0 1 = cc in omega arith)

-- the bases that are kept beside the tables
bases_same : (n : ℕ) (xs : List Array) → bases n xs ≡ bases_from n xs
unfolding bases
bases_same n [] = refl
bases_same n (x ∷ xs) = ap (λ (l : List ℕ). n ∷ l) (bases_same (n + cells x.extents) xs)

packed_based : (t : Tables) → Based t (packed t).bases
unfolding packed bases_of
packed_based t a h = zero-behind (bases 0 t.arrays) (17 - length (bases 0 t.arrays)) a ∙ ap (λ (l : List ℕ). get_or l a 0) (bases_same 0 t.arrays)

-- the same bases among the 115 numbers that the walk has
flat_based : (t : Tables) (T : Packed) (numbers : List ℕ) → numbers ≡ flattened T → T ≡ packed t → length t.arrays ≤ 16 → Based t (viewed numbers).bases
flat_based t T numbers made holds few a h =
    ap (λ (l : List ℕ). get_or (viewed l).bases a 0) made ∙ bases_flat T a (omega arith) ∙ ap (λ (T : Packed). get_or T.bases a 0) holds ∙ packed_based t a h

-- the tables as the code has them
module _ (s : List ℕ) (r : Result (Packed × ℕ) Refusal) (says : through unpacked (read_says r) ≡ tables_step s) (holds : read_says r ≡ through packed (tables_step s)) (t : Tables) (m : ℕ) (e : tables_step s ≡ got t m) where
  pub held : read_says r ≡ got (packed t) m
  unfolding through
  held = holds ∙ ap (through packed) e

  pub read-not : {P : Type 0} {g : Refusal} → r ≡ Err g → P
  read-not c = not-got (sym (ap read_says c) ∙ held)

  module _ (T : Packed) (first : ℕ) (c : r ≡ Ok (T, first)) where
    pub read_packed : T ≡ packed t
    read_packed = let g : ◌≡◌ {A = Outcome Packed} (got T first) (got (packed t) m) = sym (ap read_says c) ∙ held in cc

    pub read_first : first ≡ m
    read_first = let g : ◌≡◌ {A = Outcome Packed} (got T first) (got (packed t) m) = sym (ap read_says c) ∙ held in cc

    pub read-tables : unpacked T ≡ t
    unfolding through
    read-tables = let g : ◌≡◌ {A = Outcome Tables} (got (unpacked T) first) (got t m) = sym (ap (λ (r : Result (Packed × ℕ) Refusal). through unpacked (read_says r)) c) ∙ says ∙ e in cc

    -- the header of a cleared list
    module _ (list list₁ : List ℕ) (long : 32768 ≤ length list) (zero-list : list ≡ cleared list) (h : list₁ ≡ sets list 0 (head_words T)) where
      parts : TablesParts t
      parts = tables-allowed s 0 (tables-got s e).1

      lies : list₁ ≡ layout (record { tables = t; updates = [] }) (length list)
      unfolding layout words
      lies =
          let w = head_words_lem t T read-tables read_packed parts in
          let n = table_length t parts in
          let z : length list - 0 ≡ length list = omega arith in
          let q : list ≡ padded (length list) [] = zero-list ∙ ap (λ (n : ℕ). replicate n 0) (sym z) in
          h ∙ ap (λ (l : List ℕ). sets list 0 l) w ∙ ap (λ (l : List ℕ). sets l 0 (table_words t)) q
          ∙ padded-sets (length list) [] (table_words t) (omega arith)
          ∙ ap (λ (l : List ℕ). padded (length list) l) (sym (append-nil (table_words t)))

      long₁ : length list₁ ≡ length list
      long₁ = ap length h ∙ length-sets list 0 (head_words T)

      begins : Holds t nothing (record { rounds = 0; nodes = 0; updates = 0 }) list₁ (replicate 2048 0)
      begins =
          let n = long₁ in
          record {
            tables-allowed = tables-whole t parts;
            rounds = refl;
            count = refl;
            updates = refl;
            counted = refl;
            few = omega arith;
            small = omega arith;
            few-rounds = omega arith;
            long = omega arith;
            lies = lies ∙ ap (layout (record { tables = t; updates = [] })) (sym long₁);
            flags_long = length-replicate {A = ℕ} 2048 0;
            marked = λ a c _. ap (λ (n : ℕ). eqb n 1) (zero-behind [] 2048 (get_or (bases_of t.arrays) a 0 + c));
          }

-- the reply and the words, from what the walk answered
module _ (t : Tables) (end : ℕ) (list list₂ flags₂ : List ℕ) (same_length : length list₂ ≡ length list) where
  abbrev Told : Ran Done → Unroll.Unrolled → List ℕ → Type 0
  Told m u l = (u ≡ Unroll.unroll_reply_by (Unroll.listed_by t m)) × (l ≡ Unroll.words_of (Unroll.listed_by t m) (length list))

  told-on : (m : Ran Done) (to : ℕ) (p : Progress) → Walked t end m (Ok (to, p)) list₂ flags₂ → Told m (Unroll.updates p.updates) list₂
  told-on (ok d) to p w = (ap Unroll.updates w.1.updates, w.1.lies ∙ ap (layout (record { tables = t; updates = d.updates })) same_length)
  told-on (stop k q) to p w = absurd w

  told_no : (m : Ran Done) (g : Refusal) (list₃ : List ℕ) → list₃ ≡ cleared list₂ → Walked t end m (Err g) list₂ flags₂ → Told m (unrolled_says (Err (Refused g))) list₃
  told_no (ok d) g list₃ e w = absurd w
  told_no (stop a b) g list₃ e w = (ap₂ (λ (x y : ℕ). Unroll.refused left x y) w.0 w.1, e ∙ ap (λ (n : ℕ). replicate n 0) same_length)

-- what a run has done before it begins
pub unstarted : {p : Progress} → (p.rounds ≡ 0) × ((p.nodes ≡ 0) × (p.updates ≡ 0)) → p ≡ record { rounds = 0; nodes = 0; updates = 0 }
unstarted h = λ i. record { rounds = h.0 i; nodes = h.1.0 i; updates = h.1.1 i }

-- the scope of a program's own items
abbrev pub outermost : Bor (List ℕ) → Bor (List ℕ) → Scope
outermost program numbers = record { program = program; tables = numbers; loops = 0; indices = replicate 8 (pos 0) }

module _ (program : Bor (List ℕ)) (list : List ℕ) (r : Result (Packed × ℕ) Refusal) (says : through unpacked (read_says r) ≡ tables_step program.now) (holds : read_says r ≡ through packed (tables_step program.now)) where
  pub run-not : (g : Refusal) → r ≡ Err g → (list' : List ℕ) → Unrolls program.now list (Err (Refused g)) list'
  unfolding Unrolls
  run-not g c list' p next e z = program_by program.now e λ t m js end e1 e2 x. read-not program.now r says holds t m e1 c

  module _ (T : Packed) (first : ℕ) (c : r ≡ Ok (T, first)) (numbers : Bor (List ℕ)) (made : numbers.now ≡ flattened T) (small : Words 48 T.extents) where
    -- the tables that the walk is lent
    pub lent : (t : Tables) (m : ℕ) → tables_step program.now ≡ got t m → tables_in numbers.now ≡ t
    lent t m e = ap tables_in made ∙ tables_flat T small ∙ read-tables program.now r says holds t m e T first c

    module _ (long : 32768 ≤ length list) (list₁ list₂ flags₂ : List ℕ) (h : list₁ ≡ sets list 0 (head_words T)) (same_length : length list₂ ≡ length list) (w₀ : Walk)
        (ran : RunsItems (outermost program numbers) first 8 (record { rounds = 0; nodes = 0; updates = 0 }) list₁ (replicate 2048 0) w₀ list₂ flags₂) where
      walked : (t : Tables) (m : ℕ) (js : Items) (end : ℕ) → tables_step program.now ≡ got t m → body t (length program.now) 8 0 program.now m ≡ got js end → list ≡ cleared list
          → Walked t end (runs js t [] nothing) w₀ list₂ flags₂
      unfolding RunsItems body
      walked t m js end e1 e2 z =
          let x = lent t m e1 in
          let y = read_first program.now r says holds t m e1 T first c in
          let b = flat_based t T numbers.now made (read_packed program.now r says holds t m e1 T first c) (within-high 1 16 (length t.arrays) (tables-allowed program.now 0 (tables-got program.now e1).1).count) in
          subst (λ (u : Tables). Walked u end (runs js u [] nothing) w₀ list₂ flags₂) x
          (ran js end (length program.now) nothing
          (subst (λ (u : Tables). body u (length program.now) 8 0 program.now first ≡ got js end) (sym x) (ap (λ (at : ℕ). body t (length program.now) 8 0 program.now at) y ∙ e2))
          (omega arith) refl (subst (λ (u : Tables). Based u (viewed numbers.now).bases) (sym x) b)
          (subst (λ (u : Tables). Holds u nothing (record { rounds = 0; nodes = 0; updates = 0 }) list₁ (replicate 2048 0)) (sym x) (begins program.now r says holds t m e1 T first c list list₁ long z h)))

      pub run_on : (to : ℕ) (d : Progress) → w₀ ≡ Ok (to, d) → Unrolls program.now list (Ok d.updates) list₂
      unfolding Unrolls run_program
      run_on to d case p next e z = program_by program.now e λ t m js end e1 e2 x.
          rw x (told-on t end list list₂ flags₂ same_length (runs js t [] nothing) to d (subst (λ (w : Walk). Walked t end (runs js t [] nothing) w list₂ flags₂) case (walked t m js end e1 e2 z)))

      pub run_no : (g : Refusal) → w₀ ≡ Err g → (list₃ : List ℕ) → list₃ ≡ cleared list₂ → Unrolls program.now list (Err (Refused g)) list₃
      unfolding Unrolls run_program
      run_no g case list₃ l p next e z = program_by program.now e λ t m js end e1 e2 x.
          rw x (told_no t end list list₂ flags₂ same_length (runs js t [] nothing) g list₃ l (subst (λ (w : Walk). Walked t end (runs js t [] nothing) w list₂ flags₂) case (walked t m js end e1 e2 z)))
