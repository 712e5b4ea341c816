-- What the entries answer beyond the grammar: definitions for every depth and number of loops, and what stands in a result's fields.
use Rattle.std.specs.Prelude.{ℕ, zero, suc, ◌+◌, ◌-◌, ◌*◌, ◌/◌, ◌%◌, ◌^◌, ◌≤◌, ◌<◌, min, List, [], ◌∷◌, ◌++◌, map, length, get_or, take, replicate, leb, eqb, ℤ, pos, ◌≡◌, Result, Ok, Err, if◌then◌else◌}
use Rattle.std.specs.List.{AllZip}
use Rattle.std.proofs.lemmas.List.Edits.{sets}
use Rattle.std.specs.Int.{w8}
use Rattle.std.proofs.Common.{to_z}
use Rattle.reader.specs.Field.{Outcome, no, Reader, ◌>>=◌, give, refuse, times}
use Rattle.model.specs.Tables.{Array, Tables, cells, arity_at}
use Rattle.reader.specs.Syntax.{Form, Expr, Items}
use Rattle.reader.specs.Grammar.{tables, form, index, read_of, literal_of, constant_of, expression, body, sized}
use Rattle.reader.specs.Answers.{refusal_says}
use Rattle.model.specs.declared.question.Refusal.{Refusal}
use Rattle.reader.specs.declared.forms.Form.{Form as Filled}
use Rattle.reader.specs.declared.tables.Tables.{Tables as Packed}

-- n of them, z where the list has no more
abbrev pub padded : {A : Type 0} → ℕ → A → List A → List A
padded n z l = l ++ replicate (n - length l) z

-- n bytes as two's complement
unfoldable pub signeds : ℕ → List ℕ → ℕ → List ℤ
signeds zero s at = []
signeds (suc n) s at = to_z w8 (get_or s at 0) ∷ signeds n s (at + 1)

-- n bytes of a number, the lowest first, as two's complement
unfoldable pub bytes_of : ℕ → ℕ → List ℤ
bytes_of zero w = []
bytes_of (suc n) w = to_z w8 (w % 256) ∷ bytes_of n (w / 256)

-- a number of eight bytes, those before `end` as far as they are there
pub record Before (s : List ℕ) (end w : ℕ) : Type 0 where
  pub eight : w < 2 ^ 64
  pub bytes : (j : ℕ) → j < 8 → 8 ≤ end + j → w / 2 ^ (8 * j) % 256 ≡ get_or s (end + j - 8) 0

-- What a step reads at any depth. No file nests more than 8 deep, so beyond it 12 is asked first, at the place where the step begins.
abbrev pub shallow : {A : Type 0} → ℕ → Reader A → Reader A
shallow depth reader s at = if leb depth 8 then reader s at else no 12 at

unfoldable pub form_step : ℕ → Reader Form
form_step loops s at = shallow loops (form loops) s at

unfoldable pub forms_step : ℕ → ℕ → Reader (List Form)
forms_step loops n s at = shallow loops (times [] ◌∷◌ (form loops) n) s at

unfoldable pub expression_step : Tables → ℕ → Reader Expr
expression_step t loops s at = shallow loops (expression t loops) s at

-- inside so many loops, where loops and guards may still nest `left` deep
unfoldable pub items_step : Tables → ℕ → ℕ → Reader Items
items_step t left loops s at = shallow (loops + left) (body t (length s) left loops) s at

-- the tables alone, of a file whose items are not read
unfoldable pub tables_step : List ℕ → Outcome Tables
tables_step s = sized tables s

-- the form that a `Form` of the code stands for inside so many loops, and the one that holds a form and zeros
abbrev pub form_in : ℕ → Filled → Form
form_in loops f = record { constant = f.constant; coefficients = take loops f.coefficients }

abbrev pub filled : Form → Filled
filled f = record { constant = f.constant; coefficients = padded 8 (pos 0) f.coefficients }

-- what follows the code of a read, a literal or a constant at p
unfoldable pub leaf_of : Tables → ℕ → ℕ → ℕ → Reader Expr
leaf_of t loops code p =
    if eqb code 0x10 then read_of t loops
    else if eqb code 0x12 then literal_of t loops
    else if eqb code 0x13 then constant_of t loops
    else refuse 9 p

-- the arity of the operator whose code stands at p; operators may nest `left` deep, this one counted
unfoldable pub arity_step : Tables → ℕ → ℕ → Reader ℕ
arity_step t zero p = refuse 12 p
arity_step t (suc left) p = do
  o ← index (length t.operators)
  give (arity_at t.operators o)

-- n elements of a list, from `from` on
unfoldable pub cut : ℕ → ℕ → List ℕ → List ℕ
cut zero from l = []
cut (suc n) from l = get_or l from 0 ∷ cut n (from + 1) l

-- The tables that a `Tables` of the code stands for, whatever it holds: at most 16 operators, 16 arrays, 3 dimensions count.
unfoldable pub array_of : Packed → ℕ → Array
array_of t a = record { role = get_or t.roles a 0; extents = cut (min (get_or t.dimensions a 0) 3) (3 * a) t.extents }

-- n arrays, from number a on
unfoldable pub arrays_of : Packed → ℕ → ℕ → List Array
arrays_of t zero a = []
arrays_of t (suc n) a = array_of t a ∷ arrays_of t n (a + 1)

unfoldable pub unpacked : Packed → Tables
unpacked t = record { operators = cut (min t.operators 16) 0 t.bytes; arrays = arrays_of t (min t.arrays 16) 0 }

-- The walks have the tables as 115 numbers: the number of operators, their 16 bytes; the number of arrays, 16 roles, 16 numbers of
-- dimensions, 48 extents; 17 bases. An extent is a number of 16 bits, so one beyond them counts as 65,535.
unfoldable pub capped : List ℕ → List ℕ
capped l = map (λ e. min e 65535) l

unfoldable pub viewed : List ℕ → Packed
viewed l =
    record {
      operators = get_or l 0 0;
      bytes = cut 16 1 l;
      arrays = get_or l 17 0;
      roles = cut 16 18 l;
      dimensions = cut 16 34 l;
      extents = capped (cut 48 50 l);
      bases = cut 17 98 l;
    }

-- the tables that 115 numbers stand for, whatever they are
unfoldable pub tables_in : List ℕ → Tables
tables_in l = unpacked (viewed l)

-- the numbers that R makes of `from` stand in l₀ from `to` on
pub record Puts {A : Type 0} (R : A → ℕ → Type 0) (from : List A) (l₀ : List ℕ) (to : ℕ) (l : List ℕ) : Type 0 where
  pub numbers : List ℕ
  pub each : AllZip R from numbers
  pub holds : l ≡ sets l₀ to numbers

-- the 115 numbers of a `Tables`
unfoldable pub flattened : Packed → List ℕ
flattened t =
    t.operators ∷ (cut 16 0 t.bytes ++ (t.arrays ∷ (cut 16 0 t.roles ++ (cut 16 0 t.dimensions ++ (cut 48 0 t.extents ++ cut 17 0 t.bases)))))

-- three extents an array, 0 where it has fewer dimensions
unfoldable pub threes : List Array → List ℕ
threes [] = []
threes (x ∷ xs) = padded 3 0 x.extents ++ threes xs

-- cells before each array, b before the first; last, those of all
unfoldable pub bases : ℕ → List Array → List ℕ
bases b [] = b ∷ []
bases b (x ∷ xs) = b ∷ bases (b + cells x.extents) xs

-- the `Tables` of the code that holds these tables and zeros
unfoldable pub packed : Tables → Packed
packed t =
    record {
      operators = length t.operators;
      bytes = padded 16 0 t.operators;
      arrays = length t.arrays;
      roles = padded 16 0 (map (λ x. x.role) t.arrays);
      dimensions = padded 16 0 (map (λ x. length x.extents) t.arrays);
      extents = padded 48 0 (threes t.arrays);
      bases = padded 17 0 (bases 0 t.arrays);
    }

-- what follows a place that was found
abbrev pub continued : Result ℕ Refusal → (ℕ → Outcome ℕ) → Outcome ℕ
continued (Ok next) f = f next
continued (Err e) f = refusal_says e
