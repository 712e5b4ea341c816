-- The parts of question 26, one by one, and put together again.
use Prim.Native.Nat.{ℕ, zero, suc, ◌+◌, ◌^◌, ◌≤◌, ◌<◌}
use native.Mathlib.Omega.{arith}
use mathlib.Core.Path.{◌≡◌, refl}
use mathlib.Core.List.{List, [], ◌∷◌, ◌++◌}
use mathlib.Core.Bool.{Bool, true, false, ◌&&◌, and-eq-true_iff}
use lib.ListN.{length, get_or}
use lib.Dec.{leb}
use lib.IntN.{ℤ, pos, negsuc}
use lib.Signed.{mag}
use borrow.Author.Tests.{leb-true, le-leb}
use mir.Syntax.{Width}
use mir.Val.{SFits, hbits}
use Rattle.model.specs.Test.{within, every, total}
use Rattle.model.specs.Tables.{Array, Tables, cells, operator_byte}
use Rattle.model.specs.Update.{Update, Listed, size, nodes}
use Rattle.unroller.specs.Run.{signed}
use Rattle.unroller.specs.Allowed.{locals_last, allowed_array, allowed_tables, allowed_update, read_all, allowed}

pub both : (a b : Bool) → (a && b) ≡ true → (a ≡ true) × (b ≡ true)
both a b e = (and-eq-true_iff a b).0 e

pub join : (a b : Bool) → a ≡ true → b ≡ true → (a && b) ≡ true
join a b e f = (and-eq-true_iff a b).1 (e, f)

pub within_low : (low high n : ℕ) → within low high n ≡ true → low ≤ n
within_low low high n e = leb-true low n (both (leb low n) (leb n high) e).0

pub within-high : (low high n : ℕ) → within low high n ≡ true → n ≤ high
within-high low high n e = leb-true n high (both (leb low n) (leb n high) e).1

pub every_at : {A : Type 0} (f : A → Bool) (l : List A) (d : A) (i : ℕ) → every f l ≡ true → i < length l → f (get_or l i d) ≡ true
every_at f [] d i e h = absurd (omega arith)
every_at f (x ∷ l) d zero e h = (both (f x) (every f l) e).0
every_at f (x ∷ l) d (suc i) e h = every_at f l d i (both (f x) (every f l) e).1 (omega arith)

pub record ArrayParts (x : Array) : Type 0 where
  pub role-known : within 0 3 x.role ≡ true
  pub dimensions : within 1 3 (length x.extents) ≡ true
  pub sizes-known : every (within 1 1024) x.extents ≡ true

pub array_parts : (x : Array) → allowed_array x ≡ true → ArrayParts x
array_parts x e =
    let p = both (within 0 3 x.role) (within 1 3 (length x.extents) && every (within 1 1024) x.extents) e in
    let q = both (within 1 3 (length x.extents)) (every (within 1 1024) x.extents) p.1 in
    record { role-known = p.0; dimensions = q.0; sizes-known = q.1 }

pub array_whole : (x : Array) → ArrayParts x → allowed_array x ≡ true
array_whole x a =
    join (within 0 3 x.role) (within 1 3 (length x.extents) && every (within 1 1024) x.extents) a.role-known
    (join (within 1 3 (length x.extents)) (every (within 1 1024) x.extents) a.dimensions a.sizes-known)

abbrev pub room : List Array → ℕ
room xs = total (λ x. cells x.extents) xs

pub record TablesParts (t : Tables) : Type 0 where
  pub operators : within 0 16 (length t.operators) ≡ true
  pub bytes : every operator_byte t.operators ≡ true
  pub count : within 1 16 (length t.arrays) ≡ true
  pub each : every allowed_array t.arrays ≡ true
  pub order : locals_last false t.arrays ≡ true
  pub fits : room t.arrays ≤ 2048

module _ (t : Tables) where
  last : Bool
  last = locals_last false t.arrays && leb (room t.arrays) 2048

  arrays : Bool
  arrays = within 1 16 (length t.arrays) && (every allowed_array t.arrays && last)

  pub tables-parts : allowed_tables t ≡ true → TablesParts t
  unfolding allowed_tables arrays last
  tables-parts e =
      let p = both (within 0 16 (length t.operators)) (every operator_byte t.operators && arrays) e in
      let q = both (every operator_byte t.operators) arrays p.1 in
      let r = both (within 1 16 (length t.arrays)) (every allowed_array t.arrays && last) q.1 in
      let s = both (every allowed_array t.arrays) last r.1 in
      let u = both (locals_last false t.arrays) (leb (room t.arrays) 2048) s.1 in
      record { operators = p.0; bytes = q.0; count = r.0; each = s.0; order = u.0; fits = leb-true (room t.arrays) 2048 u.1 }

  pub tables-whole : TablesParts t → allowed_tables t ≡ true
  unfolding allowed_tables arrays last
  tables-whole a =
      join (within 0 16 (length t.operators)) (every operator_byte t.operators && arrays) a.operators
      (join (every operator_byte t.operators) arrays a.bytes
      (join (within 1 16 (length t.arrays)) (every allowed_array t.arrays && last) a.count
      (join (every allowed_array t.arrays) last a.each (join (locals_last false t.arrays) (leb (room t.arrays) 2048) a.order (le-leb (room t.arrays) 2048 a.fits)))))

pub record ListParts (l : Listed) : Type 0 where
  pub tables-allowed : TablesParts l.tables
  pub few : length l.updates ≤ 2048
  pub small : nodes l.updates ≤ 8192
  pub each : every (allowed_update l.tables) l.updates ≡ true
  pub reads : read_all l.tables.arrays [] l.updates ≡ true

module _ (l : Listed) where
  asked : Bool
  asked = every (allowed_update l.tables) l.updates && read_all l.tables.arrays [] l.updates

  pub list-parts : allowed l ≡ true → ListParts l
  unfolding allowed asked
  list-parts e =
      let p = both (allowed_tables l.tables) (leb (length l.updates) 2048 && (leb (nodes l.updates) 8192 && asked)) e in
      let q = both (leb (length l.updates) 2048) (leb (nodes l.updates) 8192 && asked) p.1 in
      let r = both (leb (nodes l.updates) 8192) asked q.1 in
      let s = both (every (allowed_update l.tables) l.updates) (read_all l.tables.arrays [] l.updates) r.1 in
      record {
        tables-allowed = tables-parts l.tables p.0;
        few = leb-true (length l.updates) 2048 q.0;
        small = leb-true (nodes l.updates) 8192 r.0;
        each = s.0;
        reads = s.1;
      }

  pub list-whole : ListParts l → allowed l ≡ true
  unfolding allowed asked
  list-whole a =
      join (allowed_tables l.tables) (leb (length l.updates) 2048 && (leb (nodes l.updates) 8192 && asked)) (tables-whole l.tables a.tables-allowed)
      (join (leb (length l.updates) 2048) (leb (nodes l.updates) 8192 && asked) (le-leb (length l.updates) 2048 a.few)
      (join (leb (nodes l.updates) 8192) asked (le-leb (nodes l.updates) 8192 a.small)
      (join (every (allowed_update l.tables) l.updates) (read_all l.tables.arrays [] l.updates) a.each a.reads)))

-- a range of signed numbers, by the magnitude
pub signed-mag : (m : ℕ) (z : ℤ) → signed m z ≡ true → mag z ≤ m
signed-mag m (pos n) e = leb-true n m e
signed-mag m (negsuc n) e = leb-true n m (both (leb n m) true e).0

pub mag-signed : (m : ℕ) (z : ℤ) → mag z ≤ m → signed m z ≡ true
mag-signed m (pos n) h = le-leb n m h
mag-signed m (negsuc n) h = join (leb n m) true (le-leb n m h) refl

-- a width, as the questions count it and as the language does
module _ (w : Width) (m : ℕ) (top : 2 ^ hbits w ≡ suc m) (z : ℤ) where
  pub signed-fits : signed m z ≡ true → SFits w z
  signed-fits e = record { sfits = let h = signed-mag m z e in omega arith }

  pub fits_signed : SFits w z → signed m z ≡ true
  fits_signed h = mag-signed m z (let k = h.sfits in omega arith)

pub nodes_snoc : (before : List Update) (u : Update) → nodes (before ++ (u ∷ [])) ≡ nodes before + size u.source
nodes_snoc [] u = omega arith
nodes_snoc (v ∷ before) u = let e = nodes_snoc before u in omega arith
