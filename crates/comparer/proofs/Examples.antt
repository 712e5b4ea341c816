-- Demand 3 is about something: a list, a new order of it, and orders that would change the reply.
use Prim.Native.Nat.{ℕ, zero, suc, ◌<◌}
use native.Mathlib.Omega.{arith}
use mathlib.Core.Path.{◌≡◌, refl}
use mathlib.Core.List.{List, [], ◌∷◌}
use mathlib.Core.Bool.{true, false, false≢true}
use lib.ListN.{length, get_or}
use Rattle.model.specs.Tables.{swaps, operator_in, arity_of, swaps_at}
use Rattle.model.specs.Update.{Tree, Update, Listed, size, sizes, reads_cell, reads_cells}
use Rattle.model.specs.Update.Tree.{cell, operator}
use Rattle.model.specs.Update.Trees.{nil, cons}
use Rattle.model.specs.Reply.{equal, differs}
use Rattle.terms.specs.Term.{turned, alike, alikes, parts, parts_of, term_count}
use Rattle.unroller.specs.Run.{readable, readables}
use Rattle.unroller.specs.Allowed.{allowed, allowed_tables, allowed_update, may_write, proper, propers}
use Rattle.unroller.specs.Layout.{layout}
use Rattle.comparer.specs.Meaning.{value_of, values_of}
use Rattle.comparer.specs.Match.{lists_reply}
use Rattle.comparer.specs.Order.{conflict, at, NewOrder, reorder}
use Rattle.comparer.specs.Claims.{Kept}
use Rattle.comparer.proofs.Theorems.{demand3, layout-read}

abbrev two : List ℕ
two = 2 ∷ []

abbrev write : ℕ → ℕ → Tree → Update
write a c x = record { array = a; target = c; source = x }

abbrev both : Tree → Tree → Tree
both x y = operator 0 (cons x (cons y nil))

-- arrays: 0 in, 1 out, 2 local; out[0] = f(in[0], in[1]); local[0] = in[0]; out[1] = f(local[0], in[1])
abbrev one : Listed
one = record {
  tables = record { operators = two; arrays = record { role = 0; extents = two } ∷ record { role = 1; extents = two } ∷ record { role = 3; extents = two } ∷ [] };
  updates = write 1 0 (both (cell 0 0) (cell 0 1)) ∷ write 2 0 (cell 0 0) ∷ write 1 1 (both (cell 2 0) (cell 0 1)) ∷ [];
}

is_allowed : allowed one ≡ true
unfolding allowed allowed_tables allowed_update may_write readable readables size sizes swaps operator_in arity_of proper propers
is_allowed = refl

order : List ℕ
order = 1 ∷ 2 ∷ 0 ∷ []

is_order : NewOrder one.updates order
unfolding order reads_cell reads_cells
is_order = record { count = refl; inside = inside; once = once; keeps = keeps }
  where
    inside : (i : ℕ) → i < 3 → get_or order i 0 < 3
    inside zero h = omega arith
    inside (suc zero) h = omega arith
    inside (suc (suc zero)) h = omega arith
    inside (suc (suc (suc i))) h = absurd (omega arith)

    once : (i j : ℕ) → i < j → j < 3 → get_or order i 0 ≡ get_or order j 0 → ⊥
    once i zero h k e = omega arith
    once zero (suc zero) h k e = omega arith
    once (suc i) (suc zero) h k e = omega arith
    once zero (suc (suc zero)) h k e = omega arith
    once (suc zero) (suc (suc zero)) h k e = omega arith
    once (suc (suc i)) (suc (suc zero)) h k e = omega arith
    once i (suc (suc (suc j))) h k e = omega arith

    keeps : (i j : ℕ) → i < j → j < 3 → conflict (at one.updates (get_or order i 0)) (at one.updates (get_or order j 0)) ≡ true → get_or order i 0 < get_or order j 0
    keeps i zero h k e = absurd (omega arith)
    keeps zero (suc zero) h k e = omega arith
    keeps (suc i) (suc zero) h k e = absurd (omega arith)
    keeps zero (suc (suc zero)) h k e = absurd (false≢true e)
    keeps (suc zero) (suc (suc zero)) h k e = absurd (false≢true e)
    keeps (suc (suc i)) (suc (suc zero)) h k e = absurd (omega arith)
    keeps i (suc (suc (suc j))) h k e = absurd (omega arith)

-- the words of the list in a slice of 200, and what demand 3 says of them
memory : List ℕ
memory = layout one 200

is_kept : Kept memory (layout (reorder one order) (length memory)) one (reorder one order)
unfolding memory
is_kept = demand3 (layout one 200) one (layout-read one 200 is_allowed) order is_order

equal-here : lists_reply 65535 one (reorder one order) ≡ equal 2
unfolding order lists_reply turned alike alikes swaps_at swaps parts parts_of term_count value_of values_of
equal-here = refl

-- with the conflict turned round the list reads an unwritten local
unread_here : allowed (reorder one (2 ∷ 1 ∷ 0 ∷ [])) ≡ false
unfolding allowed allowed_tables allowed_update may_write readable readables size sizes swaps operator_in arity_of proper propers
unread_here = refl

-- two writes of one cell, turned round, differ
abbrev twice : Listed
twice = record { tables = one.tables; updates = write 1 0 (cell 0 0) ∷ write 1 1 (cell 0 0) ∷ write 1 1 (cell 0 1) ∷ [] }

differs-here : lists_reply 65535 twice (reorder twice (0 ∷ 2 ∷ 1 ∷ [])) ≡ differs 1 1
unfolding lists_reply turned alike alikes swaps_at swaps parts parts_of term_count value_of values_of
differs-here = refl
