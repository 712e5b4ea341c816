-- A chain of ids that goes down, over any test of an id and any links. A cursor is 0 at a chain's end, else an id plus 1.
use Rattle.std.specs.Prelude.{Option, Some, None, ℕ, zero, suc, Bool, ◌==◌, if◌then◌else◌}

-- The ids below k are gone through from the top. The one that the cursor names is tested: it is the answer, or the cursor goes on by its link.
-- A cursor above k is never named again: it ends the walk, as does a link that does not go down.
unfoldable pub look : (ℕ → Bool) → (ℕ → ℕ) → ℕ → ℕ → Option ℕ
look test link zero at = None
look test link (suc k) at =
    let on = look test link k (link k) in
    let past = look test link k at in
    if at == suc k then (if test k then Some (suc k) else on) else past
