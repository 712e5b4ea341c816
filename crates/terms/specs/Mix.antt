-- The mix of a node's words, and the bucket that it gives. Nothing but time depends on it.
use Rattle.std.specs.Prelude.{ℕ, ◌+◌, ◌*◌, ◌/◌, ◌%◌, ◌^◌}
use Rattle.terms.specs.declared.Node.{Node}

-- one more word, at 32 bits
unfoldable pub step_of : ℕ → ℕ → ℕ
step_of h x = (h + x) % 2 ^ 32 * 129 % 2 ^ 32

-- the top 12 bits
unfoldable pub bucket_of : Node → ℕ
bucket_of n =
    step_of (step_of (step_of (step_of (step_of n.kind n.payload) n.a0) n.a1) n.a2) n.a3 / 1048576
