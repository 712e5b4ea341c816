use native.Mathlib.Omega.{arith}
use Rattle.comparer.proofs.Clearing.{empties_filled}
use Rattle.comparer.proofs.memory.clear_words.Goals as goal

pub returns : goal.returns
returns c = empties_filled _ _ _ _ _ c.requires (omega arith) (c.fill.ensures.after (λ y e. e))
