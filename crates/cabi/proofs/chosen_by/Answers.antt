use native.Mathlib.Omega.{arith}
use mathlib.Core.Path.{◌≡◌, ap}
use Rattle.cabi.specs.Numbers.{chosen_by}
use Rattle.cabi.proofs.Read.{right_by}
use Rattle.cabi.proofs.chosen_by.Goals as goal

pub returns-then-side-eq0 : goal.returns-then-side-eq0
returns-then-side-eq0 c = let e : 0 ≡ c.args.side = (let h = c.if-side-eq0.true in omega arith) in ap chosen_by e

pub returns : goal.returns
returns c = right_by c.args.side (λ e. let h = c.if-side-eq0.false in omega arith)
