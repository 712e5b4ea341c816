use mathlib.Core.Path.{refl}
use Rattle.cabi.proofs.explanation_numbers.Goals as goal

pub returns-in-Written : goal.returns-in-Written
returns-in-Written c = rw c.in-Written.is refl

pub returns-in-Starting : goal.returns-in-Starting
returns-in-Starting c = rw c.in-Starting.is refl

pub returns-in-Refused : goal.returns-in-Refused
returns-in-Refused c = rw (c.in-Refused.is, c.side_number.ensures) refl
