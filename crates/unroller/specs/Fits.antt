-- The forms that a file can hold.
use Rattle.std.specs.Prelude.{Bool, ◌&&◌, length, leb, ℤ}
use Rattle.model.specs.Test.{every}
use Rattle.reader.specs.Syntax.{Form}
use Rattle.unroller.specs.Run.{signed, fits16}

-- lies in 8 signed bits
abbrev pub fits8 : ℤ → Bool
fits8 = signed 127

-- a constant in 16 signed bits, and at most eight coefficients in 8
abbrev pub narrow : Form → Bool
narrow f = fits16 f.constant && (leb (length f.coefficients) 8 && every fits8 f.coefficients)
