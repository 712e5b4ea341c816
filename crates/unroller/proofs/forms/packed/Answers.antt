use mir.Syntax.{w8}
use Rattle.model.proofs.Signs.{bits_back}
use Rattle.std.proofs.Common.{rules}
use Rattle.unroller.proofs.Sums.{packs_eight}
use Rattle.unroller.proofs.forms.packed.Goals as goal

pub returns : goal.returns
returns c =
    packs_eight c.args.c _ _ _ _ _ _ _ _ _ (search rules) (search rules) (search rules) (search rules) (search rules) (search rules) (search rules) (search rules) c.from_le_bytes.ensures
    (bits_back w8 _ (search rules) _ c.cast_unsigned.ensures) (bits_back w8 _ (search rules) _ c.cast_unsigned-2.ensures)
    (bits_back w8 _ (search rules) _ c.cast_unsigned-3.ensures) (bits_back w8 _ (search rules) _ c.cast_unsigned-4.ensures)
    (bits_back w8 _ (search rules) _ c.cast_unsigned-5.ensures) (bits_back w8 _ (search rules) _ c.cast_unsigned-6.ensures)
    (bits_back w8 _ (search rules) _ c.cast_unsigned-7.ensures) (bits_back w8 _ (search rules) _ c.cast_unsigned-8.ensures)
