-- A framed pair of programs under a mask, or without one in the out arrays; the lent memory is long enough.
use Rattle.std.specs.Prelude.{ℕ, List, true, None, Some}
use Rattle.std.specs.declared.option.Option.{Option}
use Rattle.model.specs.Reply.{Reply}
use Rattle.model.specs.Update.{Listed}
use Rattle.comparer.specs.Entry.{out_mask, input_by}
use Rattle.comparer.specs.Explain.{Chosen, Explanation, input_explanation_by}

abbrev pub mask_of : Option ℕ → Listed → ℕ
mask_of None = out_mask
mask_of (Some mask) = λ l. mask

abbrev pub reply_under : Option ℕ → List ℕ → Reply
reply_under mask = input_by (mask_of mask)

abbrev pub explanation_under : Option ℕ → Chosen → List ℕ → Explanation
explanation_under mask = input_explanation_by (mask_of mask) true
