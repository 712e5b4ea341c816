use Rattle.std.proofs.Common.{◌∙◌, rules, tests}
use Rattle.std.proofs.lemmas.Iterator.{YieldsList-from_slice}
use Rattle.std.proofs.lemmas.Iterator.Search.{all_from_yields_List}
use Rattle.unroller.proofs.CheckZeros.{all_zero-list, eight_zeros, eight-not}
use Rattle.unroller.proofs.lists.zeros.Goals as goal

pub returns-then-a-b-ne0 : goal.returns-then-a-b-ne0
returns-then-a-b-ne0 c = eight-not _ c.in-len8-up.len_at_least c.if-a-b-ne0.true ∙ c.loop-rest.invariant

pub loop-rest-preserved : goal.loop-rest-preserved
loop-rest-preserved c = eight_zeros _ c.in-len8-up.len_at_least c.if-a-b-ne0.false ∙ c.loop-rest.invariant

pub returns : goal.returns
returns c =
    all_from_yields_List _ _ _ _ c.all.ensures.ran (YieldsList-from_slice c.loop-rest.rest.now cc) (λ x b q k. search (rules, tests))
    ∙ all_zero-list c.loop-rest.rest.now ∙ c.loop-rest.invariant
