use mathlib.Core.Logic.{inl, inr}
use mathlib.Core.Path.{ap}
use Rattle.model.specs.Questions.{number_of}
use Rattle.model.specs.declared.question.Refusal.{Refusal}
use Rattle.unroller.proofs.Cells.{extent-outside, extent-inside}
use Rattle.unroller.proofs.walk.in_extent.Goals.{then-v-extent-via-then-v-extent, then-v-extent-via-else-v-extent+then-v-lt0}
use Rattle.unroller.proofs.walk.in_extent.Goals as goal

pub returns-then-v-extent-clause-says : goal.returns-then-v-extent-clause-says
returns-then-v-extent-clause-says c =
    extent-outside c.args.v c.ranges.v _ _ c.requires
    (elim c.then-v-extent.branch [
      | then-v-extent-via-then-v-extent w ↦ inl w.if-v-extent.true
      | then-v-extent-via-else-v-extent+then-v-lt0 w ↦ inr (w.if-v-extent.false, w.if-v-lt0.true)
    ]) _ (ap (λ (g : Refusal). number_of g.question) c.at.ensures)

pub returns-clause-says : goal.returns-clause-says
returns-clause-says c = extent-inside c.args.v c.ranges.v _ _ c.requires c.if-v-extent.false c.if-v-lt0.false
