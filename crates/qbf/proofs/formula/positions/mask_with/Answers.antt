use Rattle.std.proofs.Common.{ap, ◌∙◌, rules}
use Rattle.truth.specs.Limits.{max_variables}
use Rattle.truth.specs.WellFormed.{all, ranged}
use Rattle.qbf.proofs.Positioning.{all-at, mask_more, mask_end}
use Rattle.qbf.proofs.formula.positions.mask_with.Goals as goal

pub loop-x-preserved : goal.loop-x-preserved
loop-x-preserved c =
    let range = ap (all (ranged max_variables)) c.bound-variables.ensures ∙ c.requires in
    let in_range = all-at (ranged max_variables) c.bound-variables.result.now c.loop-x.x-index 0 c.loop-x-test.true range in
    let one = c.mask-all.ensures.one in
    search (rules, mask_more, one)

pub returns : goal.returns
returns c = search (rules, mask_end)
