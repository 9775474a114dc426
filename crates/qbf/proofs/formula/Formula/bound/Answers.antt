use Rattle.std.proofs.Common.{◌∙◌, ap}
use Rattle.truth.specs.Limits.{max_variables}
use Rattle.truth.specs.WellFormed.{all, ranged}
use Rattle.qbf.proofs.Positioning.{level_ranged}
use Rattle.qbf.proofs.formula.Formula.bound.Goals as goal

pub returns-clause-range : goal.returns-clause-range
returns-clause-range c = ap (all (ranged max_variables)) c.bound.ensures ∙ level_ranged c.args.self.now c.args.level c.in_ok-block.field-0.now c.in_ok-block.ensures
