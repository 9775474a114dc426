use Rattle.std.proofs.Common.{◌∙◌}
use Rattle.qbf.specs.Held.{qbf_of}
use Rattle.qbf.specs.Stored.{block_of}
use Rattle.qbf.proofs.Positioning.{level_ranged}
use Rattle.qbf.proofs.Offering.{next_none, next_some, next_less}
use Rattle.qbf.proofs.formula.Formula.next_candidate.Goals as goal

pub choices_of-requires : goal.choices_of-requires
choices_of-requires c = level_ranged c.args.self.now c.args.level c.in_ok-block.block.now c.in_ok-block.ensures

pub returns-in_err-found : goal.returns-in_err-found
returns-in_err-found c =
    c.from_residual-in_err-found.ensures
    ∙ next_none (qbf_of c.args.self.now) c.args.level c.args.set c.args.from (block_of c.in_ok-block.block.now) c.in_ok-block.ensures _
    c.choices_of.ensures c.in_err-found.ensures

pub overflow_sub-result : goal.overflow_sub-result
overflow_sub-result c =
    next_less (qbf_of c.args.self.now) c.args.level c.args.set c.args.from (block_of c.in_ok-block.block.now) c.in_ok-block.ensures _
    c.choices_of.ensures c.in_ok-found.found c.in_ok-found.ensures _ c.whole.ensures

pub returns : goal.returns
returns c =
    next_some (qbf_of c.args.self.now) c.args.level c.args.set c.args.from (block_of c.in_ok-block.block.now) c.in_ok-block.ensures _
    c.choices_of.ensures c.in_ok-found.found c.in_ok-found.ensures _ c.whole.ensures
