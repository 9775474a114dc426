use Rattle.std.proofs.Common.{rules}
use Rattle.qbf.proofs.Positioning.{level_ranged, level_rest, settled_less}
use Rattle.qbf.proofs.formula.Formula.rest.Goals as goal

pub settle-requires : goal.settle-requires
settle-requires c = level_ranged c.args.self.now c.args.level c.in_ok-block.block.now c.in_ok-block.ensures

pub overflow_sub-result : goal.overflow_sub-result
overflow_sub-result c = search (rules, settled_less)

pub returns : goal.returns
returns c = level_rest c.args.self.now c.args.level c.args.value c.args.set c.in_ok-block.block.now c.in_ok-block.ensures _ _ c.whole.ensures c.settle.ensures
