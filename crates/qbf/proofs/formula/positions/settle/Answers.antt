use Rattle.std.proofs.Common.{rules}
use Rattle.qbf.proofs.Positioning.{settle_more, settle_end}
use Rattle.qbf.proofs.formula.positions.settle.Goals as goal

pub loop-i-preserved : goal.loop-i-preserved
loop-i-preserved c = search (rules, settle_more)

pub returns : goal.returns
returns c = search (rules, settle_end)
