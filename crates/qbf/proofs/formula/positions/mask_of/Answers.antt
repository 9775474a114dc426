use Rattle.std.proofs.Common.{rules}
use lib.Bits.{or_zero_l}
use Rattle.qbf.proofs.Positioning.{masks_ranged, masks_more, masks_end}
use Rattle.qbf.proofs.formula.positions.mask_of.Goals as goal

pub loop-block-init : goal.loop-block-init
loop-block-init c = (or_zero_l _, c.requires)

pub mask_with-all-requires : goal.mask_with-all-requires
mask_with-all-requires c = search (rules, masks_ranged)

pub loop-block-preserved : goal.loop-block-preserved
loop-block-preserved c = search (rules, masks_more)

pub returns : goal.returns
returns c = search (rules, masks_end)
