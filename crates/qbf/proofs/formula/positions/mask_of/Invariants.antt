use Rattle.qbf.proofs.Positioning.{Masks}
use Rattle.qbf.proofs.formula.positions.mask_of.Given as goal

abbrev pub invariant-loop-block : goal.invariant-loop-block
invariant-loop-block l = Masks l.blocks l.block-index l.all
