use Rattle.std.proofs.Common.{Err, ap, ◌∙◌}
use native.Mathlib.Nat.{sub-zero}
use Rattle.qbf.proofs.Positioning.{first_ranged, position_off, position_on}
use Rattle.qbf.proofs.formula.Formula.position.Goals as goal

pub mask_of-variables-requires : goal.mask_of-variables-requires
mask_of-variables-requires c =
    simp sub-zero (first_ranged c.args.self.now c.list-blocks.result.now c.list-blocks.ensures c.args.decided c.args.word)

pub returns-then-word-variables : goal.returns-then-word-variables
returns-then-word-variables c =
    ap Err c.from-then-word-variables.ensures
    ∙ position_off c.args.self.now c.list-blocks.result.now c.list-blocks.ensures c.args.decided c.args.word
    c.if-decided-blocks.false _ (simp sub-zero at c.mask_of-variables.ensures) _ c.if-word-variables.true

pub returns : goal.returns
returns c =
    position_on c.args.self.now c.list-blocks.result.now c.list-blocks.ensures c.args.decided c.args.word
    c.if-decided-blocks.false _ (simp sub-zero at c.mask_of-variables.ensures) _ _ _ c.if-word-variables.false c.list.ensures c.unsatisfied.ensures
