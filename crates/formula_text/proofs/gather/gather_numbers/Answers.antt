use Rattle.std.proofs.Common.{Err, sym, ap, ◌∙◌}
use Rattle.formula_text.proofs.LiteralSteps.{block_empty, block_whole}
use Rattle.formula_text.proofs.gather.gather_numbers.Goals as goal

pub returns-then-has_none : goal.returns-then-has_none
returns-then-has_none c =
    let same = c.fault-then-has_none.ensures ∙ c.in_ok-literal.ensures.fault ∙ c.loop-literal.invariant.1 in
    ap Err same ∙ block_empty _ _ _ _ c.loop-literal.invariant.0 (rw c.in_default.is at c.in_ok-literal.ensures.yields) (sym c.if-has_none.ensures)

pub returns : goal.returns
returns c = block_whole _ _ _ _ c.loop-literal.invariant.0 (rw c.in_default.is at c.in_ok-literal.ensures.yields) (sym c.if-has_none.ensures)
