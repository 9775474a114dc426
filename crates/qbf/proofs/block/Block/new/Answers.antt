use Rattle.std.proofs.Common.{sym, ◌∙◌}
use Rattle.qbf.proofs.Refereeing.{all_list}
use Rattle.qbf.proofs.block.Block.new.Goals as goal

pub returns-then-not-are_variables : goal.returns-then-not-are_variables
returns-then-not-are_variables c = rw c.as_slice-numbers.ensures.value at (sym (all_list _ c.as_slice-numbers.result.now) ∙ sym c.if-not-are_variables.ensures)
