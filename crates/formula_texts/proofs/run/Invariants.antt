use Rattle.std.proofs.Common.{length}
use Rattle.formula_texts.proofs.run.Given as goal

abbrev pub decreases-loop-title : goal.decreases-loop-title
decreases-loop-title l = length l.texts.rest.now
