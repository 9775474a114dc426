use Rattle.std.proofs.Common.{◌+◌, ◌*◌, length}
use Rattle.qbf.proofs.referee.+decide_from.Given as goal

abbrev pub decreases-decide_from : goal.decreases-decide_from
decreases-decide_from l = length l.variables.now + 13 * length l.blocks.now
