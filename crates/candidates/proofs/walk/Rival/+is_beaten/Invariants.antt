use Rattle.std.proofs.Common.{length}
use Rattle.candidates.proofs.walk.Rival.+is_beaten.Given as goal

abbrev pub decreases-is_beaten : goal.decreases-is_beaten
decreases-is_beaten l = length l.left.now
