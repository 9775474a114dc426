use Rattle.std.proofs.Common.{length}
use Rattle.candidates.proofs.walk.Search.+first.Given as goal

abbrev pub decreases-first : goal.decreases-first
decreases-first l = length l.left.now
