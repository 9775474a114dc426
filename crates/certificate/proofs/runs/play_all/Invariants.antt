use Rattle.std.proofs.Common.{◌+◌, length}
use Rattle.certificate.proofs.Going.{Going, height}
use Rattle.certificate.proofs.runs.play_all.Given as goal

abbrev pub invariant-loop-turn : goal.invariant-loop-turn
invariant-loop-turn l = Going l.game l.turn l.rest l.offers

abbrev pub decreases-loop-turn : goal.decreases-loop-turn
decreases-loop-turn l = length l.rest + height l.turn
