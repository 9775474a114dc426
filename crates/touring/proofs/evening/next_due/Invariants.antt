use Rattle.certificate.proofs.Going.{height}
use Rattle.touring.proofs.evening.next_due.Given as goal

abbrev pub decreases-loop-turn : goal.decreases-loop-turn
decreases-loop-turn l = height l.turn
