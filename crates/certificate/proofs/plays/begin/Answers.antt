use Rattle.truth.specs.Verdicts.{is_true}
use Rattle.qbf.specs.Held.{qbf_of}
use Rattle.certificate.proofs.Moving.{safe_root, plays_right}
use Rattle.certificate.proofs.plays.begin.Goals as goal

pub invariant_of-turn : goal.invariant_of-turn
invariant_of-turn c = record { safe = safe_root (qbf_of c.args.game.formula.now) (is_true c.args.game.verdict) _ c.args.game.ok _ c.root.ensures }

pub returns-clause-plays : goal.returns-clause-plays
returns-clause-plays c = plays_right (qbf_of c.args.game.formula.now) (is_true c.args.game.verdict) _ c.args.game.ok
