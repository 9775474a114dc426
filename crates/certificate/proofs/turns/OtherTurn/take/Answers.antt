use Rattle.std.proofs.Common.{sym}
use Rattle.truth.specs.Verdicts.{is_true}
use Rattle.qbf.specs.Held.{qbf_of}
use Rattle.certificate.proofs.Moving.{safe_value}
use Rattle.certificate.proofs.turns.OtherTurn.take.Goals as goal

pub invariant_of-turn : goal.invariant_of-turn
invariant_of-turn c =
    let it = c.args.self.scene in
    let game = it.game in record {
      safe = safe_value (qbf_of game.formula.now) (is_true game.verdict) game.entries.now game.ok it.at _ c.args.value c.moved-next.ensures it.safe c.args.self.due (sym c.if-not-is_value.ensures);
    }
