use Rattle.truth.specs.Verdicts.{is_true}
use Rattle.qbf.specs.Held.{qbf_of}
use Rattle.certificate.proofs.Moving.{safe_reply}
use Rattle.certificate.proofs.turns.HolderTurn.reply.Goals as goal

pub invariant_of-turn : goal.invariant_of-turn
invariant_of-turn c =
    let it = c.args.self.scene in
    let game = it.game in record {
      safe = safe_reply (qbf_of game.formula.now) (is_true game.verdict) game.entries.now game.ok it.at _ _ c.moved-next.ensures it.safe c.args.self.due c.lent-value.ensures;
    }
