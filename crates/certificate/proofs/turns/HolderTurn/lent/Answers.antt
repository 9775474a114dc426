use Rattle.truth.specs.Verdicts.{is_true}
use Rattle.qbf.specs.Held.{qbf_of}
use Rattle.certificate.proofs.Moving.{covered_there, reply_given, reply_not_none}
use Rattle.certificate.proofs.turns.HolderTurn.lent.Goals as goal

pub unreachable-requires : goal.unreachable-requires
unreachable-requires c =
    let it = c.args.self.now.scene in
    let game = it.game in covered_there (qbf_of game.formula.now) (is_true game.verdict) _ game.ok it.at it.safe c.args.self.now.due c.in_default.ensures

pub unreachable-requires-in_default-reply : goal.unreachable-requires-in_default-reply
unreachable-requires-in_default-reply c =
    let it = c.args.self.now.scene in
    let game = it.game in reply_not_none (qbf_of game.formula.now) (is_true game.verdict) _ game.ok it.at it.safe c.args.self.now.due _ c.in-Some.ensures c.in_default-reply.is

pub returns : goal.returns
returns c =
    let it = c.args.self.now.scene in
    let game = it.game in reply_given (qbf_of game.formula.now) (is_true game.verdict) _ game.ok it.at it.safe c.args.self.now.due _ _ c.in-Some.ensures c.in-Value.is
