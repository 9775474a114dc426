use Rattle.std.proofs.Common.{length, ap, arith}
use Rattle.std.proofs.lemmas.List.{nil_from_length}
use Rattle.certificate.proofs.Going.{go_replied, go_taken, go_refused, go_waits, go_ended, lower_replied, lower_taken}
use Rattle.certificate.proofs.runs.play_all.Goals as goal

pub returns-in-Over-clause-played : goal.returns-in-Over-clause-played
returns-in-Over-clause-played c = go_ended c.args.game _ _ _ c.loop-turn.invariant _ _ _ c.in-Over.is c.left.ensures.set c.played.ensures

pub returns-in_default-clause-played : goal.returns-in_default-clause-played
returns-in_default-clause-played c =
    go_waits c.args.game _ _ _ c.loop-turn.invariant _ c.in-Other.is _ c.position.ensures (nil_from_length _ c.in_default.ensures.cases)

pub loop-turn-smaller-in-Holder : goal.loop-turn-smaller-in-Holder
loop-turn-smaller-in-Holder c = omega (arith, lower_replied c.loop-turn.turn c.reply.result.1 _ _ c.in-Holder.is c.reply.ensures.next)

pub loop-turn-preserved-in-Holder : goal.loop-turn-preserved-in-Holder
loop-turn-preserved-in-Holder c = go_replied c.args.game _ _ _ c.loop-turn.invariant _ c.in-Holder.is _ c.reply.result.1 c.reply.ensures.lent c.reply.ensures.next

pub loop-turn-smaller-in-Ok : goal.loop-turn-smaller-in-Ok
loop-turn-smaller-in-Ok c =
    omega (arith, lower_taken c.loop-turn.turn c.in-Ok.next _ _ c.in-Other.is c.in-Ok.ensures.1, ap length c.in-Some.ensures.cases.0)

pub loop-turn-preserved-in-Ok : goal.loop-turn-preserved-in-Ok
loop-turn-preserved-in-Ok c =
    let t = c.in-Ok.ensures in
    go_taken c.args.game _ _ _ c.loop-turn.invariant _ c.in-Other.is _ _ c.in-Ok.next c.in-Some.ensures.cases.0 t.0 t.1

pub loop-turn-preserved : goal.loop-turn-preserved
loop-turn-preserved c =
    let t = c.in-Err.ensures in
    go_refused c.args.game _ _ _ c.loop-turn.invariant _ c.in-Other.is _ _ _ c.in-Some.ensures.cases.0 t.0 t.1
