use Rattle.std.proofs.Common.{◌∙◌, arith}
use Rattle.antichain.proofs.Rounds.{playing_more, playing_all}
use Rattle.antichain.proofs.calls.play.Goals as goal

pub loop-round-preserved : goal.loop-round-preserved
loop-round-preserved g c =
    let i = c.loop-round.invariant in
    let p = c.apply.ensures in
    let q = c.apply-in-loop-round.ensures in (
      p.capacity ∙ i.0,
      q.capacity ∙ i.1,
      playing_more i.2 c.round-item.result (omega (arith, c.loop-round.auto.round-items, c.loop-round-test.true)) i.0 p.answer p.held i.1 q.answer q.held,
    )

pub returns : goal.returns
returns g c =
    let i = c.loop-round.invariant in
    let a = playing_all i.2 (omega (arith, c.loop-round.auto.round-items, c.loop-round-test.false)) in
    record { rounds = a.0; first = a.1; second = a.2; capacities = (i.0, i.1) }
