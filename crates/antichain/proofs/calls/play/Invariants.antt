use Rattle.std.proofs.Common.{◌≡◌}
use Rattle.antichain.proofs.Rounds.{Playing}
use Rattle.antichain.proofs.calls.play.Given as goal

abbrev pub invariant-loop-round : goal.invariant-loop-round
invariant-loop-round g l =
    (g.P.Store.capacity l.p ≡ g.P.Store.capacity l.initial.p) × (g.Q.Store.capacity l.q ≡ g.Q.Store.capacity l.initial.q) ×
    Playing g.E.Entry (g.P.Store.capacity l.initial.p) (g.Q.Store.capacity l.initial.q) (g.P.Store.held l.initial.p) (g.Q.Store.held l.initial.q) (g.P.Store.held l.p) (g.Q.Store.held l.q) l.initial.round-items l.round-items l.round-index
