use Rattle.std.proofs.Common.{[], take, arith}
use Rattle.std.proofs.lemmas.List.{length-take-le}
use Rattle.antichain.proofs.Sorting.{length-into}
use Rattle.antichain.proofs.arrivals.ArrivalsListedStore.count.Goals as goal

pub returns : goal.returns
returns g c =
    let s = c.self.inside in
    rw (← c.self.view_is) (omega (arith, length-into g.E.Entry.before [] (take s.len s.table.now), length-take-le s.len s.table.now (omega (arith, c.self.invariant.fits))))
