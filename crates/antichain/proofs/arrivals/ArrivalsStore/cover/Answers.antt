use Rattle.std.proofs.Common.{take}
use Rattle.antichain.proofs.Covering.{told_sorted}
use Rattle.antichain.proofs.arrivals.ArrivalsStore.cover.Goals as goal

pub returns : goal.returns
returns g c =
    let s = c.self.inside in
    rw (← c.self.view_is) (told_sorted g.E.Entry.before g.E.Entry.covers (take s.len s.table.now) c.args.e.now c.find_cover.result c.find_cover.ensures)
