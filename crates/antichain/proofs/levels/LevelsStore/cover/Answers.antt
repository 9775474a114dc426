use Rattle.std.proofs.Common.{subst}
use Rattle.antichain.specs.Lookups.{Told}
use Rattle.antichain.proofs.Grouping.{told_level}
use Rattle.antichain.proofs.levels.LevelsStore.cover.Goals as goal

pub returns : goal.returns
returns g c =
    told_level g.met.E.Entry.rules c.args.e.now c.level.result c.level.ensures _ c.find_cover.result
    (subst (λ l. Told g.E.Entry.covers l c.args.e.now c.find_cover.result) c.of_level.ensures c.find_cover.ensures)
