use Rattle.std.proofs.Common.{◌∙◌}
use Rattle.antichain.proofs.Covering.{told_is}
use Rattle.antichain.proofs.store.is_covered.Goals as goal

pub returns : goal.returns
returns g c = c.is_some.ensures ∙ told_is g.E.Entry.covers (g.S.Store.held c.args.store.now) c.args.e.now c.cover.result c.cover.ensures
