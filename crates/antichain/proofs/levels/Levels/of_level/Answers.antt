use Rattle.std.proofs.Common.{refl, arith, rules}
use Rattle.antichain.proofs.Grouping.{level, part_within}
use Rattle.antichain.proofs.levels.Levels.of_level.Goals as goal

pub returns : goal.returns
returns g c = rw (← c.self.view_is) (level g.met.E.Entry.rules c.self.inside.table.now refl c.self.invariant (omega arith) c.args.l c.requires.0 c.requires.1)

pub offset_bounds-self-inside-from : goal.offset_bounds-self-inside-from
offset_bounds-self-inside-from g c =
    let p = part_within g.met.E.Entry.rules c.self.inside.table.now refl c.self.invariant (omega arith) c.args.l c.requires.0 c.requires.1 in omega arith

pub slice_bounds-result-count : goal.slice_bounds-result-count
slice_bounds-result-count g c =
    let p = part_within g.met.E.Entry.rules c.self.inside.table.now refl c.self.invariant (omega arith) c.args.l c.requires.0 c.requires.1 in p.0

pub slice_bounds-result-start : goal.slice_bounds-result-start
slice_bounds-result-start g c =
    let p = part_within g.met.E.Entry.rules c.self.inside.table.now refl c.self.invariant (omega arith) c.args.l c.requires.0 c.requires.1 in search rules

pub slice_bounds-result-end : goal.slice_bounds-result-end
slice_bounds-result-end g c =
    let p = part_within g.met.E.Entry.rules c.self.inside.table.now refl c.self.invariant (omega arith) c.args.l c.requires.0 c.requires.1 in search rules
