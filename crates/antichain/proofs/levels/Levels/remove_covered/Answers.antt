use Rattle.std.proofs.Common.{rules, ◌≡◌, ◌-◌, ◌++◌, not, length, take, drop, refl, ap, arith}
use Rattle.antichain.proofs.Grouping.{part_within}
use Rattle.antichain.proofs.Leaving.{some_left, none_left}
use Rattle.antichain.proofs.levels.Levels.remove_covered.Goals as goal

pub offset_bounds-self-inside-from : goal.offset_bounds-self-inside-from
offset_bounds-self-inside-from g c =
    let w = g.met.E.Entry.rules in
    let p = part_within w c.self.inside.table.now refl c.self.invariant (omega arith) c.level-l.result (omega (arith, c.level-l.ensures, w.least c.args.e.now)) (omega (arith, c.level-l.ensures, w.most c.args.e.now)) in search rules

pub slice_bounds-retain-count : goal.slice_bounds-retain-count
slice_bounds-retain-count g c =
    let w = g.met.E.Entry.rules in
    let p = part_within w c.self.inside.table.now refl c.self.invariant (omega arith) c.level-l.result (omega (arith, c.level-l.ensures, w.least c.args.e.now)) (omega (arith, c.level-l.ensures, w.most c.args.e.now)) in p.0

pub slice_bounds-retain-start : goal.slice_bounds-retain-start
slice_bounds-retain-start g c =
    let w = g.met.E.Entry.rules in
    let p = part_within w c.self.inside.table.now refl c.self.invariant (omega arith) c.level-l.result (omega (arith, c.level-l.ensures, w.least c.args.e.now)) (omega (arith, c.level-l.ensures, w.most c.args.e.now)) in search rules

pub slice_bounds-retain-end : goal.slice_bounds-retain-end
slice_bounds-retain-end g c =
    let w = g.met.E.Entry.rules in
    let p = part_within w c.self.inside.table.now refl c.self.invariant (omega arith) c.level-l.result (omega (arith, c.level-l.ensures, w.least c.args.e.now)) (omega (arith, c.level-l.ensures, w.most c.args.e.now)) in search rules

pub copy_within-requires-clause-start_le_end : goal.copy_within-requires-clause-start_le_end
copy_within-requires-clause-start_le_end g c =
    let w = g.met.E.Entry.rules in
    let p = part_within w c.self.inside.table.now refl c.self.invariant (omega arith) c.level-l.result (omega (arith, c.level-l.ensures, w.least c.args.e.now)) (omega (arith, c.level-l.ensures, w.most c.args.e.now)) in p.1

pub invariant_of-self : goal.invariant_of-self
invariant_of-self g c =
    let s = c.self.inside in
    let q = c.retain in
    let size : length s.starts ≡ 17 = search rules in
    let done = some_left g.met.E.Entry.rules s.starts size s.table.now c.self.invariant c.args.e.now c.level-l.result c.level-l.ensures q.new.items q.result q.auto.items q.ensures.fewer
    (q.ensures.kept (λ x. not (g.E.Entry.covers c.args.e.now x)) (λ x r h. search rules)) _ _ c.if-kept-to.true (ap (λ z. take c.level-l.result s.starts ++ (z ++ drop (17 - c.level-l.result) (drop c.level-l.result s.starts))) c.lower.ensures) c.copy_within.ensures.after c.copy_within.ensures.len in
    done.0

pub returns-then-kept-to-clause-held : goal.returns-then-kept-to-clause-held
returns-then-kept-to-clause-held g c =
    let s = c.self.inside in
    let q = c.retain in
    let size : length s.starts ≡ 17 = search rules in
    let done = some_left g.met.E.Entry.rules s.starts size s.table.now c.self.invariant c.args.e.now c.level-l.result c.level-l.ensures q.new.items q.result q.auto.items q.ensures.fewer
    (q.ensures.kept (λ x. not (g.E.Entry.covers c.args.e.now x)) (λ x r h. search rules)) _ _ c.if-kept-to.true (ap (λ z. take c.level-l.result s.starts ++ (z ++ drop (17 - c.level-l.result) (drop c.level-l.result s.starts))) c.lower.ensures) c.copy_within.ensures.after c.copy_within.ensures.len in
    rw (← c.self.view_is) done.1

pub invariant_of-self-else-kept-to : goal.invariant_of-self-else-kept-to
invariant_of-self-else-kept-to g c =
    let s = c.self.inside in
    let q = c.retain in
    let size : length s.starts ≡ 17 = search rules in
    let done = none_left g.met.E.Entry.rules s.starts size s.table.now c.self.invariant c.args.e.now c.level-l.result c.level-l.ensures q.new.items q.result q.auto.items q.ensures.fewer
    (q.ensures.kept (λ x. not (g.E.Entry.covers c.args.e.now x)) (λ x r h. search rules)) c.if-kept-to.false in
    done.0

pub returns-else-kept-to-clause-held : goal.returns-else-kept-to-clause-held
returns-else-kept-to-clause-held g c =
    let s = c.self.inside in
    let q = c.retain in
    let size : length s.starts ≡ 17 = search rules in
    let done = none_left g.met.E.Entry.rules s.starts size s.table.now c.self.invariant c.args.e.now c.level-l.result c.level-l.ensures q.new.items q.result q.auto.items q.ensures.fewer
    (q.ensures.kept (λ x. not (g.E.Entry.covers c.args.e.now x)) (λ x r h. search rules)) c.if-kept-to.false in
    rw (← c.self.view_is) done.1
