use Rattle.std.proofs.Common.{rules, ◌≡◌, ◌-◌, ◌<◌, ◌≤◌, ◌++◌, min, length, get_or, take, drop, sym, refl, ap, subst, arith, length-take}
use Rattle.antichain.specs.Limits.{max_level, max_entries}
use Rattle.antichain.specs.Antichain.{ApartFrom}
use Rattle.antichain.proofs.Starts.{part_under}
use Rattle.antichain.proofs.Grouping.{ascend, part_within, after_first, before_last}
use Rattle.antichain.proofs.Leaving.{put_in}
use Rattle.antichain.proofs.levels.Levels.insert.Goals as goal

pub put_in_order-requires : goal.put_in_order-requires
put_in_order-requires g c =
    let s = c.self.inside in
    let w = g.met.E.Entry.rules in
    let l = c.level-l.result in
    let room = subst (λ h. length h.entries < min h.places max_entries) (sym c.self.view_is) c.requires.room in
    let p = part_within w s.table.now refl c.self.invariant (omega arith) l (omega (arith, c.level-l.ensures, w.least c.args.e)) (omega (arith, c.level-l.ensures, w.most c.args.e)) in
    record {
      within = (p.0, p.1, omega (arith, p.2, room, length-take (get_or s.starts max_level 0) s.table.now));
      ordered = c.self.invariant.ordered;
      first = after_first w s.table.now refl c.self.invariant (omega arith) c.args.e l c.level-l.ensures;
      last = before_last w s.table.now refl c.self.invariant (omega arith) c.args.e l c.level-l.ensures;
    }

pub raise-requires : goal.raise-requires
raise-requires g c =
    let s = c.self.inside in
    let l = c.level-l.result in
    let high : l ≤ max_level = omega (arith, c.level-l.ensures, g.met.E.Entry.rules.most c.args.e) in
    part_under s.starts l (17 - l) max_entries
    (λ k m. omega (arith, ascend g.met.E.Entry.rules s.table.now refl c.self.invariant (omega arith) k max_level (omega arith) (omega arith), c.self.invariant.fits))

pub invariant_of-self : goal.invariant_of-self
invariant_of-self g c =
    let s = c.self.inside in
    let size : length s.starts ≡ 17 = search rules in
    let apart = subst (λ h. ApartFrom g.E.Entry.covers c.args.e h.entries) (sym c.self.view_is) c.requires.apart in
    let room = subst (λ h. length h.entries < min h.places max_entries) (sym c.self.view_is) c.requires.room in
    let done = put_in g.met.E.Entry.rules s.starts size s.table.now c.self.invariant c.args.e c.level-l.result c.level-l.ensures _ c.put_in_order.new.table
    (ap (λ z. take c.level-l.result s.starts ++ (z ++ drop (17 - c.level-l.result) (drop c.level-l.result s.starts))) c.raise.ensures) apart room c.put_in_order.ensures c.put_in_order.auto.table in
    done.0

pub returns-clause-held : goal.returns-clause-held
returns-clause-held g c =
    let s = c.self.inside in
    let size : length s.starts ≡ 17 = search rules in
    let apart = subst (λ h. ApartFrom g.E.Entry.covers c.args.e h.entries) (sym c.self.view_is) c.requires.apart in
    let room = subst (λ h. length h.entries < min h.places max_entries) (sym c.self.view_is) c.requires.room in
    let done = put_in g.met.E.Entry.rules s.starts size s.table.now c.self.invariant c.args.e c.level-l.result c.level-l.ensures _ c.put_in_order.new.table
    (ap (λ z. take c.level-l.result s.starts ++ (z ++ drop (17 - c.level-l.result) (drop c.level-l.result s.starts))) c.raise.ensures) apart room c.put_in_order.ensures c.put_in_order.auto.table in
    rw (← c.self.view_is) done.1
