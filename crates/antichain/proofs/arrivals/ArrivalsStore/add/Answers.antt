use Rattle.std.proofs.Common.{rules, ◌≡◌, true, false, not, sym, refl, subst, arith}
use Rattle.antichain.specs.Lookups.{covered}
use Rattle.antichain.proofs.Compacting.{front-long}
use Rattle.antichain.proofs.Covering.{told_some, told_none}
use Rattle.antichain.proofs.Arriving.{when_full, when_room}
use Rattle.antichain.proofs.arrivals.ArrivalsStore.add.Goals as goal

pub returns-then-is_some : goal.returns-then-is_some
returns-then-is_some g c =
    let h : covered g.E.Entry.covers c.args.self.now.entries c.args.e ≡ true =
    told_some g.E.Entry.covers _ c.args.e c.cover.result c.cover.ensures (sym c.if-is_some.ensures) in
    record { answer = simp h; held = simp h; capacity = refl }

pub invariant_of-self : goal.invariant_of-self
invariant_of-self g c =
    let s = c.self.inside in
    let q = c.retain-self-inside in
    let new = subst (λ h. covered g.E.Entry.covers h.entries c.args.e ≡ false) (sym c.self.view_is) (told_none g.E.Entry.covers _ c.args.e c.cover.result c.cover.ensures (sym c.if-is_some.ensures)) in
    let done = when_full g.met.E.Entry.rules s.len q.result s.table.now q.new.items c.args.e q.auto.items q.ensures.fewer (q.ensures.kept (λ x. not (g.E.Entry.covers c.args.e x)) (λ x r h. search rules)) c.self.invariant new
    (omega (arith, front-long s.len s.table.now q.new.items q.auto.items, c.capacity_of.ensures, c.if-self-capacity_of.true)) in
    done.0

pub returns-then-self-capacity_of-clause-answer : goal.returns-then-self-capacity_of-clause-answer
returns-then-self-capacity_of-clause-answer g c =
    let s = c.self.inside in
    let q = c.retain-self-inside in
    let new = subst (λ h. covered g.E.Entry.covers h.entries c.args.e ≡ false) (sym c.self.view_is) (told_none g.E.Entry.covers _ c.args.e c.cover.result c.cover.ensures (sym c.if-is_some.ensures)) in
    let done = when_full g.met.E.Entry.rules s.len q.result s.table.now q.new.items c.args.e q.auto.items q.ensures.fewer (q.ensures.kept (λ x. not (g.E.Entry.covers c.args.e x)) (λ x r h. search rules)) c.self.invariant new
    (omega (arith, front-long s.len s.table.now q.new.items q.auto.items, c.capacity_of.ensures, c.if-self-capacity_of.true)) in
    rw (← c.self.view_is) done.1

pub returns-then-self-capacity_of-clause-held : goal.returns-then-self-capacity_of-clause-held
returns-then-self-capacity_of-clause-held g c =
    let s = c.self.inside in
    let q = c.retain-self-inside in
    let new = subst (λ h. covered g.E.Entry.covers h.entries c.args.e ≡ false) (sym c.self.view_is) (told_none g.E.Entry.covers _ c.args.e c.cover.result c.cover.ensures (sym c.if-is_some.ensures)) in
    let done = when_full g.met.E.Entry.rules s.len q.result s.table.now q.new.items c.args.e q.auto.items q.ensures.fewer (q.ensures.kept (λ x. not (g.E.Entry.covers c.args.e x)) (λ x r h. search rules)) c.self.invariant new
    (omega (arith, front-long s.len s.table.now q.new.items q.auto.items, c.capacity_of.ensures, c.if-self-capacity_of.true)) in
    rw (← c.self.view_is) done.2

pub invariant_of-self-2 : goal.invariant_of-self-2
invariant_of-self-2 g c =
    let s = c.self.inside in
    let q = c.retain-self-inside in
    let new = subst (λ h. covered g.E.Entry.covers h.entries c.args.e ≡ false) (sym c.self.view_is) (told_none g.E.Entry.covers _ c.args.e c.cover.result c.cover.ensures (sym c.if-is_some.ensures)) in
    let done = when_room g.met.E.Entry.rules s.len q.result s.table.now q.new.items c.args.e q.auto.items q.ensures.fewer (q.ensures.kept (λ x. not (g.E.Entry.covers c.args.e x)) (λ x r h. search rules)) c.self.invariant new
    (λ z. omega (arith, front-long s.len s.table.now q.new.items q.auto.items, c.capacity_of.ensures, c.if-self-capacity_of.false)) in
    done.0

pub returns-clause-answer : goal.returns-clause-answer
returns-clause-answer g c =
    let s = c.self.inside in
    let q = c.retain-self-inside in
    let new = subst (λ h. covered g.E.Entry.covers h.entries c.args.e ≡ false) (sym c.self.view_is) (told_none g.E.Entry.covers _ c.args.e c.cover.result c.cover.ensures (sym c.if-is_some.ensures)) in
    let done = when_room g.met.E.Entry.rules s.len q.result s.table.now q.new.items c.args.e q.auto.items q.ensures.fewer (q.ensures.kept (λ x. not (g.E.Entry.covers c.args.e x)) (λ x r h. search rules)) c.self.invariant new
    (λ z. omega (arith, front-long s.len s.table.now q.new.items q.auto.items, c.capacity_of.ensures, c.if-self-capacity_of.false)) in
    rw (← c.self.view_is) done.1

pub returns-clause-held : goal.returns-clause-held
returns-clause-held g c =
    let s = c.self.inside in
    let q = c.retain-self-inside in
    let new = subst (λ h. covered g.E.Entry.covers h.entries c.args.e ≡ false) (sym c.self.view_is) (told_none g.E.Entry.covers _ c.args.e c.cover.result c.cover.ensures (sym c.if-is_some.ensures)) in
    let done = when_room g.met.E.Entry.rules s.len q.result s.table.now q.new.items c.args.e q.auto.items q.ensures.fewer (q.ensures.kept (λ x. not (g.E.Entry.covers c.args.e x)) (λ x r h. search rules)) c.self.invariant new
    (λ z. omega (arith, front-long s.len s.table.now q.new.items q.auto.items, c.capacity_of.ensures, c.if-self-capacity_of.false)) in
    rw (← c.self.view_is) done.2
