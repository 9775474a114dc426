use Rattle.std.proofs.Common.{◌≡◌, true, length, sym, refl, ap, ◌∙◌, subst, arith}
use Rattle.antichain.specs.Lookups.{covered}
use Rattle.antichain.specs.Antichain.{ApartFrom}
use Rattle.antichain.proofs.Covering.{told_some, told_none}
use Rattle.antichain.proofs.Additions.{apart_left, full}
use Rattle.antichain.proofs.levels.LevelsStore.add.Goals as goal

pub returns-then-is_some : goal.returns-then-is_some
returns-then-is_some g c =
    let h : covered g.E.Entry.covers c.args.self.now.entries c.args.e ≡ true =
    told_some g.E.Entry.covers _ c.args.e c.cover.result c.cover.ensures (sym c.if-is_some.ensures) in
    record { answer = simp h; held = simp h; capacity = refl }

pub returns-then-count-capacity_of-clause-held : goal.returns-then-count-capacity_of-clause-held
returns-then-count-capacity_of-clause-held g c =
    let q = c.remove_covered.ensures in
    let new = told_none g.E.Entry.covers _ c.args.e c.cover.result c.cover.ensures (sym c.if-is_some.ensures) in
    q.held ∙ full g.E.Entry.covers g.E.Entry.before _ _ c.args.e new q.fitted
    (omega (arith, ap length q.held, q.places, ap (λ h. length h.entries) c.self.view_is, ap (λ h. h.places) c.self.view_is, c.count.ensures, c.capacity_of.ensures, c.if-count-capacity_of.true))

pub insert-requires-clause-apart : goal.insert-requires-clause-apart
insert-requires-clause-apart g c =
    let new = told_none g.E.Entry.covers _ c.args.e c.cover.result c.cover.ensures (sym c.if-is_some.ensures) in
    subst (ApartFrom g.E.Entry.covers c.args.e) (sym c.remove_covered.ensures.held) (apart_left g.E.Entry.covers c.args.e _ new)
