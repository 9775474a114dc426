use Rattle.std.proofs.Common.{rules, ◌≡◌, ◌++◌, ltb, take, drop, sym, ap, ◌∙◌, subst, arith, length-take}
use Rattle.antichain.specs.Adding.{above}
use Rattle.antichain.specs.Antichain.{Apart}
use Rattle.antichain.specs.Layouts.{sorted}
use Rattle.antichain.proofs.Compacting.{front-long, front-kept}
use Rattle.antichain.proofs.Sorting.{kept-sorted}
use Rattle.antichain.proofs.Covering.{apart_kept}
use Rattle.antichain.proofs.arrivals.ArrivalsStore.drop_levels.Goals as goal

pub invariant_of-self : goal.invariant_of-self
invariant_of-self g c =
    let s = c.self.inside in
    let q = c.retain-self-inside in
    let p = λ (x : g.row.E.Denot). ltb c.args.l (g.E.Entry.level x) in
    let xs = take s.len s.table.now in
    let kept = front-kept s.len s.table.now q.new.items q.auto.items q.result q.ensures.fewer (q.ensures.kept p (λ x r h. search rules)) in
    let f : sorted g.E.Entry.before (take q.result (q.new.items ++ drop s.len s.table.now)) ≡ above g.E.Entry.level c.args.l (sorted g.E.Entry.before xs) =
    ap (sorted g.E.Entry.before) kept ∙ sym (kept-sorted g.met.E.Entry.rules p xs) in
    record {
      fits = omega (arith, front-long s.len s.table.now q.new.items q.auto.items, q.ensures.fewer, length-take s.len s.table.now, c.self.invariant.fits);
      apart = subst (Apart g.E.Entry.covers) (sym f) (apart_kept g.E.Entry.covers p _ c.self.invariant.apart);
    }

pub returns-clause-held : goal.returns-clause-held
returns-clause-held g c =
    let s = c.self.inside in
    let q = c.retain-self-inside in
    let p = λ (x : g.row.E.Denot). ltb c.args.l (g.E.Entry.level x) in
    let xs = take s.len s.table.now in
    let kept = front-kept s.len s.table.now q.new.items q.auto.items q.result q.ensures.fewer (q.ensures.kept p (λ x r h. search rules)) in
    let f : sorted g.E.Entry.before (take q.result (q.new.items ++ drop s.len s.table.now)) ≡ above g.E.Entry.level c.args.l (sorted g.E.Entry.before xs) =
    ap (sorted g.E.Entry.before) kept ∙ sym (kept-sorted g.met.E.Entry.rules p xs) in
    rw (← c.self.view_is) f
