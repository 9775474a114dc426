use Rattle.std.proofs.Common.{◌≡◌, [], sym, ap, ◌∙◌, subst}
use Rattle.antichain.specs.Antichain.{Antichain}
use Rattle.antichain.specs.Runs.{Alike, ran, played}
use Rattle.antichain.proofs.Additions.{antichain_none}
use Rattle.antichain.proofs.Rounds.{alike_played, antichain_ran, begun}
use Rattle.antichain.proofs.calls.run_both.Goals as goal

pub returns : goal.returns
returns g c =
    let e = g.E.Entry in
    let w = g.met.E.Entry.rules in
    let rs = c.args.rounds.now in
    let m = g.P.Store.capacity c.args.p.now in
    let n = g.Q.Store.capacity c.args.q.now in
    let p = c.empty.ensures in
    let q = c.empty-2.ensures in
    let begun-p = begun (λ k l. played e k (g.Q.Store.capacity c.empty-2.new.self) l (g.Q.Store.held c.empty-2.new.self) rs) c.play.ensures.rounds p.capacity p.held in
    let rounds : c.play.new.rounds ≡ played e m n [] [] rs = begun (λ k l. played e m k [] l rs) begun-p q.capacity q.held in
    let first : g.P.Store.held c.play.new.p ≡ ran e m [] rs = begun (λ k l. ran e k l rs) c.play.ensures.first p.capacity p.held in
    let second : g.Q.Store.held c.play.new.q ≡ ran e n [] rs = begun (λ k l. ran e k l rs) c.play.ensures.second q.capacity q.held in
    record {
      rounds = rounds;
      first = first;
      second = second;
      capacities = (c.play.ensures.capacities.0 ∙ p.capacity, c.play.ensures.capacities.1 ∙ q.capacity);
      alike = λ same. (
        subst Alike (ap (λ k. played e m k [] [] rs) same ∙ sym rounds) (alike_played e m [] rs),
        first ∙ ap (λ k. ran e k [] rs) same ∙ sym second,
      );
      antichains = (
        subst (Antichain e.covers e.before m) (sym first) (antichain_ran e w m [] rs (antichain_none w m)),
        subst (Antichain e.covers e.before n) (sym second) (antichain_ran e w n [] rs (antichain_none w n)),
      );
    }
