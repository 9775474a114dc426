use Rattle.std.proofs.Common.{arith}
use Rattle.truth.specs.Verdicts.{is_true}
use Rattle.qbf.specs.Held.{qbf_of}
use Rattle.certificate.proofs.Trying.{tried_none, tried_stop, tried_more, tried_all, candidate_low, candidate_small}
use Rattle.certificate.proofs.checker.Checker.every_leads_on.Goals as goal

pub loop-candidate-init : goal.loop-candidate-init
loop-candidate-init c = tried_none (is_true c.args.self.now.verdict) _ _ c.args.entry.level c.args.entry.set _ c.requires

pub returns-then-not-is_reached : goal.returns-then-not-is_reached
returns-then-not-is_reached c =
    let it = c.args.self.now in
    tried_stop (is_true it.verdict) (qbf_of it.formula.now) _ c.args.entry.level c.args.entry.set _ _ c.loop-candidate.invariant _ c.in-Some.ensures c.if-not-is_reached.ensures

pub overflow_add-from : goal.overflow_add-from
overflow_add-from c =
    let f = c.args.self.now.formula.now in
    omega (arith, candidate_small (qbf_of f) c.args.entry.level c.args.entry.set _ _ c.in-Some.ensures f.widths)

pub loop-candidate-smaller : goal.loop-candidate-smaller
loop-candidate-smaller c =
    let f = c.args.self.now.formula.now in
    let low = candidate_low (qbf_of f) c.args.entry.level c.args.entry.set _ _ c.in-Some.ensures in
    omega (arith, low, candidate_small (qbf_of f) c.args.entry.level c.args.entry.set _ _ c.in-Some.ensures f.widths)

pub loop-candidate-preserved : goal.loop-candidate-preserved
loop-candidate-preserved c =
    let it = c.args.self.now in
    tried_more (is_true it.verdict) (qbf_of it.formula.now) _ c.args.entry.level c.args.entry.set _ _ c.loop-candidate.invariant _ c.in-Some.ensures c.if-not-is_reached.ensures

pub returns : goal.returns
returns c =
    let it = c.args.self.now in
    tried_all (is_true it.verdict) (qbf_of it.formula.now) _ c.args.entry.level c.args.entry.set _ _ c.loop-candidate.invariant c.in_default.ensures
