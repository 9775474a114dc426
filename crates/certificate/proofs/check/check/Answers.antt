use Rattle.std.proofs.Common.{◌+◌}
use Rattle.truth.specs.Verdicts.{is_true}
use Rattle.qbf.specs.Held.{qbf_of}
use Rattle.certificate.proofs.Sound.{accepted_true}
use Rattle.certificate.proofs.Faulting.{failing_end, accepted_so, root_reached}
use Rattle.certificate.proofs.check.check.Goals as goal

pub invariant_of-result : goal.invariant_of-result
invariant_of-result c =
    let f = qbf_of c.args.formula.now in
    let v = is_true c.args.verdict in
    let es = c.args.entries.now in
    let i = c.loop-i.i in
    let root = root_reached f v _ es c.of.ensures _ c.root.ensures c.if-not-is_reached.ensures in
    record { ok = (accepted_so f v es root (failing_end _ es i (i + 4) _ c.loop-i.invariant c.loop-i-test.false)).1 }

pub returns-clause-truth : goal.returns-clause-truth
returns-clause-truth c =
    let f = qbf_of c.args.formula.now in
    let v = is_true c.args.verdict in
    let es = c.args.entries.now in
    let i = c.loop-i.i in
    let root = root_reached f v _ es c.of.ensures _ c.root.ensures c.if-not-is_reached.ensures in
    accepted_true f v es (accepted_so f v es root (failing_end _ es i (i + 4) _ c.loop-i.invariant c.loop-i-test.false)).1
