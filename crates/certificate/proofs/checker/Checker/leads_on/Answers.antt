use Rattle.truth.specs.Verdicts.{is_true}
use Rattle.qbf.specs.Held.{qbf_of}
use Rattle.certificate.proofs.Checking.{leads_nowhere, leads_to}
use Rattle.certificate.proofs.checker.Checker.leads_on.Goals as goal

pub returns-in_default : goal.returns-in_default
returns-in_default c =
    let it = c.args.self.now in
    leads_nowhere (is_true it.verdict) (qbf_of it.formula.now) _ c.args.entry.level c.args.entry.set c.args.value c.in_default.ensures

pub returns : goal.returns
returns c =
    let it = c.args.self.now in
    leads_to (is_true it.verdict) (qbf_of it.formula.now) _ c.args.entry.level c.args.entry.set c.args.value _ c.in-Some.ensures _ c.is_reached.ensures
