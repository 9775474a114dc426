use Rattle.truth.specs.Verdicts.{is_true}
use Rattle.qbf.specs.Held.{qbf_of}
use Rattle.certificate.proofs.Sound.{accepted_true}
use Rattle.certificate.proofs.accepted.Accepted.verdict.Goals as goal

pub returns-clause-blocks : goal.returns-clause-blocks
returns-clause-blocks c =
    let it = c.args.self.now in (accepted_true (qbf_of it.formula.now) (is_true it.verdict) it.entries.now it.ok).0

pub returns-clause-plainly : goal.returns-clause-plainly
returns-clause-plainly c =
    let it = c.args.self.now in (accepted_true (qbf_of it.formula.now) (is_true it.verdict) it.entries.now it.ok).1
