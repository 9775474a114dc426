use Rattle.truth.specs.Verdicts.{is_true}
use Rattle.qbf.specs.Held.{qbf_of}
use Rattle.certificate.proofs.Trying.{none_due}
use Rattle.certificate.proofs.checker.Checker.is_upheld.Goals as goal

pub every_leads_on-requires : goal.every_leads_on-requires
every_leads_on-requires c =
    let it = c.args.self.now in none_due (is_true it.verdict) (qbf_of it.formula.now) c.args.entry c.requires c.in-None.is
