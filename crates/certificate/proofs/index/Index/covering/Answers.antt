use Rattle.std.proofs.Common.{◌∙◌}
use Rattle.truth.specs.Verdicts.{is_true}
use Rattle.certificate.proofs.Places.{first_within}
use Rattle.certificate.proofs.index.Index.covering.Goals as goal

pub returns : goal.returns
returns c =
    let it = c.args.self.now in
    c.covering_entry.ensures ∙ first_within (is_true c.args.verdict) c.args.level c.args.set _ _ (it.spanned c.args.level _ c.requires)
