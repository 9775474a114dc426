use Rattle.std.proofs.Common.{◌∙◌, arith}
use Rattle.truth.specs.Verdicts.{is_true}
use Rattle.qbf.specs.Held.{qbf_of}
use Rattle.certificate.proofs.FromLevel.{is_some_there, level_there}
use Rattle.certificate.proofs.Checking.{reached_past, reached_within, agrees_by}
use Rattle.qbf.proofs.Sizes.{few_blocks}
use Rattle.certificate.proofs.checker.Checker.is_reached.Goals as goal

pub returns-then-is_none : goal.returns-then-is_none
returns-then-is_none c =
    let it = c.args.self.now in
    agrees_by c.from.result it.verdict _ _ c.from.ensures c.eq.ensures
    ∙ reached_past (is_true it.verdict) (qbf_of it.formula.now) _ c.args.level c.args.set _ c.quantifier.ensures c.if-is_none.ensures

pub covering-requires : goal.covering-requires
covering-requires c =
    let f = c.args.self.now.formula.now in
    let b = is_some_there (λ b. b.quantifier) (qbf_of f) c.args.level _ c.quantifier.ensures c.if-is_none.ensures in
    omega (arith, few_blocks f, level_there (qbf_of f) b.0 _ c.args.level b.1)

pub returns : goal.returns
returns c =
    let it = c.args.self.now in
    c.is_some.ensures ∙ reached_within (is_true it.verdict) (qbf_of it.formula.now) _ c.args.level c.args.set _ c.quantifier.ensures c.if-is_none.ensures _ c.covering.ensures
