use Rattle.std.proofs.Common.{sym, ◌∙◌}
use Rattle.truth.specs.Verdicts.{is_true}
use Rattle.qbf.specs.Held.{qbf_of}
use Rattle.certificate.proofs.FromLevel.{mover_none, mover_is}
use Rattle.certificate.proofs.levels.mover_at.Goals as goal

pub returns-in_err-quantifier : goal.returns-in_err-quantifier
returns-in_err-quantifier c =
    c.from_residual.ensures ∙ mover_none (is_true c.args.verdict) (qbf_of c.args.formula.now) c.args.level (sym c.in_err-quantifier.was ∙ c.quantifier.ensures)

pub returns-then-owes : goal.returns-then-owes
returns-then-owes c = mover_is (is_true c.args.verdict) (qbf_of c.args.formula.now) c.args.level _ _ (sym c.in_ok-quantifier.was ∙ c.quantifier.ensures) c.if-owes.ensures

pub returns-else-owes : goal.returns-else-owes
returns-else-owes c = mover_is (is_true c.args.verdict) (qbf_of c.args.formula.now) c.args.level _ _ (sym c.in_ok-quantifier.was ∙ c.quantifier.ensures) c.if-owes.ensures
