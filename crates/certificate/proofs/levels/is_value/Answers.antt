use Rattle.std.proofs.Common.{arith}
use Rattle.qbf.specs.Held.{qbf_of}
use Rattle.certificate.proofs.FromLevel.{value_none, value_is, narrow_at}
use Rattle.certificate.proofs.levels.is_value.Goals as goal

pub returns-in_default : goal.returns-in_default
returns-in_default c = value_none (qbf_of c.args.formula.now) _ c.args.value c.in_default.ensures

pub overflow_cast-result : goal.overflow_cast-result
overflow_cast-result c = omega (arith, narrow_at (qbf_of c.args.formula.now) _ _ c.in-Some.ensures c.args.formula.now.widths)

pub overflow_shl-result : goal.overflow_shl-result
overflow_shl-result c = omega (arith, narrow_at (qbf_of c.args.formula.now) _ _ c.in-Some.ensures c.args.formula.now.widths)

pub returns : goal.returns
returns c = value_is (qbf_of c.args.formula.now) _ _ c.in-Some.ensures c.args.value c.args.formula.now.widths
