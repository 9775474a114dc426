use Rattle.std.proofs.Common.{arith}
use Rattle.qbf.specs.Held.{qbf_of}
use Rattle.certificate.proofs.FromLevel.{level_within}
use Rattle.qbf.proofs.Sizes.{few_blocks}
use Rattle.certificate.proofs.Moving.{moved_nowhere, moved_to}
use Rattle.certificate.proofs.position.Position.moved.Goals as goal

pub returns-in_default : goal.returns-in_default
returns-in_default c = moved_nowhere (qbf_of c.args.formula.now) c.args.value c.args.self c.in_default.ensures

pub overflow_add-result : goal.overflow_add-result
overflow_add-result c = omega (arith, few_blocks c.args.formula.now, level_within _ (qbf_of c.args.formula.now) c.args.self.level _ c.in-Some.ensures)

pub returns : goal.returns
returns c = moved_to (qbf_of c.args.formula.now) c.args.value c.args.self _ _ c.in-Some.ensures c.assign.ensures
