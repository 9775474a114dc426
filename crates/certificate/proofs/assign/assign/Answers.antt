use Rattle.std.proofs.Common.{sym, ap, rules}
use Rattle.qbf.specs.Held.{qbf_of}
use Rattle.certificate.specs.Plays.{assigned}
use Rattle.certificate.proofs.FromLevel.{told_none}
use Rattle.certificate.proofs.Assigning.{assigned-start, assigned_more, assigned_end}
use Rattle.certificate.proofs.assign.assign.Goals as goal

pub returns-in_default : goal.returns-in_default
returns-in_default c = ap (λ z. assigned z c.args.value c.args.played) (sym (told_none _ (qbf_of c.args.formula.now) c.args.level c.in_default.ensures.value))

pub loop-i-init : goal.loop-i-init
loop-i-init c = assigned-start (qbf_of c.args.formula.now) c.args.level c.args.value _ c.args.played c.in-Some.ensures.value

pub loop-i-preserved : goal.loop-i-preserved
loop-i-preserved c = search (rules, assigned_more)

pub returns : goal.returns
returns c = search (rules, assigned_end)
