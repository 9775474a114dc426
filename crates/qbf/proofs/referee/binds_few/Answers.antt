use Rattle.std.proofs.Common.{rules}
use Rattle.qbf.proofs.Refereeing.{bound_sum}
use Rattle.qbf.proofs.referee.binds_few.Goals as goal

pub returns : goal.returns
returns c = search (rules, bound_sum)
