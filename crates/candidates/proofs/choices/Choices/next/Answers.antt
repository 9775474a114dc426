use Rattle.std.proofs.Common.{rules}
use Rattle.candidates.proofs.Leaves.{first_best}
use Rattle.candidates.proofs.choices.Choices.next.Goals as goal

pub returns : goal.returns
returns c = search (rules, first_best)
