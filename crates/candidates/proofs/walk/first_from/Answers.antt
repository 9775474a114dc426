use Rattle.std.proofs.Common.{reverse, sym, subst}
use Rattle.candidates.specs.Walks.{Walked, Walked.begun}
use Rattle.candidates.proofs.walk.first_from.Goals as goal

pub first-requires-clause-walked : goal.first-requires-clause-walked
first-requires-clause-walked c = subst (λ h. Walked (reverse c.args.all.now) (reverse c.args.all.now) h.hits h.value) (sym c.none.ensures) begun
