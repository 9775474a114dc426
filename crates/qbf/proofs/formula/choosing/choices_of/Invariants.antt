use Rattle.std.proofs.Common.{◌≡◌, ℕ, List, ◌++◌, length}
use Rattle.candidates.specs.Held.{choices_in}
use Rattle.qbf.specs.Stored.{bound_by}
use Rattle.qbf.specs.Held.{qbf_of}
use Rattle.qbf.specs.Offered.{offered}
use Rattle.qbf.proofs.formula.choosing.choices_of.Given as goal

-- The variables behind those left are gathered.
abbrev pub invariant-loop-variable : goal.invariant-loop-variable
invariant-loop-variable l =
    (behind : List ℕ) × (bound_by l.block ≡ l.left ++ behind) × (choices_in l.choices ≡ offered (qbf_of l.formula).matrix l.set behind)

abbrev pub decreases-loop-variable : goal.decreases-loop-variable
decreases-loop-variable l = length l.left
