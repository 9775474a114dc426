use Rattle.std.proofs.Common.{◌≡◌, List, ◌++◌, length}
use Rattle.truth.specs.declared.literal.Clause.{Clause}
use Rattle.truth.specs.Truth.{rest, whole}
use Rattle.qbf.proofs.formula.positions.unsatisfied.Given as goal

-- The clauses behind those left have been looked at.
abbrev pub invariant-loop-clause : goal.invariant-loop-clause
invariant-loop-clause l = (behind : List Clause) × (l.clauses ≡ l.left ++ behind) × (l.found ≡ rest behind l.by.trues l.by.falses (whole behind))

abbrev pub decreases-loop-clause : goal.decreases-loop-clause
decreases-loop-clause l = length l.left
