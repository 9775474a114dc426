use Rattle.std.proofs.Common.{◌≡◌, ℕ, ◌+◌, ◌<◌, length, Some}
use Rattle.std.specs.List.{slice_get}
use Rattle.truth.specs.Limits.{max_variables}
use Rattle.qbf.specs.Tabled.{occurrence_of}
use Rattle.qbf.proofs.occurrences.Occurrences.of.Given as goal

-- The places before k are filled.
abbrev pub invariant-loop-k : goal.invariant-loop-k
invariant-loop-k l =
    (length l.place-items ≡ max_variables)
    × ((j : ℕ) → j < l.k → slice_get l.place-items j ≡ Some (occurrence_of l.clauses (j + 1)))
