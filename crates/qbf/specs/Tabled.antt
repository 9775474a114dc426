-- A table of what each variable satisfies.
use Rattle.std.specs.Prelude.{◌≡◌, ℕ, ◌+◌, ◌<◌, true, false, List, length, Some}
use Rattle.std.specs.List.{slice_get}
use Rattle.truth.specs.declared.literal.Clause.{Clause}
use Rattle.truth.specs.Limits.{max_variables}
use Rattle.truth.specs.Occurrences.{occurrences}
use Rattle.qbf.specs.declared.occurrences.Occurrence.{Occurrence}

-- What variable v satisfies.
abbrev pub occurrence_of : List Clause → ℕ → Occurrence
occurrence_of cs v = record { positive = occurrences true cs v; negative = occurrences false cs v }

-- At place k stands what variable k + 1 satisfies.
abbrev pub Tabled : List Clause → List Occurrence → Type 0
Tabled cs table = (length table ≡ max_variables) × ((k : ℕ) → k < max_variables → slice_get table k ≡ Some (occurrence_of cs (k + 1)))
