-- The candidates of a position, one after another.
use Rattle.std.specs.Prelude.{ℕ, true, false, List, [], ◌∷◌, Option, bit_and}
use Rattle.std.specs.Option.{option_map}
use Rattle.text.specs.Taken.{and_then}
use Rattle.truth.specs.declared.literal.Clause.{Clause}
use Rattle.truth.specs.Syntax.{Qbf}
use Rattle.truth.specs.Places.{numbered}
use Rattle.truth.specs.Truth.{rest_under}
use Rattle.truth.specs.Occurrences.{occurrences}
use Rattle.truth.specs.Candidates.{candidates_at, first_from}
use Rattle.candidates.specs.declared.choice.Choice.{Choice}
use Rattle.candidates.specs.Hits.{ahead}
use Rattle.qbf.specs.declared.candidate.Candidate.{Candidate}

-- What each variable satisfies of a set s, by either value.
abbrev pub offered : List Clause → ℕ → List ℕ → List Choice
offered cs s [] = []
offered cs s (x ∷ xs) = ahead (bit_and s (occurrences false cs x)) (bit_and s (occurrences true cs x)) (offered cs s xs) ∷ offered cs s xs

-- The first candidate of the set s at a level that is not below `from`, with its rest.
abbrev pub next_candidate : Qbf → ℕ → ℕ → ℕ → Option Candidate
next_candidate f level s from =
    and_then (numbered f.prefix level) (λ b. option_map (λ v. record { value = v; rest = rest_under f.matrix b v s }) (first_from from (candidates_at f.matrix b s)))
