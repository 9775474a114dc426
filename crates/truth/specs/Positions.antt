-- The positions that a word of decided variables leads to. In the word variable v is bit v - 1.
use Rattle.std.specs.Prelude.{ℕ, ◌-◌, cond, ◌&&◌, length, take, Some, None, Option, nat_le}
use Rattle.truth.specs.Syntax.{Qbf, bound_in, mask_of}
use Rattle.truth.specs.Sets.{inside}
use Rattle.truth.specs.Truth.{rest, whole}

-- The variables of the first k blocks.
abbrev pub decided_by : Qbf → ℕ → ℕ
decided_by f k = mask_of (bound_in (take k f.prefix))

-- What is left of all clauses where, of the variables of the first k blocks, those in the word are true and the others
-- false.
abbrev pub left_by : Qbf → ℕ → ℕ → ℕ
left_by f k word = rest f.matrix word (decided_by f k - word) (whole f.matrix)

-- The set left, or none where there are fewer than k blocks or the word has a variable that is not in the first k.
abbrev pub position_at : Qbf → ℕ → ℕ → Option ℕ
position_at f k word = cond (nat_le k (length f.prefix) && inside word (decided_by f k)) (Some (left_by f k word)) None
