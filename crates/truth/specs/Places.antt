-- Blocks by level and clauses by number, both counted from 1.
use Rattle.std.specs.Prelude.{ℕ, zero, suc, List, None, Option}
use Rattle.std.specs.List.{slice_get}

-- The element with this number.
abbrev pub numbered : {A : Type 0} → List A → ℕ → Option A
numbered xs zero = None
numbered xs (suc i) = slice_get xs i
