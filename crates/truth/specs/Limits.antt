-- How large a formula may be.
use Rattle.std.specs.Prelude.{ℕ}

abbrev pub max_variables : ℕ
max_variables = 64

abbrev pub max_clauses : ℕ
max_clauses = 128

abbrev pub max_blocks : ℕ
max_blocks = 16

-- The variables in one block.
abbrev pub max_width : ℕ
max_width = 12

-- The variables bound by a formula that is decided by trying every assignment.
abbrev pub max_decided : ℕ
max_decided = 20
