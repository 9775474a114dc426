-- How many levels there are, and how much a store may hold.
use Rattle.std.specs.Prelude.{ℕ, min, List, length}

-- Levels go from 1 to this.
abbrev pub max_level : ℕ
max_level = 16

abbrev pub max_entries : ℕ
max_entries = 65536

-- The capacity of a store over a table: further places stay unused.
abbrev pub capacity_of : {E : Type 0} → List E → ℕ
capacity_of table = min (length table) max_entries
