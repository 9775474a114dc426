-- How many entries can be listed.
use Rattle.std.specs.Prelude.{ℕ}

abbrev pub max_listed : ℕ
max_listed = 65536
