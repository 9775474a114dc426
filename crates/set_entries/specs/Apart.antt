-- Sets of which none lies inside another.
use Rattle.std.specs.Prelude.{ℕ, ◌+◌, ◌-◌, ◌*◌}

-- The bits of i and, below them, those that i lacks, for i below 65,536.
abbrev pub apart_set : ℕ → ℕ
apart_set i = i * 65536 + (65535 - i)
