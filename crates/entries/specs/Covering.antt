-- When one entry covers another.
use Rattle.std.specs.Prelude.{ℕ, Bool, ◌&&◌, nat_le}
use Rattle.antichain.specs.Limits.{max_level}
use Rattle.truth.specs.Sides.{under}
use Rattle.entries.specs.declared.entry.Entry.{Entry}

-- A level that stores know.
abbrev pub storable : Entry → Bool
storable e = nat_le 1 e.level && nat_le e.level max_level

-- An entry for verdict v with the set s covers the set t: for true when t lies inside s, for false when s lies inside t.
abbrev pub covering : Bool → ℕ → ℕ → Bool
covering v s t = under v t s
