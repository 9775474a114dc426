-- Sets as numbers: element c adds 2 ^ (c - 1).
use Rattle.std.specs.Prelude.{ℕ, Bool, not, ◌&&◌, ◌==◌, bit_and}

abbrev pub inside : ℕ → ℕ → Bool
inside a b = bit_and a b == a

-- Inside, and not equal.
abbrev pub strictly_inside : ℕ → ℕ → Bool
strictly_inside a b = inside a b && not (a == b)
