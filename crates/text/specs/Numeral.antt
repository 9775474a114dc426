-- What a field writes.
use Rattle.std.specs.Prelude.{ℕ, ◌+◌, ◌-◌, ◌*◌, Bool, cond, not, ◌&&◌, ◌||◌, List, [], ◌∷◌, length, Some, None, Option, ◌==◌, nat_le, nat_lt, slice_index}
use Rattle.std.specs.Str.{all_ascii_digits}

-- One to nine digits, and no zero before others.
abbrev pub plain : List ℕ → Bool
plain ds = nat_lt 0 (length ds) && (nat_le (length ds) 9 && ((not (slice_index ds 0 == 48) || length ds == 1) && all_ascii_digits ds))

-- The number that digits write after those of n.
abbrev pub read_on : ℕ → List ℕ → ℕ
read_on n [] = n
read_on n (c ∷ cs) = read_on (n * 10 + (c - 48)) cs

-- The number that a field writes.
abbrev pub numeral : List ℕ → Option ℕ
numeral ds = cond (plain ds) (Some (read_on 0 ds)) None
