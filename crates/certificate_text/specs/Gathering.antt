-- What the numbers of a set field leave in a pair of fixed size, one after another.
use Rattle.std.specs.Prelude.{ℕ, ◌+◌, ◌-◌, ◌^◌, ◌&&◌, List, [], ◌∷◌, Some, None, Option, nat_le, nat_lt, if◌then◌else◌}
use Rattle.std.specs.Option.{option_map}
use Rattle.text.specs.Taken.{and_then}

-- The empty set, after no clause.
abbrev pub nothing : ℕ × ℕ
nothing = (0, 0)

-- A set and its last clause with one clause more, or none where that is out of range or order.
abbrev pub further : ℕ → ℕ × ℕ → ℕ → Option (ℕ × ℕ)
further highest g c = if nat_lt g.1 c && nat_le c highest then Some (g.0 + 2 ^ (c - 1), c) else None

-- The clauses added one by one, while all are in range and order.
abbrev pub gathered : ℕ → Option (ℕ × ℕ) → List ℕ → Option (ℕ × ℕ)
gathered highest g [] = g
gathered highest g (c ∷ cs) = gathered highest (and_then g (λ a. further highest a c)) cs

-- The set of what was gathered.
abbrev pub set_from : Option (ℕ × ℕ) → Option ℕ
set_from g = option_map (λ a. a.0) g
