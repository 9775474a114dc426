-- The two sides of a position: a verdict of true passes to the sets inside, one of false to the sets around.
use Rattle.std.specs.Prelude.{ℕ, Bool, true, false, not}
use Rattle.truth.specs.declared.literal.Quantifier.{Quantifier}
use Rattle.truth.specs.WellFormed.{existential}
use Rattle.truth.specs.Sets.{inside}

-- The set s lies on the side of t that keeps verdict v.
abbrev pub under : Bool → ℕ → ℕ → Bool
under true s t = inside s t
under false s t = inside t s

-- The verdict for which one value of a block is enough: true for an existential one, false for a universal one.
abbrev pub closing : Quantifier → Bool
closing q = existential q

-- Two verdicts are the same.
abbrev pub agrees : Bool → Bool → Bool
agrees true b = b
agrees false b = not b

-- Whoever holds verdict v chooses the values of blocks with this quantifier.
abbrev pub owes : Bool → Quantifier → Bool
owes v q = agrees v (closing q)
