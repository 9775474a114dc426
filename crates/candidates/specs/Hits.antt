-- What a value of a block satisfies, and when one value is better than another.
use Rattle.std.specs.Prelude.{ℕ, ◌/◌, ◌%◌, ◌^◌, Bool, true, cond, not, ◌&&◌, ◌||◌, List, [], ◌∷◌, length, filter, ◌==◌, bit_or, nat_lt}
use Rattle.truth.specs.declared.literal.Quantifier.{Quantifier}
use Rattle.truth.specs.declared.literal.Quantifier.TheVariants.{Existential, Universal}
use Rattle.truth.specs.Sets.{inside}
use Rattle.truth.specs.Truth.{any, below}
use Rattle.candidates.specs.declared.choice.Choice.{Choice}

-- The clauses that a value satisfies. A value is a binary number, the first variable its highest digit.
abbrev pub hit : List Choice → ℕ → ℕ
hit [] v = 0
hit (c ∷ cs) v = bit_or (cond ((v / 2 ^ length cs) % 2 == 1) c.high c.low) (hit cs v)

-- The hits h are at least as good as g: they contain them, or at a universal level lie inside them.
abbrev pub at_least : Quantifier → ℕ → ℕ → Bool
at_least Existential g h = inside g h
at_least Universal g h = inside h g

-- The hits h of value w are better than the hits g of value v.
abbrev pub better : Quantifier → ℕ → ℕ → ℕ → ℕ → Bool
better q g v h w = at_least q g h && (not (h == g) || nat_lt w v)

-- Some value is better than v.
abbrev pub beaten : Quantifier → List Choice → ℕ → Bool
beaten q cs v = any (λ w. better q (hit cs v) v (hit cs w) w) (below (2 ^ length cs))

-- The values that none beats, ascending.
abbrev pub bests : Quantifier → List Choice → List ℕ
bests q cs = filter (λ v. not (beaten q cs v)) (below (2 ^ length cs))

-- All that some variables can satisfy at most.
abbrev pub reach_of : List Choice → ℕ
reach_of [] = 0
reach_of (c ∷ cs) = c.reach

-- A variable ahead of others.
abbrev pub ahead : ℕ → ℕ → List Choice → Choice
ahead low high cs = record { low = low; high = high; reach = bit_or (bit_or low high) (reach_of cs) }

-- The reach of each variable is what it and those after it satisfy by either value.
abbrev pub reaching : List Choice → Bool
reaching [] = true
reaching (c ∷ cs) = c.reach == bit_or (bit_or c.low c.high) (reach_of cs) && reaching cs

-- The hits h can become at least as good as g by what is within reach: at a universal level they only grow worse.
abbrev pub may_reach : Quantifier → ℕ → ℕ → ℕ → Bool
may_reach Existential g h reach = inside g (bit_or h reach)
may_reach Universal g h reach = inside h g
