-- Values variable by variable: the hits so far, and the digits so far as a number.
use Rattle.std.specs.Prelude.{ℕ, ◌+◌, ◌*◌, Bool, cond, not, ◌&&◌, ◌||◌, List, [], ◌∷◌, Some, None, Option, bit_or, nat_le}
use Rattle.truth.specs.declared.literal.Quantifier.{Quantifier}
use Rattle.candidates.specs.declared.choice.Choice.{Choice}
use Rattle.candidates.specs.declared.choice.Hit.{Hit}
use Rattle.candidates.specs.Hits.{better}

-- Some value that goes on so passes a test of its hits and itself.
abbrev pub some_hit : (ℕ → ℕ → Bool) → List Choice → ℕ → ℕ → Bool
some_hit p [] h w = p h w
some_hit p (c ∷ cs) h w = some_hit p cs (bit_or h c.low) (2 * w) || some_hit p cs (bit_or h c.high) (2 * w + 1)

abbrev pub or_else : {A : Type 0} → Option A → Option A → Option A
or_else None o = o
or_else (Some a) o = Some a

-- The lowest value that goes on so and passes a test.
abbrev pub first_hit : (ℕ → ℕ → Bool) → List Choice → ℕ → ℕ → Option Hit
first_hit p [] h w = cond (p h w) (Some (record { value = w; hits = h })) None
first_hit p (c ∷ cs) h w = or_else (first_hit p cs (bit_or h c.low) (2 * w)) (first_hit p cs (bit_or h c.high) (2 * w + 1))

-- Not below `from`, and not beaten by any value.
abbrev pub good : Quantifier → List Choice → ℕ → ℕ → ℕ → Bool
good q all from h w = nat_le from w && not (some_hit (better q h w) all 0 0)

-- A walk through all variables comes to the ones left with these hits and these digits.
pub data Walked (all : List Choice) : List Choice → ℕ → ℕ → Type 0 where
  begun : Walked all all 0 0
  low : {c : Choice} {cs : List Choice} {h w : ℕ} → Walked all (c ∷ cs) h w → Walked all cs (bit_or h c.low) (2 * w)
  high : {c : Choice} {cs : List Choice} {h w : ℕ} → Walked all (c ∷ cs) h w → Walked all cs (bit_or h c.high) (2 * w + 1)
