-- Variables bound one after another, as a mask.
use Rattle.std.specs.Prelude.{◌≡◌, ℕ, ◌-◌, ◌^◌, true, cond, ◌&&◌, List, [], ◌∷◌, Some, None, Option, ◌==◌, bit_and, bit_or}
use Rattle.truth.specs.Syntax.{mask_of}
use Rattle.truth.specs.WellFormed.{all, distinct, positive, ranged}

-- The mask with these variables too, or none where one is out of range or in the mask already.
abbrev pub bind_all : ℕ → ℕ → List ℕ → Option ℕ
bind_all highest bound [] = Some bound
bind_all highest bound (v ∷ vs) =
    cond (ranged highest v && bit_and bound (2 ^ (v - 1)) == 0) (bind_all highest (bit_or bound (2 ^ (v - 1))) vs) None

-- The mask of variables from 1 up, none of which stands twice.
abbrev pub Binds : ℕ → List ℕ → Type 0
Binds bound vs = (bound ≡ mask_of vs) × (distinct vs ≡ true) × (all positive vs ≡ true)
