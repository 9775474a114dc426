-- Who gives the value of the next block.
use Rattle.std.specs.Prelude.{ℕ, ◌^◌, Bool, true, false, cond, not, List, [], ◌∷◌, length, Some, None, Option, nat_lt}
use Rattle.truth.specs.Syntax.{Block}
use Rattle.truth.specs.Sides.{owes}
use Rattle.certificate.specs.declared.mover.Mover.{Mover}
use Rattle.certificate.specs.declared.mover.Mover.TheVariants.{Holder, Other}

-- The holder of verdict v gives the values of the blocks at which a reply is owed, the other side gives those of the others.
abbrev pub mover_of : Bool → List Block → Option Mover
mover_of v [] = None
mover_of v (b ∷ bs) = Some (cond (owes v b.quantifier) Holder Other)

-- A reply of the holder is due.
abbrev pub reply_due : Bool → List Block → Bool
reply_due v [] = false
reply_due v (b ∷ bs) = owes v b.quantifier

-- A value of the other side is due.
abbrev pub value_due : Bool → List Block → Bool
value_due v [] = false
value_due v (b ∷ bs) = not (owes v b.quantifier)

-- Nothing is due.
abbrev pub nothing_due : List Block → Bool
nothing_due [] = true
nothing_due (b ∷ bs) = false

-- A value of the first of these blocks: below 2 ^ k at width k.
abbrev pub is_value : List Block → ℕ → Bool
is_value [] w = false
is_value (b ∷ bs) w = nat_lt w (2 ^ length b.variables)
