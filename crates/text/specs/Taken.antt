-- Fields taken one after another.
use Rattle.std.specs.Prelude.{◌≡◌, ℕ, List, [], ◌∷◌, Some, None, Option, Result, MatchResult}
use Rattle.faults.specs.declared.fault.Fault.{Fault}
use Rattle.text.specs.declared.fields.Fields.{Fields}
use Rattle.text.specs.Numeral.{numeral}

-- What f makes of a value, where there is one.
abbrev pub and_then : {A B : Type 0} → Option A → (A → Option B) → Option B
and_then None f = None
and_then (Some a) f = f a

-- The fields after the first.
abbrev pub others : List (List ℕ) → List (List ℕ)
others [] = []
others (w ∷ ws) = ws

-- The first field, and the others.
abbrev pub take_field : List (List ℕ) → Option (List ℕ × List (List ℕ))
take_field [] = None
take_field (w ∷ ws) = Some (w, ws)

-- The number in the first field, and the other fields.
abbrev pub take_number : List (List ℕ) → Option (ℕ × List (List ℕ))
take_number [] = None
take_number (w ∷ ws) = and_then (numeral w) (λ n. Some (n, ws))

-- No field is left.
abbrev pub ended : List (List ℕ) → Option (Unit {0})
ended [] = Some tt
ended (w ∷ ws) = None

-- What was taken of a line is what is due, as a function sees it, or the line's fault where nothing is.
abbrev pub Took : {A B : Type 0} → Fields → Fields → Result A Fault → Option B → (A → B) → Type 0
Took old new result due seen =
    MatchResult result (λ a. due ≡ Some (seen a)) (λ e. (due ≡ None) × (e ≡ old.fault)) × (new.fault ≡ old.fault)
