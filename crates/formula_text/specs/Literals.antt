-- What the fields of a block line or a clause line write: numbers or literals, and then 0.
use Rattle.std.specs.Prelude.{◌≡◌, ℕ, ◌≤◌, true, false, cond, List, [], ◌∷◌, drop, Some, None, Ok, Err, Option, Result, ◌==◌, slice_index}
use Rattle.faults.specs.declared.fault.Fault.{Fault}
use Rattle.text.specs.Numeral.{numeral}
use Rattle.text.specs.Taken.{and_then, ended}
use Rattle.truth.specs.declared.literal.Literal.{Literal}

-- A variable's number, after `-` (byte 45) if negated; 0 has no negation.
abbrev pub literal_of : List ℕ → Option Literal
literal_of w =
    cond (slice_index w 0 == 45)
    (and_then (numeral (drop 1 w)) (λ n. cond (n == 0) None (Some (record { negative = true; variable = n }))))
    (and_then (numeral w) (λ n. Some (record { negative = false; variable = n })))

abbrev pub prepend : Literal → Option (List Literal) → Option (List Literal)
prepend l o = and_then o (λ ls. Some (l ∷ ls))

-- The literals before a 0 that ends the line.
abbrev pub literals_of : List (List ℕ) → Option (List Literal)
literals_of [] = None
literals_of (w ∷ ws) =
    and_then (literal_of w) (λ l. cond (l.variable == 0) (and_then (ended ws) (λ _. Some [])) (prepend l (literals_of ws)))

-- The variables of literals, none of which is negated.
abbrev pub positives : List Literal → Option (List ℕ)
positives [] = Some []
positives (l ∷ ls) = cond l.negative None (and_then (positives ls) (λ vs. Some (l.variable ∷ vs)))

-- One or more of something.
abbrev pub some : List ℕ → Option (List ℕ)
some [] = None
some (v ∷ vs) = Some (v ∷ vs)

-- The numbers, from 1 up, before a 0 that ends the line.
abbrev pub numbers_of : List (List ℕ) → Option (List ℕ)
numbers_of ws = and_then (and_then (literals_of ws) positives) some

-- What taking the next literal from some fields tells of them: the last was taken, or one and these are left.
abbrev pub Yields : Fault → List (List ℕ) → List (List ℕ) → Result (Option Literal) Fault → Type 0
Yields at ws left (Ok None) = literals_of ws ≡ Some []
Yields at ws left (Ok (Some l)) = (literals_of ws ≡ prepend l (literals_of left)) × (1 ≤ l.variable)
Yields at ws left (Err e) = (literals_of ws ≡ None) × (e ≡ at)
