-- The line that a fault stands in.
use Rattle.std.specs.Prelude.{◌≡◌, ℕ, ◌-◌, cond, List, [], ◌∷◌, Some, None, Option, ◌==◌}
use Rattle.std.specs.Borrow.{Bor}
use Rattle.faults.specs.declared.fault.Fault.{Fault}
use Rattle.faults.specs.declared.layer.Layer.TheVariants.{Formula, Certificate, Check, Session, Play, Program}
use Rattle.faults.specs.Refusals.{layer_of, number_of}
use Rattle.text.specs.Rows.{lines_of}

-- A part is handed out just where there is one, and holds it.
abbrev pub Hands : Option (Bor (List ℕ)) → Option (List ℕ) → Type 0
Hands None o = o ≡ None
Hands (Some r) o = o ≡ Some r.now

-- The k-th line, from 1.
abbrev pub line_at : ℕ → List (List ℕ) → Option (List ℕ)
line_at k [] = None
line_at k (l ∷ ls) = cond (k == 1) (Some l) (line_at (k - 1) ls)

-- Faults of the formula stand in its text, those of the certificate in its own, and so does an entry that is not
-- supported. The other faults stand in no line.
abbrev pub faulty_line : Fault → List ℕ → List ℕ → Option (List ℕ)
faulty_line e formula certificate =
    elim (layer_of e.cause) [
      | Formula ↦ line_at e.line (lines_of formula)
      | Certificate ↦ line_at e.line (lines_of certificate)
      | Check ↦ cond (number_of e.cause == 21) (line_at e.line (lines_of certificate)) None
      | Session ↦ None
      | Play ↦ None
      | Program ↦ None
    ]
