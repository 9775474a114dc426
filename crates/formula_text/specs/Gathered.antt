-- What a line's numbers or literals leave in a record of fixed size, one after another.
use Rattle.std.specs.Prelude.{ℕ, max, Bool, false, cond, if◌then◌else◌, List, [], ◌∷◌, ◌++◌, length, Some, None, Option, ◌==◌, nat_le, nat_lt}
use Rattle.arrayvec.specs.ArrayVec.{ArrayVec}
use Rattle.truth.specs.declared.literal.Literal.{Literal}
use Rattle.formula_text.specs.declared.gather.Gathered.{Gathered}
use Rattle.truth.specs.Limits.{max_variables, max_width}
use Rattle.truth.specs.Syntax.{with_literal}

-- The numbers of a block line, or none where there are more than a block may bind.
abbrev pub Numbers : Type 0
Numbers = Option (ArrayVec ℕ)

abbrev pub no_numbers : Numbers
no_numbers = Some (record { items = [] })

abbrev pub fitting : List ℕ → Numbers
fitting vs = if nat_le (length vs) max_width then Some (record { items = vs }) else None

-- One number more.
abbrev pub wider : Numbers → ℕ → Numbers
wider None v = None
wider (Some b) v = if nat_lt (length b.items) max_width then Some (record { items = b.items ++ v ∷ [] }) else None

abbrev pub widened : Numbers → List ℕ → Numbers
widened b [] = b
widened b (v ∷ vs) = widened (wider b v) vs

abbrev pub has_none : Numbers → Bool
has_none None = false
has_none (Some b) = length b.items == 0

abbrev pub nothing : Gathered
nothing = record { clause = record { positive = 0; negative = 0 }; highest = 0 }

-- One literal more; a variable above the limit leaves no mark in the masks.
abbrev pub further : Gathered → Literal → Gathered
further g l = record { clause = cond (nat_le l.variable max_variables) (with_literal l g.clause) g.clause; highest = max g.highest l.variable }

abbrev pub gathered : Gathered → List Literal → Gathered
gathered g [] = g
gathered g (l ∷ ls) = gathered (further g l) ls
