-- Where literals occur: sets of clauses, by which a value settles clauses without looking at them.
use Rattle.std.specs.Prelude.{ℕ, ◌+◌, ◌-◌, ◌*◌, ◌/◌, ◌%◌, ◌^◌, Bool, true, false, List, [], ◌∷◌, length, ◌==◌, bit_or}
use Rattle.truth.specs.declared.literal.Clause.{Clause}

-- The variables whose literals in a clause are true where the variables have this truth value.
abbrev pub satisfiers : Bool → Clause → ℕ
satisfiers true c = c.positive
satisfiers false c = c.negative

-- The clauses that variable v satisfies by this truth value.
abbrev pub occurrences : Bool → List Clause → ℕ → ℕ
occurrences so [] v = 0
occurrences so (c ∷ cs) v = (satisfiers so c / 2 ^ (v - 1)) % 2 + 2 * occurrences so cs v

-- The clauses that a value of these variables satisfies.
abbrev pub settled : List Clause → List ℕ → ℕ → ℕ
settled cs [] v = 0
settled cs (x ∷ xs) v = bit_or (occurrences ((v / 2 ^ length xs) % 2 == 1) cs x) (settled cs xs v)
