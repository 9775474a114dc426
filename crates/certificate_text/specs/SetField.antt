-- The set field of an entry line: clause numbers, ascending, joined by commas, or `-` for none.
use Rattle.std.specs.Prelude.{ℕ, ◌+◌, ◌-◌, ◌^◌, Bool, true, cond, ◌&&◌, List, [], ◌∷◌, length, Some, None, Option, ◌==◌, nat_le, nat_lt, slice_index}
use Rattle.std.specs.List.{slice_split}
use Rattle.text.specs.Numeral.{numeral}
use Rattle.text.specs.Taken.{and_then}

-- The field `-` (byte 45), which stands for nothing.
abbrev pub is_dash : List ℕ → Bool
is_dash w = length w == 1 && slice_index w 0 == 45

-- What stands between commas (byte 44), before the first and after the last.
abbrev pub pieces : List ℕ → List (List ℕ)
pieces w = slice_split (λ b. b == 44) w

-- The numbers that some texts write, where each writes one.
abbrev pub numerals : List (List ℕ) → Option (List ℕ)
numerals [] = Some []
numerals (w ∷ ws) = and_then (numeral w) (λ n. and_then (numerals ws) (λ ns. Some (n ∷ ns)))

-- The numbers of a field of the right form.
abbrev pub clauses_of : List ℕ → Option (List ℕ)
clauses_of w = cond (is_dash w) (Some []) (numerals (pieces w))

-- Each number is above the one before, the first above `last`, and none is above the highest.
abbrev pub ascending : ℕ → ℕ → List ℕ → Bool
ascending highest last [] = true
ascending highest last (c ∷ cs) = (nat_lt last c && nat_le c highest) && ascending highest c cs

-- The set number: clause c adds 2 ^ (c - 1).
abbrev pub set_of : List ℕ → ℕ
set_of [] = 0
set_of (c ∷ cs) = 2 ^ (c - 1) + set_of cs

-- The set of some clauses, or none where they do not ascend from 1 to the highest at most.
abbrev pub set_up_to : ℕ → List ℕ → Option ℕ
set_up_to highest cs = cond (ascending highest 0 cs) (Some (set_of cs)) None

-- The set that the first field writes, and the other fields.
abbrev pub take_set : ℕ → List (List ℕ) → Option (Option ℕ × List (List ℕ))
take_set highest [] = None
take_set highest (w ∷ ws) = and_then (clauses_of w) (λ cs. Some (set_up_to highest cs, ws))
