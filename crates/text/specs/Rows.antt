-- How a text is split into lines, and a line into fields.
use Rattle.std.specs.Prelude.{ℕ, ◌-◌, Bool, cond, ◌||◌, List, [], ◌∷◌, length, Some, None, Option, ◌==◌, slice_index}

-- A byte before the first of some rows.
abbrev pub onto : ℕ → List (List ℕ) → List (List ℕ)
onto b [] = (b ∷ []) ∷ []
onto b (r ∷ rs) = (b ∷ r) ∷ rs

-- The rows of a text. Each ends with the mark, which the last may lack.
abbrev pub rows : ℕ → List ℕ → List (List ℕ)
rows mark [] = []
rows mark (b ∷ bs) = cond (b == mark) ([] ∷ rows mark bs) (onto b (rows mark bs))

-- The lines of a text end with byte 10.
abbrev pub lines_of : List ℕ → List (List ℕ)
lines_of text = rows 10 text

-- The rows that are not empty.
abbrev pub kept : List (List ℕ) → List (List ℕ)
kept [] = []
kept ([] ∷ rs) = kept rs
kept ((b ∷ bs) ∷ rs) = (b ∷ bs) ∷ kept rs

-- What one or more spaces (byte 32) divide.
abbrev pub words : List ℕ → List (List ℕ)
words line = kept (rows 32 line)

-- The line begins or ends with a space.
abbrev pub padded : List ℕ → Bool
padded line = slice_index line 0 == 32 || slice_index line (length line - 1) == 32

-- The fields of a line, which neither begins nor ends with a space.
abbrev pub fields_of : List ℕ → Option (List (List ℕ))
fields_of line = cond (padded line) None (Some (words line))
