-- What a cursor has left.
use Rattle.std.specs.Prelude.{ℕ, ◌+◌, List, length}
use Rattle.text.specs.declared.lines.Lines.{Lines}
use Rattle.text.specs.declared.fields.Fields.{Fields}
use Rattle.text.specs.Rows.{lines_of, words}

abbrev pub lines_left : Lines → List (List ℕ)
lines_left lines = lines_of lines.rest.now

-- The number of the next line.
abbrev pub next_line : Lines → ℕ
next_line lines = lines.line + 1

abbrev pub fields_left : Fields → List (List ℕ)
fields_left fields = words fields.rest.now

-- How many bytes of a line are left.
abbrev pub bytes_left : Fields → ℕ
bytes_left fields = length fields.rest.now
