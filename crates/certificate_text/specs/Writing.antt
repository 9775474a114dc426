-- Texts put into a buffer, one behind the other.
use Rattle.std.specs.Prelude.{◌≡◌, ℕ, ◌+◌, ◌-◌, ◌^◌, List, [], ◌∷◌, min, slice_set}
use Rattle.certificate_text.specs.declared.writer.Writer.{Writer}

-- A count and a buffer once a text was put at the count. A byte past the buffer's end leaves no mark, and the count stays
-- at the greatest number of 64 bits once it is there.
abbrev pub put : List ℕ → ℕ × List ℕ → ℕ × List ℕ
put [] s = s
put (b ∷ bs) s = put bs (min (s.0 + 1) (2 ^ 64 - 1), slice_set s.1 s.0 b)

-- What a writer has.
abbrev pub state : Writer → ℕ × List ℕ
state w = (w.count, w.out.now)

-- A writer put a text into its buffer.
pub record Wrote (old new : Writer) (text : List ℕ) : Type 0 where
  pub same : new.out.ghost_name ≡ old.out.ghost_name
  pub after : state new ≡ put text (state old)

-- No entry's line is so long.
abbrev pub max_line : ℕ
max_line = 2000
