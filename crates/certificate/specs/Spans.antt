-- Where among some entries those of each level stand.
use Rattle.std.specs.Prelude.{◌≡◌, ℕ, ◌+◌, ◌≤◌, Bool, false, cond, List, take, drop, ◌==◌, slice_index_or}
use Rattle.truth.specs.Limits.{max_blocks}
use Rattle.truth.specs.Truth.{any}
use Rattle.entries.specs.declared.entry.Entry.{Entry}
use Rattle.certificate.specs.declared.index.Span.{Span}

abbrev pub at_level : ℕ → Entry → Bool
at_level level e = e.level == level

-- Of the first n entries those of a level stand in a span.
abbrev pub Within : List Entry → ℕ → ℕ → Span → Type 0
Within es n level s =
    (s.start ≤ s.end) × (s.end ≤ n) × (any (at_level level) (take s.start es) ≡ false) × (any (at_level level) (drop s.end (take n es)) ≡ false)

-- So it is for every level that a formula can have.
abbrev pub Spanned : List Entry → ℕ → List Span → Type 0
Spanned es n spans = (level : ℕ) (d : Span) → level ≤ max_blocks → Within es n level (slice_index_or spans level d)

-- A span up to place i: it begins there where it ends before any place.
abbrev pub reaching : ℕ → Span → Span
reaching i s = record { start = cond (s.end == 0) i s.start; end = i + 1 }
