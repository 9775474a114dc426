-- How the two stores lay their entries out in a table.
use Rattle.std.specs.Prelude.{◌≡◌, ℕ, ◌≤◌, Bool, false, List, [], ◌∷◌, length, take, filter, nat_le, slice_index}
use Rattle.std.specs.List.{AllByRecursion}
use Rattle.antichain.specs.declared.entry.Entry as entry
use Rattle.antichain.specs.Limits.{max_level, capacity_of}
use Rattle.antichain.specs.Adding.{placed}
use Rattle.antichain.specs.Antichain.{Apart}

-- Each of the second list put into the first, in turn.
abbrev pub into : {E : Type 0} → (E → E → Bool) → List E → List E → List E
into before ys [] = ys
into before ys (x ∷ xs) = into before (placed before x ys) xs

abbrev pub sorted : {E : Type 0} → (E → E → Bool) → List E → List E
sorted before xs = into before [] xs

-- None comes before one that stands ahead of it.
abbrev pub Ordered : {E : Type 0} → (E → E → Bool) → List E → Type 0
Ordered before [] = Unit {0}
Ordered before (x ∷ xs) = AllByRecursion (λ y. before y x ≡ false) xs × Ordered before xs

-- In order of arrival: the entries are the first len of the table.
abbrev pub arrived : {E : Type 0} → (E → E → Bool) → ℕ → List E → List E
arrived before len table = sorted before (take len table)

pub record Arrived {E : Type 0} (covers before : E → E → Bool) (len : ℕ) (table : List E) : Type 0 where
  pub fits : len ≤ capacity_of table
  pub apart : Apart covers (arrived before len table)

-- The entries of a level of at most l.
abbrev pub upto : {E : Type 0} → (E → ℕ) → ℕ → List E → List E
upto level l xs = filter (λ x. nat_le (level x) l) xs

-- By levels: the entries are those ahead of the last start, and the start at place k is how many have a level of at most k.
abbrev pub grouped : {E : Type 0} → List ℕ → List E → List E
grouped starts table = take (slice_index starts max_level) table

pub record Laid {E : Type 0} (level : E → ℕ) (covers before : E → E → Bool) (capacity : ℕ) (starts : List ℕ) (xs : List E) : Type 0 where
  pub fits : slice_index starts max_level ≤ capacity
  pub counts : (k : ℕ) → k ≤ max_level → slice_index starts k ≡ length (upto level k xs)
  pub ordered : Ordered before xs
  pub apart : Apart covers xs

-- What is so of a table that is kept by levels.
abbrev pub Grouped : {E : Type 0} → entry.Ghosts E → List ℕ → List E → Type 0
Grouped g starts table = Laid g.level g.covers g.before (capacity_of table) starts (grouped starts table)
