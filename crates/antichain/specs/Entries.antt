-- What a kind of entry has to keep.
use Rattle.std.specs.Prelude.{◌≡◌, ℕ, ◌≤◌, Bool, true, false, if◌then◌else◌, ◌==◌, nat_lt}
use Rattle.antichain.specs.Limits.{max_level}

-- The canonical order, of a level and set number against another: by level, then by set number.
abbrev pub comes_before : ℕ → ℕ → ℕ → ℕ → Bool
comes_before l s m t = if nat_lt l m then true else (if l == m then nat_lt s t else false)

-- Covering by a test of the two set numbers, within a level.
abbrev pub covers_by : (ℕ → ℕ → Bool) → ℕ → ℕ → ℕ → ℕ → Bool
covers_by test l s m t = if l == m then test s t else false

-- The laws of entries. What else an entry carries plays no part in them.
pub record Rules {E : Type 0} (level set : E → ℕ) (covers before : E → E → Bool) : Type 0 where
  pub least : (x : E) → 1 ≤ level x
  pub most : (x : E) → level x ≤ max_level
  -- covering is reflexive, transitive and within a level
  pub itself : (x : E) → covers x x ≡ true
  pub passes : (x y z : E) → covers x y ≡ true → covers y z ≡ true → covers x z ≡ true
  pub within : (x y : E) → covers x y ≡ true → level x ≡ level y
  -- entries cover each other exactly when level and set number are equal
  pub alike : (x y : E) → level x ≡ level y → set x ≡ set y → covers x y ≡ true
  pub same : (x y : E) → covers x y ≡ true → covers y x ≡ true → set x ≡ set y
  -- coming before is the strict order on level and then set number
  pub order : (x y : E) → before x y ≡ comes_before (level x) (set x) (level y) (set y)
