-- What lines and fields are, said without splitting: how a text is put together from its lines, and a line from its
-- fields.
use Rattle.std.specs.Prelude.{ℕ, suc, ◌<◌, List, [], ◌∷◌, ◌++◌, length, replicate, ◌≢◌}
use Rattle.std.specs.List.{AllByRecursion}

-- The byte does not occur.
abbrev pub Without : ℕ → List ℕ → Type 0
Without b bs = AllByRecursion (λ x. x ≢ b) bs

-- A text and its lines. Each line ends with byte 10, which the last may lack if it is not empty.
pub data Lines : List ℕ → List (List ℕ) → Type 0 where
  none : Lines [] []
  last : {l : List ℕ} → 0 < length l → Without 10 l → Lines l (l ∷ [])
  more : {l text : List ℕ} {ls : List (List ℕ)} → Without 10 l → Lines text ls → Lines (l ++ 10 ∷ text) (l ∷ ls)

-- One or more bytes, none of them a space.
abbrev pub Field : List ℕ → Type 0
Field f = (0 < length f) × Without 32 f

-- One or more fields, with one or more spaces (byte 32) between each two.
pub data Spaced : List (List ℕ) → List ℕ → Type 0 where
  one : {f : List ℕ} → Field f → Spaced (f ∷ []) f
  more : {f line : List ℕ} {fs : List (List ℕ)} (k : ℕ) → Field f → Spaced fs line → Spaced (f ∷ fs) (f ++ (replicate (suc k) 32 ++ line))
