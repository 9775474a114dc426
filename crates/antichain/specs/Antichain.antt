-- Lists of entries in canonical order of which none covers another.
use Rattle.std.specs.Prelude.{◌≡◌, ℕ, ◌≤◌, Bool, true, false, List, [], ◌∷◌, length}
use Rattle.std.specs.List.{AllByRecursion}

-- None of the list covers e, or is covered by it.
abbrev pub ApartFrom : {E : Type 0} → (E → E → Bool) → E → List E → Type 0
ApartFrom covers e xs = AllByRecursion (λ x. (covers e x ≡ false) × (covers x e ≡ false)) xs

-- None covers another.
abbrev pub Apart : {E : Type 0} → (E → E → Bool) → List E → Type 0
Apart covers [] = Unit {0}
Apart covers (x ∷ xs) = ApartFrom covers x xs × Apart covers xs

-- Each comes before all that follow it.
abbrev pub Ascending : {E : Type 0} → (E → E → Bool) → List E → Type 0
Ascending before [] = Unit {0}
Ascending before (x ∷ xs) = AllByRecursion (λ y. before x y ≡ true) xs × Ascending before xs

-- What a store of this capacity may hold.
pub record Antichain {E : Type 0} (covers before : E → E → Bool) (capacity : ℕ) (xs : List E) : Type 0 where
  pub apart : Apart covers xs
  pub ascending : Ascending before xs
  pub fits : length xs ≤ capacity
