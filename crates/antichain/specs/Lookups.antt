-- What a look-up among entries tells.
use Rattle.std.specs.Prelude.{◌≡◌, Bool, true, false, if◌then◌else◌, List, [], ◌∷◌, Some, None, Option}

-- Some entry of the list covers e.
abbrev pub covered : {E : Type 0} → (E → E → Bool) → List E → E → Bool
covered covers [] e = false
covered covers (x ∷ xs) e = if covers x e then true else covered covers xs e

pub data Mem {E : Type 0} (x : E) : List E → Type 0 where
  here : {xs : List E} → Mem x (x ∷ xs)
  there : {y : E} {xs : List E} → Mem x xs → Mem x (y ∷ xs)

-- A look-up of e tells an entry of the list that covers e, or none where none does.
abbrev pub Told : {E : Type 0} → (E → E → Bool) → List E → E → Option E → Type 0
Told covers xs e None = covered covers xs e ≡ false
Told covers xs e (Some x) = Mem x xs × (covers x e ≡ true)
