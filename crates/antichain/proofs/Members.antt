-- The entries of a list, one by one.
use Rattle.std.proofs.Common.{◌≡◌, ℕ, zero, suc, Bool, true, false, List, [], ◌∷◌, Some, None, Option, find, slice_get, subst, arith}
use Rattle.std.specs.List.{AllByRecursion}
use Rattle.std.proofs.lemmas.Bool.{cond_both}
use Rattle.antichain.specs.Lookups.{Mem, Mem.here, Mem.there}

pub all_mem : {E : Type 0} (P : E → Type 0) {x : E} (xs : List E) → AllByRecursion P xs → Mem x xs → P x
all_mem P [] h m = elim m [ ]
all_mem P (x ∷ xs) h here = h.0
all_mem P (y ∷ xs) h (there m) = all_mem P xs h.1 m

pub all-at : {E : Type 0} (P : E → Type 0) (xs : List E) (k : ℕ) (x : E) → AllByRecursion P xs → slice_get xs k ≡ Some x → P x
all-at P [] k x h e = let z : ◌≡◌ {A = ℕ} 0 1 = cc in absurd (omega arith)
all-at P (y ∷ xs) zero x h e = let q : y ≡ x = cc in subst P q h.0
all-at P (y ∷ xs) (suc k) x h e = all-at P xs k x h.1 e

pub both_all : {E : Type 0} (P Q : E → Type 0) (xs : List E) → AllByRecursion P xs → AllByRecursion Q xs → AllByRecursion (λ x. P x × Q x) xs
both_all P Q [] h k = tt
both_all P Q (x ∷ xs) h k = ((h.0, k.0), both_all P Q xs h.1 k.1)

-- the first entry that passes p, or none where none does
abbrev pub Found : {E : Type 0} → (E → Bool) → List E → Option E → Type 0
Found p xs None = AllByRecursion (λ x. p x ≡ false) xs
Found p xs (Some x) = Mem x xs × (p x ≡ true)

found_on : {E : Type 0} (p : E → Bool) (x : E) (xs : List E) (r : Option E) → p x ≡ false → Found p xs r → Found p (x ∷ xs) r
found_on p x xs None k h = (k, h)
found_on p x xs (Some y) k h = (there h.0, h.1)

pub found : {E : Type 0} (p : E → Bool) (xs : List E) → Found p xs (find p xs)
found p [] = tt
found p (x ∷ xs) = cond_both (p x) _ _ (Found p (x ∷ xs)) (λ k. (here, k)) (λ k. found_on p x xs (find p xs) k (found p xs))
