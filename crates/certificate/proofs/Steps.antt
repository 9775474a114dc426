-- The steps of loops over entries.
use Rattle.std.proofs.Common.{◌≡◌, ℕ, zero, suc, ◌<◌, Bool, true, false, cond, ◌||◌, List, [], ◌∷◌, ◌++◌, length, is_some, Some, None, Option, Bor, refl, inl, inr, arith}
use Rattle.std.specs.List.{find, AllWithin, HoldsAt}
use Rattle.std.specs.Option.{MatchOption, option_copied}
use Rattle.std.proofs.lemmas.Bool.{cases_Bool, both_ways}
use Rattle.truth.specs.Truth.{any}
use Rattle.truth.proofs.Members.{Mem, Mem.here, Mem.there}

-- What a search over a slice comes to.
module _ {A : Type 0} (p : A → Bool) where
  abbrev Fails : A → Type 0
  Fails x = p x ≡ false

  none_passes : (xs : List A) → AllWithin Fails xs 0 (length xs) → None ≡ find p xs
  none_passes [] h = refl
  none_passes (x ∷ xs) h = rw (h 0 x (omega arith) (omega arith)) (none_passes xs (λ k d a b. h (suc k) d (omega arith) (omega arith)))

  first_passes : (xs : List A) (y : A) (i : ℕ) → p y ≡ true → i < length xs → HoldsAt (λ x. x ≡ y) xs i → AllWithin Fails xs 0 i → Some y ≡ find p xs
  first_passes [] y i k l e h = absurd (omega arith)
  first_passes (x ∷ xs) y zero k l e h = let same : x ≡ y = e x in rw (same, k) refl
  first_passes (x ∷ xs) y (suc i) k l e h =
      rw (h 0 x (omega arith) (omega arith)) (first_passes xs y i k (omega arith) (λ d. e d) (λ j d a b. h (suc j) d (omega arith) (omega arith)))

  pub first_found : (xs : List A) (r : Option (Bor A)) → MatchOption r (AllWithin Fails xs 0 (length xs)) (λ b. (p b.now ≡ true) × (i : ℕ) × (i < length xs) × HoldsAt (λ x. x ≡ b.now) xs i × AllWithin Fails xs 0 i) →
      option_copied r ≡ find p xs
  first_found xs None h = none_passes xs h
  first_found xs (Some b) h = first_passes xs b.now h.1 h.0 h.2 h.3 h.4

module _ {A : Type 0} (p : A → Bool) where
  -- Some element passes just where there is a first one.
  pub first_some : (xs : List A) → is_some (find p xs) ≡ any p xs
  first_some [] = refl
  first_some (x ∷ xs) =
      elim (p x) as (λ t. is_some (cond t (Some x) (find p xs)) ≡ (t || any p xs)) [ true ↦ refl | false ↦ first_some xs ]

  -- The first one is a member, and passes.
  pub first_member : (xs : List A) (x : A) → find p xs ≡ Some x → Mem x xs × (p x ≡ true)
  first_member [] x e = let z : ◌≡◌ {A = Bool} true false = cc in absurd (both_ways true z refl)
  first_member (y ∷ xs) x e =
      elim (cases_Bool (p y)) [
        | inl k ↦ let same : y ≡ x = (let s = rw k at e in cc) in rw (← same) (here, k)
        | inr k ↦ let r = first_member xs x (rw k at e) in (there r.0, r.1)
      ]

  -- What fails the test stands neither before nor behind the first that passes.
  pub first_behind : (xs ys : List A) → any p xs ≡ false → find p (xs ++ ys) ≡ find p ys
  first_behind [] ys e = refl
  first_behind (x ∷ xs) ys e =
      elim (cases_Bool (p x)) [
        | inl k ↦ absurd (both_ways true (rw k at e) refl)
        | inr k ↦ rw k (first_behind xs ys (rw k at e))
      ]

  pub first_before : (xs ys : List A) → any p ys ≡ false → find p (xs ++ ys) ≡ find p xs
  first_before [] [] e = refl
  first_before [] (y ∷ ys) e =
      elim (cases_Bool (p y)) [
        | inl k ↦ absurd (both_ways true (rw k at e) refl)
        | inr k ↦ rw k (first_before [] ys (rw k at e))
      ]
  first_before (x ∷ xs) ys e = elim (cases_Bool (p x)) [ inl k ↦ rw k refl | inr k ↦ rw k (first_before xs ys e) ]
