-- Members of lists, and what some or all of them pass.
use Rattle.std.proofs.Common.{◌≡◌, ℕ, zero, suc, ◌<◌, Bool, true, false, cond, ◌&&◌, ◌⊎◌, List, [], ◌∷◌, ◌++◌, filter, sym, refl, ap, subst, inl, inr, arith}
use Rattle.std.proofs.lemmas.Bool.{cond_both, both_ways, cases_eq, and_parts, and_from, and_cases, or_left, or_right, or_cases}
use Rattle.truth.specs.WellFormed.{all}
use Rattle.truth.specs.Truth.{any, below}

pub all_append : {A : Type 0} (p : A → Bool) (xs ys : List A) → all p (xs ++ ys) ≡ (all p xs && all p ys)
all_append p [] ys = refl
all_append p (x ∷ xs) ys =
    elim (p x) as (λ t. (t && all p (xs ++ ys)) ≡ ((t && all p xs) && all p ys)) [ true ↦ all_append p xs ys | false ↦ refl ]

pub all_weaker : {A : Type 0} (p q : A → Bool) → ((x : A) → p x ≡ true → q x ≡ true) → (xs : List A) → all p xs ≡ true → all q xs ≡ true
all_weaker p q w [] h = refl
all_weaker p q w (x ∷ xs) h = let r = and_parts (p x) (all p xs) h in simp (w x r.0, all_weaker p q w xs r.1)

pub data Mem {A : Type 0} (x : A) : List A → Type 0 where
  here : {xs : List A} → Mem x (x ∷ xs)
  there : {y : A} {xs : List A} → Mem x xs → Mem x (y ∷ xs)

mem_left : {A : Type 0} {x : A} (xs ys : List A) → Mem x xs → Mem x (xs ++ ys)
mem_left [] ys m = elim m [ ]
mem_left (x ∷ xs) ys here = here
mem_left (y ∷ xs) ys (there m) = there (mem_left xs ys m)

mem_right : {A : Type 0} {x : A} (xs ys : List A) → Mem x ys → Mem x (xs ++ ys)
mem_right [] ys m = m
mem_right (x ∷ xs) ys m = there (mem_right xs ys m)

mem_either : {A : Type 0} {x : A} (xs ys : List A) → Mem x (xs ++ ys) → Mem x xs ⊎ Mem x ys
mem_either [] ys m = inr m
mem_either (x ∷ xs) ys here = inl here
mem_either (x ∷ xs) ys (there m) = elim (mem_either xs ys m) [ inl k ↦ inl (there k) | inr k ↦ inr k ]

pub mem_below : (n v : ℕ) → v < n → Mem v (below n)
mem_below zero v h = absurd (omega arith)
mem_below (suc n) v h =
    elim (cases_eq v n) [
      | inl e ↦ mem_right (below n) (n ∷ []) (subst (λ z. Mem v (z ∷ [])) e here)
      | inr e ↦ mem_left (below n) (n ∷ []) (mem_below n v (omega arith))
    ]

mem_one : {x y : ℕ} → Mem x (y ∷ []) → x ≡ y
mem_one here = refl
mem_one (there m) = elim m [ ]

pub below_mem : (n v : ℕ) → Mem v (below n) → v < n
below_mem zero v m = elim m [ ]
below_mem (suc n) v m =
    elim (mem_either (below n) (n ∷ []) m) [
      | inl k ↦ omega (arith, below_mem n v k)
      | inr k ↦ omega (arith, mem_one k)
    ]

module _ {A : Type 0} (p : A → Bool) where
  pub any-from : {x : A} (xs : List A) → Mem x xs → p x ≡ true → any p xs ≡ true
  any-from [] m e = elim m [ ]
  any-from (x ∷ xs) here e = or_left (p x) _ e
  any-from (y ∷ xs) (there m) e = or_right (p y) _ (any-from xs m e)

  pub any_member : (xs : List A) → any p xs ≡ true → (x : A) × (Mem x xs × (p x ≡ true))
  any_member [] e = absurd (both_ways true (sym e) refl)
  any_member (x ∷ xs) e =
      elim (or_cases (p x) (any p xs) e) [
        | inl k ↦ (x, (here, k))
        | inr k ↦ let r = any_member xs k in (r.0, (there r.1.0, r.1.1))
      ]

  pub all_member : {x : A} (xs : List A) → all p xs ≡ true → Mem x xs → p x ≡ true
  all_member [] e m = elim m [ ]
  all_member (x ∷ xs) e here = (and_parts (p x) (all p xs) e).0
  all_member (y ∷ xs) e (there m) = all_member xs (and_parts (p y) (all p xs) e).1 m

  pub all_from : (xs : List A) → ((x : A) → Mem x xs → p x ≡ true) → all p xs ≡ true
  all_from [] h = refl
  all_from (x ∷ xs) h = and_from _ _ (h x here) (all_from xs (λ y m. h y (there m)))

  pub not_all_member : (xs : List A) → all p xs ≡ false → (x : A) × (Mem x xs × (p x ≡ false))
  not_all_member [] e = absurd (both_ways true e refl)
  not_all_member (x ∷ xs) e =
      elim (and_cases (p x) (all p xs) e) [
        | inl k ↦ (x, (here, k))
        | inr k ↦ let r = not_all_member xs k in (r.0, (there r.1.0, r.1.1))
      ]

  pub mem_kept : {x : A} (xs : List A) → Mem x xs → p x ≡ true → Mem x (filter p xs)
  mem_kept [] m e = elim m [ ]
  mem_kept (x ∷ xs) here e = subst (Mem x) (sym (ap (λ z. cond z (x ∷ filter p xs) (filter p xs)) e)) here
  mem_kept {x} (y ∷ xs) (there m) e =
      cond_both (p y) (y ∷ filter p xs) (filter p xs) (Mem x) (λ _. there (mem_kept xs m e)) (λ _. mem_kept xs m e)

mem_cons : {A : Type 0} {x : A} (y : A) (xs ys : List A) → (Mem x xs → Mem x ys) → Mem x (y ∷ xs) → Mem x (y ∷ ys)
mem_cons y xs ys f here = here
mem_cons y xs ys f (there i) = there (f i)

pub kept_mem : {A : Type 0} (p : A → Bool) {x : A} (xs : List A) → Mem x (filter p xs) → Mem x xs
kept_mem p [] = λ m. elim m [ ]
kept_mem p {x} (y ∷ xs) =
    cond_both (p y) (y ∷ filter p xs) (filter p xs) (λ z. Mem x z → Mem x (y ∷ xs))
    (λ _ m. mem_cons y (filter p xs) xs (kept_mem p xs) m) (λ _ m. there (kept_mem p xs m))
