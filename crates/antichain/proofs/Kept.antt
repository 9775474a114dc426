-- What a test keeps of a list, and how much.
use Rattle.std.proofs.Common.{◌≡◌, ◌+◌, ◌≤◌, Bool, true, false, cond, List, [], ◌∷◌, length, filter, sym, refl, inl, inr, arith}
use Rattle.std.proofs.lemmas.Bool.{cond_both, cases_Bool}
use Rattle.std.proofs.lemmas.List.Sums.{length-filter, count_by-le-length}
use Rattle.antichain.specs.Lookups.{Mem, Mem.here, Mem.there}

pub length-kept : {E : Type 0} (p : E → Bool) (xs : List E) → length (filter p xs) ≤ length xs
length-kept p xs = omega (arith, length-filter p xs, count_by-le-length p xs)

pub kept_same : {E : Type 0} (p : E → Bool) (xs : List E) → length xs ≤ length (filter p xs) → filter p xs ≡ xs
kept_same p [] h = refl
kept_same p (x ∷ xs) h =
    elim (cases_Bool (p x)) [
      | inl k ↦ let j : length xs ≤ length (filter p xs) = (let i = simp k at h in omega arith) in simp (k, kept_same p xs j)
      | inr k ↦ let i = simp k at h in absurd (omega (arith, i, length-kept p xs))
    ]

module _ {E : Type 0} (p q : E → Bool) where
  -- what passes p passes q
  pub kept_sure : ((x : E) → p x ≡ true → q x ≡ true) → (xs : List E) → filter q (filter p xs) ≡ filter p xs
  kept_sure h [] = refl
  kept_sure h (x ∷ xs) = elim (cases_Bool (p x)) [ inl k ↦ simp (k, h x k, kept_sure h xs) | inr k ↦ simp (k, kept_sure h xs) ]

  pub kept_both : (r : E → Bool) → ((x : E) → cond (q x) (p x) false ≡ r x) → (xs : List E) → filter p (filter q xs) ≡ filter r xs
  kept_both r h [] = refl
  kept_both r h (x ∷ xs) =
      let k = h x in
      elim (cases_Bool (q x)) [
        | inl m ↦ elim (cases_Bool (p x)) [ inl n ↦ simp (m, n, sym (simp (m, n) at k), kept_both r h xs) | inr n ↦ simp (m, n, sym (simp (m, n) at k), kept_both r h xs) ]
        | inr m ↦ simp (m, sym (simp m at k), kept_both r h xs)
      ]

  -- p passes all that q leaves out, and none of it
  pub count_out : ((x : E) → q x ≡ false → p x ≡ true) → (xs : List E) → length (filter p (filter q xs)) + length xs ≡ length (filter p xs) + length (filter q xs)
  count_out h [] = refl
  count_out h (x ∷ xs) =
      elim (cases_Bool (q x)) [
        | inl k ↦ elim (cases_Bool (p x)) [ inl m ↦ simp (k, m) (omega (arith, count_out h xs)) | inr m ↦ simp (k, m) (omega (arith, count_out h xs)) ]
        | inr k ↦ simp (k, h x k) (omega (arith, count_out h xs))
      ]

  pub count_in : ((x : E) → q x ≡ false → p x ≡ false) → (xs : List E) → length (filter p (filter q xs)) ≡ length (filter p xs)
  count_in h [] = refl
  count_in h (x ∷ xs) =
      elim (cases_Bool (q x)) [
        | inl k ↦ elim (cases_Bool (p x)) [ inl m ↦ simp (k, m) (omega (arith, count_in h xs)) | inr m ↦ simp (k, m) (count_in h xs) ]
        | inr k ↦ simp (k, h x k) (count_in h xs)
      ]

mem_cons : {E : Type 0} {x y : E} {xs ys : List E} → (Mem x xs → Mem x ys) → Mem x (y ∷ xs) → Mem x (y ∷ ys)
mem_cons f here = here
mem_cons f (there m) = there (f m)

pub mem_kept : {E : Type 0} {x : E} (p : E → Bool) (xs : List E) → Mem x (filter p xs) → Mem x xs
mem_kept p [] m = m
mem_kept {x} p (y ∷ ys) m = cond_both (p y) _ _ (λ l. Mem x l → Mem x (y ∷ ys)) (λ _. mem_cons (mem_kept p ys)) (λ _ n. there (mem_kept p ys n)) m
