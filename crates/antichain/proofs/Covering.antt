-- Which entries cover which, and what a look-up tells.
use Rattle.std.proofs.Common.{◌≡◌, Bool, true, false, List, [], ◌∷◌, is_some, Some, None, filter, Option, sym, refl, ◌∙◌, inl, inr}
use Rattle.std.specs.List.{AllByRecursion}
use Rattle.std.proofs.ByRecursion.{all_kept_by}
use Rattle.std.proofs.lemmas.Bool.{cond_both, cases_Bool, both_ways}
use Rattle.antichain.specs.Lookups.{covered, Mem, Mem.here, Mem.there, Told}
use Rattle.antichain.specs.Adding.{placed}
use Rattle.antichain.specs.Antichain.{ApartFrom, Apart}
use Rattle.antichain.specs.Layouts.{sorted}
use Rattle.antichain.proofs.Members.{Found}
use Rattle.antichain.proofs.Kept.{mem_kept}
use Rattle.antichain.proofs.Sorting.{all_placed, all-into, mem_into}

module _ {E : Type 0} (c : E → E → Bool) where
  pub covered-false : (e : E) (xs : List E) → AllByRecursion (λ x. c x e ≡ false) xs → covered c xs e ≡ false
  covered-false e [] h = refl
  covered-false e (x ∷ xs) h = simp (h.0, covered-false e xs h.1)

  pub covered-true : {x : E} (e : E) (xs : List E) → Mem x xs → c x e ≡ true → covered c xs e ≡ true
  covered-true e [] m k = elim m [ ]
  covered-true e (x ∷ xs) here k = simp k
  covered-true e (x ∷ xs) (there h) k = cond_both (c x e) _ _ (λ t. t ≡ true) (λ _. refl) (λ _. covered-true e xs h k)

  pub uncovered-all : (e : E) (xs : List E) → covered c xs e ≡ false → AllByRecursion (λ x. c x e ≡ false) xs
  uncovered-all e [] h = tt
  uncovered-all e (x ∷ xs) h =
      elim (cases_Bool (c x e)) [ inl k ↦ absurd (both_ways true (simp k at h) refl) | inr k ↦ (k, uncovered-all e xs (simp k at h)) ]

  pub apart_kept : (p : E → Bool) (xs : List E) → Apart c xs → Apart c (filter p xs)
  apart_kept p [] a = tt
  apart_kept p (x ∷ xs) a =
      cond_both (p x) _ _ (Apart c) (λ _. (all_kept_by p _ xs a.0, apart_kept p xs a.1)) (λ _. apart_kept p xs a.1)

  pub apart_placed : (b : E → E → Bool) (e : E) (ys : List E) → Apart c ys → ApartFrom c e ys → Apart c (placed b e ys)
  apart_placed b e [] a h = (tt, tt)
  apart_placed b e (y ∷ ys) a h =
      cond_both (b e y) _ _ (Apart c) (λ _. (h, a))
      (λ _. (all_placed b _ e ys (h.0.1, h.0.0) a.0, apart_placed b e ys a.1 h.1))

  pub told_found : (e : E) (xs : List E) (r : Option E) → Found (λ x. c x e) xs r → Told c xs e r
  told_found e xs None h = covered-false e xs h
  told_found e xs (Some x) h = h

  pub told_some : (xs : List E) (e : E) (r : Option E) → Told c xs e r → is_some r ≡ true → covered c xs e ≡ true
  told_some xs e None t h = absurd (both_ways false refl h)
  told_some xs e (Some x) t h = covered-true e xs t.0 t.1

  pub told_none : (xs : List E) (e : E) (r : Option E) → Told c xs e r → is_some r ≡ false → covered c xs e ≡ false
  told_none xs e None t h = t
  told_none xs e (Some x) t h = absurd (both_ways true h refl)

  pub told_is : (xs : List E) (e : E) (r : Option E) → Told c xs e r → is_some r ≡ covered c xs e
  told_is xs e None t = sym t
  told_is xs e (Some x) t = sym (covered-true e xs t.0 t.1)

covered-kept : {E : Type 0} (c : E → E → Bool) (p : E → Bool) (e : E) → ((x : E) → p x ≡ false → c x e ≡ false) → (xs : List E) → covered c (filter p xs) e ≡ covered c xs e
covered-kept c p e h [] = refl
covered-kept c p e h (x ∷ xs) =
    elim (cases_Bool (p x)) [ inl k ↦ simp (k, covered-kept c p e h xs) | inr k ↦ simp (k, h x k, covered-kept c p e h xs) ]

-- a look-up among those that pass p, where no other covers e
pub told_kept : {E : Type 0} (c : E → E → Bool) (p : E → Bool) (e : E) → ((x : E) → p x ≡ false → c x e ≡ false) → (xs : List E) (r : Option E) → Told c (filter p xs) e r → Told c xs e r
told_kept c p e h xs None t = sym (covered-kept c p e h xs) ∙ t
told_kept c p e h xs (Some x) t = (mem_kept p xs t.0, t.1)

pub told_sorted : {E : Type 0} (b c : E → E → Bool) (xs : List E) (e : E) (r : Option E) → Told c xs e r → Told c (sorted b xs) e r
told_sorted b c xs e None t = covered-false c e _ (all-into b (λ x. c x e ≡ false) [] xs tt (uncovered-all c e xs t))
told_sorted b c xs e (Some x) t = (mem_into b [] xs t.0, t.1)
