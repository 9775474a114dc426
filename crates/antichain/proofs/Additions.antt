-- What an addition leaves.
use Rattle.std.proofs.Common.{◌≡◌, ℕ, ◌<◌, ◌≤◌, Bool, true, false, not, ltb, List, [], ◌∷◌, ◌++◌, length, filter, sym, ap, ◌∙◌, arith}
use Rattle.std.proofs.ByRecursion.{All-weaker, all_kept_by, kept_by_passes}
use Rattle.std.proofs.lemmas.Bool.{ltb-true, lt-ltb, le-ltb, cond_both, not-true}
use Rattle.antichain.specs.declared.store.AddAnswer.TheVariants.{Added, Full}
use Rattle.antichain.specs.Entries.{Rules}
use Rattle.antichain.specs.Lookups.{covered}
use Rattle.antichain.specs.Adding.{uncovered, placed, answer_to, held_after}
use Rattle.antichain.specs.Antichain.{ApartFrom, Apart, Antichain}
use Rattle.antichain.specs.Layouts.{sorted}
use Rattle.antichain.proofs.Members.{both_all}
use Rattle.antichain.proofs.Kept.{length-kept, kept_same}
use Rattle.antichain.proofs.Sorting.{into_push, length-into, length-placed, kept-sorted, ordered_placed, ordered_kept, ascending, ascending-kept, ordered}
use Rattle.antichain.proofs.Covering.{uncovered-all, apart_kept, apart_placed}

module _ {E : Type 0} (c : E → E → Bool) where
  -- e and what it would leave do not cover one another, where no entry covers e
  pub apart_left : (e : E) (xs : List E) → covered c xs e ≡ false → ApartFrom c e (uncovered c e xs)
  apart_left e xs h =
      let p : E → Bool = λ x. not (c e x) in
      both_all _ _ (uncovered c e xs) (All-weaker _ _ (λ x k. not-true (c e x) k) (uncovered c e xs) (kept_by_passes p xs)) (all_kept_by p _ xs (uncovered-all c e xs h))

  pub apart_added : (b : E → E → Bool) (e : E) (xs : List E) → Apart c xs → covered c xs e ≡ false → Apart c (placed b e (uncovered c e xs))
  apart_added b e xs a h = apart_placed c b e (uncovered c e xs) (apart_kept c (λ x. not (c e x)) xs a) (apart_left e xs h)

  -- where no place is left though none leaves, all stays
  pub full : (b : E → E → Bool) (capacity : ℕ) (xs : List E) (e : E) → covered c xs e ≡ false → length xs ≤ capacity → capacity ≤ length (uncovered c e xs) → uncovered c e xs ≡ held_after c b capacity xs e
  full b capacity xs e new h k =
      let m : ltb (length (uncovered c e xs)) capacity ≡ false = le-ltb _ _ k in kept_same (λ x. not (c e x)) xs (omega arith) ∙ simp (new, m)

  pub apart_after : (b : E → E → Bool) (capacity : ℕ) (e : E) (xs : List E) → Apart c xs → Apart c (held_after c b capacity xs e)
  apart_after b capacity e xs a =
      cond_both (covered c xs e) _ _ (Apart c) (λ _. a)
      (λ h. cond_both (ltb (length (uncovered c e xs)) capacity) _ _ (Apart c) (λ _. apart_added b e xs a h) (λ _. a))

module _ {E : Type 0} {v s : E → ℕ} {c b : E → E → Bool} (w : Rules v s c b) where
  -- zs are the entries that e does not cover, in order of arrival
  module _ (capacity : ℕ) (xs zs : List E) (e : E)
      (new : covered c (sorted b xs) e ≡ false) (rest : zs ≡ uncovered c e xs) where
    left : uncovered c e (sorted b xs) ≡ sorted b zs
    left = kept-sorted w (λ x. not (c e x)) xs ∙ ap (sorted b) (sym rest)

    pub arrived_full : length xs ≤ capacity → capacity ≤ length zs → (Full ≡ answer_to c capacity (sorted b xs) e) × (sorted b zs ≡ held_after c b capacity (sorted b xs) e)
    arrived_full h k =
        let l : ltb (length (sorted b zs)) capacity ≡ false = le-ltb _ _ (omega (arith, length-into b [] zs)) in
        let same : sorted b zs ≡ sorted b xs = ap (sorted b) (rest ∙ kept_same (λ x. not (c e x)) xs (omega (arith, ap length rest))) in
        (simp (new, left, l), simp (new, left, l) same)

    pub arrived_added : length zs < capacity → (Added ≡ answer_to c capacity (sorted b xs) e) × (sorted b (zs ++ e ∷ []) ≡ held_after c b capacity (sorted b xs) e)
    arrived_added h =
        let l : ltb (length (sorted b zs)) capacity ≡ true = lt-ltb _ _ (omega (arith, length-into b [] zs)) in
        (simp (new, left, l), simp (new, left, l) (into_push b [] zs e))

  pub antichain_none : (capacity : ℕ) → Antichain c b capacity []
  antichain_none capacity = record { apart = tt; ascending = tt; fits = omega arith }

  pub antichain_kept : (capacity : ℕ) (p : E → Bool) (xs : List E) → Antichain c b capacity xs → Antichain c b capacity (filter p xs)
  antichain_kept capacity p xs h = record {
    apart = apart_kept c p xs h.apart;
    ascending = ascending-kept b p xs h.ascending;
    fits = omega (arith, length-kept p xs, h.fits);
  }

  antichain_added : (capacity : ℕ) (xs : List E) (e : E) → Antichain c b capacity xs → covered c xs e ≡ false → length (uncovered c e xs) < capacity → Antichain c b capacity (placed b e (uncovered c e xs))
  antichain_added capacity xs e h new room =
      let apart = apart_added c b e xs h.apart new in
      record {
        apart = apart;
        ascending = ascending w _ (ordered_placed w e _ (ordered_kept b _ xs (ordered w xs h.ascending))) apart;
        fits = omega (arith, length-placed b e (uncovered c e xs));
      }

  pub antichain_after : (capacity : ℕ) (xs : List E) (e : E) → Antichain c b capacity xs → Antichain c b capacity (held_after c b capacity xs e)
  antichain_after capacity xs e h =
      cond_both (covered c xs e) _ _ (Antichain c b capacity) (λ _. h)
      (λ new. cond_both (ltb (length (uncovered c e xs)) capacity) _ _ (Antichain c b capacity)
      (λ room. antichain_added capacity xs e h new (ltb-true (length (uncovered c e xs)) capacity room)) (λ _. h))
