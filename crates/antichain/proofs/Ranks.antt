-- An entry's place in an ascending list is how many come before it.
use Rattle.std.proofs.Common.{◌≡◌, ℕ, zero, suc, Bool, true, false, eqb, List, [], ◌∷◌, length, Some, None, Option, filter, slice_get, sym, refl, ap, ◌∙◌, subst, inl, inr, arith}
use Rattle.std.specs.List.{AllByRecursion}
use Rattle.std.proofs.lemmas.Bool.{eqb-true, eqb-false}
use Rattle.std.proofs.lemmas.Option.{slice_get_cases}
use Rattle.antichain.specs.Entries.{Rules}
use Rattle.antichain.specs.Lookups.{Mem, Mem.here, Mem.there}
use Rattle.antichain.specs.Antichain.{Apart, Ascending}
use Rattle.antichain.specs.Layouts.{sorted}
use Rattle.antichain.proofs.Canonical.{before_not_itself, before_not_both}
use Rattle.antichain.proofs.Members.{all_mem, all-at, Found}
use Rattle.antichain.proofs.Sorting.{kept-sorted, length-into, mem_into, all-into, ordered_into, ascending}

module _ {E : Type 0} {v s : E → ℕ} {c b : E → E → Bool} (w : Rules v s c b) where
  none_before : (x : E) (zs : List E) → AllByRecursion (λ z. b x z ≡ true) zs → filter (λ z. b z x) zs ≡ []
  none_before x [] h = refl
  none_before x (z ∷ zs) h = simp (before_not_both w x z h.0, none_before x zs h.1)

  pub at_rank : (x : E) (ys : List E) → Ascending b ys → Mem x ys → slice_get ys (length (filter (λ y. b y x) ys)) ≡ Some x
  at_rank x [] o m = elim m [ ]
  at_rank x (y ∷ ys) o here = simp (before_not_itself w x, none_before x ys o.0)
  at_rank x (y ∷ ys) o (there m) = simp (all_mem _ ys o.0 m) (at_rank x ys o.1 m)

  rank_first : (y : E) (ys : List E) → AllByRecursion (λ z. b y z ≡ true) ys → length (filter (λ z. b z y) (y ∷ ys)) ≡ 0
  rank_first y ys h = simp (before_not_itself w y, none_before y ys h)

  pub rank_at : (x : E) (ys : List E) (k : ℕ) → Ascending b ys → slice_get ys k ≡ Some x → length (filter (λ y. b y x) ys) ≡ k
  rank_at x [] k o e = let z : ◌≡◌ {A = ℕ} 0 1 = cc in absurd (omega arith)
  rank_at x (y ∷ ys) zero o e =
      let q : y ≡ x = cc in subst (λ z. length (filter (λ y. b y z) (y ∷ ys)) ≡ 0) q (rank_first y ys o.0)
  rank_at x (y ∷ ys) (suc k) o e = simp (all-at (λ z. b y z ≡ true) ys k x o.0 e) (ap suc (rank_at x ys k o.1 e))

  -- sorting does not change how many pass a test
  length_rank : (p : E → Bool) (xs : List E) → length (filter p (sorted b xs)) ≡ length (filter p xs)
  length_rank p xs = ap length (kept-sorted w p xs) ∙ (omega (arith, length-into b [] (filter p xs)))

  -- an entry that k others come before is the k-th in order
  pub ranked : (xs : List E) (k : ℕ) (r : Option E) → Apart c (sorted b xs) → Found (λ x. eqb (length (filter (λ y. b y x) xs)) k) xs r → r ≡ slice_get (sorted b xs) k
  ranked xs k (Some x) a h =
      let o = ascending w (sorted b xs) (ordered_into w [] xs tt) a in
      sym (subst (λ n. slice_get (sorted b xs) n ≡ Some x) (length_rank (λ y. b y x) xs ∙ eqb-true _ k h.1) (at_rank x (sorted b xs) o (mem_into b [] xs h.0)))
  ranked xs k None a h =
      let o = ascending w (sorted b xs) (ordered_into w [] xs tt) a in
      let P : E → Type 0 = λ x. eqb (length (filter (λ y. b y x) xs)) k ≡ false in
      elim (slice_get_cases (sorted b xs) k).1 [
        | inl z ↦ absurd (eqb-false _ k (all-at P (sorted b xs) k z.0 (all-into b P [] xs tt h) z.2) (sym (length_rank (λ y. b y z.0) xs) ∙ rank_at z.0 (sorted b xs) k o z.2))
        | inr z ↦ sym z.1
      ]
