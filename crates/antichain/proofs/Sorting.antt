-- Lists in canonical order, made by putting one entry after another into its place.
use Rattle.std.proofs.Common.{◌≡◌, ℕ, ◌+◌, Bool, true, false, cond, List, [], ◌∷◌, ◌++◌, length, filter, refl, ◌∙◌, inl, inr, arith}
use Rattle.std.specs.List.{AllByRecursion}
use Rattle.std.proofs.ByRecursion.{All-weaker, all_kept_by}
use Rattle.std.proofs.lemmas.Bool.{cond_both, cases_Bool, both_ways}
use Rattle.antichain.specs.Entries.{Rules}
use Rattle.antichain.specs.Lookups.{Mem, Mem.here, Mem.there}
use Rattle.antichain.specs.Adding.{placed}
use Rattle.antichain.specs.Antichain.{Apart, Ascending}
use Rattle.antichain.specs.Layouts.{into, sorted, Ordered}
use Rattle.antichain.proofs.Members.{both_all}
use Rattle.antichain.proofs.Canonical.{before_on, before_not_both, tied}

module _ {E : Type 0} (b : E → E → Bool) where
  -- one more at the end
  pub into_push : (ys xs : List E) (e : E) → into b ys (xs ++ e ∷ []) ≡ placed b e (into b ys xs)
  into_push ys [] e = refl
  into_push ys (x ∷ xs) e = into_push (placed b x ys) xs e

  pub all_placed : (P : E → Type 0) (e : E) (ys : List E) → P e → AllByRecursion P ys → AllByRecursion P (placed b e ys)
  all_placed P e [] h t = (h, tt)
  all_placed P e (y ∷ ys) h t =
      cond_both (b e y) _ _ (AllByRecursion P) (λ _. (h, t)) (λ _. (t.0, all_placed P e ys h t.1))

  pub all-into : (P : E → Type 0) (ys xs : List E) → AllByRecursion P ys → AllByRecursion P xs → AllByRecursion P (into b ys xs)
  all-into P ys [] h t = h
  all-into P ys (x ∷ xs) h t = all-into P (placed b x ys) xs (all_placed P x ys t.0 h) t.1

  mem_placed : {x : E} (e : E) (ys : List E) → Mem x ys → Mem x (placed b e ys)
  mem_placed e [] m = elim m [ ]
  mem_placed {x} e (y ∷ ys) here = cond_both (b e y) _ _ (Mem x) (λ _. there here) (λ _. here)
  mem_placed {x} e (y ∷ ys) (there h) = cond_both (b e y) _ _ (Mem x) (λ _. there (there h)) (λ _. there (mem_placed e ys h))

  mem_placed_here : (e : E) (ys : List E) → Mem e (placed b e ys)
  mem_placed_here e [] = here
  mem_placed_here e (y ∷ ys) = cond_both (b e y) _ _ (Mem e) (λ _. here) (λ _. there (mem_placed_here e ys))

  mem_into_first : {x : E} (ys xs : List E) → Mem x ys → Mem x (into b ys xs)
  mem_into_first ys [] h = h
  mem_into_first ys (x ∷ xs) h = mem_into_first (placed b x ys) xs (mem_placed x ys h)

  pub mem_into : {x : E} (ys xs : List E) → Mem x xs → Mem x (into b ys xs)
  mem_into ys [] m = elim m [ ]
  mem_into ys (x ∷ xs) here = mem_into_first (placed b x ys) xs (mem_placed_here x ys)
  mem_into ys (x ∷ xs) (there h) = mem_into (placed b x ys) xs h

  pub length-placed : (e : E) (ys : List E) → length (placed b e ys) ≡ length ys + 1
  length-placed e [] = refl
  length-placed e (y ∷ ys) =
      cond_both (b e y) _ _ (λ l. length l ≡ length (y ∷ ys) + 1) (λ _. omega arith) (λ _. omega (arith, length-placed e ys))

  pub length-into : (ys xs : List E) → length (into b ys xs) ≡ length ys + length xs
  length-into ys [] = omega arith
  length-into ys (x ∷ xs) = omega (arith, length-into (placed b x ys) xs, length-placed x ys)

  placed_first : (e : E) (ys : List E) → AllByRecursion (λ z. b e z ≡ true) ys → placed b e ys ≡ e ∷ ys
  placed_first e [] h = refl
  placed_first e (y ∷ ys) h = simp h.0

pub count_placed : {E : Type 0} (b : E → E → Bool) (p : E → Bool) (e : E) (xs : List E) → length (filter p (placed b e xs)) ≡ length (filter p xs) + cond (p e) 1 0
count_placed b p e [] = elim (cases_Bool (p e)) [ inl k ↦ simp k | inr k ↦ simp k ]
count_placed b p e (x ∷ xs) =
    let ih = count_placed b p e xs in
    elim (cases_Bool (b e x)) [
      | inl h ↦ elim (cases_Bool (p e)) [ inl k ↦ simp (h, k) (omega arith) | inr k ↦ simp (h, k) (omega arith) ]
      | inr h ↦ elim (cases_Bool (p x)) [ inl k ↦ simp (h, k) (omega arith) | inr k ↦ simp (h, k) ih ]
    ]

pub ordered_kept : {E : Type 0} (b : E → E → Bool) (p : E → Bool) (xs : List E) → Ordered b xs → Ordered b (filter p xs)
ordered_kept b p [] o = tt
ordered_kept b p (x ∷ xs) o =
    cond_both (p x) _ _ (Ordered b) (λ _. (all_kept_by p _ xs o.0, ordered_kept b p xs o.1)) (λ _. ordered_kept b p xs o.1)

pub ascending-kept : {E : Type 0} (b : E → E → Bool) (p : E → Bool) (xs : List E) → Ascending b xs → Ascending b (filter p xs)
ascending-kept b p [] o = tt
ascending-kept b p (x ∷ xs) o =
    cond_both (p x) _ _ (Ascending b) (λ _. (all_kept_by p _ xs o.0, ascending-kept b p xs o.1)) (λ _. ascending-kept b p xs o.1)

module _ {E : Type 0} {v s : E → ℕ} {c b : E → E → Bool} (w : Rules v s c b) where
  -- e comes before y, and so before all that stand behind y
  before_all : (e y : E) (ys : List E) → b e y ≡ true → AllByRecursion (λ z. b z y ≡ false) ys → AllByRecursion (λ z. b e z ≡ true) ys
  before_all e y ys h = All-weaker _ _ (λ z k. before_on w e y z h k) ys

  pub ordered_placed : (e : E) (ys : List E) → Ordered b ys → Ordered b (placed b e ys)
  ordered_placed e [] o = (tt, tt)
  ordered_placed e (y ∷ ys) o =
      cond_both (b e y) _ _ (Ordered b)
      (λ h. ((before_not_both w e y h, All-weaker _ _ (λ z k. before_not_both w e z k) ys (before_all e y ys h o.0)), o))
      (λ h. (all_placed b (λ z. b z y ≡ false) e ys h o.0, ordered_placed e ys o.1))

  pub ordered_into : (ys xs : List E) → Ordered b ys → Ordered b (into b ys xs)
  ordered_into ys [] o = o
  ordered_into ys (x ∷ xs) o = ordered_into (placed b x ys) xs (ordered_placed x ys o)

  kept-placed : (p : E → Bool) (e : E) (ys : List E) → Ordered b ys → filter p (placed b e ys) ≡ cond (p e) (placed b e (filter p ys)) (filter p ys)
  kept-placed p e [] o = refl
  kept-placed p e (y ∷ ys) o =
      elim (cases_Bool (b e y)) [
        | inl h ↦
            let first = placed_first b e (filter p (y ∷ ys)) (all_kept_by p _ (y ∷ ys) (h, before_all e y ys h o.0)) in
            simp (h, first)
        | inr h ↦ let ih = kept-placed p e ys o.1 in
            elim (cases_Bool (p y)) [ inl k ↦ elim (cases_Bool (p e)) [ inl m ↦ simp (h, ih, k, m) | inr m ↦ simp (h, ih, k, m) ] | inr k ↦ simp (h, ih, k) ]
      ]

  kept-into : (p : E → Bool) (ys xs : List E) → Ordered b ys → filter p (into b ys xs) ≡ into b (filter p ys) (filter p xs)
  kept-into p ys [] o = refl
  kept-into p ys (x ∷ xs) o =
      kept-into p (placed b x ys) xs (ordered_placed x ys o) ∙
      (let e = kept-placed p x ys o in
      elim (cases_Bool (p x)) [ inl k ↦ simp (e, k) | inr k ↦ simp (e, k) ])

  -- to sort and to keep may change places
  pub kept-sorted : (p : E → Bool) (xs : List E) → filter p (sorted b xs) ≡ sorted b (filter p xs)
  kept-sorted p xs = kept-into p [] xs tt

  strictly : (x y : E) → (b y x ≡ false) × ((c x y ≡ false) × (c y x ≡ false)) → b x y ≡ true
  strictly x y h = elim (cases_Bool (b x y)) [ inl m ↦ m | inr m ↦ absurd (both_ways (c x y) h.1.0 (tied w x y m h.0)) ]

  -- in order, and none covers another: so no two tie
  pub ascending : (xs : List E) → Ordered b xs → Apart c xs → Ascending b xs
  ascending [] o a = tt
  ascending (x ∷ xs) o a = (All-weaker _ _ (strictly x) xs (both_all _ _ xs o.0 a.0), ascending xs o.1 a.1)

  pub ordered : (xs : List E) → Ascending b xs → Ordered b xs
  ordered [] o = tt
  ordered (x ∷ xs) o = (All-weaker _ _ (before_not_both w x) xs o.0, ordered xs o.1)
