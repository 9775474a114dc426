-- One more entry, put into its place by moving those behind it one on.
use Rattle.std.proofs.Common.{◌≡◌, ℕ, zero, suc, ◌+◌, ◌-◌, ◌<◌, ◌≤◌, Bool, true, false, not, List, [], ◌∷◌, ◌++◌, length, get_or, take, drop, set, sym, refl, ap, ◌∙◌, subst, inl, inr, arith, length-take}
use lib.Seq.{paste, take-set-lt, append_snoc}
use Rattle.std.specs.List.{AllByRecursion, AllWithin}
use Rattle.std.specs.List.Sorted.{IsPartitionedBy}
use Rattle.std.proofs.lemmas.List.{take-take, take_more_set, set-append_left, length-drop, length-take-le, get_or-take, get_or-drop}
use Rattle.std.proofs.lemmas.List.Edits.{take-paste}
use Rattle.std.proofs.lemmas.Slice.{between_is}
use Rattle.std.proofs.lemmas.Bool.{cases_Bool, cases_lt, both_ways, not-true, not-false}
use Rattle.antichain.specs.Entries.{Rules}
use Rattle.antichain.specs.Adding.{placed}
use Rattle.antichain.specs.Layouts.{Ordered}
use Rattle.antichain.proofs.Canonical.{before_on}

module _ {E : Type 0} (b : E → E → Bool) (e : E) where
  -- what stands from `at` on, up to `len`, was moved one on, and e was written at `at`
  pub put_at : (t : List E) (at len : ℕ) → at ≤ len → len < length t → take (len + 1) (set (paste t (at + 1) (drop at t) (len - at)) at e) ≡ take at (take len t) ++ e ∷ drop at (take len t)
  put_at t at len h l =
      let ys = paste t (at + 1) (drop at t) (len - at) in
      let end : len + 1 ≡ at + 1 + (len - at) = omega arith in
      let k : at < len + 1 = omega arith in
      let moved : take (len + 1) ys ≡ take (at + 1) t ++ take (len - at) (drop at t) =
      ap (λ n. take n ys) end ∙ take-paste t (at + 1) (drop at t) (len - at) (omega arith) (omega (arith, length-drop at t)) in
      let m : at < length (take (at + 1) t) = omega (arith, length-take (at + 1) t) in
      let j : at < at + 1 = omega arith in
      take-set-lt (len + 1) ys at e k ∙ ap (λ z. set z at e) moved ∙
      set-append_left (take (at + 1) t) (take (len - at) (drop at t)) at e m ∙
      ap (λ z. z ++ take (len - at) (drop at t)) (sym (take-set-lt (at + 1) t at e j) ∙ take_more_set t at e (omega arith)) ∙
      append_snoc (take at t) e (take (len - at) (drop at t)) ∙
      ap (λ z. z ++ e ∷ take (len - at) (drop at t)) (sym (take-take at len t h)) ∙
      ap (λ z. take at (take len t) ++ e ∷ z) (between_is t at len)

  -- e comes before none of the first i, and before all that follow
  pub placed_at : (xs : List E) (i : ℕ) → i ≤ length xs → AllWithin (λ y. not (b e y) ≡ true) xs 0 i → AllWithin (λ y. not (b e y) ≡ false) xs i (length xs) → take i xs ++ e ∷ drop i xs ≡ placed b e xs
  placed_at [] zero h lo hi = refl
  placed_at [] (suc i) h lo hi = absurd (omega arith)
  placed_at (x ∷ xs) zero h lo hi =
      let q : b e x ≡ true = not-false (b e x) (hi 0 x (omega arith) (omega arith)) in simp q
  placed_at (x ∷ xs) (suc i) h lo hi =
      let q : b e x ≡ false = not-true (b e x) (lo 0 x (omega arith) (omega arith)) in
      let ih = placed_at xs i (omega arith) (λ k d m n. lo (suc k) d (omega arith) (omega arith)) (λ k d m n. hi (suc k) d (omega arith) (omega arith)) in
      simp q (ap (λ z. x ∷ z) ih)

-- a part of a table, read by the places of the table
part-read : {E : Type 0} (t : List E) (from to len k : ℕ) (d : E) → k < to - from → to ≤ len → get_or (take (to - from) (drop from t)) k d ≡ get_or (take len t) (from + k) d
part-read t from to len k d h l =
    get_or-take (to - from) (drop from t) k d h ∙ get_or-drop from t k d ∙ sym (get_or-take len t (from + k) d (omega arith))

all_read : {E : Type 0} (P : E → Type 0) (xs : List E) (i : ℕ) (d : E) → i < length xs → AllByRecursion P xs → P (get_or xs i d)
all_read P [] i d h a = absurd (omega arith)
all_read P (x ∷ xs) zero d h a = a.0
all_read P (x ∷ xs) (suc i) d h a = all_read P xs i d (omega arith) a.1

module _ {E : Type 0} {v s : E → ℕ} {c b : E → E → Bool} (w : Rules v s c b) where
  -- in a list in order, those that e comes before stand behind the others
  pub parted : (e : E) (xs : List E) → Ordered b xs → IsPartitionedBy (λ x. not (b e x)) xs
  parted e [] o i j d h l p = absurd (omega arith)
  parted e (x ∷ xs) o zero zero d h l p = p
  parted e (x ∷ xs) o zero (suc j) d h l p =
      elim (cases_Bool (b e x)) [
        | inl k ↦ absurd (both_ways (b e (get_or xs j d)) (not-true _ p) (before_on w e x (get_or xs j d) k (all_read _ xs j d (omega arith) o.0)))
        | inr k ↦ simp k
      ]
  parted e (x ∷ xs) o (suc i) zero d h l p = absurd (omega arith)
  parted e (x ∷ xs) o (suc i) (suc j) d h l p = parted e xs o.1 i j d (omega arith) (omega arith) p

  pub parted_part : (e : E) (t : List E) (from to len : ℕ) → to ≤ len → len ≤ length t → Ordered b (take len t) → IsPartitionedBy (λ x. not (b e x)) (take (to - from) (drop from t))
  parted_part e t from to len h l o i j d m n p =
      let k : j < to - from = omega (arith, length-take (to - from) (drop from t)) in
      let q = subst (λ z. not (b e z) ≡ true) (part-read t from to len j d k h) p in
      subst (λ z. not (b e z) ≡ true) (sym (part-read t from to len i d (omega arith) h))
      (parted e (take len t) o (from + i) (from + j) d (omega arith) (omega (arith, length-take len t)) q)

-- e comes before none of those below `from`, before all from `to` on, and in between before none of the first i alone
pub placed_between : {E : Type 0} (b : E → E → Bool) (e : E) (t : List E) (from to len i : ℕ) → from ≤ to → to ≤ len → len ≤ length t
    → AllByRecursion (λ x. b e x ≡ false) (take from t) → AllByRecursion (λ x. b e x ≡ true) (drop to (take len t))
    → i ≤ length (take (to - from) (drop from t))
    → AllWithin (λ y. not (b e y) ≡ true) (take (to - from) (drop from t)) 0 i
    → AllWithin (λ y. not (b e y) ≡ false) (take (to - from) (drop from t)) i (length (take (to - from) (drop from t)))
    → take (from + i) (take len t) ++ e ∷ drop (from + i) (take len t) ≡ placed b e (take len t)
placed_between b e t from to len i f g h first last j lo hi =
    let xs = take len t in
    let all : length xs ≡ len = length-take-le len t h in
    let part : length (take (to - from) (drop from t)) ≡ to - from = omega (arith, length-take (to - from) (drop from t), length-drop from t) in
    let below : AllWithin (λ y. not (b e y) ≡ true) xs 0 (from + i) =
    λ k d m n. elim (cases_lt k from) [
      | inl o ↦
          let q : b e (get_or xs k d) ≡ false =
          subst (λ z. b e z ≡ false) (get_or-take from t k d o ∙ sym (get_or-take len t k d (omega arith)))
          (all_read _ (take from t) k d (omega (arith, length-take-le from t (omega arith))) first) in
          simp q
      | inr o ↦
          let at : from + (k - from) ≡ k = omega arith in
          subst (λ z. not (b e z) ≡ true) (part-read t from to len (k - from) d (omega arith) g ∙ ap (λ z. get_or xs z d) at)
          (lo (k - from) d (omega arith) (omega arith))
    ] in
    let above : AllWithin (λ y. not (b e y) ≡ false) xs (from + i) (length xs) =
    λ k d m n. elim (cases_lt k to) [
      | inl o ↦
          let at : from + (k - from) ≡ k = omega arith in
          subst (λ z. not (b e z) ≡ false) (part-read t from to len (k - from) d (omega arith) g ∙ ap (λ z. get_or xs z d) at)
          (hi (k - from) d (omega arith) (omega arith))
      | inr o ↦
          let at : to + (k - to) ≡ k = omega arith in
          let q : b e (get_or xs k d) ≡ true =
          subst (λ z. b e z ≡ true) (get_or-drop to xs (k - to) d ∙ ap (λ z. get_or xs z d) at)
          (all_read _ (drop to xs) (k - to) d (omega (arith, length-drop to xs)) last) in
          simp q
    ] in
    placed_at b e xs (from + i) (omega arith) below above
