-- A list of numbers of which a function was applied to those from place l on.
use Rattle.std.proofs.Common.{◌≡◌, ℕ, ◌+◌, ◌-◌, ◌<◌, ◌≤◌, List, ◌++◌, length, get_or, take, drop, map, ap, ◌∙◌, inl, inr, arith, length-take}
use Rattle.std.proofs.lemmas.List.{get_or_past, get_or_append_left, get_or-append_right, get_or-take, get_or-drop, get_or-map, length-map, length-drop, length-take-le}
use Rattle.std.proofs.lemmas.Bool.{cases_lt}

-- no number up to place l + n is above m, so none of the n from place l on is
pub part_under : (xs : List ℕ) (l n m : ℕ) → ((k : ℕ) → k < l + n → get_or xs k 0 ≤ m) → (k : ℕ) → get_or (take n (drop l xs)) k 0 ≤ m
part_under xs l n m h k =
    elim (cases_lt k n) [
      | inl i ↦ let e = get_or-take n (drop l xs) k 0 i ∙ get_or-drop l xs k 0 in omega (arith, e, h (l + k) (omega arith))
      | inr i ↦ let e = get_or_past (take n (drop l xs)) k 0 (omega (arith, length-take n (drop l xs))) in omega (arith, e)
    ]

module _ (f : ℕ → ℕ) (xs : List ℕ) (l n : ℕ) (h : l ≤ length xs) where
  pub mapped_below : (k : ℕ) → k < l → get_or (take l xs ++ (map f (take n (drop l xs)) ++ drop n (drop l xs))) k 0 ≡ get_or xs k 0
  mapped_below k m = get_or_append_left (take l xs) _ 0 k (omega (arith, length-take-le l xs h)) ∙ get_or-take l xs k 0 m

  pub mapped_from : (k : ℕ) → l ≤ k → k < l + n → k < length xs → get_or (take l xs ++ (map f (take n (drop l xs)) ++ drop n (drop l xs))) k 0 ≡ f (get_or xs k 0)
  mapped_from k m j i =
      let long : k - l < length (take n (drop l xs)) = omega (arith, length-take n (drop l xs), length-drop l xs) in
      let at : l + (k - l) ≡ k = omega arith in
      get_or-append_right (take l xs) _ l k 0 (length-take-le l xs h) m ∙
      get_or_append_left (map f (take n (drop l xs))) _ 0 (k - l) (omega (arith, length-map (take n (drop l xs)) f)) ∙
      get_or-map f (take n (drop l xs)) (k - l) 0 0 long ∙
      ap f (get_or-take n (drop l xs) (k - l) 0 (omega arith) ∙ get_or-drop l xs (k - l) 0 ∙ ap (λ i. get_or xs i 0) at)
