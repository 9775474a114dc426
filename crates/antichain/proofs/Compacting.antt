-- A table in which the entries that pass a test were moved together, up to a place from which all pass.
use Rattle.std.proofs.Common.{◌≡◌, ℕ, ◌+◌, ◌-◌, ◌≤◌, Bool, List, ◌++◌, length, take, drop, filter, sym, ap, ◌∙◌, arith, take-add, length-append, length-take}
use lib.Seq.{paste}
use borrow.Rule.Slice.PartMut.{mid_of, put_mid, mid_len, same_len_mid}
use Rattle.std.proofs.lemmas.List.{take-take, length-drop, take-append-le, take-append-drop}
use Rattle.std.proofs.lemmas.List.Elements.{filter-append}
use Rattle.std.proofs.lemmas.List.Edits.{take-paste}
use Rattle.std.proofs.lemmas.List.Filters.{FiltersInPlace}
use Rattle.std.proofs.lemmas.Slice.{between_is, take-put_mid_below, drop-put_mid, between-put_mid}

-- items written over the first `len`, of which the first r are zs
module _ {E : Type 0} (len : ℕ) (t ys : List E) (long : length ys ≡ length (take len t)) where
  pub front-long : length (ys ++ drop len t) ≡ length t
  front-long = omega (arith, length-append ys (drop len t), long, length-take len t, length-drop len t)

  pub front-kept : (r : ℕ) {zs : List E} → r ≤ length (take len t) → take r ys ≡ zs → take r (ys ++ drop len t) ≡ zs
  front-kept r h e = take-append-le r ys (drop len t) (omega (arith, long)) ∙ e

-- the same for what stands from `from` up to `to`, where all before it pass
pub in_part : {E : Type 0} (p : E → Bool) (t ys : List E) (from to k : ℕ) → from ≤ to → to ≤ length t → filter p (take from t) ≡ take from t
    → length ys ≡ length (mid_of from (to - from) t) → k ≤ length (mid_of from (to - from) t) → take k ys ≡ filter p (mid_of from (to - from) t)
    → FiltersInPlace p t (put_mid from (to - from) t ys) (from + k) to
in_part p t ys from to k h l e long within kept =
    let n = to - from in
    let size : length (mid_of from n t) ≡ n = mid_len from to t l in
    let whole : from + n ≡ to = omega arith in
    let less : k ≤ n = omega arith in
    let front : take from (put_mid from n t ys) ≡ take from t = take-put_mid_below from n t ys from (omega arith) (omega arith) in
    let part : take n (drop from (put_mid from n t ys)) ≡ ys = between-put_mid from n t ys to (omega arith) (omega (arith, long)) in
    record {
      front =
          take-add from k (put_mid from n t ys) ∙ ap (λ z. z ++ take k (drop from (put_mid from n t ys))) (front ∙ sym e) ∙
          ap (λ z. filter p (take from t) ++ z) (sym (take-take k n (drop from (put_mid from n t ys)) less) ∙ ap (take k) part ∙ kept) ∙
          sym (filter-append p (take from t) (mid_of from n t)) ∙ ap (filter p) (sym (take-add from n t) ∙ ap (λ i. take i t) whole);
      rest = drop-put_mid from n t ys to (omega arith) (omega arith) (omega (arith, long));
      behind = omega arith;
      within = l;
      long = same_len_mid from n t ys long;
    }

module _ {E : Type 0} (p : E → Bool) (xs ys : List E) (k to len : ℕ) (h : FiltersInPlace p xs ys k to) (i : to ≤ len) (e : filter p (drop to (take len xs)) ≡ drop to (take len xs)) where
  kept_parts : take k ys ++ take (len - to) (drop to ys) ≡ filter p (take len xs)
  kept_parts =
      let f : take k ys ≡ filter p (take to (take len xs)) = h.front ∙ ap (filter p) (sym (take-take to len xs i)) in
      let r : take (len - to) (drop to ys) ≡ filter p (drop to (take len xs)) = ap (take (len - to)) h.rest ∙ between_is xs to len ∙ sym e in
      ap (λ t. t ++ take (len - to) (drop to ys)) f ∙ ap (λ t. filter p (take to (take len xs)) ++ t) r ∙
      sym (filter-append p (take to (take len xs)) (drop to (take len xs))) ∙ ap (filter p) (take-append-drop to (take len xs))

  -- what stands from `to` on is moved down to k, behind what was kept of the first `to`
  pub kept-moved : len ≤ length xs → take (k + (len - to)) (paste ys k (drop to ys) (len - to)) ≡ filter p (take len xs)
  kept-moved j =
      take-paste ys k (drop to ys) (len - to) (omega (arith, h.behind, h.within, h.long)) (omega (arith, length-drop to ys, h.long)) ∙ kept_parts

  -- or stays, as all were kept
  pub kept_stays : k ≡ to → take (k + (len - to)) ys ≡ filter p (take len xs)
  kept_stays q = take-add k (len - to) ys ∙ ap (λ n. take k ys ++ take (len - to) (drop n ys)) q ∙ kept_parts
