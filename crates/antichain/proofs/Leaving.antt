-- Entries that leave a table kept by levels, and one that goes in: the starts and the table then.
use Rattle.std.proofs.Common.{◌≡◌, ℕ, ◌+◌, ◌-◌, ◌<◌, ◌≤◌, Bool, not, List, ◌++◌, min, map, length, get_or, take, drop, sym, refl, ap, ◌∙◌, arith}
use lib.Seq.{paste}
use borrow.Rule.Slice.PartMut.{mid_of, put_mid}
use Rattle.std.proofs.lemmas.List.{length-take-le}
use Rattle.std.proofs.lemmas.List.Filters.{FiltersInPlace}
use Rattle.antichain.specs.Limits.{max_level, max_entries, capacity_of}
use Rattle.antichain.specs.Entries.{Rules}
use Rattle.antichain.specs.Adding.{uncovered, placed}
use Rattle.antichain.specs.Antichain.{ApartFrom}
use Rattle.antichain.specs.Layouts.{grouped, Laid}
use Rattle.antichain.proofs.Compacting.{in_part, kept-moved, kept_stays}
use Rattle.antichain.proofs.Starts.{mapped_below, mapped_from}
use Rattle.antichain.proofs.Grouping.{part_within, spared_first, spared_last, laid_kept, laid_placed}

-- a function applied to the starts from place l on
abbrev pub changed : (ℕ → ℕ) → ℕ → List ℕ → List ℕ
changed f l starts = take l starts ++ (map f (take (17 - l) (drop l starts)) ++ drop (17 - l) (drop l starts))

module _ {E : Type 0} {v s : E → ℕ} {c b : E → E → Bool} (w : Rules v s c b) (starts : List ℕ) (size : length starts ≡ 17) (t : List E)
    (h : Laid v c b (capacity_of t) starts (grouped starts t)) (e : E) (l : ℕ) (at : l ≡ v e) where
  high : l ≤ max_level
  high = omega (arith, at, w.most e)

  part : (get_or starts (l - 1) 0 ≤ get_or starts l 0) × (get_or starts l 0 ≤ get_or starts max_level 0) × (get_or starts max_level 0 ≤ length t)
  part = part_within w t refl h (omega arith) l (omega (arith, at, w.least e)) high

  -- e was put in
  pub put_in : (new : List ℕ) (table : List E) → new ≡ changed (λ n. n + 1) l starts
      → ApartFrom c e (grouped starts t) → length (grouped starts t) < capacity_of t
      → take (get_or starts max_level 0 + 1) table ≡ placed b e (grouped starts t) → length table ≡ length t
      → Laid v c b (capacity_of table) new (grouped new table) × (grouped new table ≡ placed b e (grouped starts t))
  put_in new table is apart room put long =
      let full : length (grouped starts t) ≡ get_or starts max_level 0 = length-take-le (get_or starts max_level 0) t part.2 in
      let below : (k : ℕ) → k < l → get_or new k 0 ≡ get_or starts k 0 =
      λ k m. ap (λ z. get_or z k 0) is ∙ mapped_below (λ n. n + 1) starts l (17 - l) (omega (arith, high, size)) k m in
      let over : (k : ℕ) → l ≤ k → k ≤ max_level → get_or new k 0 ≡ get_or starts k 0 + 1 =
      λ k m n. ap (λ z. get_or z k 0) is ∙ mapped_from (λ n. n + 1) starts l (17 - l) (omega (arith, high, size)) k m (omega arith) (omega (arith, size)) in
      let laid = laid_placed w t refl h (omega arith) e l at new apart (omega (arith, full)) below over in
      let held : grouped new table ≡ placed b e (grouped starts t) = ap (λ n. take n table) (over max_level high (omega arith)) ∙ put in
      let same : capacity_of table ≡ capacity_of t = ap (λ n. min n max_entries) long in
      (simp (same, held) laid, held)

  module _ (ys : List E) (k : ℕ) (long : length ys ≡ length (mid_of (get_or starts (l - 1) 0) (get_or starts l 0 - get_or starts (l - 1) 0) t))
      (fewer : k ≤ length (mid_of (get_or starts (l - 1) 0) (get_or starts l 0 - get_or starts (l - 1) 0) t))
      (kept : take k ys ≡ uncovered c e (mid_of (get_or starts (l - 1) 0) (get_or starts l 0 - get_or starts (l - 1) 0) t)) where
    -- the entries of e's level that it does not cover stand together
    abbrev pub table₁ : List E
    table₁ = put_mid (get_or starts (l - 1) 0) (get_or starts l 0 - get_or starts (l - 1) 0) t ys

    together : FiltersInPlace (λ x. not (c e x)) t table₁ (get_or starts (l - 1) 0 + k) (get_or starts l 0)
    together =
        in_part (λ x. not (c e x)) t ys (get_or starts (l - 1) 0) (get_or starts l 0) k part.0 (omega (arith, part)) (spared_first w t refl h (omega arith) e l at) long fewer kept

    pub some_left : (new : List ℕ) (table : List E) → get_or starts (l - 1) 0 + k < get_or starts l 0
        → new ≡ changed (λ n. n - (get_or starts l 0 - (get_or starts (l - 1) 0 + k))) l starts
        → table ≡ paste table₁ (get_or starts (l - 1) 0 + k) (drop (get_or starts l 0) table₁) (get_or starts max_level 0 - get_or starts l 0) → length table ≡ length table₁
        → Laid v c b (capacity_of table) new (grouped new table) × (grouped new table ≡ uncovered c e (grouped starts t))
    some_left new table less is moved tall =
        let to = get_or starts l 0 in
        let len = get_or starts max_level 0 in
        let front = get_or starts (l - 1) 0 + k in
        let f = λ (n : ℕ). n - (to - front) in
        let zs = uncovered c e (grouped starts t) in
        let left : take (front + (len - to)) table ≡ zs =
        ap (take (front + (len - to))) moved ∙ kept-moved (λ x. not (c e x)) t table₁ front to len together part.1 (spared_last w t refl h (omega arith) e l at) part.2 in
        let same_long : length table ≡ length t = tall ∙ together.long in
        let count : length zs ≡ front + (len - to) = ap length (sym left) ∙ length-take-le (front + (len - to)) table (omega (arith, same_long, part)) in
        let below : (i : ℕ) → i < l → get_or new i 0 ≡ get_or starts i 0 =
        λ i m. ap (λ z. get_or z i 0) is ∙ mapped_below f starts l (17 - l) (omega (arith, high, size)) i m in
        let over : (i : ℕ) → l ≤ i → i ≤ max_level → get_or new i 0 ≡ get_or starts i 0 - (len - length zs) =
        λ i m n. let q = mapped_from f starts l (17 - l) (omega (arith, high, size)) i m (omega arith) (omega (arith, size)) in omega (arith, ap (λ z. get_or z i 0) is, q, count, part) in
        let laid = laid_kept w t refl h (omega arith) e l at new below over in
        let end : get_or new max_level 0 ≡ front + (len - to) = omega (arith, over max_level high (omega arith), count, part) in
        let held : grouped new table ≡ zs = ap (λ n. take n table) end ∙ left in
        let same : capacity_of table ≡ capacity_of t = ap (λ n. min n max_entries) same_long in
        (simp (same, held) laid, held)

    pub none_left : get_or starts l 0 ≤ get_or starts (l - 1) 0 + k → Laid v c b (capacity_of table₁) starts (grouped starts table₁) × (grouped starts table₁ ≡ uncovered c e (grouped starts t))
    none_left more =
        let to = get_or starts l 0 in
        let len = get_or starts max_level 0 in
        let front = get_or starts (l - 1) 0 + k in
        let all : front ≡ to = omega (arith, together.behind) in
        let count : len ≡ front + (len - to) = omega (arith, part) in
        let held : grouped starts table₁ ≡ uncovered c e (grouped starts t) =
        ap (λ n. take n table₁) count ∙ kept_stays (λ x. not (c e x)) t table₁ front to len together part.1 (spared_last w t refl h (omega arith) e l at) all in
        let long : length (uncovered c e (grouped starts t)) ≡ len = ap length (sym held) ∙ length-take-le len table₁ (omega (arith, together.long, part)) in
        let laid = laid_kept w t refl h (omega arith) e l at starts (λ i m. refl) (λ i m n. omega (arith, long)) in
        let same : capacity_of table₁ ≡ capacity_of t = ap (λ n. min n max_entries) together.long in
        (simp (same, held) laid, held)
