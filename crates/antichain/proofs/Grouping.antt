-- A list in order of levels: where each level begins, and how many entries there are up to it.
use Rattle.std.proofs.Common.{◌≡◌, ℕ, ◌+◌, ◌-◌, ◌<◌, ◌≤◌, min, Bool, true, false, cond, not, eqb, ltb, leb, List, [], ◌∷◌, length, get_or, take, drop, filter, Option, sym, refl, ap, ◌∙◌, subst, inl, inr, zero-add, arith}
use lib.Seq.{paste}
use Rattle.std.specs.List.{AllByRecursion}
use Rattle.std.proofs.ByRecursion.{All-weaker, kept_by_passes}
use Rattle.std.proofs.lemmas.List.{take-take, length-drop}
use Rattle.std.proofs.lemmas.List.Elements.{filter_agree}
use Rattle.std.proofs.lemmas.List.Edits.{take-paste}
use Rattle.std.proofs.lemmas.Slice.{between_is}
use Rattle.std.proofs.lemmas.Bool.{cases_Bool, not_from_false, not-false, cases_lt, cases_order, eq-eqb, ne_eqb, eqb-false, leb-true, leb-false, le-leb, lt-leb, lt-ltb, le-ltb, ltb-true}
use Rattle.antichain.specs.Limits.{max_level}
use Rattle.antichain.specs.Entries.{Rules}
use Rattle.antichain.specs.Lookups.{Told}
use Rattle.antichain.specs.Adding.{uncovered, above, placed}
use Rattle.antichain.specs.Antichain.{ApartFrom}
use Rattle.antichain.specs.Layouts.{upto, Ordered, Laid}
use Rattle.antichain.proofs.Canonical.{before_levels, before_by_level}
use Rattle.antichain.proofs.Kept.{length-kept, kept_sure, kept_both, count_out, count_in}
use Rattle.antichain.proofs.Sorting.{ordered_kept, ordered_placed, count_placed}
use Rattle.antichain.proofs.Covering.{told_kept, apart_kept, apart_placed}

module _ {E : Type 0} (v : E → ℕ) where
  pub upto_top : (n : ℕ) → ((x : E) → v x ≤ n) → (xs : List E) → upto v n xs ≡ xs
  upto_top n h [] = refl
  upto_top n h (x ∷ xs) = simp (le-leb (v x) n (h x), upto_top n h xs)

  pub count_mono : (i j : ℕ) → i ≤ j → (xs : List E) → length (upto v i xs) ≤ length (upto v j xs)
  count_mono i j h [] = omega arith
  count_mono i j h (x ∷ xs) =
      let ih = count_mono i j h xs in
      elim (cases_Bool (leb (v x) i)) [
        | inl k ↦ simp (k, le-leb (v x) j (omega (arith, leb-true (v x) i k))) (omega arith)
        | inr k ↦ elim (cases_Bool (leb (v x) j)) [ inl m ↦ simp (k, m) (omega arith) | inr m ↦ simp (k, m) ih ]
      ]

  pub count_above : (l i : ℕ) (xs : List E) → length (upto v i (above v l xs)) ≡ length (upto v i xs) - length (upto v l xs)
  count_above l i [] = refl
  count_above l i (x ∷ xs) =
      let ih = count_above l i xs in
      elim (cases_Bool (leb (v x) l)) [
        | inl k ↦
            let m : ltb l (v x) ≡ false = le-ltb l (v x) (leb-true (v x) l k) in
            elim (cases_Bool (leb (v x) i)) [
              | inl n ↦ simp (k, m, n) (omega arith)
              | inr n ↦ let o = count_mono i l (omega (arith, leb-true (v x) l k, leb-false (v x) i n)) xs in simp (k, m, n) (omega arith)
            ]
        | inr k ↦
            let m : ltb l (v x) ≡ true = lt-ltb l (v x) (leb-false (v x) l k) in
            elim (cases_Bool (leb (v x) i)) [
              | inl n ↦ let o = count_mono l i (omega (arith, leb-false (v x) l k, leb-true (v x) i n)) xs in simp (k, m, n) (omega arith)
              | inr n ↦ simp (k, m, n) ih
            ]
      ]

  module _ (b : E → E → Bool) (rising : (x y : E) → b y x ≡ false → v x ≤ v y) where
    none : (i : ℕ) (y : E) (zs : List E) → i < v y → AllByRecursion (λ z. b z y ≡ false) zs → (upto v i zs ≡ []) × (above v i zs ≡ zs)
    none i y [] h a = (refl, refl)
    none i y (z ∷ zs) h a =
        let ih = none i y zs h a.1 in
        let k : i < v z = omega (arith, rising y z a.0) in
        (simp (lt-leb (v z) i k, ih.0), simp (lt-ltb i (v z) k, ih.1))

    -- the entries up to a level come first, and then those above it
    pub cut : (i : ℕ) (xs : List E) → Ordered b xs → (take (length (upto v i xs)) xs ≡ upto v i xs) × (drop (length (upto v i xs)) xs ≡ above v i xs)
    cut i [] o = (refl, refl)
    cut i (x ∷ xs) o =
        elim (cases_Bool (leb (v x) i)) [
          | inl k ↦ let ih = cut i xs o.1 in
              let m : ltb i (v x) ≡ false = le-ltb i (v x) (leb-true (v x) i k) in
              (simp k (ap (λ l. x ∷ l) ih.0), simp (k, m) ih.1)
          | inr k ↦
              let h : i < v x = leb-false (v x) i k in
              let n = none i x xs h o.0 in
              (simp (k, n.0), simp (k, n.0, lt-ltb i (v x) h, n.1))
        ]

module _ {E : Type 0} {v s : E → ℕ} {c b : E → E → Bool} (w : Rules v s c b) where
  -- entries of two levels do not cover one another
  other : (x y : E) → (v x ≡ v y → ⊥) → c x y ≡ false
  other x y h = elim (cases_Bool (c x y)) [ inl k ↦ absurd (h (w.within x y k)) | inr k ↦ k ]

  -- a look-up among the entries of e's level
  pub told_level : (e : E) (l : ℕ) → l ≡ v e → (xs : List E) (r : Option E) → Told c (filter (λ x. eqb (v x) l) xs) e r → Told c xs e r
  told_level e l at xs r k = told_kept c (λ x. eqb (v x) l) e (λ x m. other x e (λ q. eqb-false (v x) l m (q ∙ sym at))) xs r k

  between : (l : ℕ) → 1 ≤ l → (x : E) → cond (leb (v x) l) (ltb (l - 1) (v x)) false ≡ eqb (v x) l
  between l low x =
      elim (cases_order (v x) l) [
        | inl q ↦ simp (le-leb (v x) l (omega arith), lt-ltb (l - 1) (v x) (omega arith), eq-eqb (v x) l q)
        | inr o ↦ elim o [
          | inl q ↦ simp (le-leb (v x) l (omega arith), le-ltb (l - 1) (v x) (omega arith), ne_eqb (v x) l (λ z. omega arith))
          | inr q ↦ simp (lt-leb (v x) l q, ne_eqb (v x) l (λ z. omega arith))
        ]
      ]

  both : (l : ℕ) (x : E) → ltb (min l max_level) (v x) ≡ ltb l (v x)
  both l x =
      elim (cases_lt l (v x)) [
        | inl h ↦ lt-ltb (min l max_level) (v x) (omega (arith, w.most x)) ∙ sym (lt-ltb l (v x) h)
        | inr h ↦ le-ltb (min l max_level) (v x) (omega (arith, w.most x)) ∙ sym (le-ltb l (v x) h)
      ]

  module _ {cap : ℕ} {starts : List ℕ} (t : List E) {xs : List E} (is : xs ≡ take (get_or starts max_level 0) t) (h : Laid v c b cap starts xs) (fits : cap ≤ length t) where
    pub ascend : (i j : ℕ) → i ≤ j → j ≤ max_level → get_or starts i 0 ≤ get_or starts j 0
    ascend i j k m = omega (arith, h.counts i (omega arith), h.counts j m, count_mono v i j k xs)

    pub whole : length xs ≡ get_or starts max_level 0
    whole = omega (arith, h.counts max_level (omega arith), ap length (upto_top v max_level w.most xs))

    first : (i : ℕ) → i ≤ max_level → take (get_or starts i 0) t ≡ upto v i xs
    first i k =
        sym (take-take (get_or starts i 0) (get_or starts max_level 0) t (ascend i max_level k (omega arith))) ∙ ap (take (get_or starts i 0)) (sym is) ∙
        subst (λ m. take m xs ≡ upto v i xs) (sym (h.counts i k)) (cut v b (before_levels w) i xs h.ordered).0

    last : (i : ℕ) → i ≤ max_level → drop (get_or starts i 0) xs ≡ above v i xs
    last i k = subst (λ m. drop m xs ≡ above v i xs) (sym (h.counts i k)) (cut v b (before_levels w) i xs h.ordered).1

    module _ (l : ℕ) (low : 1 ≤ l) (high : l ≤ max_level) where
      pub part_within : (get_or starts (l - 1) 0 ≤ get_or starts l 0) × (get_or starts l 0 ≤ get_or starts max_level 0) × (get_or starts max_level 0 ≤ length t)
      part_within = (ascend (l - 1) l (omega arith) high, ascend l max_level high (omega arith), omega (arith, h.fits))

      -- the entries of a level stand between its start and the next
      pub level : take (get_or starts l 0 - get_or starts (l - 1) 0) (drop (get_or starts (l - 1) 0) t) ≡ filter (λ x. eqb (v x) l) xs
      level =
          let same : length (upto v (l - 1) (upto v l xs)) ≡ get_or starts (l - 1) 0 =
          count_in (λ x. leb (v x) (l - 1)) (λ x. leb (v x) l) (λ x k. lt-leb (v x) (l - 1) (omega (arith, leb-false (v x) l k))) xs ∙ sym (h.counts (l - 1) (omega arith)) in
          between_is t (get_or starts (l - 1) 0) (get_or starts l 0) ∙ ap (drop (get_or starts (l - 1) 0)) (first l high) ∙
          subst (λ m. drop m (upto v l xs) ≡ above v (l - 1) (upto v l xs)) same (cut v b (before_levels w) (l - 1) (upto v l xs) (ordered_kept b _ xs h.ordered)).1 ∙
          kept_both (λ x. ltb (l - 1) (v x)) (λ x. leb (v x) l) (λ x. eqb (v x) l) (between l low) xs

    module _ (e : E) (l : ℕ) (at : l ≡ v e) where
      -- those outside e's level are not covered by it
      pub spared_first : uncovered c e (take (get_or starts (l - 1) 0) t) ≡ take (get_or starts (l - 1) 0) t
      spared_first =
          let f = first (l - 1) (omega (arith, w.most e)) in
          ap (uncovered c e) f ∙ kept_sure (λ x. leb (v x) (l - 1)) (λ x. not (c e x)) (λ x m. not_from_false (c e x) (other e x (λ q. omega (arith, leb-true (v x) (l - 1) m, w.least e)))) xs ∙ sym f

      pub spared_last : uncovered c e (drop (get_or starts l 0) xs) ≡ drop (get_or starts l 0) xs
      spared_last =
          let f = last l (omega (arith, w.most e)) in
          ap (uncovered c e) f ∙ kept_sure (λ x. ltb l (v x)) (λ x. not (c e x)) (λ x m. not_from_false (c e x) (other e x (λ q. omega (arith, ltb-true l (v x) m)))) xs ∙ sym f

      -- e comes before none of the levels below its own, and before all of those above
      pub after_first : AllByRecursion (λ x. b e x ≡ false) (take (get_or starts (l - 1) 0) t)
      after_first =
          subst (AllByRecursion (λ x. b e x ≡ false)) (sym (first (l - 1) (omega (arith, w.most e))))
          (All-weaker _ _ (λ x k. (before_by_level w x e (omega (arith, leb-true (v x) (l - 1) k, w.least e))).1) (upto v (l - 1) xs) (kept_by_passes (λ x. leb (v x) (l - 1)) xs))

      pub before_last : AllByRecursion (λ x. b e x ≡ true) (drop (get_or starts l 0) xs)
      before_last =
          subst (AllByRecursion (λ x. b e x ≡ true)) (sym (last l (omega (arith, w.most e))))
          (All-weaker _ _ (λ x k. (before_by_level w e x (omega (arith, ltb-true l (v x) k))).0) (above v l xs) (kept_by_passes (λ x. ltb l (v x)) xs))

      -- how many are left up to a level, where those that e covers are gone
      count_left : (k : ℕ) → l ≤ k → length (upto v k (uncovered c e xs)) + length xs ≡ length (upto v k xs) + length (uncovered c e xs)
      count_left k m =
          count_out (λ x. leb (v x) k) (λ x. not (c e x)) (λ x n. le-leb (v x) k (omega (arith, w.within e x (not-false (c e x) n)))) xs

      count_same : (k : ℕ) → k < l → length (upto v k (uncovered c e xs)) ≡ length (upto v k xs)
      count_same k m =
          count_in (λ x. leb (v x) k) (λ x. not (c e x)) (λ x n. lt-leb (v x) k (omega (arith, w.within e x (not-false (c e x) n)))) xs

      pub gone_within : (k : ℕ) → l ≤ k → k ≤ max_level → (get_or starts max_level 0 - length (uncovered c e xs) ≤ get_or starts k 0) × (get_or starts k 0 ≤ get_or starts max_level 0)
      gone_within k m n = (omega (arith, count_left k m, h.counts k n, whole), ascend k max_level n (omega arith))

      -- the starts, once those that e covers are gone
      pub laid_kept : (new : List ℕ)
          → ((k : ℕ) → k < l → get_or new k 0 ≡ get_or starts k 0)
          → ((k : ℕ) → l ≤ k → k ≤ max_level → get_or new k 0 ≡ get_or starts k 0 - (get_or starts max_level 0 - length (uncovered c e xs)))
          → Laid v c b cap new (uncovered c e xs)
      laid_kept new below over = record {
        fits = omega (arith, over max_level (omega (arith, w.most e)) (omega arith), h.fits);
        counts = λ k m. elim (cases_lt k l) [
          | inl n ↦ omega (arith, below k n, h.counts k m, count_same k n)
          | inr n ↦ omega (arith, over k n m, h.counts k m, count_left k n, whole, length-kept (λ x. not (c e x)) xs)
        ];
        ordered = ordered_kept b _ xs h.ordered;
        apart = apart_kept c _ xs h.apart;
      }

      -- and once e is put into its place
      pub laid_placed : (new : List ℕ)
          → ApartFrom c e xs → get_or starts max_level 0 < cap
          → ((k : ℕ) → k < l → get_or new k 0 ≡ get_or starts k 0)
          → ((k : ℕ) → l ≤ k → k ≤ max_level → get_or new k 0 ≡ get_or starts k 0 + 1)
          → Laid v c b cap new (placed b e xs)
      laid_placed new fresh room below over = record {
        fits = omega (arith, over max_level (omega (arith, w.most e)) (omega arith));
        counts = λ k m. elim (cases_lt k l) [
          | inl n ↦ let d : leb (v e) k ≡ false = lt-leb (v e) k (omega arith) in
              omega (arith, below k n, h.counts k m, simp d at (count_placed b (λ x. leb (v x) k) e xs))
          | inr n ↦ let d : leb (v e) k ≡ true = le-leb (v e) k (omega arith) in
              omega (arith, over k n m, h.counts k m, simp d at (count_placed b (λ x. leb (v x) k) e xs))
        ];
        ordered = ordered_placed w e xs h.ordered;
        apart = apart_placed c b e xs h.apart fresh;
      }

    -- the entries of levels up to l are gone, and the rest was moved to the front
    pub moved_down : (l : ℕ) → take (get_or starts max_level 0 - get_or starts (min l max_level) 0) (paste t 0 (drop (get_or starts (min l max_level) 0) t) (get_or starts max_level 0 - get_or starts (min l max_level) 0)) ≡ above v l xs
    moved_down l =
        let m = min l max_level in
        let top : m ≤ max_level = omega arith in
        let n = get_or starts max_level 0 - get_or starts m 0 in
        ap (λ j. take j (paste t 0 (drop (get_or starts m 0) t) n)) (sym (zero-add n)) ∙ take-paste t 0 (drop (get_or starts m 0) t) n (omega arith) (omega (arith, length-drop (get_or starts m 0) t, h.fits)) ∙
        between_is t (get_or starts m 0) (get_or starts max_level 0) ∙ ap (drop (get_or starts m 0)) (sym is) ∙ last m top ∙
        filter_agree (λ x. ltb m (v x)) (λ x. ltb l (v x)) (λ x. both l x) xs

    pub laid_above : (l : ℕ) (new : List ℕ) → ((k : ℕ) → k ≤ max_level → get_or new k 0 ≡ get_or starts k 0 - get_or starts (min l max_level) 0) → Laid v c b cap new (above v l xs)
    laid_above l new less = record {
      fits = omega (arith, less max_level (omega arith), h.fits);
      counts = λ k m.
          less k m ∙ omega (arith, h.counts k m, h.counts (min l max_level) (omega arith), count_above v (min l max_level) k xs, ap (λ z. length (upto v k z)) (filter_agree (λ x. ltb (min l max_level) (v x)) (λ x. ltb l (v x)) (λ x. both l x) xs));
      ordered = ordered_kept b _ xs h.ordered;
      apart = apart_kept c _ xs h.apart;
    }
