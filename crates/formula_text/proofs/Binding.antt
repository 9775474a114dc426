-- Variables are bound by a mask just where they are in range and none stands twice.
use Rattle.std.proofs.Common.{◌≡◌, ℕ, ◌-◌, ◌^◌, true, false, cond, not, ◌&&◌, ◌||◌, eqb, leb, List, [], ◌∷◌, ◌++◌, Some, None, Option, sym, refl, ap, ◌∙◌, ap₂, inl, inr}
use lib.Bits.{bit_or, or_zero_r}
use Rattle.std.proofs.lemmas.List.{append-nil, append_assoc}
use Rattle.std.proofs.lemmas.Bool.{cases_Bool, leb-true, and_parts, and_from, and_right, not_from_false, eq-eqb, ne_eqb, or_right, or_left, cases_eq, not-true}
use Rattle.truth.specs.Syntax.{mask_of}
use Rattle.truth.specs.WellFormed.{all, elem, distinct, positive, ranged}
use Rattle.qbf.specs.Bound.{bind_all}
use Rattle.truth.proofs.Members.{all_append}
use Rattle.qbf.proofs.Masks.{mask_free, mask_append}

pub elem_append : (v : ℕ) (xs ys : List ℕ) → elem v (xs ++ ys) ≡ (elem v xs || elem v ys)
elem_append v [] ys = refl
elem_append v (x ∷ xs) ys = elim (eqb v x) as (λ t. (t || elem v (xs ++ ys)) ≡ ((t || elem v xs) || elem v ys)) [ true ↦ refl | false ↦ elem_append v xs ys ]

-- A number that stood before stands twice.
stands_twice : (v : ℕ) (ws vs : List ℕ) → elem v ws ≡ true → distinct (ws ++ (v ∷ vs)) ≡ false
stands_twice v [] vs e = cc
stands_twice v (w ∷ ws) vs e =
    elim (cases_eq v w) [
      | inl h ↦
          let again : elem w (ws ++ (v ∷ vs)) ≡ true = elem_append w ws (v ∷ vs) ∙ or_right (elem w ws) (elem w (v ∷ vs)) (or_left (eqb w v) (elem w vs) (eq-eqb w v (sym h))) in
          ap (λ t. not t && distinct (ws ++ (v ∷ vs))) again
      | inr n ↦
          let later : elem v ws ≡ true = sym (ap (λ t. t || elem v ws) (ne_eqb v w n)) ∙ e in
          and_right (not (elem w (ws ++ (v ∷ vs)))) (distinct (ws ++ (v ∷ vs))) (stands_twice v ws vs later)
    ]

-- One number more, which did not stand before.
distinct_push : (v : ℕ) (ws : List ℕ) → distinct ws ≡ true → elem v ws ≡ false → distinct (ws ++ (v ∷ [])) ≡ true
distinct_push v [] d e = refl
distinct_push v (w ∷ ws) d e =
    let p = and_parts (not (elem w ws)) (distinct ws) d in
    elim (cases_eq v w) [
      | inl h ↦ let t : true ≡ false = sym (ap (λ t. t || elem v ws) (eq-eqb v w h)) ∙ e in cc
      | inr n ↦
          let fresh : elem w (ws ++ (v ∷ [])) ≡ false =
          elem_append w ws (v ∷ []) ∙ ap₂ (λ a b. a || (b || false)) (not-true (elem w ws) p.0) (ne_eqb w v (λ h. n (sym h))) in
          let later : elem v ws ≡ false = sym (ap (λ t. t || elem v ws) (ne_eqb v w n)) ∙ e in
          and_from (not (elem w (ws ++ (v ∷ [])))) (distinct (ws ++ (v ∷ []))) (not_from_false (elem w (ws ++ (v ∷ []))) fresh) (distinct_push v ws p.1 later)
    ]

-- What a block of variables makes of those bound before, by its rules.
abbrev pub bind_rule : ℕ → List ℕ → List ℕ → Option ℕ
bind_rule highest ws vs = cond (all (ranged highest) vs && distinct (ws ++ vs)) (Some (mask_of (ws ++ vs))) None

pub bound_by_rule : (highest : ℕ) (ws vs : List ℕ) → distinct ws ≡ true → all positive ws ≡ true → bind_all highest (mask_of ws) vs ≡ bind_rule highest ws vs
bound_by_rule highest ws [] d p = rw append-nil (simp d)
bound_by_rule highest ws (v ∷ vs) d p =
    elim (cases_Bool (ranged highest v)) [
      | inr t ↦ simp t
      | inl t ↦
          let r = and_parts (leb 1 v) (leb v highest) t in
          let free = mask_free v ws (leb-true 1 v r.0) p in
          elim (cases_Bool (elem v ws)) [
            | inl e ↦
                let rule : (all (ranged highest) vs && distinct (ws ++ (v ∷ vs))) ≡ false = and_right (all (ranged highest) vs) (distinct (ws ++ (v ∷ vs))) (stands_twice v ws vs e) in
                simp (t, free, e, rule)
            | inr e ↦
                let one : bit_or (mask_of ws) (2 ^ (v - 1)) ≡ mask_of (ws ++ (v ∷ [])) = sym (mask_append ws (v ∷ []) ∙ ap (bit_or (mask_of ws)) (or_zero_r (2 ^ (v - 1)))) in
                let more = bound_by_rule highest (ws ++ (v ∷ [])) vs (distinct_push v ws d e) (all_append positive ws (v ∷ []) ∙ and_from _ _ p (and_from _ _ r.0 refl)) in
                let whole : bind_rule highest (ws ++ (v ∷ [])) vs ≡ cond (all (ranged highest) vs && distinct (ws ++ (v ∷ vs))) (Some (mask_of (ws ++ (v ∷ vs)))) None =
                ap (λ xs. cond (all (ranged highest) vs && distinct xs) (Some (mask_of xs)) None) (append_assoc ws (v ∷ []) vs) in
                simp (t, free, e) (ap (λ m. bind_all highest m vs) one ∙ more ∙ whole)
          ]
    ]
