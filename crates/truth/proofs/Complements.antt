-- What is left of a set without a part of it.
use Rattle.std.proofs.Common.{◌≡◌, ℕ, zero, suc, ◌+◌, ◌-◌, ◌*◌, ◌/◌, ◌%◌, ◌≤◌, min, eqb, sym, refl, ap, ◌∙◌, subst, ap₂, inl, inr, arith}
use native.Mathlib.Nat.{sub-zero}
use lib.Bits.{bit_and, and_step, and_le_l, and_le_r, and_zero_r}
use Rattle.std.proofs.lemmas.Bool.{cases_Bool, cases_eq, both_ways, eq-eqb, ne_eqb}
use Rattle.truth.specs.Sets.{inside}
use Rattle.truth.proofs.Bits.{Sub, sub_of, of_sub, sub_half, sub_low, sub_join}

-- A part is no larger.
pub sub_le : (a t : ℕ) → Sub a t → a ≤ t
sub_le a t h = omega (arith, and_le_r a t, h)

-- A difference by halves.
module _ (a t : ℕ) (h : Sub a t) where
  minus_high : (t - a) / 2 ≡ t / 2 - a / 2
  minus_high = omega (arith, sub_low a t h, sub_le (a / 2) (t / 2) (sub_half a t h))

  minus_low : (t - a) % 2 ≡ t % 2 - a % 2
  minus_low = omega (arith, sub_low a t h, sub_le (a / 2) (t / 2) (sub_half a t h))

  minus_split : t - a ≡ (t % 2 - a % 2) + 2 * (t / 2 - a / 2)
  minus_split = omega (arith, minus_high, minus_low)

-- The larger the part, the less is left.
minus_less_within : (n t a b : ℕ) → t ≤ n → Sub a t → Sub b t → Sub b a → Sub (t - a) (t - b)
minus_less_within zero t a b l h k i =
    let z : t - a ≡ 0 = omega arith in let y : t - b ≡ 0 = omega arith in ap₂ bit_and z y ∙ sym z
minus_less_within (suc n) t a b l h k i =
    let high = minus_less_within n (t / 2) (a / 2) (b / 2) (omega arith) (sub_half a t h) (sub_half b t k) (sub_half b a i) in
    let joined = sub_join (t % 2 - a % 2) (t % 2 - b % 2) (t / 2 - a / 2) (t / 2 - b / 2) (omega (arith, sub_low b a i)) (omega arith) high in
    subst (λ x. Sub x (t - b)) (sym (minus_split a t h)) (subst (Sub ((t % 2 - a % 2) + 2 * (t / 2 - a / 2))) (sym (minus_split b t k)) joined)

minus_less : (t a b : ℕ) → Sub a t → Sub b t → Sub b a → Sub (t - a) (t - b)
minus_less t a b = minus_less_within t t a b (omega arith)

minus_part : (t a : ℕ) → Sub a t → Sub (t - a) t
minus_part t a h = subst (Sub (t - a)) (sub-zero t) (minus_less t a 0 h refl refl)

-- What is left is left inside exactly where the parts lie the other way.
pub minus_inside : (t a b : ℕ) → Sub a t → Sub b t → inside (t - a) (t - b) ≡ inside b a
minus_inside t a b h k =
    elim (cases_Bool (inside b a)) [
      | inl e ↦ of_sub (t - a) (t - b) (minus_less t a b h k (sub_of b a e)) ∙ sym e
      | inr e ↦ elim (cases_Bool (inside (t - a) (t - b))) [
        | inl f ↦
            let back : Sub (t - (t - b)) (t - (t - a)) = minus_less t (t - b) (t - a) (minus_part t b k) (minus_part t a h) (sub_of _ _ f) in
            let x : t - (t - b) ≡ b = omega (arith, sub_le b t k) in
            let y : t - (t - a) ≡ a = omega (arith, sub_le a t h) in
            absurd (both_ways (inside b a) e (of_sub b a (subst (Sub b) y (subst (λ z. Sub z (t - (t - a))) x back))))
        | inr f ↦ f ∙ sym e
      ]
    ]

pub minus_same : (t a b : ℕ) → Sub a t → Sub b t → eqb (t - a) (t - b) ≡ eqb a b
minus_same t a b h k =
    elim (cases_eq a b) [
      | inl e ↦ eq-eqb _ _ (ap (λ z. t - z) e) ∙ sym (eq-eqb a b e)
      | inr n ↦ ne_eqb _ _ (λ e. n (omega (arith, sub_le a t h, sub_le b t k))) ∙ sym (ne_eqb a b n)
    ]

and_split : (s m : ℕ) → bit_and s m ≡ min (s % 2) (m % 2) + 2 * bit_and (s / 2) (m / 2)
and_split s m = omega (arith, and_step s m)

-- A set meets a part in a part of what it meets of the whole.
and_sub_within : (n s m w : ℕ) → s ≤ n → Sub m w → Sub (bit_and s m) (bit_and s w)
and_sub_within zero s m w l h = let z : bit_and s m ≡ 0 = omega (arith, and_le_l s m) in subst (λ x. Sub x (bit_and s w)) (sym z) refl
and_sub_within (suc n) s m w l h =
    let high = and_sub_within n (s / 2) (m / 2) (w / 2) (omega arith) (sub_half m w h) in
    let joined = sub_join (min (s % 2) (m % 2)) (min (s % 2) (w % 2)) (bit_and (s / 2) (m / 2)) (bit_and (s / 2) (w / 2)) (omega (arith, sub_low m w h)) (omega arith) high in
    subst (λ x. Sub x (bit_and s w)) (sym (and_split s m)) (subst (Sub (min (s % 2) (m % 2) + 2 * bit_and (s / 2) (m / 2))) (sym (and_split s w)) joined)

pub and_sub : (s m w : ℕ) → Sub m w → Sub (bit_and s m) (bit_and s w)
and_sub s m w h = and_sub_within s s m w (omega arith) h

-- A set meets the whole in what it meets of a part and of what is left of it.
and_minus_within : (n s w m : ℕ) → w ≤ n → Sub m w → bit_and s (w - m) + bit_and s m ≡ bit_and s w
and_minus_within zero s w m l h =
    let x : w ≡ 0 = omega arith in let y : m ≡ 0 = omega (arith, sub_le m w h) in
    simp (x, y) (omega (arith, and_zero_r s))
and_minus_within (suc n) s w m l h =
    let high = ap (λ z. bit_and (s / 2) z + bit_and (s / 2) (m / 2)) (minus_high m w h) ∙ and_minus_within n (s / 2) (w / 2) (m / 2) (omega arith) (sub_half m w h) in
    omega (arith, and_step s (w - m), and_step s m, and_step s w, minus_low m w h, sub_low m w h, high)

pub and_minus : (s w m : ℕ) → Sub m w → bit_and s (w - m) ≡ bit_and s w - bit_and s m
and_minus s w m h = omega (arith, and_minus_within w s w m (omega arith) h)
