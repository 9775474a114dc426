-- Numbers as sets of bits.
use Rattle.std.proofs.Common.{◌≡◌, ℕ, zero, suc, ◌+◌, ◌*◌, ◌/◌, ◌%◌, ◌^◌, ◌<◌, ◌≤◌, max, true, cond, ◌&&◌, eqb, sym, refl, ap, ◌∙◌, ap₂, inl, inr, mul_assoc, pow-suc, arith}
use lib.Bits.{bit_and, bit_or, and_step, or_step, and_comm, or_comm, and_self, and_zero_r, and_le_r, or_zero_l, or_add_and}
use Rattle.std.proofs.lemmas.Bool.{cases_Bool, cases_eq, eqb-true, eqb-false, eq-eqb, ne_eqb, cond-true, cond-false}
use Rattle.truth.specs.Sets.{inside}

-- Bit c of a number, 0 or 1.
abbrev pub bit : ℕ → ℕ → ℕ
bit zero a = a % 2
bit (suc c) a = bit c (a / 2)

twice : (k : ℕ) → 2 ^ suc k ≡ 2 * 2 ^ k
twice k = omega (arith, pow-suc 2 k)

pub bit_or_lem : (c a b : ℕ) → bit c (bit_or a b) ≡ max (bit c a) (bit c b)
bit_or_lem zero a b = omega (arith, or_step a b)
bit_or_lem (suc c) a b =
    let e : bit_or a b / 2 ≡ bit_or (a / 2) (b / 2) = omega (arith, or_step a b) in
    ap (bit c) e ∙ bit_or_lem c (a / 2) (b / 2)

pub bit-zero : (c : ℕ) → bit c 0 ≡ 0
bit-zero zero = refl
bit-zero (suc c) = bit-zero c

-- A power of two has one bit.
bit_power_same : (c : ℕ) → bit c (2 ^ c) ≡ 1
bit_power_same zero = refl
bit_power_same (suc c) = let e : 2 ^ suc c / 2 ≡ 2 ^ c = omega (arith, twice c) in ap (bit c) e ∙ bit_power_same c

bit_power_other : (c d : ℕ) → (d ≡ c → ⊥) → bit d (2 ^ c) ≡ 0
bit_power_other zero zero n = absurd (n refl)
bit_power_other zero (suc d) n = bit-zero d
bit_power_other (suc c) zero n = omega (arith, twice c)
bit_power_other (suc c) (suc d) n =
    let e : 2 ^ suc c / 2 ≡ 2 ^ c = omega (arith, twice c) in ap (bit d) e ∙ bit_power_other c d (λ h. n (ap suc h))

pub bit_power : (c d : ℕ) → bit d (2 ^ c) ≡ cond (eqb d c) 1 0
bit_power c d =
    elim (cases_eq d c) [
      | inl h ↦ ap (λ z. bit z (2 ^ c)) h ∙ bit_power_same c ∙ sym (cond-true (eqb d c) 1 0 (eq-eqb d c h))
      | inr h ↦ bit_power_other c d h ∙ sym (cond-false (eqb d c) 1 0 (ne_eqb d c h))
    ]

-- One bit is masked out.
pub and_power : (c a : ℕ) → bit_and a (2 ^ c) ≡ bit c a * 2 ^ c
and_power zero a = omega (arith, and_step a 1, and_zero_r (a / 2))
and_power (suc c) a =
    let half : 2 ^ suc c / 2 ≡ 2 ^ c = omega (arith, twice c) in
    let high : bit_and (a / 2) (2 ^ suc c / 2) ≡ bit c (a / 2) * 2 ^ c = ap (bit_and (a / 2)) half ∙ and_power c (a / 2) in
    let split : bit c (a / 2) * 2 ^ suc c ≡ bit c (a / 2) * 2 ^ c * 2 = ap (λ z. bit c (a / 2) * z) (pow-suc 2 c) ∙ sym (mul_assoc (bit c (a / 2)) (2 ^ c) 2) in
    omega (arith, and_step a (2 ^ suc c), twice c)

or_half : (a b : ℕ) → bit_or a b / 2 ≡ bit_or (a / 2) (b / 2)
or_half a b = omega (arith, or_step a b)

and_half : (a b : ℕ) → bit_and a b / 2 ≡ bit_and (a / 2) (b / 2)
and_half a b = omega (arith, and_step a b)

-- The laws below go by halves; n bounds the numbers.
or_assoc_within : (n a b d : ℕ) → a ≤ n → b ≤ n → d ≤ n → bit_or (bit_or a b) d ≡ bit_or a (bit_or b d)
or_assoc_within zero a b d h k l =
    let x : a ≡ 0 = omega arith in let y : b ≡ 0 = omega arith in let z : d ≡ 0 = omega arith in simp (x, y, z)
or_assoc_within (suc n) a b d h k l =
    let high = or_assoc_within n (a / 2) (b / 2) (d / 2) (omega arith) (omega arith) (omega arith) in
    let x : bit_or (bit_or a b / 2) (d / 2) ≡ bit_or (a / 2) (bit_or b d / 2) = ap (λ z. bit_or z (d / 2)) (or_half a b) ∙ high ∙ ap (bit_or (a / 2)) (sym (or_half b d)) in
    omega (arith, or_step (bit_or a b) d, or_step a (bit_or b d), or_step a b, or_step b d, x)

pub or_assoc : (a b d : ℕ) → bit_or (bit_or a b) d ≡ bit_or a (bit_or b d)
or_assoc a b d = or_assoc_within (a + b + d) a b d (omega arith) (omega arith) (omega arith)

and_or_within : (n p a b : ℕ) → p ≤ n → bit_and p (bit_or a b) ≡ bit_or (bit_and p a) (bit_and p b)
and_or_within zero p a b h = let z : p ≡ 0 = omega arith in simp z
and_or_within (suc n) p a b h =
    let high = and_or_within n (p / 2) (a / 2) (b / 2) (omega arith) in
    let x : bit_and (p / 2) (bit_or a b / 2) ≡ bit_or (bit_and p a / 2) (bit_and p b / 2) =
    ap (bit_and (p / 2)) (or_half a b) ∙ high ∙ ap₂ bit_or (sym (and_half p a)) (sym (and_half p b)) in
    omega (arith, and_step p (bit_or a b), or_step a b, or_step (bit_and p a) (bit_and p b), and_step p a, and_step p b, x)

pub and_or : (p a b : ℕ) → bit_and p (bit_or a b) ≡ bit_or (bit_and p a) (bit_and p b)
and_or p a b = and_or_within p p a b (omega arith)

-- A union is empty just where both parts are.
pub or_none : (a b : ℕ) → eqb (bit_or a b) 0 ≡ (eqb a 0 && eqb b 0)
or_none a b =
    elim (cases_Bool (eqb a 0)) [
      | inl h ↦ let z = eqb-true a 0 h in simp (z, or_zero_l)
      | inr h ↦ simp h (ne_eqb (bit_or a b) 0 (λ e. eqb-false a 0 h (omega (arith, or_add_and a b, and_le_r a b, e))))
    ]

-- a lies inside b.
abbrev pub Sub : ℕ → ℕ → Type 0
Sub a b = bit_and a b ≡ a

pub sub_of : (a b : ℕ) → inside a b ≡ true → Sub a b
sub_of a b h = eqb-true (bit_and a b) a h

pub of_sub : (a b : ℕ) → Sub a b → inside a b ≡ true
of_sub a b h = eq-eqb (bit_and a b) a h

pub sub_self : (a : ℕ) → Sub a a
sub_self a = and_self a

pub sub_both : (a b : ℕ) → Sub a b → Sub b a → a ≡ b
sub_both a b h k = sym h ∙ and_comm a b ∙ k

pub sub_none : (a b : ℕ) → Sub a b → b ≡ 0 → a ≡ 0
sub_none a b h e = sym h ∙ ap (bit_and a) e ∙ and_zero_r a

pub sub_half : (a b : ℕ) → Sub a b → Sub (a / 2) (b / 2)
sub_half a b h = omega (arith, and_step a b)

pub sub_low : (a b : ℕ) → Sub a b → a % 2 ≤ b % 2
sub_low a b h = omega (arith, and_step a b)

-- Lowest bits in order, before the rest in order.
pub sub_join : (x y r s : ℕ) → x ≤ y → y < 2 → Sub r s → Sub (x + 2 * r) (y + 2 * s)
sub_join x y r s h k e =
    let p : (x + 2 * r) / 2 ≡ r = omega arith in
    let q : (y + 2 * s) / 2 ≡ s = omega arith in
    let m : bit_and ((x + 2 * r) / 2) ((y + 2 * s) / 2) ≡ r = ap₂ bit_and p q ∙ e in
    omega (arith, and_step (x + 2 * r) (y + 2 * s))

sub_on_within : (n a b d : ℕ) → a ≤ n → Sub a b → Sub b d → Sub a d
sub_on_within zero a b d l h k = let z : a ≡ 0 = omega arith in rw z
sub_on_within (suc n) a b d l h k =
    let high = sub_on_within n (a / 2) (b / 2) (d / 2) (omega arith) (sub_half a b h) (sub_half b d k) in
    omega (arith, and_step a d, sub_low a b h, sub_low b d k, high)

pub sub_on : (a b d : ℕ) → Sub a b → Sub b d → Sub a d
sub_on a b d h k = sub_on_within a a b d (omega arith) h k

sub_or_within : (n a b : ℕ) → a ≤ n → Sub a (bit_or a b)
sub_or_within zero a b h = let z : a ≡ 0 = omega arith in rw z
sub_or_within (suc n) a b h =
    let high = ap (bit_and (a / 2)) (or_half a b) ∙ sub_or_within n (a / 2) (b / 2) (omega arith) in
    omega (arith, and_step a (bit_or a b), or_step a b, high)

pub sub_or : (a b : ℕ) → Sub a (bit_or a b)
sub_or a b = sub_or_within a a b (omega arith)

pub both_inside : (a b m : ℕ) → Sub a m → Sub b m → Sub (bit_or a b) m
both_inside a b m h k =
    and_comm (bit_or a b) m ∙ and_or m a b ∙ ap₂ bit_or (and_comm m a ∙ h) (and_comm m b ∙ k)

-- A union lies inside just where both parts do.
pub inside_or : (a b m : ℕ) → inside (bit_or a b) m ≡ (inside a m && inside b m)
inside_or a b m =
    elim (cases_Bool (inside a m)) [
      | inl h ↦ (elim (cases_Bool (inside b m)) [
        | inl k ↦ simp (h, k) (eq-eqb (bit_and (bit_or a b) m) (bit_or a b) (both_inside a b m (eqb-true (bit_and a m) a h) (eqb-true (bit_and b m) b k)))
        | inr k ↦ simp (h, k) (ne_eqb (bit_and (bit_or a b) m) (bit_or a b) (λ e. eqb-false (bit_and b m) b k (sub_on b (bit_or a b) m (ap (bit_and b) (or_comm a b) ∙ sub_or b a) e)))
      ])
      | inr h ↦ simp h (ne_eqb (bit_and (bit_or a b) m) (bit_or a b) (λ e. eqb-false (bit_and a m) a h (sub_on a (bit_or a b) m (sub_or a b) e)))
    ]
