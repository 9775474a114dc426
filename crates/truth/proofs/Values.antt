-- The digits of a block's value, and the variables that they make true and false.
use Rattle.std.proofs.Common.{◌≡◌, ℕ, suc, ◌+◌, ◌-◌, ◌*◌, ◌/◌, ◌%◌, ◌^◌, ◌<◌, ◌≤◌, List, [], ◌∷◌, length, sym, refl, ap, ◌∙◌, ap₂, mul_assoc, mul_comm, one-mul, pow-suc, zero-mul, arith, pow_pos, pow-add}
use native.Mathlib.Nat.{add-mul-div_right, add-div_left, div-eq_of_lt}
use lib.Bits.{bit_or, or_zero_l}
use Rattle.truth.specs.Truth.{made_true, made_false}

-- A digit is as it was where a higher power of two is added.
pub digit_shift : (k m v : ℕ) → k < m → ((2 ^ m + v) / 2 ^ k) % 2 ≡ (v / 2 ^ k) % 2
digit_shift k m v h =
    let c = 2 ^ (m - suc k) in
    let i : m ≡ (m - suc k) + suc k = omega arith in
    let e : 2 ^ m ≡ (c * 2) * 2 ^ k = ap (λ z. 2 ^ z) i ∙ pow-add 2 (m - suc k) (suc k) ∙ ap (λ z. c * z) (pow-suc 2 k ∙ mul_comm (2 ^ k) 2) ∙ sym (mul_assoc c 2 (2 ^ k)) in
    let d : 2 ^ m + v ≡ v + (c * 2) * 2 ^ k = omega arith in
    let q : (2 ^ m + v) / 2 ^ k ≡ v / 2 ^ k + c * 2 = ap (λ z. z / 2 ^ k) d ∙ add-mul-div_right v (c * 2) (pow_pos k) in
    omega arith

true_shift : (xs : List ℕ) (m v : ℕ) → length xs ≤ m → made_true xs (2 ^ m + v) ≡ made_true xs v
true_shift [] m v h = refl
true_shift (x ∷ xs) m v h = ap₂ (λ d r. bit_or (d * 2 ^ (x - 1)) r) (digit_shift (length xs) m v (omega arith)) (true_shift xs m v (omega arith))

false_shift : (xs : List ℕ) (m v : ℕ) → length xs ≤ m → made_false xs (2 ^ m + v) ≡ made_false xs v
false_shift [] m v h = refl
false_shift (x ∷ xs) m v h = ap₂ (λ d r. bit_or ((1 - d) * 2 ^ (x - 1)) r) (digit_shift (length xs) m v (omega arith)) (false_shift xs m v (omega arith))

-- The highest digit of a value in the lower half is 0, in the upper half 1.
pub digit_low : (n v : ℕ) → v < 2 ^ n → (v / 2 ^ n) % 2 ≡ 0
digit_low n v h = ap (λ z. z % 2) (div-eq_of_lt h)

pub digit_high : (n v : ℕ) → v < 2 ^ n → ((2 ^ n + v) / 2 ^ n) % 2 ≡ 1
digit_high n v h = let e = add-div_left v (pow_pos n) in let z = div-eq_of_lt h in omega arith

-- The lower half of the values makes the first variable false, the upper half makes it true.
module _ (x : ℕ) (xs : List ℕ) (v : ℕ) (h : v < 2 ^ length xs) where
  pub true_low : made_true (x ∷ xs) v ≡ made_true xs v
  true_low =
      ap (λ d. bit_or (d * 2 ^ (x - 1)) (made_true xs v)) (digit_low (length xs) v h)
      ∙ ap (λ d. bit_or d (made_true xs v)) (zero-mul (2 ^ (x - 1))) ∙ or_zero_l (made_true xs v)

  pub false_low : made_false (x ∷ xs) v ≡ bit_or (2 ^ (x - 1)) (made_false xs v)
  false_low =
      ap (λ d. bit_or ((1 - d) * 2 ^ (x - 1)) (made_false xs v)) (digit_low (length xs) v h)
      ∙ ap (λ d. bit_or d (made_false xs v)) (one-mul (2 ^ (x - 1)))

  pub true_high : made_true (x ∷ xs) (2 ^ length xs + v) ≡ bit_or (2 ^ (x - 1)) (made_true xs v)
  true_high =
      ap₂ (λ d r. bit_or (d * 2 ^ (x - 1)) r) (digit_high (length xs) v h) (true_shift xs (length xs) v (omega arith))
      ∙ ap (λ d. bit_or d (made_true xs v)) (one-mul (2 ^ (x - 1)))

  pub false_high : made_false (x ∷ xs) (2 ^ length xs + v) ≡ made_false xs v
  false_high =
      ap₂ (λ d r. bit_or ((1 - d) * 2 ^ (x - 1)) r) (digit_high (length xs) v h) (false_shift xs (length xs) v (omega arith))
      ∙ ap (λ d. bit_or d (made_false xs v)) (zero-mul (2 ^ (x - 1))) ∙ or_zero_l (made_false xs v)
