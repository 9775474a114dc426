-- The steps of a loop that reads digits.
use Rattle.std.proofs.Common.{◌≡◌, ℕ, ◌+◌, ◌-◌, ◌*◌, ◌^◌, ◌<◌, ◌≤◌, Bool, true, false, ◌&&◌, List, length, get_or, drop, sym, ap, ◌∙◌, pow-suc, add-one, arith}
use native.Mathlib.Nat.{pow-le-pow_right}
use Rattle.std.specs.Char.{is_ascii_digit}
use Rattle.std.specs.Str.{all_ascii_digits}
use Rattle.std.proofs.lemmas.List.{at_drop_more, at_drop_all}
use Rattle.text.specs.Numeral.{read_on}

-- Nine digits at most: the number so far has eight.
pub eight : (n i : ℕ) → n < 10 ^ i → i < 9 → n < 100000000
eight n i l h = let q : i ≤ 8 = omega arith in let p : 10 ^ i ≤ 10 ^ 8 = pow-le-pow_right (omega arith) q in omega (arith, p)

pub grown : (n i d : ℕ) → n < 10 ^ i → d < 10 → n * 10 + d < 10 ^ (i + 1)
grown n i d l h = rw (add-one, pow-suc) (omega arith)

pub value_step : (xs : List ℕ) (n i v : ℕ) → i < length xs → read_on n (drop i xs) ≡ v → read_on (n * 10 + (get_or xs i 0 - 48)) (drop (i + 1) xs) ≡ v
value_step xs n i v h e = sym (at_drop_more (read_on n) xs i 0 h) ∙ e

pub digits_step : (xs : List ℕ) (i : ℕ) (v : Bool) → i < length xs → is_ascii_digit (get_or xs i 0) ≡ true → all_ascii_digits (drop i xs) ≡ v → all_ascii_digits (drop (i + 1) xs) ≡ v
digits_step xs i v h d e = sym (at_drop_more all_ascii_digits xs i 0 h ∙ ap (λ b. b && all_ascii_digits (drop (i + 1) xs)) d) ∙ e

pub digits_stop : (xs : List ℕ) (i : ℕ) → i < length xs → is_ascii_digit (get_or xs i 0) ≡ false → all_ascii_digits (drop i xs) ≡ false
digits_stop xs i h d = at_drop_more all_ascii_digits xs i 0 h ∙ ap (λ b. b && all_ascii_digits (drop (i + 1) xs)) d

pub value_end : (xs : List ℕ) (n i v : ℕ) → length xs ≤ i → read_on n (drop i xs) ≡ v → n ≡ v
value_end xs n i v h e = sym (at_drop_all (read_on n) xs i h) ∙ e

pub digits_end : (xs : List ℕ) (i : ℕ) (v : Bool) → length xs ≤ i → all_ascii_digits (drop i xs) ≡ v → true ≡ v
digits_end xs i v h e = sym (at_drop_all all_ascii_digits xs i h) ∙ e
