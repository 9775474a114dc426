-- The steps of loops over binary digits.
use Rattle.std.proofs.Common.{◌≡◌, ℕ, ◌+◌, ◌^◌, ◌<◌, ◌≤◌, true, List, length, get_or, drop, sym, ◌∙◌, inl, inr, arith}
use Rattle.std.specs.List.{list_all}
use native.Mathlib.Nat.{pow-le-pow_right}
use Rattle.std.proofs.lemmas.List.{at_drop_more}
use Rattle.std.proofs.lemmas.Bool.{and_parts, or_cases, eqb-true}
use Rattle.certificate_text.specs.ReplyField.{is_bit}

-- What holds of the digits that are left.
pub bits_parts : (xs : List ℕ) (i : ℕ) → i < length xs → list_all is_bit (drop i xs) ≡ true → (48 ≤ get_or xs i 0) × (get_or xs i 0 ≤ 49) × (list_all is_bit (drop (i + 1) xs) ≡ true)
bits_parts xs i h e =
    let p = and_parts (is_bit (get_or xs i 0)) _ (sym (at_drop_more (list_all is_bit) xs i 0 h) ∙ e) in
    elim (or_cases _ _ p.0) [
      | inl z ↦ let d = eqb-true (get_or xs i 0) 48 z in (omega arith, omega arith, p.1)
      | inr z ↦ let d = eqb-true (get_or xs i 0) 49 z in (omega arith, omega arith, p.1)
    ]

pub value_below : (n i : ℕ) → n < 2 ^ i → i < 12 → n < 2048
value_below n i l h = let q : i ≤ 11 = omega arith in let p : 2 ^ i ≤ 2 ^ 11 = pow-le-pow_right (omega arith) q in omega (arith, p)
