-- A field writes a number just where it is the number's decimal.
use Rattle.std.proofs.Common.{◌≡◌, ℕ, ◌^◌, ◌<◌, Bool, true, false, cond, not, ◌||◌, eqb, List, [], ◌∷◌, length, get_or, Some, None, decimal, sym, refl, ap, ◌∙◌, inl, inr, arith, rules}
use Rattle.std.specs.Str.{all_ascii_digits}
use Rattle.std.proofs.lemmas.Str.Parse.{IsNumeralModel, numerals_by_fold, digits_value_short, not_in_digits}
use Rattle.std.proofs.lemmas.Fmt.{decimal_digit, decimal_nonempty, first_decimal, length-decimal-le, digits_decimal, digits_value-decimal, decimal-digits_value}
use Rattle.std.proofs.ByRecursion.{All-from_get_or}
use Rattle.std.proofs.lemmas.Bool.{cases_lt, lt-ltb, ltb-true, le-leb, leb-true, eq-eqb, ne_eqb, eqb-true, eqb-false, not-true, and_from, and_parts, or_left, or_right, or_cases}
use Rattle.text.specs.Numeral.{plain, read_on, numeral}
use Rattle.text.specs.Layout.{Field}

-- The shelf's digits, and the number that they write, in the words of specs/Numeral.
own : IsNumeralModel (λ ds. all_ascii_digits ds ≡ true) (read_on 0)
own = numerals_by_fold _ (search rules) read_on (search rules)

-- A byte below the digits, as a space or a minus, does not occur.
decimal-not : (n c : ℕ) → n < 10 ^ 9 → c < 48 → (i : ℕ) → i < length (decimal n) → get_or (decimal n) i 0 ≡ c → ⊥
decimal-not n c h l i k = not_in_digits own (decimal n) c (digits_decimal own n (omega arith)) (λ d. omega arith) i k

pub decimal-zero : decimal 0 ≡ 48 ∷ []
decimal-zero = decimal_digit 0 (omega arith)

pub decimal_no_minus : (n : ℕ) → n < 10 ^ 9 → get_or (decimal n) 0 0 ≡ 45 → ⊥
decimal_no_minus n h = decimal-not n 45 h (omega arith) 0 (decimal_nonempty n (omega arith))

pub decimal_field : (n : ℕ) → n < 10 ^ 9 → Field (decimal n)
decimal_field n h = (decimal_nonempty n (omega arith), All-from_get_or (λ x. x ≡ 32 → ⊥) (decimal n) 0 (decimal-not n 32 h (omega arith)))

pub minus_field : (n : ℕ) → n < 10 ^ 9 → Field (45 ∷ decimal n)
minus_field n h = (omega arith, ((λ e. omega arith), (decimal_field n h).1))

-- No zero stands before others.
decimal_lead : (n : ℕ) → n < 10 ^ 9 → (not (eqb (get_or (decimal n) 0 0) 48) || eqb (length (decimal n)) 1) ≡ true
decimal_lead n h =
    elim (cases_lt n 10) [
      | inl l ↦ or_right _ _ (eq-eqb _ _ (ap length (decimal_digit n l)))
      | inr l ↦ or_left _ _ (ap not (ne_eqb (get_or (decimal n) 0 0) 48 (λ e. let f = first_decimal n (omega arith) (omega arith) in omega arith)))
    ]

plain-decimal : (n : ℕ) → n < 10 ^ 9 → plain (decimal n) ≡ true
plain-decimal n h =
    let some = lt-ltb _ _ (decimal_nonempty n (omega arith)) in
    let short = le-leb _ _ (length-decimal-le 9 n (omega arith) h (omega arith)) in
    and_from _ _ some (and_from _ _ short (and_from _ _ (decimal_lead n h) (digits_decimal own n (omega arith))))

pub numeral-decimal : (n : ℕ) → n < 10 ^ 9 → numeral (decimal n) ≡ Some n
numeral-decimal n h = rw (plain-decimal n h) (ap Some (digits_value-decimal own n (omega arith)))

plain_lead : (ds : List ℕ) → (not (eqb (get_or ds 0 0) 48) || eqb (length ds) 1) ≡ true → get_or ds 0 0 ≡ 48 → length ds ≡ 1
plain_lead ds h e =
    elim (or_cases _ _ h) [
      | inl n ↦ absurd (eqb-false (get_or ds 0 0) 48 (not-true _ n) e)
      | inr o ↦ eqb-true (length ds) 1 o
    ]

-- A value is given, so the test passed.
some_taken : {A : Type 0} (t : Bool) (x y : A) → cond t (Some x) None ≡ Some y → (t ≡ true) × (x ≡ y)
some_taken true x y e = (refl, cc)
some_taken false x y e = let z : ◌≡◌ {A = ℕ} 0 1 = cc in absurd (omega arith)

pub numeral-made : (ds : List ℕ) (n : ℕ) → numeral ds ≡ Some n → (ds ≡ decimal n) × (n < 10 ^ 9)
numeral-made ds n e =
    let t = some_taken (plain ds) (read_on 0 ds) n e in
    let p = and_parts _ _ t.0 in
    let q = and_parts _ _ p.1 in
    let r = and_parts _ _ q.1 in
    let small = digits_value_short own ds 9 r.1 (leb-true _ _ q.0) in
    let same = decimal-digits_value own ds r.1 (ltb-true _ _ p.0) (plain_lead ds r.0) (omega arith) in
    (sym same ∙ ap decimal t.1, rw (← t.1) small)
