-- The fields that are written are read back.
use Rattle.std.proofs.Common.{◌≡◌, ℕ, zero, suc, ◌+◌, ◌-◌, ◌*◌, ◌/◌, ◌%◌, ◌^◌, ◌<◌, ◌≤◌, true, false, eqb, List, [], ◌∷◌, ◌++◌, length, Some, codes, decimal, sym, refl, ap, ◌∙◌, inl, inr, mul_assoc, add-mul, one-mul, pow-suc, zero-mul, mul-one, arith}
use Rattle.std.specs.List.{AllByRecursion, list_all}
use Rattle.std.proofs.lemmas.List.Folds.{list_all-append}
use Rattle.std.proofs.lemmas.Fmt.{decimal_is_IsNumeral, decimal_nonempty}
use Rattle.std.proofs.lemmas.Str.Parse.{digit_at}
use Rattle.std.proofs.lemmas.List.{append-nil, get_or_append_left, length-append}
use Rattle.std.proofs.ByRecursion.{All-from_get_or, All-append, All-weaker}
use Rattle.std.proofs.lemmas.Bool.{cases_Bool, cases_eq, eq-eqb, ne_eqb, eqb-true, eqb-false, lt-ltb, le-leb, and_parts, and_from, and_right, or_left, or_right, or_cases}
use Rattle.text.specs.Rows.{onto}
use Rattle.text.specs.Layout.{Field}
use Rattle.text.proofs.Decimal.{decimal_no_minus, numeral-decimal}
use Rattle.entries.specs.declared.entry.Reply.TheVariants.{Value}
use Rattle.certificate_text.specs.SetField.{is_dash, pieces, numerals, clauses_of, ascending, set_of, take_set}
use Rattle.certificate_text.specs.ReplyField.{is_bit, reply_formed, binary, reply_of}
use Rattle.certificate_text.specs.CertificateText.{clauses_from, listed_numbers, set_text, binary_text}
use Rattle.certificate_text.proofs.SetSteps.{twice}
use Rattle.certificate_text.proofs.Placed.{length-binary}

-- Bytes above the space.
abbrev pub Solid : List ℕ → Type 0
Solid bs = AllByRecursion (λ b. 33 ≤ b) bs

pub solid_field : (bs : List ℕ) → 0 < length bs → Solid bs → Field bs
solid_field bs some s = (some, All-weaker (λ b. 33 ≤ b) (λ b. b ≡ 32 → ⊥) (λ b h e. omega arith) bs s)

abbrev Digits : List ℕ → Type 0
Digits bs = AllByRecursion (λ b. (48 ≤ b) × (b ≤ 57)) bs

decimal_digits : (n : ℕ) → n < 10 ^ 9 → Digits (decimal n)
decimal_digits n h =
    let d = (decimal_is_IsNumeral n (omega arith)).0 in All-from_get_or (λ b. (48 ≤ b) × (b ≤ 57)) (decimal n) 0 (λ i l. digit_at (decimal n) i d.1 l)

digits_solid : (bs : List ℕ) → Digits bs → Solid bs
digits_solid bs d = All-weaker (λ b. (48 ≤ b) × (b ≤ 57)) (λ b. 33 ≤ b) (λ b h. omega (arith, h.0)) bs d

pub decimal_solid : (n : ℕ) → n < 10 ^ 9 → Solid (decimal n)
decimal_solid n h = digits_solid (decimal n) (decimal_digits n h)

-- The clauses of a set, ascending.

clauses_ascend : (highest last c n s : ℕ) → last < c → c + n ≡ highest + 1 → ascending highest last (clauses_from c n s) ≡ true
clauses_ascend highest last c zero s l e = refl
clauses_ascend highest last c (suc n) s l e =
    elim (cases_Bool (eqb (s % 2) 1)) [
      | inl t ↦ rw (t, clauses_from) (and_from _ _ (and_from _ _ (lt-ltb last c l) (le-leb c highest (omega arith))) (clauses_ascend highest c (c + 1) n (s / 2) (omega arith) (omega arith)))
      | inr t ↦ rw (t, clauses_from) (clauses_ascend highest last (c + 1) n (s / 2) (omega arith) (omega arith))
    ]

-- They add up to the set again; those from c on count from the power of c.
clauses_sum : (c n s : ℕ) → 1 ≤ c → s < 2 ^ n → set_of (clauses_from c n s) ≡ s * 2 ^ (c - 1)
clauses_sum c zero s l h = let none : s ≡ 0 = omega arith in rw none (sym (zero-mul (2 ^ (c - 1))))
clauses_sum c (suc n) s l h =
    let P = 2 ^ (c - 1) in
    let up : c + 1 - 1 ≡ c = omega arith in
    let double : 2 ^ (c + 1 - 1) ≡ 2 * P = ap (λ k. 2 ^ k) up ∙ twice c l in
    let half : s / 2 < 2 ^ n = omega (arith, pow-suc 2 n) in
    let rest = clauses_sum (c + 1) n (s / 2) (omega arith) half in
    let low : s / 2 * 2 ^ (c + 1 - 1) ≡ s / 2 * 2 * P = ap (λ k. s / 2 * k) double ∙ sym (mul_assoc (s / 2) 2 P) in
    elim (cases_Bool (eqb (s % 2) 1)) [
      | inl t ↦
          let odd = eqb-true (s % 2) 1 t in
          let split : s ≡ s / 2 * 2 + 1 = omega arith in
          let whole : s * P ≡ s / 2 * 2 * P + 1 * P = ap (λ k. k * P) split ∙ add-mul (s / 2 * 2) 1 P in
          rw (t, clauses_from) (omega (arith, one-mul P))
      | inr t ↦
          let even = eqb-false (s % 2) 1 t in
          let split : s ≡ s / 2 * 2 = omega arith in
          let whole : s * P ≡ s / 2 * 2 * P = ap (λ k. k * P) split in
          rw (t, clauses_from) (omega arith)
    ]

clauses_low : (c n s : ℕ) → c + n ≤ 10 ^ 9 → AllByRecursion (λ x. x < 10 ^ 9) (clauses_from c n s)
clauses_low c zero s h = tt
clauses_low c (suc n) s h =
    let rest = clauses_low (c + 1) n (s / 2) (omega arith) in
    elim (cases_Bool (eqb (s % 2) 1)) [
      | inl t ↦ rw (t, clauses_from) (omega arith, rest)
      | inr t ↦ rw (t, clauses_from) rest
    ]

-- Numbers joined by commas are read one by one.

piece_more : (ds rest : List ℕ) → Digits ds → pieces (ds ++ (44 ∷ rest)) ≡ ds ∷ pieces rest
piece_more [] rest d = refl
piece_more (b ∷ ds) rest d = rw (ne_eqb b 44 (λ e. omega (arith, d.0.0))) (ap (onto b) (piece_more ds rest d.1))

piece_last : (ds : List ℕ) → Digits ds → pieces ds ≡ ds ∷ []
piece_last [] d = refl
piece_last (b ∷ ds) d = rw (ne_eqb b 44 (λ e. omega (arith, d.0.0))) (ap (onto b) (piece_last ds d.1))

numbers_read : (c : ℕ) (cs : List ℕ) → c < 10 ^ 9 → AllByRecursion (λ x. x < 10 ^ 9) cs → numerals (pieces (decimal c ++ listed_numbers (44 ∷ []) cs)) ≡ Some (c ∷ cs)
numbers_read c [] h l =
    ap (λ t. numerals (pieces t)) (append-nil (decimal c)) ∙ ap numerals (piece_last (decimal c) (decimal_digits c h)) ∙ rw (numeral-decimal c h)
numbers_read c (d ∷ cs) h l =
    ap numerals (piece_more (decimal c) (decimal d ++ listed_numbers (44 ∷ []) cs) (decimal_digits c h))
    ∙ rw (numeral-decimal c h, numbers_read d cs l.0 l.1)

no_dash : (c : ℕ) (rest : List ℕ) → c < 10 ^ 9 → is_dash (decimal c ++ rest) ≡ false
no_dash c rest h =
    let first = get_or_append_left (decimal c) rest 0 0 (decimal_nonempty c (omega arith)) in
    and_right _ _ (ne_eqb _ 45 (λ e. decimal_no_minus c h (sym first ∙ e)))

clauses_read : (cs : List ℕ) → 0 < length cs → AllByRecursion (λ x. x < 10 ^ 9) cs → clauses_of (listed_numbers [] cs) ≡ Some cs
clauses_read [] some l = absurd (omega arith)
clauses_read (c ∷ cs) some l = rw (no_dash c (listed_numbers (44 ∷ []) cs) l.0) (numbers_read c cs l.0 l.1)

numbers_solid : (cs before : List ℕ) → Solid before → AllByRecursion (λ x. x < 10 ^ 9) cs → Solid (listed_numbers before cs)
numbers_solid [] before b l = tt
numbers_solid (c ∷ cs) before b l =
    All-append (λ b. 33 ≤ b) before (decimal c ++ listed_numbers (44 ∷ []) cs) b (All-append (λ b. 33 ≤ b) (decimal c) _ (decimal_solid c l.0) (numbers_solid cs (44 ∷ []) (omega arith, tt) l.1))

numbers_some : (cs : List ℕ) → 0 < length cs → AllByRecursion (λ x. x < 10 ^ 9) cs → 0 < length (listed_numbers [] cs)
numbers_some [] some l = absurd (omega arith)
numbers_some (c ∷ cs) some l = let d = decimal_nonempty c (omega (arith, l.0)) in rw (length-append (decimal c) (listed_numbers (44 ∷ []) cs)) (omega arith)

-- A set of the first n clauses.
module _ (n s : ℕ) (few : n ≤ 128) (low : s < 2 ^ n) where
  abbrev cs : List ℕ
  cs = clauses_from 1 n s

  sum_is : set_of cs ≡ s
  sum_is = clauses_sum 1 n s (omega arith) low ∙ mul-one s

  cs_low : AllByRecursion (λ x. x < 10 ^ 9) cs
  cs_low = clauses_low 1 n s (omega arith)

  cs_some : (s ≡ 0 → ⊥) → 0 < length cs
  cs_some some = by cs refl
    where
      by : (xs : List ℕ) → cs ≡ xs → 0 < length xs
      by [] e = absurd (some (sym sum_is ∙ ap set_of e))
      by (x ∷ xs) e = omega arith

  pub set_taken : (ws : List (List ℕ)) → take_set n (set_text n s ∷ ws) ≡ Some (Some s, ws)
  set_taken ws =
      elim (cases_eq s 0) [
        | inl z ↦ rw (eq-eqb s 0 z) (ap (λ x. Some (Some x, ws)) (sym z))
        | inr some ↦ rw (ne_eqb s 0 some, clauses_read cs (cs_some some) cs_low, clauses_ascend n 0 1 n s (omega arith) (omega arith)) (ap (λ x. Some (Some x, ws)) sum_is)
      ]

  pub set_field_lem : Field (set_text n s) × Solid (set_text n s)
  set_field_lem =
      elim (cases_eq s 0) [
        | inl z ↦ rw (eq-eqb s 0 z) (solid_field (codes "-") (omega arith) (omega arith, tt), (omega arith, tt))
        | inr some ↦ rw (ne_eqb s 0 some) (let solid = numbers_solid cs [] tt cs_low in (solid_field (listed_numbers [] cs) (numbers_some cs (cs_some some) cs_low) solid, solid))
      ]

-- Binary digits.

bit_of : (v : ℕ) → is_bit (48 + v % 2) ≡ true
bit_of v =
    elim (cases_eq (v % 2) 0) [
      | inl z ↦ or_left _ _ (eq-eqb (48 + v % 2) 48 (omega arith))
      | inr n ↦ or_right _ _ (eq-eqb (48 + v % 2) 49 (omega arith))
    ]

pub binary_bits : (width v : ℕ) → list_all is_bit (binary_text width v) ≡ true
binary_bits zero v = refl
binary_bits (suc k) v = list_all-append is_bit (binary_text k (v / 2)) ((48 + v % 2) ∷ []) ∙ and_from _ _ (binary_bits k (v / 2)) (and_from _ _ (bit_of v) refl)

binary_push : (n : ℕ) (bs : List ℕ) (b : ℕ) → binary n (bs ++ (b ∷ [])) ≡ binary n bs * 2 + (b - 48)
binary_push n [] b = refl
binary_push n (c ∷ bs) b = binary_push (n * 2 + (c - 48)) bs b

pub binary_read : (width v : ℕ) → v < 2 ^ width → binary 0 (binary_text width v) ≡ v
binary_read zero v h = omega arith
binary_read (suc k) v h =
    let half : v / 2 < 2 ^ k = omega (arith, pow-suc 2 k) in
    let r = binary_read k (v / 2) half in
    omega (arith, binary_push 0 (binary_text k (v / 2)) (48 + v % 2))

bits_solid : (bs : List ℕ) → list_all is_bit bs ≡ true → Solid bs
bits_solid [] h = tt
bits_solid (b ∷ bs) h =
    let p = and_parts (is_bit b) _ h in
    (elim (or_cases (eqb b 48) _ p.0) [ inl e ↦ omega (arith, eqb-true b 48 e) | inr e ↦ omega (arith, eqb-true b 49 e) ], bits_solid bs p.1)

bits_no_dash : (bs : List ℕ) → list_all is_bit bs ≡ true → is_dash bs ≡ false
bits_no_dash [] h = refl
bits_no_dash (b ∷ bs) h =
    let p = and_parts (is_bit b) _ h in
    and_right _ _ (ne_eqb b 45 (λ e. elim (or_cases (eqb b 48) _ p.0) [ inl x ↦ omega (arith, eqb-true b 48 x) | inr x ↦ omega (arith, eqb-true b 49 x) ]))

-- A value of a block with one or more variables.
module _ (width v : ℕ) (some : 1 ≤ width) where
  pub value_field : Field (binary_text width v) × Solid (binary_text width v)
  value_field =
      let solid = bits_solid (binary_text width v) (binary_bits width v) in
      (solid_field (binary_text width v) (omega (arith, length-binary width v)) solid, solid)

  pub value_formed : reply_formed (binary_text width v) ≡ true
  value_formed = or_right _ _ (and_from _ _ (lt-ltb 0 (length (binary_text width v)) (omega (arith, length-binary width v))) (binary_bits width v))

  pub value_read : v < 2 ^ width → reply_of true width (binary_text width v) ≡ Some (Value v)
  value_read h = rw (bits_no_dash (binary_text width v) (binary_bits width v), eq-eqb _ _ (length-binary width v)) (ap (λ x. Some (Value x)) (binary_read width v h))
