-- The fields that are read are those that would be written.
use Rattle.std.proofs.Common.{◌≡◌, ◌==◌, ℕ, zero, suc, ◌+◌, ◌-◌, ◌*◌, ◌/◌, ◌%◌, ◌^◌, ◌<◌, ◌≤◌, Bool, true, false, ◌&&◌, eqb, ltb, leb, List, [], ◌∷◌, ◌++◌, map, length, Some, codes, decimal, Option, sym, refl, ap, ◌∙◌, ap₂, inl, inr, mul_assoc, add-mul, one-mul, zero-mul, mul-one, mul-div_cancel, arith, pow_pos, pow-add}
use Rattle.std.specs.List.{list_all, join_with_byte}
use Rattle.std.proofs.lemmas.List.Splits.{length-slice_split, join_with_byte-slice_split}
use Rattle.std.proofs.lemmas.List.{append-nil}
use Rattle.std.proofs.lemmas.Bool.{cases_eq, eq-eqb, ne_eqb, eqb-true, lt-ltb, ltb-true, leb-true, and_parts, and_from, or_cases, both_ways}
use Rattle.text.specs.Numeral.{numeral}
use Rattle.text.proofs.Decimal.{numeral-made}
use Rattle.formula_text.proofs.LiteralForms.{none-some, then_some, cond_cases}
use Rattle.entries.specs.declared.entry.Reply.{Reply}
use Rattle.entries.specs.declared.entry.Reply.TheVariants.{None as NoReply, Value}
use Rattle.certificate_text.specs.SetField.{is_dash, pieces, numerals, clauses_of, ascending, set_of, set_up_to, take_set}
use Rattle.certificate_text.specs.ReplyField.{is_bit, reply_formed, binary, reply_of}
use Rattle.certificate_text.specs.CertificateText.{clauses_from, listed_numbers, set_text, binary_text, reply_text}
use Rattle.certificate_text.proofs.SetSteps.{twice}
use Rattle.certificate_text.proofs.Placed.{length-binary}
use Rattle.certificate_text.proofs.EntryFits.{value_below}
use Rattle.certificate_text.proofs.FieldTexts.{binary_bits, binary_read}

dash_is : (w : List ℕ) → is_dash w ≡ true → w ≡ codes "-"
dash_is [] h = let z : ◌≡◌ {A = ℕ} 0 1 = cc in absurd (omega arith)
dash_is (b ∷ []) h = ap (λ x. x ∷ []) (eqb-true b 45 (and_parts true (eqb b 45) h).1)
dash_is (b ∷ c ∷ w) h = absurd (omega (arith, eqb-true (length (b ∷ c ∷ w)) 1 (and_parts (eqb (length (b ∷ c ∷ w)) 1) _ h).0))

-- Pieces, with a comma between each two, are the text again.

pieces-some : (w : List ℕ) → 0 < length (pieces w)
pieces-some w = omega (arith, length-slice_split (λ (b : ℕ). b == 44) w)

numerals-made : (ps : List (List ℕ)) (cs : List ℕ) → numerals ps ≡ Some cs → ps ≡ map decimal cs
numerals-made [] cs e = let is : [] ≡ cs = cc in rw (← is)
numerals-made (p ∷ ps) cs e =
    then_some (numeral p) _ cs e (λ n d e. then_some (numerals ps) _ cs e (λ ns r e.
    let is : n ∷ ns ≡ cs = cc in rw (← is) (ap₂ (λ x t. x ∷ t) (numeral-made p n d).0 (numerals-made ps ns r))))

joined_decimals : (c : ℕ) (cs : List ℕ) → join_with_byte 44 (map decimal (c ∷ cs)) ≡ decimal c ++ listed_numbers (44 ∷ []) cs
joined_decimals c [] = sym (append-nil (decimal c))
joined_decimals c (d ∷ cs) = ap (λ t. decimal c ++ (44 ∷ t)) (joined_decimals d cs)

-- One number at least.
numbers_made : (w cs : List ℕ) → numerals (pieces w) ≡ Some cs → (w ≡ listed_numbers [] cs) × (0 < length cs)
numbers_made w cs e = by cs (numerals-made (pieces w) cs e)
  where
    by : (cs : List ℕ) → pieces w ≡ map decimal cs → (w ≡ listed_numbers [] cs) × (0 < length cs)
    by [] m = absurd (omega (arith, pieces-some w, ap length m))
    by (c ∷ cs) m = (sym (join_with_byte-slice_split 44 w) ∙ ap (join_with_byte 44) m ∙ joined_decimals c cs, omega arith)

-- A set of ascending clauses has just these.

same_factor : (a b p : ℕ) → 0 < p → a * p ≡ b * p → a ≡ b
same_factor a b p h e = sym (mul-div_cancel a h) ∙ ap (λ k. k / p) e ∙ mul-div_cancel b h

-- Clauses above `last` add up to a multiple of its power.
multiple : (highest last : ℕ) (cs : List ℕ) → ascending highest last cs ≡ true → (t : ℕ) × (set_of cs ≡ t * 2 ^ last)
multiple highest last [] a = (0, sym (zero-mul (2 ^ last)))
multiple highest last (c ∷ cs) a =
    let p = and_parts (ltb last c && leb c highest) _ a in
    let above = ltb-true last c (and_parts (ltb last c) _ p.0).0 in
    let r = multiple highest c cs p.1 in
    let k = c - 1 - last in
    let split : c - 1 ≡ k + last = omega arith in
    let L = 2 ^ last in
    let one : 2 ^ (c - 1) ≡ 2 ^ k * L = ap (λ j. 2 ^ j) split ∙ pow-add 2 k last in
    let two : 2 ^ c ≡ 2 * 2 ^ k * L = twice c (omega arith) ∙ ap (λ j. 2 * j) one ∙ sym (mul_assoc 2 (2 ^ k) L) in
    let rest : set_of cs ≡ r.0 * (2 * 2 ^ k) * L = r.1 ∙ ap (λ j. r.0 * j) two ∙ sym (mul_assoc r.0 (2 * 2 ^ k) L) in
    (2 ^ k + r.0 * (2 * 2 ^ k), ap₂ (λ x y. x + y) one rest ∙ sym (add-mul (2 ^ k) (r.0 * (2 * 2 ^ k)) L))

next_power : (c : ℕ) → c + 1 - 1 ≡ c
next_power c = omega arith

-- Clauses above c that add up to t, which counts from the power of c: c is not held.
set-above : (n highest c t : ℕ) (cs : List ℕ) → 1 ≤ c → ascending highest c cs ≡ true → set_of cs ≡ t * 2 ^ (c - 1)
    → ((u : ℕ) → ascending highest (c + 1 - 1) cs ≡ true → set_of cs ≡ u * 2 ^ (c + 1 - 1) → clauses_from (c + 1) n u ≡ cs) → clauses_from c (suc n) t ≡ cs
set-above n highest c t cs l a s rest =
    let m = multiple highest c cs a in
    let P = 2 ^ (c - 1) in
    let same : t * P ≡ m.0 * 2 * P = sym s ∙ m.1 ∙ ap (λ k. m.0 * k) (twice c l) ∙ sym (mul_assoc m.0 2 P) in
    let t-is : t ≡ m.0 * 2 = same_factor t (m.0 * 2) P (pow_pos (c - 1)) same in
    let even : eqb (t % 2) 1 ≡ false = ne_eqb (t % 2) 1 (λ z. omega arith) in
    let half : t / 2 ≡ m.0 = omega arith in
    rw (even, clauses_from) (rest (t / 2) (rw (next_power c) a) (rw (next_power c, half) m.1))

set_clauses : (n highest c t : ℕ) (cs : List ℕ) → 1 ≤ c → c + n ≡ highest + 1 → ascending highest (c - 1) cs ≡ true → set_of cs ≡ t * 2 ^ (c - 1) → clauses_from c n t ≡ cs
set_clauses zero highest c t [] l e a s = refl
set_clauses zero highest c t (x ∷ cs) l e a s =
    let p = and_parts (ltb (c - 1) x) _ (and_parts (ltb (c - 1) x && leb x highest) _ a).0 in
    absurd (omega (arith, ltb-true (c - 1) x p.0, leb-true x highest p.1))
set_clauses (suc n) highest c t [] l e a s = set-above n highest c t [] l refl s (λ u. set_clauses n highest (c + 1) u [] (omega arith) (omega arith))
set_clauses (suc n) highest c t (x ∷ cs) l e a s =
    let p = and_parts (ltb (c - 1) x && leb x highest) _ a in
    let q = and_parts (ltb (c - 1) x) _ p.0 in
    let least = ltb-true (c - 1) x q.0 in
    elim (cases_eq x c) [
      | inl i ↦
          let P = 2 ^ (c - 1) in
          let m = multiple highest c cs (rw i at p.1) in
          let rest : set_of cs ≡ m.0 * 2 * P = m.1 ∙ ap (λ k. m.0 * k) (twice c l) ∙ sym (mul_assoc m.0 2 P) in
          let first : 2 ^ (x - 1) ≡ 1 * P = ap (λ k. 2 ^ (k - 1)) i ∙ sym (one-mul P) in
          let same : t * P ≡ (1 + m.0 * 2) * P = sym s ∙ ap₂ (λ y z. y + z) first rest ∙ sym (add-mul 1 (m.0 * 2) P) in
          let t-is : t ≡ 1 + m.0 * 2 = same_factor t (1 + m.0 * 2) P (pow_pos (c - 1)) same in
          let odd : eqb (t % 2) 1 ≡ true = eq-eqb (t % 2) 1 (omega arith) in
          let half : t / 2 ≡ m.0 = omega arith in
          rw (odd, clauses_from) (ap₂ (λ y ys. y ∷ ys) (sym i)
          (set_clauses n highest (c + 1) (t / 2) cs (omega arith) (omega arith) (rw (next_power c) (rw i at p.1)) (rw (next_power c, half) m.1)))
      | inr more ↦
          set-above n highest c t (x ∷ cs) l (and_from _ _ (and_from _ _ (lt-ltb c x (omega arith)) q.1) p.1) s
          (λ u. set_clauses n highest (c + 1) u (x ∷ cs) (omega arith) (omega arith))
    ]

ascending_clauses : (highest : ℕ) (cs : List ℕ) → ascending highest 0 cs ≡ true → clauses_from 1 highest (set_of cs) ≡ cs
ascending_clauses highest cs a = set_clauses highest highest 1 (set_of cs) cs (omega arith) (omega arith) a (sym (mul-one (set_of cs)))

sum_some : (cs : List ℕ) → 0 < length cs → set_of cs ≡ 0 → ⊥
sum_some [] some z = omega arith
sum_some (c ∷ cs) some z = omega (arith, pow_pos (c - 1))

pub set-made : (highest : ℕ) (w cs : List ℕ) → clauses_of w ≡ Some cs → ascending highest 0 cs ≡ true → w ≡ set_text highest (set_of cs)
set-made highest w cs e a =
    cond_cases (is_dash w) _ _ _ e
    (λ d e. let is : [] ≡ cs = cc in rw (← is) (dash_is w d))
    (λ _ e.
    let m = numbers_made w cs e in
    rw (ne_eqb (set_of cs) 0 (sum_some cs m.1), ascending_clauses highest cs a) m.0)

pub set_taken_made : (highest : ℕ) (ws : List (List ℕ)) (p : Option ℕ × List (List ℕ)) (s : ℕ) → take_set highest ws ≡ Some p → p.0 ≡ Some s → ws ≡ set_text highest s ∷ p.1
set_taken_made highest [] p s e k = absurd (none-some e)
set_taken_made highest (w ∷ ws) p s e k =
    then_some (clauses_of w) _ p e (λ cs m e.
    let is : ◌≡◌ {A = Option ℕ × List (List ℕ)} (set_up_to highest cs, ws) p = cc in
    let got : set_up_to highest cs ≡ Some s = ap (λ q. q.0) is ∙ k in
    cond_cases (ascending highest 0 cs) _ _ _ got (λ a e.
    let same : set_of cs ≡ s = cc in
    ap₂ (λ x t. x ∷ t) (set-made highest w cs m a ∙ ap (set_text highest) same) (ap (λ q. q.1) is)) (λ _ e. absurd (none-some e)))

-- Binary digits of one number and one width are the same.

bit_value : (b c : ℕ) → is_bit b ≡ true → is_bit c ≡ true → (m n : ℕ) → m * 2 + (b - 48) ≡ n * 2 + (c - 48) → (b ≡ c) × (m ≡ n)
bit_value b c h k m n e =
    elim (or_cases (eqb b 48) _ h) [
      | inl x ↦ (elim (or_cases (eqb c 48) _ k) [
        | inl y ↦ (omega (arith, eqb-true b 48 x, eqb-true c 48 y), omega (arith, eqb-true b 48 x, eqb-true c 48 y))
        | inr y ↦ absurd (omega (arith, eqb-true b 48 x, eqb-true c 49 y))
      ])
      | inr x ↦ (elim (or_cases (eqb c 48) _ k) [
        | inl y ↦ absurd (omega (arith, eqb-true b 49 x, eqb-true c 48 y))
        | inr y ↦ (omega (arith, eqb-true b 49 x, eqb-true c 49 y), omega (arith, eqb-true b 49 x, eqb-true c 49 y))
      ])
    ]

same_bits : (m n : ℕ) (bs cs : List ℕ) → list_all is_bit bs ≡ true → list_all is_bit cs ≡ true → length bs ≡ length cs → binary m bs ≡ binary n cs → (bs ≡ cs) × (m ≡ n)
same_bits m n [] [] h k l e = (refl, e)
same_bits m n [] (c ∷ cs) h k l e = absurd (omega arith)
same_bits m n (b ∷ bs) [] h k l e = absurd (omega arith)
same_bits m n (b ∷ bs) (c ∷ cs) h k l e =
    let p = and_parts (is_bit b) _ h in
    let q = and_parts (is_bit c) _ k in
    let r = same_bits (m * 2 + (b - 48)) (n * 2 + (c - 48)) bs cs p.1 q.1 (omega arith) e in
    let s = bit_value b c p.0 q.0 m n r.1 in
    (ap₂ (λ x t. x ∷ t) s.0 r.0, s.1)

pub reply_made : (owed : Bool) (width : ℕ) (w : List ℕ) (r : Reply) → reply_formed w ≡ true → reply_of owed width w ≡ Some r → w ≡ reply_text width r
reply_made owed width w r formed e =
    cond_cases (is_dash w) _ _ _ e
    (λ d e. cond_cases owed _ _ _ e (λ _ e. absurd (none-some e)) (λ _ e. let is : NoReply ≡ r = cc in rw (← is) (dash_is w d)))
    (λ d e. cond_cases (owed && eqb (length w) width) _ _ _ e (λ t e.
    let is : Value (binary 0 w) ≡ r = cc in
    let size = eqb-true (length w) width (and_parts owed _ t).1 in
    let bits : list_all is_bit w ≡ true = elim (or_cases (is_dash w) _ formed) [ inl y ↦ absurd (both_ways (is_dash w) d y) | inr y ↦ (and_parts (ltb 0 (length w)) _ y).1 ] in
    let low : binary 0 w < 2 ^ width = rw (← size) (value_below w bits) in
    rw (← is) (same_bits 0 0 w (binary_text width (binary 0 w)) bits (binary_bits width (binary 0 w)) (size ∙ sym (length-binary width (binary 0 w))) (sym (binary_read width (binary 0 w) low))).0)
    (λ _ e. absurd (none-some e)))
