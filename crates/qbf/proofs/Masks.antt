-- Sets of variables as masks.
use Rattle.std.proofs.Common.{◌≡◌, ℕ, suc, ◌-◌, ◌*◌, ◌^◌, ◌≤◌, max, Bool, true, false, cond, not, ◌&&◌, ◌||◌, eqb, List, [], ◌∷◌, ◌++◌, sym, refl, ap, ◌∙◌, ap₂, inl, inr, zero-mul, arith, pow_pos}
use lib.Bits.{bit_and, bit_or, and_comm, or_comm}
use Rattle.std.proofs.lemmas.Bool.{cases_Bool, cases_eq, eqb-true, eq-eqb, ne_eqb, leb-true, and_parts, and_from}
use Rattle.truth.specs.declared.literal.Literal.{Literal}
use Rattle.truth.specs.declared.literal.Clause.{Clause}
use Rattle.truth.specs.Syntax.{mask_of, with_literal, clause_of}
use Rattle.truth.specs.WellFormed.{all, elem, positive, closed}
use Rattle.truth.specs.Sets.{inside}
use Rattle.truth.proofs.Bits.{bit, bit_or_lem, bit-zero, bit_power, and_power, or_assoc, sub_on, sub_or, inside_or}

same_place : (c w : ℕ) → 1 ≤ w → eqb c (w - 1) ≡ eqb (suc c) w
same_place c w h =
    elim (cases_eq c (w - 1)) [
      | inl e ↦ eq-eqb c (w - 1) e ∙ sym (eq-eqb (suc c) w (omega arith))
      | inr n ↦ ne_eqb c (w - 1) n ∙ sym (ne_eqb (suc c) w (λ e. n (omega arith)))
    ]

max_tests : (a b : Bool) → max (cond a 1 0) (cond b 1 0) ≡ cond (a || b) 1 0
max_tests true true = refl
max_tests true false = refl
max_tests false true = refl
max_tests false false = refl

bit_mask : (c : ℕ) (ws : List ℕ) → all positive ws ≡ true → bit c (mask_of ws) ≡ cond (elem (suc c) ws) 1 0
bit_mask c [] p = bit-zero c
bit_mask c (w ∷ ws) p =
    let q = and_parts (positive w) (all positive ws) p in
    bit_or_lem c (2 ^ (w - 1)) (mask_of ws)
    ∙ ap₂ max (bit_power (w - 1) c ∙ ap (λ t. cond t 1 0) (same_place c w (leb-true 1 w q.0))) (bit_mask c ws q.1)
    ∙ max_tests (eqb (suc c) w) (elem (suc c) ws)

-- One variable of a mask.
one_of : (v : ℕ) (ws : List ℕ) → 1 ≤ v → all positive ws ≡ true → bit_and (mask_of ws) (2 ^ (v - 1)) ≡ cond (elem v ws) 1 0 * 2 ^ (v - 1)
one_of v ws h p =
    let s : suc (v - 1) ≡ v = omega arith in
    and_power (v - 1) (mask_of ws) ∙ ap (λ t. t * 2 ^ (v - 1)) (bit_mask (v - 1) ws p ∙ ap (λ u. cond (elem u ws) 1 0) s)

-- A variable is not in a mask just where its bit is 0 there.
pub mask_free : (v : ℕ) (ws : List ℕ) → 1 ≤ v → all positive ws ≡ true → eqb (bit_and (mask_of ws) (2 ^ (v - 1))) 0 ≡ not (elem v ws)
mask_free v ws h p = ap (λ z. eqb z 0) (one_of v ws h p) ∙ free (elem v ws)
  where
    free : (t : Bool) → eqb (cond t 1 0 * 2 ^ (v - 1)) 0 ≡ not t
    free true = ne_eqb (1 * 2 ^ (v - 1)) 0 (λ e. omega (arith, pow_pos (v - 1)))
    free false = eq-eqb (0 * 2 ^ (v - 1)) 0 (omega arith)

-- A variable is in a mask just where its bit lies inside.
pub elem-inside : (v : ℕ) (vs : List ℕ) → elem v vs ≡ true → inside (2 ^ (v - 1)) (mask_of vs) ≡ true
elem-inside v [] e = cc
elem-inside v (w ∷ ws) e =
    eq-eqb _ _ (elim (cases_eq v w) [
      | inl h ↦ ap (λ z. bit_and (2 ^ (v - 1)) (bit_or (2 ^ (z - 1)) (mask_of ws))) (sym h) ∙ sub_or (2 ^ (v - 1)) (mask_of ws)
      | inr n ↦
          let later : elem v ws ≡ true = sym (ap (λ t. t || elem v ws) (ne_eqb v w n)) ∙ e in
          sub_on (2 ^ (v - 1)) (mask_of ws) (bit_or (2 ^ (w - 1)) (mask_of ws)) (eqb-true _ _ (elem-inside v ws later))
          (ap (bit_and (mask_of ws)) (or_comm (2 ^ (w - 1)) (mask_of ws)) ∙ sub_or (mask_of ws) (2 ^ (w - 1)))
    ])

pub inside-elem : (v : ℕ) (vs : List ℕ) → 1 ≤ v → all positive vs ≡ true → inside (2 ^ (v - 1)) (mask_of vs) ≡ elem v vs
inside-elem v vs h p = elim (cases_Bool (elem v vs)) [
  | inl t ↦ elem-inside v vs t ∙ sym t
  | inr t ↦
      let none : bit_and (2 ^ (v - 1)) (mask_of vs) ≡ 0 = and_comm (2 ^ (v - 1)) (mask_of vs) ∙ one_of v vs h p ∙ ap (λ b. cond b 1 0 * 2 ^ (v - 1)) t ∙ zero-mul (2 ^ (v - 1)) in
      ne_eqb _ _ (λ e. omega (arith, pow_pos (v - 1))) ∙ sym t
]

pub mask_append : (vs ws : List ℕ) → mask_of (vs ++ ws) ≡ bit_or (mask_of vs) (mask_of ws)
mask_append [] ws = refl
mask_append (v ∷ vs) ws = ap (bit_or (2 ^ (v - 1))) (mask_append vs ws) ∙ sym (or_assoc (2 ^ (v - 1)) (mask_of vs) (mask_of ws))

abbrev used : Clause → ℕ
used c = bit_or c.positive c.negative

used_with : (l : Literal) (c : Clause) → used (with_literal l c) ≡ bit_or (2 ^ (l.variable - 1)) (used c)
used_with l c = elim l.negative as (λ t. used (cond t (record { positive = c.positive; negative = bit_or (2 ^ (l.variable - 1)) c.negative }) (record { positive = bit_or (2 ^ (l.variable - 1)) c.positive; negative = c.negative })) ≡ bit_or (2 ^ (l.variable - 1)) (used c)) [
  | true ↦ sym (or_assoc c.positive (2 ^ (l.variable - 1)) c.negative) ∙ ap (λ z. bit_or z c.negative) (or_comm c.positive (2 ^ (l.variable - 1))) ∙ or_assoc (2 ^ (l.variable - 1)) c.positive c.negative
  | false ↦ or_assoc (2 ^ (l.variable - 1)) c.positive c.negative
]

closed_with : (vs : List ℕ) (l : Literal) (c : Clause) → closed vs (with_literal l c) ≡ (inside (2 ^ (l.variable - 1)) (mask_of vs) && closed vs c)
closed_with vs l c = ap (λ u. inside u (mask_of vs)) (used_with l c) ∙ inside_or (2 ^ (l.variable - 1)) (used c) (mask_of vs)

-- A clause is closed just where each literal's variable is bound.
pub closed-elem : (vs : List ℕ) (ls : List Literal) → all positive vs ≡ true → all (λ l. positive l.variable) ls ≡ true → closed vs (clause_of ls) ≡ all (λ l. elem l.variable vs) ls
closed-elem vs [] p q = refl
closed-elem vs (l ∷ ls) p q =
    let r = and_parts (positive l.variable) (all (λ l. positive l.variable) ls) q in
    closed_with vs l (clause_of ls) ∙ ap₂ ◌&&◌ (inside-elem l.variable vs (leb-true 1 l.variable r.0) p) (closed-elem vs ls p r.1)

pub closed-from-elem : (vs : List ℕ) (ls : List Literal) → all (λ l. elem l.variable vs) ls ≡ true → closed vs (clause_of ls) ≡ true
closed-from-elem vs [] e = refl
closed-from-elem vs (l ∷ ls) e =
    let r = and_parts (elem l.variable vs) (all (λ l. elem l.variable vs) ls) e in
    closed_with vs l (clause_of ls) ∙ and_from _ _ (elem-inside l.variable vs r.0) (closed-from-elem vs ls r.1)
