-- What the records that gather a line's numbers and literals hold of them.
use Rattle.std.proofs.Common.{◌≡◌, ℕ, ◌-◌, ◌^◌, ◌≤◌, max, Bool, true, false, cond, ◌&&◌, ltb, leb, List, [], ◌∷◌, ◌++◌, length, Some, None, sym, refl, ap, ◌∙◌, ap₂, inl, inr, arith}
use lib.Bits.{bit_or, or_comm, or_zero_r}
use Rattle.std.proofs.lemmas.List.{append-nil, append_assoc, length-append, length_push}
use Rattle.std.proofs.lemmas.Bool.{cases_Bool, leb-true, leb-false, ltb-true, ltb-false, le-leb, lt-leb, and_parts, cond-true, ne_eqb}
use Rattle.arrayvec.specs.ArrayVec.{ArrayVec}
use Rattle.truth.specs.declared.literal.Literal.{Literal}
use Rattle.truth.specs.declared.literal.Clause.{Clause}
use Rattle.formula_text.specs.declared.gather.Gathered.{Gathered}
use Rattle.truth.specs.Limits.{max_variables, max_width}
use Rattle.truth.specs.Syntax.{with_literal, clause_of}
use Rattle.truth.specs.WellFormed.{all}
use Rattle.formula_text.specs.Gathered.{no_numbers, widened, has_none, fitting, nothing, further, gathered}
use Rattle.truth.proofs.Bits.{or_assoc}

-- A number more than fits stays one too many.
widened_none : (vs : List ℕ) → widened None vs ≡ None
widened_none [] = refl
widened_none (v ∷ vs) = widened_none vs

-- As long as there are places, each number is written after those before it.
widened_after : (xs vs : List ℕ) → length xs ≤ max_width → widened (Some (record { items = xs })) vs ≡ fitting (xs ++ vs)
widened_after xs [] h = rw append-nil (simp (le-leb (length xs) max_width h))
widened_after xs (v ∷ vs) h =
    elim (cases_Bool (ltb (length xs) max_width)) [
      | inl t ↦
          let room : length (xs ++ v ∷ []) ≤ max_width = omega (arith, ltb-true (length xs) max_width t, length_push xs v) in
          simp t (widened_after (xs ++ v ∷ []) vs room ∙ ap fitting (append_assoc xs (v ∷ []) vs))
      | inr t ↦
          let over : leb (length (xs ++ v ∷ vs)) max_width ≡ false = lt-leb _ _ (omega (arith, ltb-false (length xs) max_width t, length-append xs (v ∷ vs))) in
          simp (t, over) (widened_none vs)
    ]

pub numbers_widened : (vs : List ℕ) → widened no_numbers vs ≡ fitting vs
numbers_widened vs = widened_after [] vs (omega arith)

pub is_fitting : (vs : List ℕ) (b : ArrayVec ℕ) → fitting vs ≡ Some b → (b.items ≡ vs) × (length vs ≤ max_width)
is_fitting vs b e =
    elim (cases_Bool (leb (length vs) max_width)) [
      | inl t ↦ let same : ◌≡◌ {A = ArrayVec ℕ} (record { items = vs }) b = (let f : fitting vs ≡ Some (record { items = vs }) = simp t in cc) in (ap (λ y. y.items) (sym same), leb-true (length vs) max_width t)
      | inr t ↦ absurd (let f : fitting vs ≡ None = simp t in let z : ◌≡◌ {A = ℕ} 0 1 = cc in omega arith)
    ]

-- Where there is a number, some are there.
pub some_number : (v : ℕ) (vs : List ℕ) → has_none (fitting (v ∷ vs)) ≡ false
some_number v vs = elim (leb (length (v ∷ vs)) max_width) as (λ t. has_none (cond t (Some (record { items = v ∷ vs })) None) ≡ false) [ true ↦ ne_eqb (length (v ∷ vs)) 0 (λ e. omega arith) | false ↦ refl ]

leb-max : (a b v : ℕ) → leb (max a b) v ≡ (leb a v && leb b v)
leb-max a b v =
    elim (cases_Bool (leb a v)) [
      | inl h ↦ (elim (cases_Bool (leb b v)) [
        | inl k ↦ simp (h, k) (le-leb (max a b) v (omega (arith, leb-true a v h, leb-true b v k)))
        | inr k ↦ simp (h, k) (lt-leb (max a b) v (omega (arith, leb-false b v k)))
      ])
      | inr h ↦ simp h (lt-leb (max a b) v (omega (arith, leb-false a v h)))
    ]

and_middle : (a b c : Bool) → ((a && b) && c) ≡ (a && (b && c))
and_middle true b c = refl
and_middle false b c = refl

-- The highest variable is within a bound just where each is.
pub highest_gathered : (g : Gathered) (ls : List Literal) (v : ℕ) → leb (gathered g ls).highest v ≡ (leb g.highest v && all (λ l. leb l.variable v) ls)
highest_gathered g [] v = elim (leb g.highest v) as (λ t. t ≡ (t && true)) [ true ↦ refl | false ↦ refl ]
highest_gathered g (l ∷ ls) v =
    highest_gathered (further g l) ls v
    ∙ ap (λ t. t && all (λ l. leb l.variable v) ls) (leb-max g.highest l.variable v)
    ∙ and_middle (leb g.highest v) (leb l.variable v) (all (λ l. leb l.variable v) ls)

abbrev union : Clause → Clause → Clause
union c d = record { positive = bit_or c.positive d.positive; negative = bit_or c.negative d.negative }

onto : (a b c : ℕ) → bit_or (bit_or a b) c ≡ bit_or b (bit_or a c)
onto a b c = ap (λ z. bit_or z c) (or_comm a b) ∙ or_assoc b a c

union_with : (l : Literal) (c d : Clause) → union (with_literal l c) d ≡ union c (with_literal l d)
union_with l c d =
    let m = 2 ^ (l.variable - 1) in
    elim l.negative as (λ t. union (cond t (record { positive = c.positive; negative = bit_or m c.negative }) (record { positive = bit_or m c.positive; negative = c.negative })) d
    ≡ union c (cond t (record { positive = d.positive; negative = bit_or m d.negative }) (record { positive = bit_or m d.positive; negative = d.negative }))) [
      | true ↦ ap (λ n. record { positive = bit_or c.positive d.positive; negative = n }) (onto m c.negative d.negative)
      | false ↦ ap (λ p. record { positive = p; negative = bit_or c.negative d.negative }) (onto m c.positive d.positive)
    ]

clause_from : (g : Gathered) (ls : List Literal) → all (λ l. leb l.variable max_variables) ls ≡ true → (gathered g ls).clause ≡ union g.clause (clause_of ls)
clause_from g [] h = ap₂ (λ p n. record { positive = p; negative = n }) (sym (or_zero_r g.clause.positive)) (sym (or_zero_r g.clause.negative))
clause_from g (l ∷ ls) h =
    let r = and_parts (leb l.variable max_variables) (all (λ l. leb l.variable max_variables) ls) h in
    clause_from (further g l) ls r.1
    ∙ ap (λ c. union c (clause_of ls)) (cond-true (leb l.variable max_variables) (with_literal l g.clause) g.clause r.0)
    ∙ union_with l g.clause (clause_of ls)

-- Within the masks' reach, the clause is that of all literals.
pub clause_gathered : (ls : List Literal) → all (λ l. leb l.variable max_variables) ls ≡ true → (gathered nothing ls).clause ≡ clause_of ls
clause_gathered ls h = clause_from nothing ls h
