-- What an assignment leaves of a set of clauses.
use Rattle.std.proofs.Common.{◌≡◌, ℕ, suc, ◌+◌, ◌-◌, ◌*◌, ◌/◌, ◌%◌, ◌^◌, ◌<◌, ◌≤◌, Bool, true, false, cond, not, ◌&&◌, ◌||◌, eqb, List, [], ◌∷◌, length, sym, refl, ap, ◌∙◌, subst, ap₂, inl, inr, pow-suc, arith, pow_pos}
use lib.Bits.{bit_and, bit_or, and_zero_r}
use Rattle.std.proofs.lemmas.Bool.{cases_Bool, eqb-true, eqb-false, eq-eqb, ne_eqb}
use Rattle.truth.specs.declared.literal.Clause.{Clause}
use Rattle.truth.specs.WellFormed.{all}
use Rattle.truth.specs.Truth.{made_true, made_false, satisfied, rest, whole}
use Rattle.truth.specs.Decided.{true_after, false_after}
use Rattle.truth.specs.TruthLaws.{RestsInside, JointRest}
use Rattle.truth.proofs.Bits.{Sub, sub_half, sub_low, sub_join, of_sub, and_or, or_none}

-- A bit that stays only where its clause is not satisfied.
kept_small : (t : Bool) (x : ℕ) → cond t 0 (x % 2) < 2
kept_small true x = omega arith
kept_small false x = omega arith

kept-below : (t : Bool) (x y : ℕ) → x ≤ y → cond t 0 x ≤ cond t 0 y
kept-below true x y h = omega arith
kept-below false x y h = h

kept_less : (t : Bool) (x : ℕ) → cond t 0 x ≤ x
kept_less true x = omega arith
kept_less false x = omega arith

kept_twice : (a b : Bool) (x : ℕ) → cond b 0 (cond a 0 x) ≡ cond (a || b) 0 x
kept_twice true true x = refl
kept_twice true false x = refl
kept_twice false b x = refl

pub rest_sub : (cs : List Clause) (t f a b : ℕ) → Sub a b → Sub (rest cs t f a) (rest cs t f b)
rest_sub [] t f a b h = refl
rest_sub (c ∷ cs) t f a b h =
    sub_join _ _ _ _ (kept-below (satisfied c t f) (a % 2) (b % 2) (sub_low a b h)) (kept_small (satisfied c t f) b)
    (rest_sub cs t f (a / 2) (b / 2) (sub_half a b h))

rest_within : (cs : List Clause) (t f s : ℕ) → Sub (rest cs t f s) s
rest_within [] t f s = refl
rest_within (c ∷ cs) t f s =
    let both : s % 2 + 2 * (s / 2) ≡ s = omega arith in
    subst (Sub (rest (c ∷ cs) t f s)) both (sub_join _ (s % 2) _ (s / 2) (kept_less (satisfied c t f) (s % 2)) (omega arith) (rest_within cs t f (s / 2)))

pub rests_inside : RestsInside
rests_inside cs t f s = of_sub _ _ (rest_within cs t f s)

pub rest_small : (cs : List Clause) (t f s : ℕ) → rest cs t f s < 2 ^ length cs
rest_small [] t f s = omega arith
rest_small (c ∷ cs) t f s = omega (arith, pow-suc 2 (length cs), rest_small cs t f (s / 2), kept_small (satisfied c t f) s)

and_shuffle : (a b c d : Bool) → not ((a && b) && (c && d)) ≡ (not (a && c) || not (b && d))
and_shuffle true true true d = refl
and_shuffle true true false d = refl
and_shuffle true false true d = refl
and_shuffle true false false d = refl
and_shuffle false b c d = refl

-- Two assignments together satisfy a clause just where one of them does.
pub satisfied_or : (c : Clause) (t f u g : ℕ) → satisfied c (bit_or t u) (bit_or f g) ≡ (satisfied c t f || satisfied c u g)
satisfied_or c t f u g =
    let p = c.positive in let n = c.negative in
    let x : eqb (bit_and p (bit_or t u)) 0 ≡ (eqb (bit_and p t) 0 && eqb (bit_and p u) 0) = ap (λ z. eqb z 0) (and_or p t u) ∙ or_none (bit_and p t) (bit_and p u) in
    let y : eqb (bit_and n (bit_or f g)) 0 ≡ (eqb (bit_and n f) 0 && eqb (bit_and n g) 0) = ap (λ z. eqb z 0) (and_or n f g) ∙ or_none (bit_and n f) (bit_and n g) in
    ap₂ (λ a b. not (a && b)) x y ∙ and_shuffle (eqb (bit_and p t) 0) (eqb (bit_and p u) 0) (eqb (bit_and n f) 0) (eqb (bit_and n g) 0)

pub rest-rest : (cs : List Clause) (t f u g s : ℕ) → rest cs u g (rest cs t f s) ≡ rest cs (bit_or t u) (bit_or f g) s
rest-rest [] t f u g s = refl
rest-rest (c ∷ cs) t f u g s =
    let x = cond (satisfied c t f) 0 (s % 2) in
    let r = rest cs t f (s / 2) in
    let small : x < 2 = kept_small (satisfied c t f) s in
    let low : (x + 2 * r) % 2 ≡ x = omega arith in
    let high : (x + 2 * r) / 2 ≡ r = omega arith in
    ap₂ (λ a b. cond (satisfied c u g) 0 a + 2 * b) low (ap (rest cs u g) high ∙ rest-rest cs t f u g (s / 2))
    ∙ ap (λ a. a + 2 * rest cs (bit_or t u) (bit_or f g) (s / 2)) (kept_twice (satisfied c t f) (satisfied c u g) (s % 2) ∙ ap (λ z. cond z 0 (s % 2)) (sym (satisfied_or c t f u g)))

-- An assignment of no variable leaves a set of clauses as it is.
rest-nothing : (cs : List Clause) (s : ℕ) → s < 2 ^ length cs → rest cs 0 0 s ≡ s
rest-nothing [] s h = omega arith
rest-nothing (c ∷ cs) s h =
    let none : satisfied c 0 0 ≡ false = ap₂ (λ a b. not (eqb a 0 && eqb b 0)) (and_zero_r c.positive) (and_zero_r c.negative) in
    let both : s % 2 + 2 * (s / 2) ≡ s = omega arith in
    ap₂ (λ a b. cond a 0 (s % 2) + 2 * b) none (rest-nothing cs (s / 2) (omega (arith, pow-suc 2 (length cs)))) ∙ both

pub joint_rest : JointRest
joint_rest cs [] vs s h = sym (rest-nothing cs s h)
joint_rest cs (b ∷ bs) [] s h = sym (rest-nothing cs s h)
joint_rest cs (b ∷ bs) (v ∷ vs) s h =
    let t = made_true b.variables v in let f = made_false b.variables v in
    joint_rest cs bs vs (rest cs t f s) (rest_small cs t f s) ∙ rest-rest cs t f (true_after bs vs) (false_after bs vs) s

pub whole_small : (cs : List Clause) → whole cs < 2 ^ length cs
whole_small cs = omega (arith, pow_pos (length cs))

pub rest-whole : (cs : List Clause) → rest cs 0 0 (whole cs) ≡ whole cs
rest-whole cs = rest-nothing cs (whole cs) (whole_small cs)

whole_low : (n : ℕ) → (2 ^ suc n - 1) % 2 ≡ 1
whole_low n = omega (arith, pow-suc 2 n, pow_pos n)

whole_high : (n : ℕ) → (2 ^ suc n - 1) / 2 ≡ 2 ^ n - 1
whole_high n = omega (arith, pow-suc 2 n, pow_pos n)

-- What is left of all clauses, clause by clause.
pub rest_whole_more : (c : Clause) (cs : List Clause) (t f : ℕ) → rest (c ∷ cs) t f (whole (c ∷ cs)) ≡ cond (satisfied c t f) 0 1 + 2 * rest cs t f (whole cs)
rest_whole_more c cs t f = ap₂ (λ a b. cond (satisfied c t f) 0 a + 2 * rest cs t f b) (whole_low (length cs)) (whole_high (length cs))

-- Nothing is left of all clauses just where each is satisfied.
pub rest_empty : (cs : List Clause) (t f : ℕ) → eqb (rest cs t f (whole cs)) 0 ≡ all (λ c. satisfied c t f) cs
rest_empty [] t f = refl
rest_empty (c ∷ cs) t f =
    let r = rest cs t f (whole cs) in
    ap (λ n. eqb n 0) (rest_whole_more c cs t f)
    ∙ (elim (satisfied c t f) as (λ z. eqb (cond z 0 1 + 2 * r) 0 ≡ (z && all (λ c. satisfied c t f) cs)) [
      | true ↦ (elim (cases_Bool (eqb r 0)) [
        | inl h ↦ let e = eqb-true r 0 h in eq-eqb (0 + 2 * r) 0 (omega arith) ∙ sym h
        | inr h ↦ ne_eqb (0 + 2 * r) 0 (λ e. eqb-false r 0 h (omega arith)) ∙ sym h
      ]) ∙ rest_empty cs t f
      | false ↦ ne_eqb (1 + 2 * r) 0 (λ e. omega arith)
    ])
