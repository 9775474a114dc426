-- The rest under a value, by the occurrences of its literals.
use Rattle.std.proofs.Common.{◌≡◌, ℕ, zero, suc, ◌+◌, ◌-◌, ◌*◌, ◌/◌, ◌%◌, ◌^◌, ◌<◌, min, max, Bool, true, false, cond, not, ◌&&◌, ◌||◌, eqb, List, [], ◌∷◌, length, sym, refl, ap, ◌∙◌, ap₂, inl, inr, mod-eq_of_lt, one-mul, pow-suc, zero-mul, div-one, arith, pow_pos}
use native.Mathlib.Nat.{div-div-eq-div-mul}
use lib.Bits.{bit_and, bit_or, and_step, or_step, and_zero_r, and_mask}
use Rattle.std.proofs.lemmas.Bool.{cases_eq, eq-eqb, ne_eqb}
use Rattle.truth.specs.declared.literal.Clause.{Clause}
use Rattle.truth.specs.Syntax.{Block}
use Rattle.truth.specs.Truth.{made_true, made_false, satisfied, rest, rest_under, whole}
use Rattle.truth.specs.Occurrences.{occurrences, settled}
use Rattle.truth.proofs.Bits.{bit, and_power}
use Rattle.truth.proofs.Rests.{satisfied_or}

-- The satisfied clauses as a set.
abbrev sat : List Clause → ℕ → ℕ → ℕ
sat [] t f = 0
sat (c ∷ cs) t f = cond (satisfied c t f) 1 0 + 2 * sat cs t f

mark_small : (t : Bool) → cond t 1 0 < 2
mark_small true = omega arith
mark_small false = omega arith

sat_small : (cs : List Clause) (t f : ℕ) → sat cs t f < 2 ^ length cs
sat_small [] t f = omega arith
sat_small (c ∷ cs) t f = omega (arith, pow-suc 2 (length cs), sat_small cs t f, mark_small (satisfied c t f))

mark_left : (t : Bool) (x : ℕ) → cond t 0 (x % 2) ≡ min (x % 2) (1 - cond t 1 0)
mark_left true x = omega arith
mark_left false x = omega arith

-- What is left of a set is what stands in it and not among the satisfied clauses.
rest_without : (cs : List Clause) (t f s : ℕ) → rest cs t f s ≡ bit_and s ((2 ^ length cs - 1) - sat cs t f)
rest_without [] t f s = sym (and_zero_r s)
rest_without (c ∷ cs) t f s =
    let n = length cs in
    let b = cond (satisfied c t f) 1 0 in
    let m = sat cs t f in
    let small = mark_small (satisfied c t f) in
    let fits = sat_small cs t f in
    let low : ((2 ^ suc n - 1) - (b + 2 * m)) % 2 ≡ 1 - b = omega (arith, pow-suc 2 n) in
    let high : ((2 ^ suc n - 1) - (b + 2 * m)) / 2 ≡ (2 ^ n - 1) - m = omega (arith, pow-suc 2 n) in
    let ih : rest cs t f (s / 2) ≡ bit_and (s / 2) (((2 ^ suc n - 1) - (b + 2 * m)) / 2) = rest_without cs t f (s / 2) ∙ ap (bit_and (s / 2)) (sym high) in
    omega (arith, and_step s ((2 ^ suc n - 1) - (b + 2 * m)), mark_left (satisfied c t f) s)

mark_or : (a b : Bool) → cond (a || b) 1 0 ≡ max (cond a 1 0) (cond b 1 0)
mark_or true true = refl
mark_or true false = refl
mark_or false true = refl
mark_or false false = refl

sat_or : (cs : List Clause) (t f u g : ℕ) → sat cs (bit_or t u) (bit_or f g) ≡ bit_or (sat cs t f) (sat cs u g)
sat_or [] t f u g = refl
sat_or (c ∷ cs) t f u g =
    let a = cond (satisfied c t f) 1 0 in
    let b = cond (satisfied c u g) 1 0 in
    let m = sat cs t f in
    let k = sat cs u g in
    let p = mark_small (satisfied c t f) in
    let q = mark_small (satisfied c u g) in
    let x : (a + 2 * m) / 2 ≡ m = omega arith in
    let y : (b + 2 * k) / 2 ≡ k = omega arith in
    let high : bit_or ((a + 2 * m) / 2) ((b + 2 * k) / 2) ≡ bit_or m k = ap₂ bit_or x y in
    let mark : cond (satisfied c (bit_or t u) (bit_or f g)) 1 0 ≡ max a b = ap (λ z. cond z 1 0) (satisfied_or c t f u g) ∙ mark_or (satisfied c t f) (satisfied c u g) in
    omega (arith, or_step (a + 2 * m) (b + 2 * k), sat_or cs t f u g)

sat-none : (cs : List Clause) → sat cs 0 0 ≡ 0
sat-none [] = refl
sat-none (c ∷ cs) =
    let none : satisfied c 0 0 ≡ false = ap₂ (λ a b. not (eqb a 0 && eqb b 0)) (and_zero_r c.positive) (and_zero_r c.negative) in
    ap₂ (λ z r. cond z 1 0 + 2 * r) none (sat-none cs)

bit_is : (c a : ℕ) → bit c a ≡ a / 2 ^ c % 2
bit_is zero a = omega (arith, div-one a)
bit_is (suc c) a =
    let twice : 2 ^ suc c ≡ 2 * 2 ^ c = omega (arith, pow-suc 2 c) in
    bit_is c (a / 2) ∙ ap (λ n. n % 2) (div-div-eq-div-mul a 2 (2 ^ c) ∙ ap (λ n. a / n) (sym twice))

-- The literals of one variable: a mask meets its bit just where the bit is there.
meets : (a c : ℕ) → cond (not (eqb (bit_and a (2 ^ c)) 0)) 1 0 ≡ a / 2 ^ c % 2
meets a c =
    let digit = a / 2 ^ c % 2 in
    let is : bit_and a (2 ^ c) ≡ digit * 2 ^ c = and_power c a ∙ ap (λ n. n * 2 ^ c) (bit_is c a) in
    elim (cases_eq digit 0) [
      | inl z ↦
          let none : bit_and a (2 ^ c) ≡ 0 = is ∙ ap (λ n. n * 2 ^ c) z ∙ zero-mul (2 ^ c) in
          ap (λ t. cond (not t) 1 0) (eq-eqb (bit_and a (2 ^ c)) 0 none) ∙ sym z
      | inr n ↦
          let one : digit ≡ 1 = omega arith in
          let some : bit_and a (2 ^ c) ≡ 2 ^ c = is ∙ ap (λ n. n * 2 ^ c) one ∙ one-mul (2 ^ c) in
          ap (λ t. cond (not t) 1 0) (ne_eqb (bit_and a (2 ^ c)) 0 (λ e. omega (arith, pow_pos c))) ∙ sym one
    ]

and_true : (t : Bool) → (t && true) ≡ t
and_true true = refl
and_true false = refl

sat-true : (cs : List Clause) (x : ℕ) → sat cs (2 ^ (x - 1)) 0 ≡ occurrences true cs x
sat-true [] x = refl
sat-true (c ∷ cs) x =
    let mark : cond (satisfied c (2 ^ (x - 1)) 0) 1 0 ≡ c.positive / 2 ^ (x - 1) % 2 =
    ap (λ b. cond (not (eqb (bit_and c.positive (2 ^ (x - 1))) 0 && eqb b 0)) 1 0) (and_zero_r c.negative)
    ∙ ap (λ t. cond (not t) 1 0) (and_true (eqb (bit_and c.positive (2 ^ (x - 1))) 0)) ∙ meets c.positive (x - 1) in
    ap₂ (λ a b. a + 2 * b) mark (sat-true cs x)

sat-false : (cs : List Clause) (x : ℕ) → sat cs 0 (2 ^ (x - 1)) ≡ occurrences false cs x
sat-false [] x = refl
sat-false (c ∷ cs) x =
    let mark : cond (satisfied c 0 (2 ^ (x - 1))) 1 0 ≡ c.negative / 2 ^ (x - 1) % 2 =
    ap (λ b. cond (not (eqb b 0 && eqb (bit_and c.negative (2 ^ (x - 1))) 0)) 1 0) (and_zero_r c.positive) ∙ meets c.negative (x - 1) in
    ap₂ (λ a b. a + 2 * b) mark (sat-false cs x)

sat_digit : (cs : List Clause) (x d : ℕ) → d < 2 → sat cs (d * 2 ^ (x - 1)) ((1 - d) * 2 ^ (x - 1)) ≡ occurrences (eqb d 1) cs x
sat_digit cs x zero h = ap₂ (sat cs) (zero-mul (2 ^ (x - 1))) (one-mul (2 ^ (x - 1))) ∙ sat-false cs x
sat_digit cs x (suc zero) h = ap₂ (sat cs) (one-mul (2 ^ (x - 1))) (zero-mul (2 ^ (x - 1))) ∙ sat-true cs x
sat_digit cs x (suc (suc d)) h = absurd (omega arith)

sat-settled : (cs : List Clause) (xs : List ℕ) (v : ℕ) → sat cs (made_true xs v) (made_false xs v) ≡ settled cs xs v
sat-settled cs [] v = sat-none cs
sat-settled cs (x ∷ xs) v =
    sat_or cs ((v / 2 ^ length xs) % 2 * 2 ^ (x - 1)) ((1 - (v / 2 ^ length xs) % 2) * 2 ^ (x - 1)) (made_true xs v) (made_false xs v)
    ∙ ap₂ bit_or (sat_digit cs x ((v / 2 ^ length xs) % 2) (omega arith)) (sat-settled cs xs v)

pub occurrences_small : (so : Bool) (cs : List Clause) (v : ℕ) → occurrences so cs v < 2 ^ length cs
occurrences_small so [] v = omega arith
occurrences_small so (c ∷ cs) v = omega (arith, pow-suc 2 (length cs), occurrences_small so cs v)

pub settled_small : (cs : List Clause) (xs : List ℕ) (v : ℕ) → settled cs xs v < 2 ^ length cs
settled_small cs xs v = rw (← sat-settled cs xs v) (sat_small cs (made_true xs v) (made_false xs v))

-- The rest under a value: what stands in the set and is not settled.
pub rest-settled : (cs : List Clause) (b : Block) (v s : ℕ) → rest_under cs b v s ≡ bit_and s (whole cs - settled cs b.variables v)
rest-settled cs b v s =
    rest_without cs (made_true b.variables v) (made_false b.variables v) s ∙ ap (λ m. bit_and s ((2 ^ length cs - 1) - m)) (sat-settled cs b.variables v)

-- Only clauses that there are can be settled.
pub settled_sub : (cs : List Clause) (xs : List ℕ) (v : ℕ) → bit_and (settled cs xs v) (whole cs) ≡ settled cs xs v
settled_sub cs xs v = and_mask (settled cs xs v) (length cs) ∙ mod-eq_of_lt (settled_small cs xs v)
