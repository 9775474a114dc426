-- Positions and their truth. A position is a set of clauses that are not satisfied yet, before the blocks that are
-- still to get a value. Sets are numbers: clause c adds 2 ^ (c - 1).
use Rattle.std.specs.Prelude.{ℕ, zero, suc, ◌+◌, ◌-◌, ◌*◌, ◌/◌, ◌%◌, ◌^◌, Bool, false, cond, not, ◌&&◌, ◌||◌, List, [], ◌∷◌, ◌++◌, length, ◌==◌, bit_and, bit_or}
use Rattle.truth.specs.declared.literal.Quantifier.{Quantifier}
use Rattle.truth.specs.declared.literal.Quantifier.TheVariants.{Existential, Universal}
use Rattle.truth.specs.declared.literal.Clause.{Clause}
use Rattle.truth.specs.Syntax.{Block, Qbf}
use Rattle.truth.specs.WellFormed.{all}

abbrev pub any : {A : Type 0} → (A → Bool) → List A → Bool
any p [] = false
any p (x ∷ xs) = p x || any p xs

-- The numbers below n, ascending: below 2 ^ k they are the values of a block of k variables.
abbrev pub below : ℕ → List ℕ
below zero = []
below (suc n) = below n ++ (n ∷ [])

-- The variables of a block that a value makes true. A value is a binary number, the first variable its highest digit.
abbrev pub made_true : List ℕ → ℕ → ℕ
made_true [] v = 0
made_true (x ∷ xs) v = bit_or ((v / 2 ^ length xs) % 2 * 2 ^ (x - 1)) (made_true xs v)

-- Those that it makes false.
abbrev pub made_false : List ℕ → ℕ → ℕ
made_false [] v = 0
made_false (x ∷ xs) v = bit_or ((1 - (v / 2 ^ length xs) % 2) * 2 ^ (x - 1)) (made_false xs v)

-- The clause has a literal that is true where the variables in t are true and those in f false.
abbrev pub satisfied : Clause → ℕ → ℕ → Bool
satisfied c t f = not (bit_and c.positive t == 0 && bit_and c.negative f == 0)

-- What is left of a set: the clauses that are not satisfied.
abbrev pub rest : List Clause → ℕ → ℕ → ℕ → ℕ
rest [] t f s = 0
rest (c ∷ cs) t f s = cond (satisfied c t f) 0 (s % 2) + 2 * rest cs t f (s / 2)

-- The rest under a value of a block.
abbrev pub rest_under : List Clause → Block → ℕ → ℕ → ℕ
rest_under cs b v s = rest cs (made_true b.variables v) (made_false b.variables v) s

-- Under some of these values, or under every one.
abbrev pub wins : Quantifier → (ℕ → Bool) → List ℕ → Bool
wins Existential p vs = any p vs
wins Universal p vs = all p vs

-- The position is won: at the end when its set is empty, before a block under some value of it, or under every one.
abbrev pub won : List Clause → List Block → ℕ → Bool
won cs [] s = s == 0
won cs (b ∷ bs) s = wins b.quantifier (λ v. won cs bs (rest_under cs b v s)) (below (2 ^ length b.variables))

-- The set of all clauses.
abbrev pub whole : List Clause → ℕ
whole cs = 2 ^ length cs - 1

-- The set that a formula's first level begins with, where it is to be shown true or to be shown false.
abbrev pub root_of : Qbf → Bool → ℕ
root_of f verdict = whole f.matrix

-- The formula is true.
abbrev pub holds : Qbf → Bool
holds f = won f.matrix f.prefix (whole f.matrix)
