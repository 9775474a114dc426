-- Quantified Boolean formulas in prenex form: a prefix of blocks and a matrix of clauses.
use Rattle.std.specs.Prelude.{ℕ, ◌-◌, ◌^◌, cond, List, [], ◌∷◌, bit_or}
use Rattle.std.specs.List.{flat_map}
use Rattle.truth.specs.declared.literal.Quantifier.{Quantifier}
use Rattle.truth.specs.declared.literal.Literal.{Literal}
use Rattle.truth.specs.declared.literal.Clause.{Clause}

-- Variables under one quantifier, in the order of their line.
pub record Block : Type 0 where
  pub quantifier : Quantifier
  pub variables : List ℕ

-- A formula: how many variables there may be, its blocks from the outermost, its clauses in line order.
pub record Qbf : Type 0 where
  pub variables : ℕ
  pub prefix : List Block
  pub matrix : List Clause

-- The variables of some blocks, in prefix order.
abbrev pub bound_in : List Block → List ℕ
bound_in bs = flat_map (λ b. b.variables) bs

-- A set of variables as a number: variable v adds 2 ^ (v - 1).
abbrev pub mask_of : List ℕ → ℕ
mask_of [] = 0
mask_of (v ∷ vs) = bit_or (2 ^ (v - 1)) (mask_of vs)

-- The clause with one literal more.
abbrev pub with_literal : Literal → Clause → Clause
with_literal l c =
    cond l.negative
    (record { positive = c.positive; negative = bit_or (2 ^ (l.variable - 1)) c.negative })
    (record { positive = bit_or (2 ^ (l.variable - 1)) c.positive; negative = c.negative })

-- The clause that literals make: a set, in which repeats count once.
abbrev pub clause_of : List Literal → Clause
clause_of [] = record { positive = 0; negative = 0 }
clause_of (l ∷ ls) = with_literal l (clause_of ls)
