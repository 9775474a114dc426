-- The truth of a formula by recursion over its single variables, in prefix order.
use Rattle.std.specs.Prelude.{ℕ, ◌-◌, ◌^◌, Bool, ◌&&◌, ◌||◌, List, [], ◌∷◌, bit_or}
use Rattle.truth.specs.declared.literal.Quantifier.{Quantifier}
use Rattle.truth.specs.declared.literal.Quantifier.TheVariants.{Existential, Universal}
use Rattle.truth.specs.declared.literal.Clause.{Clause}
use Rattle.truth.specs.Syntax.{Block, Qbf}
use Rattle.truth.specs.WellFormed.{all}
use Rattle.truth.specs.Truth.{satisfied}

-- A variable and how it is bound.
pub record BoundVariable : Type 0 where
  pub quantifier : Quantifier
  pub variable : ℕ

-- Variables under one quantifier, before others.
abbrev pub bind_before : Quantifier → List ℕ → List BoundVariable → List BoundVariable
bind_before q [] ps = ps
bind_before q (x ∷ xs) ps = record { quantifier = q; variable = x } ∷ bind_before q xs ps

-- The variables of some blocks, one by one.
abbrev pub single : List Block → List BoundVariable
single [] = []
single (b ∷ bs) = bind_before b.quantifier b.variables (single bs)

-- For some of two values, or for both.
abbrev pub either : Quantifier → Bool → Bool → Bool
either Existential x y = x || y
either Universal x y = x && y

-- True where the variables in t are true and those in f false: at the end when each clause has a true literal.
abbrev pub plain : List Clause → List BoundVariable → ℕ → ℕ → Bool
plain cs [] t f = all (λ c. satisfied c t f) cs
plain cs (p ∷ ps) t f =
    either p.quantifier (plain cs ps t (bit_or f (2 ^ (p.variable - 1)))) (plain cs ps (bit_or t (2 ^ (p.variable - 1))) f)

-- The formula is true.
abbrev pub holds_plainly : Qbf → Bool
holds_plainly f = plain f.matrix (single f.prefix) 0 0
