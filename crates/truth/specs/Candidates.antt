-- The values of a block that can decide a position.
use Rattle.std.specs.Prelude.{ℕ, ◌^◌, Bool, cond, not, ◌&&◌, ◌||◌, List, [], ◌∷◌, length, Some, None, filter, Option, ◌==◌, nat_le, nat_lt}
use Rattle.truth.specs.declared.literal.Quantifier.{Quantifier}
use Rattle.truth.specs.declared.literal.Quantifier.TheVariants.{Existential, Universal}
use Rattle.truth.specs.declared.literal.Clause.{Clause}
use Rattle.truth.specs.Syntax.{Block}
use Rattle.truth.specs.Sets.{strictly_inside}
use Rattle.truth.specs.Truth.{any, below, rest_under}

-- A rest is better than another: strictly inside it, or at a universal level strictly around it.
abbrev pub beats : Quantifier → ℕ → ℕ → Bool
beats Existential a b = strictly_inside a b
beats Universal a b = strictly_inside b a

-- No value of these has a better rest, nor a lower one the same rest.
abbrev pub candidate : (ℕ → ℕ) → Quantifier → List ℕ → ℕ → Bool
candidate r q vs v = not (any (λ w. beats q (r w) (r v) || (nat_lt w v && r w == r v)) vs)

-- The candidates below 2 ^ k, ascending, where value v leaves r v.
abbrev pub candidates : (ℕ → ℕ) → Quantifier → ℕ → List ℕ
candidates r q k = filter (candidate r q (below (2 ^ k))) (below (2 ^ k))

-- The candidates of a position with the set s, whose next block is b.
abbrev pub candidates_at : List Clause → Block → ℕ → List ℕ
candidates_at cs b s = candidates (λ v. rest_under cs b v s) b.quantifier (length b.variables)

-- The first of some values that is not below another.
abbrev pub first_from : ℕ → List ℕ → Option ℕ
first_from from [] = None
first_from from (v ∷ vs) = cond (nat_le from v) (Some v) (first_from from vs)
