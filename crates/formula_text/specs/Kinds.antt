-- What a line's first letter says of it.
use Rattle.std.specs.Prelude.{ℕ, Bool, true, false, cond, List, [], ◌∷◌, ◌==◌}
use Rattle.truth.specs.declared.literal.Quantifier.TheVariants.{Existential, Universal}
use Rattle.formula_text.specs.declared.kind.Kind.{Kind}
use Rattle.formula_text.specs.declared.kind.Kind.TheVariants.{Comment, Problem, Prefix, Other}

-- c, p, a and e
abbrev pub letter_kind : ℕ → Kind
letter_kind b =
    cond (b == 99) Comment (cond (b == 112) Problem (cond (b == 97) (Prefix Universal) (cond (b == 101) (Prefix Existential) Other)))

abbrev pub kind_of : List ℕ → Kind
kind_of [] = Other
kind_of (b ∷ bs) = letter_kind b

abbrev pub is_prefix : Kind → Bool
is_prefix Comment = false
is_prefix Problem = false
is_prefix (Prefix q) = true
is_prefix Other = false

-- The first of some lines is a block line.
abbrev pub block_next : List (List ℕ) → Bool
block_next [] = false
block_next (l ∷ ls) = is_prefix (kind_of l)
