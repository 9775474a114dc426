-- What values for the first of some blocks lead to. The n-th value is that of the n-th block.
use Rattle.std.specs.Prelude.{ℕ, List, [], ◌∷◌, bit_or}
use Rattle.truth.specs.declared.literal.Clause.{Clause}
use Rattle.truth.specs.Syntax.{Block}
use Rattle.truth.specs.Truth.{made_true, made_false, rest_under}

-- The set left, one block after another.
abbrev pub rest_after : List Clause → List Block → List ℕ → ℕ → ℕ
rest_after cs [] vs s = s
rest_after cs (b ∷ bs) [] s = s
rest_after cs (b ∷ bs) (v ∷ vs) s = rest_after cs bs vs (rest_under cs b v s)

-- All variables that the values make true.
abbrev pub true_after : List Block → List ℕ → ℕ
true_after [] vs = 0
true_after (b ∷ bs) [] = 0
true_after (b ∷ bs) (v ∷ vs) = bit_or (made_true b.variables v) (true_after bs vs)

-- All that they make false.
abbrev pub false_after : List Block → List ℕ → ℕ
false_after [] vs = 0
false_after (b ∷ bs) [] = 0
false_after (b ∷ bs) (v ∷ vs) = bit_or (made_false b.variables v) (false_after bs vs)
