-- What holds of every formula that is read.
use Rattle.std.specs.Prelude.{◌≡◌, ℕ, ◌≤◌, Bool, true, false, not, ◌&&◌, ◌||◌, List, [], ◌∷◌, length, ◌==◌, bit_and, bit_or, nat_le}
use Rattle.truth.specs.declared.literal.Quantifier.{Quantifier}
use Rattle.truth.specs.declared.literal.Quantifier.TheVariants.{Existential, Universal}
use Rattle.truth.specs.declared.literal.Clause.{Clause}
use Rattle.truth.specs.Limits.{max_variables, max_clauses, max_blocks, max_width}
use Rattle.truth.specs.Syntax.{Block, Qbf, bound_in, mask_of}

abbrev pub all : {A : Type 0} → (A → Bool) → List A → Bool
all p [] = true
all p (x ∷ xs) = p x && all p xs

abbrev pub elem : ℕ → List ℕ → Bool
elem v [] = false
elem v (x ∷ xs) = v == x || elem v xs

-- No number stands twice.
abbrev pub distinct : List ℕ → Bool
distinct [] = true
distinct (x ∷ xs) = not (elem x xs) && distinct xs

abbrev pub positive : ℕ → Bool
positive v = nat_le 1 v

-- A variable from 1 to the highest.
abbrev pub ranged : ℕ → ℕ → Bool
ranged highest v = positive v && nat_le v highest

abbrev pub existential : Quantifier → Bool
existential Existential = true
existential Universal = false

abbrev pub same : Quantifier → Quantifier → Bool
same Existential q = existential q
same Universal q = not (existential q)

-- One to twelve variables.
abbrev pub wide : Block → Bool
wide b = nat_le 1 (length b.variables) && nat_le (length b.variables) max_width

-- Neighbours have different quantifiers.
abbrev pub alternating : List Block → Bool
alternating [] = true
alternating (a ∷ []) = true
alternating (a ∷ b ∷ bs) = not (same a.quantifier b.quantifier) && alternating (b ∷ bs)

-- The quantifier is that of the last block.
abbrev pub repeats : Quantifier → List Block → Bool
repeats q [] = false
repeats q (b ∷ []) = same q b.quantifier
repeats q (a ∷ b ∷ bs) = repeats q (b ∷ bs)

-- The innermost block, if there is one, is existential.
abbrev pub innermost : List Block → Bool
innermost [] = true
innermost (b ∷ []) = existential b.quantifier
innermost (a ∷ b ∷ bs) = innermost (b ∷ bs)

-- The clause has literals of these variables only.
abbrev pub closed : List ℕ → Clause → Bool
closed vs c = bit_and (bit_or c.positive c.negative) (mask_of vs) == bit_or c.positive c.negative

pub record WellFormed (f : Qbf) : Type 0 where
  pub few_variables : f.variables ≤ max_variables
  pub few_blocks : length f.prefix ≤ max_blocks
  pub few_clauses : length f.matrix ≤ max_clauses
  pub widths : all wide f.prefix ≡ true
  pub range : all (ranged f.variables) (bound_in f.prefix) ≡ true
  pub once : distinct (bound_in f.prefix) ≡ true
  pub alternates : alternating f.prefix ≡ true
  pub inside : innermost f.prefix ≡ true
  pub closes : all (closed (bound_in f.prefix)) f.matrix ≡ true
