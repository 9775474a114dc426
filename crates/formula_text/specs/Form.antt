-- When a text is a formula's: how it is put together, line by line and field by field.
use Rattle.std.specs.Prelude.{◌≡◌, ℕ, true, cond, List, [], ◌∷◌, ◌++◌, map, length, Ok, codes, decimal, Result}
use Rattle.faults.specs.declared.fault.Fault.{Fault}
use Rattle.std.specs.List.{AllByRecursion}
use Rattle.text.specs.Layout.{Lines, Spaced}
use Rattle.truth.specs.declared.literal.Quantifier.{Quantifier}
use Rattle.truth.specs.declared.literal.Quantifier.TheVariants.{Existential, Universal}
use Rattle.truth.specs.declared.literal.Literal.{Literal}
use Rattle.truth.specs.Syntax.{Block, Qbf, bound_in, clause_of}
use Rattle.truth.specs.WellFormed.{WellFormed, all, elem}

-- Two lists as long as each other, related element by element.
abbrev pub Pairwise : {A B : Type 0} → (A → B → Type 0) → List A → List B → Type 0
Pairwise R [] [] = Unit {0}
Pairwise R [] (y ∷ ys) = ⊥
Pairwise R (x ∷ xs) [] = ⊥
Pairwise R (x ∷ xs) (y ∷ ys) = R x y × Pairwise R xs ys

-- A line that begins with c.
abbrev pub CommentLine : List ℕ → Type 0
CommentLine line = (rest : List ℕ) × (line ≡ codes "c" ++ rest)

-- p cnf V C
abbrev pub HeaderLine : ℕ → ℕ → List ℕ → Type 0
HeaderLine v c line = Spaced (codes "p" ∷ (codes "cnf" ∷ (decimal v ∷ (decimal c ∷ [])))) line

abbrev pub letter : Quantifier → List ℕ
letter Existential = codes "e"
letter Universal = codes "a"

-- The letter of the quantifier, the variables, and 0.
abbrev pub BlockLine : Block → List ℕ → Type 0
BlockLine b line = Spaced (letter b.quantifier ∷ (map decimal b.variables ++ (codes "0" ∷ []))) line

-- A variable's number, after a minus if negated.
abbrev pub literal_text : Literal → List ℕ
literal_text l = cond l.negative (codes "-" ++ decimal l.variable) (decimal l.variable)

-- The literals, and 0.
abbrev pub ClauseLine : List Literal → List ℕ → Type 0
ClauseLine ls line = Spaced (map literal_text ls ++ (codes "0" ∷ [])) line

-- The text of a formula: comments, the line `p cnf V C`, a line for each block, a line for each of the C clauses.
pub record FormulaText (text : List ℕ) (f : Qbf) : Type 0 where
  pub comments : List (List ℕ)
  pub header : List ℕ
  pub blocks : List (List ℕ)
  pub clauses : List (List ℕ)
  pub lines : Lines text (comments ++ (header ∷ (blocks ++ clauses)))
  pub commented : AllByRecursion CommentLine comments
  pub headed : HeaderLine f.variables (length f.matrix) header
  pub prefixed : Pairwise BlockLine f.prefix blocks
  -- the literals of each clause line, whose variables stand in blocks
  pub literals : List (List Literal)
  pub claused : Pairwise ClauseLine literals clauses
  pub bound : all (all (λ l. elem l.variable (bound_in f.prefix))) literals ≡ true
  pub meant : map clause_of literals ≡ f.matrix
  -- within the limits, each variable once and from 1 to V, quantifiers in turn, the innermost existential
  pub formed : WellFormed f

-- What reading a text gave is exact: a formula just where the text is that formula's, and so the one formula.
pub record Exact (text : List ℕ) (r : Result Qbf Fault) : Type 0 where
  pub accepted : (f : Qbf) → r ≡ Ok f → FormulaText text f
  pub complete : (f : Qbf) → FormulaText text f → r ≡ Ok f
