-- The formula that a text means, or the fault with the lowest line and then the lowest number.
use Rattle.std.specs.Prelude.{ℕ, ◌+◌, Bool, cond, not, ◌&&◌, ◌||◌, List, [], ◌∷◌, ◌++◌, length, Some, None, Ok, Err, Option, Result, ◌==◌, nat_le, nat_lt, slice_index}
use Rattle.faults.specs.declared.cause.Cause.{Cause}
use Rattle.faults.specs.declared.cause.Cause.TheVariants.{FormulaForm, OverLimit, BadVariable, BadAlternation, UnboundVariable, ClauseCount}
use Rattle.faults.specs.declared.fault.Fault.{Fault}
use Rattle.text.specs.Rows.{lines_of, fields_of}
use Rattle.text.specs.Taken.{and_then, take_number, ended}
use Rattle.truth.specs.declared.literal.Quantifier.{Quantifier}
use Rattle.truth.specs.declared.literal.Literal.{Literal}
use Rattle.truth.specs.declared.literal.Clause.{Clause}
use Rattle.formula_text.specs.declared.kind.Kind.TheVariants.{Comment, Problem, Prefix, Other}
use Rattle.formula_text.specs.declared.counts.Counts.{Counts}
use Rattle.truth.specs.Limits.{max_variables, max_clauses, max_blocks, max_width}
use Rattle.truth.specs.Syntax.{Block, Qbf, bound_in, clause_of}
use Rattle.truth.specs.WellFormed.{all, elem, distinct, ranged, existential, repeats}
use Rattle.formula_text.specs.Kinds.{kind_of, block_next}
use Rattle.formula_text.specs.Literals.{literals_of, numbers_of}

abbrev pub fault : Cause → ℕ → Fault
fault c n = record { cause = c; line = n }

-- What f makes of a value, or the fault that came before.
abbrev pub onward : {A B : Type 0} → Result A Fault → (A → Result B Fault) → Result B Fault
onward (Ok a) f = f a
onward (Err e) f = Err e

-- The fields after the first, which is one letter.
abbrev pub take_letter : List (List ℕ) → Option (List (List ℕ))
take_letter [] = None
take_letter (w ∷ ws) = cond (length w == 1) (Some ws) None

-- The fields after the word `cnf`.
abbrev pub take_cnf : List (List ℕ) → Option (List (List ℕ))
take_cnf [] = None
take_cnf (w ∷ ws) =
    cond (length w == 3 && (slice_index w 0 == 99 && (slice_index w 1 == 110 && slice_index w 2 == 102))) (Some ws) None

-- `p cnf V C`
abbrev pub header_of : List ℕ → Option Counts
header_of line =
    and_then (fields_of line) (λ fields.
    and_then (take_letter fields) (λ ws.
    and_then (take_cnf ws) (λ us.
    and_then (take_number us) (λ v.
    and_then (take_number v.1) (λ c.
    and_then (ended c.1) (λ _. Some (record { variables = v.0; clauses = c.0 })))))))

-- A letter, numbers from 1 up, and 0.
abbrev pub variables_of : List ℕ → Option (List ℕ)
variables_of line = and_then (fields_of line) (λ fields. and_then (take_letter fields) numbers_of)

-- Literals, and 0.
abbrev pub clause_literals : List ℕ → Option (List Literal)
clause_literals line = and_then (fields_of line) literals_of

-- The counts of the line `p`, on line n, within the limits.
abbrev pub limit_counts : ℕ → Option Counts → Result Counts Fault
limit_counts n None = Err (fault FormulaForm n)
limit_counts n (Some h) = cond (nat_le h.variables max_variables && nat_le h.clauses max_clauses) (Ok h) (Err (fault OverLimit n))

abbrev pub read_header : ℕ → List ℕ → Result Counts Fault
read_header n line = limit_counts n (header_of line)

-- The block of the variables of line n, after the blocks bs; `next` tells whether a block line follows.
abbrev pub place_block : ℕ → Counts → List Block → Quantifier → Bool → Option (List ℕ) → Result Block Fault
place_block n h bs q next None = Err (fault FormulaForm n)
place_block n h bs q next (Some vs) =
    cond (nat_le max_blocks (length bs) || nat_lt max_width (length vs)) (Err (fault OverLimit n))
    (cond (not (all (ranged h.variables) vs && distinct (bound_in bs ++ vs))) (Err (fault BadVariable n))
    (cond (repeats q bs || not (existential q || next)) (Err (fault BadAlternation n))
    (Ok (record { quantifier = q; variables = vs }))))

abbrev pub read_block : ℕ → Counts → List Block → Quantifier → Bool → List ℕ → Result Block Fault
read_block n h bs q next line = place_block n h bs q next (variables_of line)

-- The clause of the literals of line n, under the blocks bs.
abbrev pub bind_clause : ℕ → Counts → List Block → Option (List Literal) → Result Clause Fault
bind_clause n h bs None = Err (fault FormulaForm n)
bind_clause n h bs (Some ls) =
    cond (not (all (λ l. nat_le l.variable h.variables) ls)) (Err (fault BadVariable n))
    (cond (not (all (λ l. elem l.variable (bound_in bs)) ls)) (Err (fault UnboundVariable n))
    (Ok (clause_of ls)))

abbrev pub read_clause : ℕ → Counts → List Block → List ℕ → Result Clause Fault
read_clause n h bs line = bind_clause n h bs (clause_literals line)

-- The lines from the n-th on, after the clauses cs.
abbrev pub clause_lines : ℕ → Counts → List Block → List Clause → List (List ℕ) → Result Qbf Fault
clause_lines n h bs cs [] =
    cond (length cs == h.clauses) (Ok (record { variables = h.variables; prefix = bs; matrix = cs })) (Err (fault ClauseCount n))
clause_lines n h bs cs (l ∷ ls) =
    cond (length cs == h.clauses) (Err (fault ClauseCount n))
    (onward (read_clause n h bs l) (λ c. clause_lines (n + 1) h bs (cs ++ c ∷ []) ls))

-- The lines from the n-th on, after the blocks bs.
abbrev pub block_lines : ℕ → Counts → List Block → List (List ℕ) → Result Qbf Fault
block_lines n h bs [] = clause_lines n h bs [] []
block_lines n h bs (l ∷ ls) =
    elim (kind_of l) [
      | Prefix q ↦ onward (read_block n h bs q (block_next ls) l) (λ b. block_lines (n + 1) h (bs ++ b ∷ []) ls)
      | Comment ↦ clause_lines n h bs [] (l ∷ ls)
      | Problem ↦ clause_lines n h bs [] (l ∷ ls)
      | Other ↦ clause_lines n h bs [] (l ∷ ls)
    ]

-- The lines from the n-th on, after comments.
abbrev pub top_lines : ℕ → List (List ℕ) → Result Qbf Fault
top_lines n [] = Err (fault FormulaForm n)
top_lines n (l ∷ ls) =
    elim (kind_of l) [
      | Comment ↦ top_lines (n + 1) ls
      | Problem ↦ onward (read_header n l) (λ h. block_lines (n + 1) h [] ls)
      | Prefix q ↦ Err (fault FormulaForm n)
      | Other ↦ Err (fault FormulaForm n)
    ]

abbrev pub parse : List ℕ → Result Qbf Fault
parse text = top_lines 1 (lines_of text)
