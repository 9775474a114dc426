use Rattle.std.proofs.Common.{◌≡◌, ◌+◌, ◌≤◌, [], length}
use Rattle.text.specs.Rows.{lines_of}
use Rattle.qbf.specs.Held.{blocks_in, clauses_in}
use Rattle.formula_text.specs.Parse.{clause_lines}
use Rattle.formula_text.proofs.read.read_matrix.Given as goal

-- What is left gives the same as the whole, and there are no more clauses than were announced.
abbrev pub invariant-loop-line : goal.invariant-loop-line
invariant-loop-line l =
    (clause_lines (l.lines.line + 1) l.header.counts (blocks_in l.prefix) (clauses_in l.matrix) (lines_of l.lines.rest.now)
    ≡ clause_lines (l.initial.lines.line + 1) l.header.counts (blocks_in l.prefix) [] (lines_of l.initial.lines.rest.now))
    × (length (clauses_in l.matrix) ≤ l.header.counts.clauses)

abbrev pub decreases-loop-line : goal.decreases-loop-line
decreases-loop-line l = length l.lines.rest.now
