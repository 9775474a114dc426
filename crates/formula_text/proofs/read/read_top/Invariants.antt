use Rattle.std.proofs.Common.{◌≡◌, ◌+◌, length}
use Rattle.text.specs.Rows.{lines_of}
use Rattle.formula_text.specs.Parse.{top_lines}
use Rattle.formula_text.proofs.read.read_top.Given as goal

-- What is left gives the same as the whole.
abbrev pub invariant-loop-line : goal.invariant-loop-line
invariant-loop-line l =
    top_lines (l.lines.line + 1) (lines_of l.lines.rest.now) ≡ top_lines (l.initial.lines.line + 1) (lines_of l.initial.lines.rest.now)

abbrev pub decreases-loop-line : goal.decreases-loop-line
decreases-loop-line l = length l.lines.rest.now
