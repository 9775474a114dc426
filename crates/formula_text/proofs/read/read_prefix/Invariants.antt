use Rattle.std.proofs.Common.{◌≡◌, ◌+◌, [], length}
use Rattle.text.specs.Rows.{lines_of}
use Rattle.qbf.specs.Held.{blocks_in}
use Rattle.formula_text.specs.Parse.{block_lines}
use Rattle.formula_text.proofs.read.read_prefix.Given as goal

-- What is left gives the same as the whole.
abbrev pub invariant-loop-quantifier : goal.invariant-loop-quantifier
invariant-loop-quantifier l =
    block_lines (l.lines.line + 1) l.header.counts (blocks_in l.prefix) (lines_of l.lines.rest.now)
    ≡ block_lines (l.initial.lines.line + 1) l.header.counts [] (lines_of l.initial.lines.rest.now)

abbrev pub decreases-loop-quantifier : goal.decreases-loop-quantifier
decreases-loop-quantifier l = length l.lines.rest.now
