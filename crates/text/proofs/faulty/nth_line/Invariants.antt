use Rattle.std.proofs.Common.{◌≡◌, ◌-◌, ◌≤◌, length}
use Rattle.text.specs.Rows.{lines_of}
use Rattle.text.specs.Faulty.{line_at}
use Rattle.text.proofs.faulty.nth_line.Given as goal

-- The line is among those left, or is no line.
abbrev pub invariant-loop-line : goal.invariant-loop-line
invariant-loop-line l =
    (line_at (l.k - l.lines.line) (lines_of l.lines.rest.now) ≡ line_at l.k (lines_of l.text))
    × (l.k ≤ l.lines.line → l.k ≡ 0)

abbrev pub decreases-loop-line : goal.decreases-loop-line
decreases-loop-line l = length l.lines.rest.now
