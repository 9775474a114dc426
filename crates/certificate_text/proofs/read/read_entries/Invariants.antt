use Rattle.std.proofs.Common.{◌≡◌, ◌+◌, ◌≤◌, [], length, take, drop}
use Rattle.text.specs.Rows.{lines_of}
use Rattle.qbf.specs.Held.{qbf_of}
use Rattle.certificate_text.specs.Parse.{entry_lines}
use Rattle.certificate_text.proofs.read.read_entries.Given as goal

-- What is left gives the same as the whole, and the places from the count on are as they were.
abbrev pub invariant-loop-line : goal.invariant-loop-line
invariant-loop-line l =
    (entry_lines (l.lines.line + 1) (qbf_of l.formula) l.verdict (length l.initial.table) (take l.count l.table) (lines_of l.lines.rest.now)
    ≡ entry_lines (l.initial.lines.line + 1) (qbf_of l.formula) l.verdict (length l.initial.table) [] (lines_of l.initial.lines.rest.now))
    × (drop l.count l.table ≡ drop l.count l.initial.table)
    × (l.count ≤ length l.table)

abbrev pub decreases-loop-line : goal.decreases-loop-line
decreases-loop-line l = length l.lines.rest.now
