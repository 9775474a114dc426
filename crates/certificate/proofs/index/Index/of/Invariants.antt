use Rattle.std.proofs.Common.{◌≡◌, ◌+◌, length}
use Rattle.truth.specs.Limits.{max_blocks}
use Rattle.certificate.specs.Spans.{Spanned}
use Rattle.certificate.proofs.index.Index.of.Given as goal

abbrev pub invariant-loop-i : goal.invariant-loop-i
invariant-loop-i l = record { places : length l.spans ≡ max_blocks + 1; spanned : Spanned l.entries l.i l.spans }
