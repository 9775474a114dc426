use Rattle.std.proofs.Common.{◌≡◌, ◌+◌, drop}
use Rattle.truth.specs.Verdicts.{is_true}
use Rattle.qbf.specs.Held.{qbf_of}
use Rattle.certificate.specs.Accepting.{supported}
use Rattle.certificate.specs.Faults.{first_failing}
use Rattle.certificate.proofs.check.check.Given as goal

abbrev pub invariant-loop-i : goal.invariant-loop-i
invariant-loop-i l =
    first_failing (supported (is_true l.verdict) (qbf_of l.formula) l.entries) (drop l.i l.entries) (l.i + 4)
    ≡ first_failing (supported (is_true l.verdict) (qbf_of l.formula) l.entries) l.entries 4
