use Rattle.std.proofs.Common.{◌≡◌, ◌-◌}
use Rattle.truth.specs.WellFormed.{all}
use Rattle.truth.specs.Verdicts.{is_true}
use Rattle.qbf.specs.Held.{qbf_of}
use Rattle.entries.specs.declared.entry.Reply.TheVariants.{None}
use Rattle.certificate.specs.Accepting.{blocks_from, leads_on, upheld}
use Rattle.certificate.proofs.Trying.{untried}
use Rattle.certificate.proofs.checker.Checker.every_leads_on.Given as goal

-- The candidates still to be tried decide like all values.
abbrev pub invariant-loop-candidate : goal.invariant-loop-candidate
invariant-loop-candidate l =
    let f = qbf_of l.self.formula.now in
    let bs = blocks_from f l.level in
    all (leads_on (is_true l.self.verdict) f.matrix l.self.index.entries.now bs l.level l.entry.set) (untried f.matrix bs l.entry.set l.from)
    ≡ upheld (is_true l.self.verdict) f.matrix l.self.index.entries.now bs l.level l.entry.set None

abbrev pub decreases-loop-candidate : goal.decreases-loop-candidate
decreases-loop-candidate l = 65536 - l.from
