use Rattle.std.proofs.Common.{◌≡◌, ◌+◌, ◌-◌, []}
use Rattle.certificate_text.specs.CertificateText.{clauses_from, listed_numbers}
use Rattle.certificate_text.specs.Writing.{put, state}
use Rattle.certificate_text.proofs.writer.Writer.clauses.Given as goal

-- What is left, put where the loop has come, gives the whole.
abbrev pub invariant-loop-k : goal.invariant-loop-k
invariant-loop-k l =
    (l.self.out.ghost_name ≡ l.initial.self.out.ghost_name)
    × (put (listed_numbers l.before (clauses_from (l.k + 1) (l.clauses - l.k) l.rest)) (state l.self)
    ≡ put (listed_numbers [] (clauses_from 1 l.clauses l.set)) (state l.initial.self))
