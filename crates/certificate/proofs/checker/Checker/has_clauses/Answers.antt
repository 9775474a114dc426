use Rattle.std.proofs.Common.{◌^◌, ltb, ap, ◌∙◌}
use Rattle.certificate.proofs.FromLevel.{above-none}
use Rattle.certificate.proofs.checker.Checker.has_clauses.Goals as goal

pub returns-else-clauses-ge-MAX_CLAUSES : goal.returns-else-clauses-ge-MAX_CLAUSES
returns-else-clauses-ge-MAX_CLAUSES c =
    above-none c.args.set c.clauses-clauses.result ∙ ap (λ n. ltb c.args.set (2 ^ n)) c.clauses-clauses.ensures
