use Rattle.std.proofs.Common.{sym, ap, ◌∙◌}
use Rattle.truth.specs.Limits.{max_variables}
use Rattle.truth.specs.Verdicts.{is_true}
use Rattle.truth.specs.WellFormed.{all, ranged}
use Rattle.qbf.proofs.Positioning.{all_bound}
use Rattle.qbf.proofs.Refereeing.{bound_of, refereed_none, refereed_some}
use Rattle.qbf.proofs.referee.decide.Goals as goal

pub returns-then-not-binds_few : goal.returns-then-not-binds_few
returns-then-not-binds_few c =
    let r = refereed_none c.args.formula.now c.list-blocks.result.now c.list-blocks.ensures (sym c.if-not-binds_few.ensures) in
    record { plainly = r.plainly; blocks = r.blocks; laws = r.laws }

pub decide_from-so-requires-clause-inner : goal.decide_from-so-requires-clause-inner
decide_from-so-requires-clause-inner c = ap (λ bs. all (ranged max_variables) (bound_of bs)) c.list-blocks.ensures ∙ all_bound c.args.formula.now

pub returns : goal.returns
returns c =
    let r = refereed_some c.args.formula.now c.list-blocks.result.now c.list-blocks.ensures (sym c.if-not-binds_few.ensures) c.list-clauses.result.now c.list-clauses.ensures (is_true c.from.result) (c.from.ensures ∙ c.decide_from-so.ensures) in
    record { plainly = r.plainly; blocks = r.blocks; laws = r.laws }
