use Rattle.std.proofs.Common.{sym, ◌∙◌, arith, rules}
use Rattle.formula_text.proofs.LiteralSteps.{literals_more}
use Rattle.formula_text.proofs.literals.next_literal.Goals as goal

pub returns : goal.returns
returns c =
    let field = c.in_ok-field.ensures.cases in
    let more = literals_more _ _ _ _ field.0 (sym c.literal.ensures ∙ c.in_ok-next.ensures.ok_part) c.if-next-eq0.false in
    record { yields = (more, omega arith); shorter = search rules; fault = search rules }
