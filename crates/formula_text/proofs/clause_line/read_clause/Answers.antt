use Rattle.std.proofs.Common.{Err, ap, ◌∙◌, rules}
use Rattle.qbf.specs.Held.{blocks_in}
use Rattle.formula_text.proofs.LineRules.{clause_high, clause_unbound, clause_closed}
use Rattle.formula_text.proofs.clause_line.read_clause.Goals as goal

pub returns-then-literals-header : goal.returns-then-literals-header
returns-then-literals-header c =
    ap Err c.new-then-literals-header.ensures
    ∙ clause_high _ c.args.header.counts (blocks_in c.args.prefix.now) c.args.line.now _ _ c.in_ok-literals.ensures c.if-literals-header.true

pub returns-then-not-is_closed : goal.returns-then-not-is_closed
returns-then-not-is_closed c = search (rules, clause_unbound)

pub returns : goal.returns
returns c = search (rules, clause_closed)
