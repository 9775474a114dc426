use Rattle.std.proofs.Common.{rules}
use Rattle.certificate_text.proofs.FormulaFacts.{width_low}
use Rattle.certificate_text.proofs.entry_line.entry_of.Goals as goal

pub reply_of-requires : goal.reply_of-requires
reply_of-requires c =
    let w = width_low c.args.formula.now c.args.level _ c.in_ok-width.ensures in search rules

pub overflow_cast-result : goal.overflow_cast-result
overflow_cast-result c =
    let w = width_low c.args.formula.now c.args.level _ c.in_ok-width.ensures in search rules
