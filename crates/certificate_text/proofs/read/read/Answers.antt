use Rattle.std.proofs.Common.{length}
use Rattle.qbf.specs.Held.{qbf_of}
use Rattle.certificate_text.proofs.FormulaFacts.{formula_formed}
use Rattle.certificate_text.proofs.Exactness.{exact}
use Rattle.certificate_text.proofs.EntryFits.{table_fits}
use Rattle.certificate_text.proofs.read.read.Goals as goal

pub returns-clause-exact : goal.returns-clause-exact
returns-clause-exact c =
    let ends = c.read_lines.ensures in
    exact (qbf_of c.args.formula.now) (formula_formed c.args.formula.now) (length c.args.table.now) c.args.text.now _ c.args.table.now _ ends.ending ends.table

pub returns-clause-fitting : goal.returns-clause-fitting
returns-clause-fitting c =
    let ends = c.read_lines.ensures in
    table_fits (qbf_of c.args.formula.now) (length c.args.table.now) c.args.text.now _ c.args.table.now _ ends.ending ends.table
