use Rattle.std.proofs.Common.{◌+◌, sym, ◌∙◌, ap₂}
use Rattle.text.specs.Rows.{lines_of}
use Rattle.formula_text.specs.Parse.{top_lines}
use Rattle.formula_text.proofs.TextForms.{parse_formed}
use Rattle.formula_text.proofs.read.read_lines.Goals as goal

pub formula_of-requires : goal.formula_of-requires
formula_of-requires c =
    parse_formed c.args.text.now _
    (ap₂ (λ n t. top_lines (n + 1) (lines_of t)) (sym c.new-lines.ensures.line) (sym c.new-lines.ensures.rest)
    ∙ c.in_ok-header.ensures ∙ c.in_ok-prefix.ensures ∙ c.in_ok-matrix.ensures)
