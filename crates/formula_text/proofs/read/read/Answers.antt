use Rattle.std.proofs.Common.{sym, ◌∙◌}
use Rattle.formula_text.proofs.TextForms.{accepted_form, form_accepted}
use Rattle.formula_text.proofs.read.read.Goals as goal

pub returns : goal.returns
returns c =
    let text = c.args.text.now in
    record {
      value = c.read_lines.ensures;
      exact = record {
        accepted = λ f e. accepted_form text f (sym c.read_lines.ensures ∙ e);
        complete = λ f t. c.read_lines.ensures ∙ form_accepted text f t;
      };
    }
