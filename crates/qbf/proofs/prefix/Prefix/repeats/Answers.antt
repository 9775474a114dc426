use Rattle.std.proofs.Common.{sym, ap, ◌∙◌}
use Rattle.std.specs.Option.{option_copied}
use Rattle.qbf.proofs.Lasts.{same_derived, repeats_last}
use Rattle.qbf.proofs.prefix.Prefix.repeats.Goals as goal

pub returns-in-Some : goal.returns-in-Some
returns-in-Some c =
    let last = sym c.last.ensures.value ∙ ap option_copied c.in-Some.is in
    let q = c.args.quantifier in
    c.eq.ensures ∙ same_derived q _ ∙ sym (rw c.list.ensures at (repeats_last q c.list.result.now _ last))
