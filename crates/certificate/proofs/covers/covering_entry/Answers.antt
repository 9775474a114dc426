use borrow.Author.Tests.{tests}
use Rattle.std.proofs.Common.{rules, ◌≡◌, true, false, ◌∙◌}
use Rattle.std.proofs.lemmas.Iterator.{first_from_find, YieldsList-from_slice}
use Rattle.truth.specs.Verdicts.{is_true}
use Rattle.entries.specs.declared.entry.Entry.{Entry}
use Rattle.certificate.specs.Accepting.{covers}
use Rattle.certificate.proofs.Steps.{first_found}
use Rattle.certificate.proofs.covers.covering_entry.Goals as goal

pub returns : goal.returns
returns c =
    let p = covers (is_true c.args.verdict) c.args.level c.args.set in
    let entries = c.args.entries.now in
    let found = first_from_find _ _ _ (λ (e : Entry). p e ≡ true) (λ e. p e ≡ false) c.find.ensures.ran (YieldsList-from_slice entries cc)
    (λ x q k. search (rules, tests)) (λ x q k. search (rules, tests)) in
    c.copied.ensures ∙ first_found p entries c.find.result found
