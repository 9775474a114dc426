use Rattle.std.proofs.Common.{◌∙◌, sym, rules, tests}
use Rattle.std.proofs.lemmas.Iterator.{YieldsList-from_slice}
use Rattle.std.proofs.lemmas.Iterator.Search.{all_from_yields_List}
use Rattle.certificate_text.specs.ReplyField.{is_bit}
use Rattle.certificate_text.proofs.bits.Bits.of.Goals as goal

pub invariant_of-result : goal.invariant_of-result
invariant_of-result c =
    record { bits = sym (all_from_yields_List is_bit _ _ c.all.result c.all.ensures.ran (YieldsList-from_slice c.args.field.now cc) (λ x b q k. search (rules, tests))) ∙ c.if-not-all.false }
