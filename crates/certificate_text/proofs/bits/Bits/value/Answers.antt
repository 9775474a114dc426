use Rattle.std.proofs.Common.{arith, rules}
use Rattle.certificate_text.proofs.ReplySteps.{bits_parts, value_below}
use Rattle.certificate_text.proofs.bits.Bits.value.Goals as goal

pub overflow_add-n : goal.overflow_add-n
overflow_add-n c =
    let p = value_below _ _ c.loop-b.invariant.2 (omega arith) in
    let d = bits_parts _ _ c.loop-b-test.true c.loop-b.invariant.1 in
    search rules
