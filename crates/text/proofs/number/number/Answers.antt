use Rattle.std.proofs.Common.{sym, arith, rules}
use Rattle.text.proofs.DigitSteps.{eight, grown, value_step, digits_step, digits_stop, value_end, digits_end}
use Rattle.text.proofs.number.number.Goals as goal

pub overflow_mul-n : goal.overflow_mul-n
overflow_mul-n c = let p = eight _ _ c.loop-b.invariant.2 (omega arith) in search rules

pub overflow_add-n : goal.overflow_add-n
overflow_add-n c = let p = eight _ _ c.loop-b.invariant.2 (omega arith) in search rules

pub loop-b-preserved : goal.loop-b-preserved
loop-b-preserved c =
    let h = c.loop-b-test.true in
    let d = c.if-not-is_ascii_digit.ensures in
    (value_step _ _ _ _ h c.loop-b.invariant.0, digits_step _ _ _ h (sym d.value) c.loop-b.invariant.1, grown _ _ _ c.loop-b.invariant.2 (omega arith))

pub returns-then-not-is_ascii_digit : goal.returns-then-not-is_ascii_digit
returns-then-not-is_ascii_digit c = search (rules, digits_stop)

pub returns : goal.returns
returns c =
    let v = value_end _ _ _ _ c.loop-b-test.false c.loop-b.invariant.0 in
    let d = digits_end _ _ _ c.loop-b-test.false c.loop-b.invariant.1 in
    search rules
