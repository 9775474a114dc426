use Rattle.std.proofs.Common.{◌≡◌, ◌+◌, ◌*◌, ◌^◌, ◌<◌, ◌∷◌, ◌∙◌, ap, arith, rules}
use Rattle.qbf.proofs.Parts.{parted}
use Rattle.qbf.proofs.Marks.{rest_room, rest_more}
use Rattle.qbf.proofs.formula.positions.unsatisfied.Goals as goal

pub overflow_mul-found : goal.overflow_mul-found
overflow_mul-found c =
    let h = c.loop-clause.invariant in
    omega (arith, rest_room _ _ c.in-Some.before.now h.0 c.in-Some.clause.now _ _ c.left_digit.result h.1 c.in-Some.ensures.cases.0 c.requires c.left_digit.ensures, h.2)

pub overflow_add-found : goal.overflow_add-found
overflow_add-found c =
    let h = c.loop-clause.invariant in
    let room = rest_room _ _ c.in-Some.before.now h.0 c.in-Some.clause.now _ _ c.left_digit.result h.1 c.in-Some.ensures.cases.0 c.requires c.left_digit.ensures in
    let here : c.left_digit.result + 2 * c.loop-clause.found < 2 ^ 128 = omega (arith, room, h.2) in
    search rules

pub loop-clause-preserved : goal.loop-clause-preserved
loop-clause-preserved c =
    let h = c.loop-clause.invariant in (
      c.in-Some.clause.now ∷ h.0,
      parted _ _ c.in-Some.before.now h.0 c.in-Some.clause.now h.1 c.in-Some.ensures.cases.0,
      ap (λ n. c.left_digit.result + 2 * n) h.2 ∙ rest_more c.in-Some.clause.now h.0 c.args.by.trues c.args.by.falses c.left_digit.result c.left_digit.ensures,
    )
