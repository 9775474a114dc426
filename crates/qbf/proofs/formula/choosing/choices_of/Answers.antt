use Rattle.std.proofs.Common.{◌≡◌, true, ltb, length, ap, ◌∙◌}
use Rattle.truth.specs.Limits.{max_width}
use Rattle.candidates.specs.Held.{choices_in}
use Rattle.qbf.specs.Held.{qbf_of}
use Rattle.qbf.proofs.Refereeing.{bound_narrow}
use Rattle.qbf.proofs.Offering.{room_left}
use Rattle.qbf.proofs.formula.choosing.choices_of.Goals as goal

pub unreachable-requires : goal.unreachable-requires
unreachable-requires c =
    let h = c.loop-variable.invariant in
    let room = room_left _ _ c.in-Some.before.now h.0 c.in-Some.variable.now h.1 c.in-Some.ensures.cases.0 (qbf_of c.args.formula.now).matrix c.args.set (bound_narrow c.args.block.now) in
    let here : ltb (length (choices_in c.loop-variable.choices)) max_width ≡ true = ap (λ hs. ltb (length hs) max_width) h.2 ∙ room in
    let none = c.in_default-put_first.ensures.room in
    cc
