use Rattle.std.proofs.Common.{◌+◌, ◌*◌, ◌-◌, ◌/◌, ◌%◌, ◌^◌, ◌<◌, arith, rules}
use Rattle.qbf.proofs.Marks.{occurrences_room}
use Rattle.qbf.proofs.occurrences.clauses_with.Goals as goal

pub overflow_mul-found : goal.overflow_mul-found
overflow_mul-found c =
    let h = c.loop-clause.invariant in
    omega (arith, occurrences_room c.args.so _ _ c.in-Some.before.now h.0 c.in-Some.clause.now c.args.variable h.1 c.in-Some.ensures.cases.0 c.requires.few, h.2)

pub overflow_add-found : goal.overflow_add-found
overflow_add-found c =
    let h = c.loop-clause.invariant in
    let room = occurrences_room c.args.so _ _ c.in-Some.before.now h.0 c.in-Some.clause.now c.args.variable h.1 c.in-Some.ensures.cases.0 c.requires.few in
    let here : (c.satisfiers.result / 2 ^ (c.args.variable - 1)) % 2 + 2 * c.loop-clause.found < 2 ^ 128 = rw (c.satisfiers.ensures, h.2) room in
    search rules
