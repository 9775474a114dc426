use Rattle.std.proofs.Common.{arith, rules}
use Rattle.certificate_text.proofs.SetSteps.{set_more, set-fits, shifted}
use Rattle.certificate_text.proofs.set_field.Gathered.with.Goals as goal

pub overflow_add-result : goal.overflow_add-result
overflow_add-result c =
    let g = c.self.inside in
    let bit = shifted c.args.clause (omega arith) (omega arith) in
    let fits = set-fits g.set g.last c.args.clause c.self.invariant.0 (omega arith) (omega arith) in
    rw bit (search rules)

pub invariant_of-result : goal.invariant_of-result
invariant_of-result c =
    let g = c.self.inside in
    let bit = shifted c.args.clause (omega arith) (omega arith) in
    (rw bit (set_more g.set g.last c.args.clause c.self.invariant.0 (omega arith)), omega arith)
