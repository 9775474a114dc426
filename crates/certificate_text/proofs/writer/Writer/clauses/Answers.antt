use Rattle.std.proofs.Common.{◌∙◌, arith}
use Rattle.certificate_text.proofs.Placed.{wrote_more, left_more, clause_held, clause_not_held}
use Rattle.certificate_text.proofs.writer.Writer.clauses.Goals as goal
use Rattle.certificate_text.proofs.writer.Writer.clauses.Goals.{then-rest-eq1, else-rest-eq1}

pub loop-k-preserved : goal.loop-k-preserved
loop-k-preserved c =
    let before = c.loop-k.before.now in
    let invariant = c.loop-k.invariant in
    elim c.if-rest-eq1.branch [
      | then-rest-eq1 w ↦
          let held = clause_held before c.loop-k.k c.args.clauses c.loop-k.rest (omega arith) (omega arith) in
          let wrote = wrote_more w.bytes.ensures w.number.ensures in
          rw (w.self-is, w.before-is) (wrote.same ∙ invariant.0, left_more _ _ _ _ held wrote invariant.1)
      | else-rest-eq1 w ↦
          let not_held = clause_not_held before c.loop-k.k c.args.clauses c.loop-k.rest (omega arith) (λ e. omega arith) in
          rw (w.self-is, w.before-is, ← not_held) invariant
    ]
