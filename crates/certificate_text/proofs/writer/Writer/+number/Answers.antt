use Rattle.std.proofs.Common.{arith}
use Rattle.certificate_text.proofs.Placed.{wrote_more, wrote_same, last_digit, digit_more}
use Rattle.certificate_text.proofs.writer.Writer.+number.Goals as goal
use Rattle.certificate_text.proofs.writer.Writer.+number.Goals.{then-n-ge10, else-n-ge10}

pub returns : goal.returns
returns t c =
    elim c.if-n-ge10.branch [
      | then-n-ge10 w ↦ wrote_same (wrote_more w.number.ensures (rw w.self-is at c.byte.ensures)) (digit_more c.args.n (omega arith) (omega arith))
      | else-n-ge10 w ↦ wrote_same (rw w.self-is at c.byte.ensures) (last_digit c.args.n (omega arith))
    ]
