use Rattle.certificate_text.proofs.Placed.{wrote_more, wrote_same, binary_more}
use Rattle.certificate_text.proofs.writer.Writer.+binary.Goals as goal

pub returns-then-width-gt0 : goal.returns-then-width-gt0
returns-then-width-gt0 t c = wrote_same (wrote_more c.binary.ensures c.byte.ensures) (binary_more c.args.width c.args.value c.if-width-gt0.true)
