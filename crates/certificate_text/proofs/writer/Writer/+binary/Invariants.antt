use Rattle.certificate_text.proofs.writer.Writer.+binary.Given as goal

abbrev pub decreases-binary : goal.decreases-binary
decreases-binary l = l.width
