use Rattle.std.proofs.Common.{◌≡◌, drop}
use Rattle.certificate_text.specs.Writing.{put, state}
use Rattle.certificate_text.proofs.writer.Writer.bytes.Given as goal

-- What is left, put where the loop has come, gives the whole.
abbrev pub invariant-loop-b : goal.invariant-loop-b
invariant-loop-b l =
    (l.self.out.ghost_name ≡ l.initial.self.out.ghost_name)
    × (put (drop l.b-index l.bytes) (state l.self) ≡ put l.bytes (state l.initial.self))
