use Rattle.std.proofs.Common.{◌≡◌, ◌+◌, ◌*◌, ◌≤◌, length, drop}
use Rattle.qbf.specs.Held.{qbf_of}
use Rattle.certificate_text.specs.CertificateText.{entries_text}
use Rattle.certificate_text.specs.Writing.{put, state, max_line}
use Rattle.certificate_text.proofs.writer.Writer.entries.Given as goal

-- What is left, put where the loop has come, gives the whole, and no line so far was too long.
abbrev pub invariant-loop-k : goal.invariant-loop-k
invariant-loop-k g l =
    (l.self.out.ghost_name ≡ l.initial.self.out.ghost_name)
    × (put (entries_text (qbf_of l.formula) (drop l.k (g.L.Listing.listed l.entries))) (state l.self)
    ≡ put (entries_text (qbf_of l.formula) (g.L.Listing.listed l.entries)) (state l.initial.self))
    × (length (entries_text (qbf_of l.formula) (g.L.Listing.listed l.entries))
    ≤ max_line * l.k + length (entries_text (qbf_of l.formula) (drop l.k (g.L.Listing.listed l.entries))))
