use Rattle.std.proofs.Common.{decimal, ap, ◌∙◌}
use Rattle.certificate_text.proofs.Placed.{wrote_same, fields_wrote}
use Rattle.certificate_text.proofs.writer.Writer.claim.Goals as goal

pub returns : goal.returns
returns c =
    let verdict = wrote_same c.bytes.ensures (c.as_bytes.ensures.value ∙ c.word.ensures) in
    let blocks = wrote_same c.number.ensures (ap decimal c.blocks-2.ensures) in
    let clauses = wrote_same c.number-2.ensures (ap decimal c.clauses.ensures) in
    fields_wrote verdict c.byte.ensures blocks c.byte-2.ensures clauses c.byte-3.ensures
