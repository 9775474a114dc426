use Rattle.std.proofs.Common.{ℕ, ap, arith}
use Rattle.qbf.specs.Held.{qbf_of}
use Rattle.certificate_text.specs.CertificateText.{set_text, reply_text}
use Rattle.certificate_text.proofs.FormulaFacts.{width_told}
use Rattle.certificate_text.proofs.Lengths.{entry_short}
use Rattle.certificate_text.proofs.Placed.{wrote_same, fields_wrote}
use Rattle.certificate_text.proofs.writer.Writer.entry.Goals as goal

pub returns : goal.returns
returns c =
    let entry = c.args.entry in
    let width = width_told (qbf_of c.args.formula.now) entry.level _ _ c.width.ensures c.unwrap_or-width.ensures in
    let set = wrote_same c.set.ensures (ap (λ (n : ℕ). set_text n entry.set) c.clauses.ensures) in
    let reply = wrote_same c.reply.ensures (ap (λ (n : ℕ). reply_text n entry.reply) width) in
    record {
      wrote = fields_wrote c.number.ensures c.byte.ensures set c.byte-2.ensures reply c.byte-3.ensures;
      short = entry_short c.args.formula.now entry (omega arith);
    }
