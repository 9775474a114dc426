use Rattle.qbf.specs.Held.{qbf_of}
use Rattle.certificate_text.proofs.Lengths.{certificate_short}
use Rattle.certificate_text.proofs.Placed.{certificate_wrote}
use Rattle.certificate_text.proofs.writer.Writer.certificate.Goals as goal

pub returns-clause-wrote : goal.returns-clause-wrote
returns-clause-wrote g c =
    certificate_wrote (qbf_of c.args.formula.now) c.args.verdict (g.L.Listing.listed c.args.entries.now) c.bytes.ensures c.claim.ensures c.bytes-2.ensures c.entries.ensures.wrote

pub returns-clause-short : goal.returns-clause-short
returns-clause-short g c = certificate_short c.args.formula.now c.args.verdict (g.L.Listing.listed c.args.entries.now) c.entries.ensures.short
