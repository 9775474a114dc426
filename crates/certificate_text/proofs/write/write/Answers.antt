use Rattle.std.proofs.Common.{arith, rules}
use Rattle.qbf.specs.Held.{qbf_of}
use Rattle.certificate_text.specs.CertificateText.{certificate_text}
use Rattle.certificate_text.proofs.Placed.{wrote_count, wrote_whole, short_refused, short_untouched, long_answered}
use Rattle.certificate_text.proofs.ReadingBack.{reads_back}
use Rattle.certificate_text.proofs.write.write.Goals as goal

pub returns-then-needed-out : goal.returns-then-needed-out
returns-then-needed-out g c =
    let text = certificate_text (qbf_of c.args.formula.now) c.args.verdict (g.L.Listing.listed c.args.entries.now) in
    let count = wrote_count text c.certificate.ensures.short c.certificate.ensures.wrote c.new-counted.ensures.count in
    record {
      ending = short_refused text c.args.out.now _ count _ c.from.ensures c.if-needed-out.true;
      buffer = short_untouched text c.args.out.now _ count c.if-needed-out.true;
      back = reads_back;
    }

pub returns : goal.returns
returns g c =
    let text = certificate_text (qbf_of c.args.formula.now) c.args.verdict (g.L.Listing.listed c.args.entries.now) in
    let count = wrote_count text c.certificate.ensures.short c.certificate.ensures.wrote c.new-counted.ensures.count in
    let whole = wrote_whole text c.certificate-2.ensures.short c.certificate-2.ensures.wrote c.new.ensures.count c.args.out.now c.new.ensures.buffer (omega arith) in
    record {
      ending = long_answered text c.args.out.now _ count c.if-needed-out.false;
      buffer = search rules;
      back = reads_back;
    }
