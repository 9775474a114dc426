use Rattle.std.proofs.Common.{◌+◌, [], ◌∷◌, ◌++◌, drop, sym, ◌∙◌, arith}
use Rattle.qbf.specs.Held.{qbf_of}
use Rattle.certificate_text.specs.CertificateText.{entry_text, entries_text}
use Rattle.certificate_text.specs.Writing.{put, state}
use Rattle.certificate_text.proofs.Placed.{left_more, entries_step, entries_told, line_added}
use Rattle.certificate_text.proofs.writer.Writer.entries.Goals as goal
use Rattle.certificate_text.proofs.writer.Writer.entries.Goals.{in-Some, in_default}

pub loop-k-preserved : goal.loop-k-preserved
loop-k-preserved g c =
    let f = qbf_of c.args.formula.now in
    let es = g.L.Listing.listed c.args.entries.now in
    let k = c.loop-k.k in
    let invariant = c.loop-k.invariant in
    elim c.match-nth.branch [
      | in-Some w ↦
          let e = w.in-Some.entry in
          let step = entries_step f es k e (omega arith) w.in-Some.ensures in
          let whole = put (entries_text f es) (state c.args.self.now) in
          let left = left_more (entries_text f (drop k es)) (entry_text f e ++ (10 ∷ [])) (entries_text f (drop (k + 1) es)) whole step w.entry.ensures.wrote invariant.1 in
          let more = line_added f es k e (omega arith) w.in-Some.ensures w.entry.ensures.short in
          rw w.self-is (w.entry.ensures.wrote.same ∙ invariant.0, left, omega arith)
      | in_default w ↦ entries_told es k (omega arith) (sym c.nth.ensures ∙ w.in_default.is)
    ]
