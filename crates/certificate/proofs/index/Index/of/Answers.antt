use Rattle.std.proofs.Common.{◌+◌, length, set, sym, ap, ◌∙◌, subst, arith}
use Rattle.std.proofs.lemmas.List.{length-set}
use Rattle.certificate.specs.Spans.{Spanned}
use Rattle.certificate.proofs.Places.{spanned_more, spanned_past}
use Rattle.certificate.proofs.Faulting.{no_entry}
use Rattle.certificate.proofs.index.Index.of.Goals as goal
use Rattle.certificate.proofs.index.Index.of.Goals.{then-level-lt-PLACES, else-level-lt-PLACES}

pub loop-i-preserved : goal.loop-i-preserved
loop-i-preserved c =
    let es = c.args.entries.now in
    let spans = c.loop-i.spans in
    let known = c.loop-i.invariant in
    elim c.if-level-lt-PLACES.branch [
      | then-level-lt-PLACES w ↦
          let same = w.spans-is ∙ ap (set spans _) w.reaching.ensures in record {
            places = ap length same ∙ length-set spans _ _ ∙ known.places;
            spanned = subst (Spanned es (c.loop-i.i + 1)) (sym same) (spanned_more es c.loop-i.i spans _ _ known.places c.loop-i-test.true known.spanned);
          }
      | else-level-lt-PLACES w ↦ record {
        places = ap length w.spans-is ∙ known.places;
        spanned = subst (Spanned es (c.loop-i.i + 1)) (sym w.spans-is) (spanned_past es c.loop-i.i spans no_entry (omega arith) c.loop-i-test.true known.spanned);
      }
    ]
