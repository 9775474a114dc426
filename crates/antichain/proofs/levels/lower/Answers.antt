use Rattle.std.proofs.Common.{◌-◌, get_or, set, sym, ap, ◌∙◌, arith}
use Rattle.std.proofs.lemmas.List.Edits.{map_over_more}
use Rattle.std.proofs.lemmas.Grind.{get_or_default_zero}
use Rattle.antichain.proofs.levels.lower.Goals as goal

pub loop-start-preserved : goal.loop-start-preserved
loop-start-preserved c =
    let s = c.loop-start in
    ap (set s.start-items s.start-index) c.saturating_sub.ensures ∙
    map_over_more (λ n. n - c.args.gone) c.args.starts.now s.start-items s.start-index (get_or s.start-items s.start-index 0) (omega arith) s.invariant
    (sym (get_or_default_zero s.start-items s.start-index _ (omega arith)))
