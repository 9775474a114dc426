use Rattle.std.proofs.Common.{rules, ◌≡◌, ℕ, ◌-◌, ◌≤◌, min, length, get_or, take, drop, refl, ap, ◌∙◌, arith}
use lib.Seq.{paste}
use Rattle.std.proofs.lemmas.List.{get_or-map}
use Rattle.antichain.specs.Limits.{max_level, max_entries, capacity_of}
use Rattle.antichain.specs.Adding.{above}
use Rattle.antichain.proofs.Grouping.{ascend, moved_down, laid_above}
use Rattle.antichain.proofs.levels.LevelsStore.drop_levels.Goals as goal

pub copy_within-requires-clause-start_le_end : goal.copy_within-requires-clause-start_le_end
copy_within-requires-clause-start_le_end g c =
    ascend g.met.E.Entry.rules c.self.inside.table.now refl c.self.invariant (omega arith) c.min.result max_level (omega arith) (omega arith)

pub invariant_of-self : goal.invariant_of-self
invariant_of-self g c =
    let s = c.self.inside in
    let v = g.E.Entry.level in
    let xs = take (get_or s.starts max_level 0) s.table.now in
    let long : length s.starts ≡ 17 = search rules in
    let gone : get_or s.starts c.min.result 0 ≡ get_or s.starts (min c.args.l max_level) 0 = ap (λ k. get_or s.starts k 0) c.min.ensures in
    let less : (k : ℕ) → k ≤ max_level → get_or c.lower.new.starts k 0 ≡ get_or s.starts k 0 - get_or s.starts (min c.args.l max_level) 0 =
    λ k h. ap (λ xs. get_or xs k 0) c.lower.ensures ∙ get_or-map (λ n. n - get_or s.starts c.min.result 0) s.starts k 0 0 (omega arith) ∙ ap (λ n. get_or s.starts k 0 - n) gone in
    let held : take (get_or c.lower.new.starts max_level 0) c.copy_within.new.self ≡ above v c.args.l xs =
    ap (λ n. take n c.copy_within.new.self) (less max_level (omega arith)) ∙
    ap (take (get_or s.starts max_level 0 - get_or s.starts (min c.args.l max_level) 0)) (c.copy_within.ensures.after ∙ ap (λ n. paste s.table.now 0 (drop n s.table.now) (get_or s.starts max_level 0 - n)) gone) ∙
    moved_down g.met.E.Entry.rules s.table.now refl c.self.invariant (omega arith) c.args.l in
    let size : capacity_of c.copy_within.new.self ≡ capacity_of s.table.now = ap (λ n. min n max_entries) c.copy_within.ensures.len in
    let laid = laid_above g.met.E.Entry.rules s.table.now refl c.self.invariant (omega arith) c.args.l c.lower.new.starts less in
    simp (size, held) laid

pub returns-clause-held : goal.returns-clause-held
returns-clause-held g c =
    let s = c.self.inside in
    let v = g.E.Entry.level in
    let xs = take (get_or s.starts max_level 0) s.table.now in
    let long : length s.starts ≡ 17 = search rules in
    let gone : get_or s.starts c.min.result 0 ≡ get_or s.starts (min c.args.l max_level) 0 = ap (λ k. get_or s.starts k 0) c.min.ensures in
    let less : (k : ℕ) → k ≤ max_level → get_or c.lower.new.starts k 0 ≡ get_or s.starts k 0 - get_or s.starts (min c.args.l max_level) 0 =
    λ k h. ap (λ xs. get_or xs k 0) c.lower.ensures ∙ get_or-map (λ n. n - get_or s.starts c.min.result 0) s.starts k 0 0 (omega arith) ∙ ap (λ n. get_or s.starts k 0 - n) gone in
    let held : take (get_or c.lower.new.starts max_level 0) c.copy_within.new.self ≡ above v c.args.l xs =
    ap (λ n. take n c.copy_within.new.self) (less max_level (omega arith)) ∙
    ap (take (get_or s.starts max_level 0 - get_or s.starts (min c.args.l max_level) 0)) (c.copy_within.ensures.after ∙ ap (λ n. paste s.table.now 0 (drop n s.table.now) (get_or s.starts max_level 0 - n)) gone) ∙
    moved_down g.met.E.Entry.rules s.table.now refl c.self.invariant (omega arith) c.args.l in
    let size : capacity_of c.copy_within.new.self ≡ capacity_of s.table.now = ap (λ n. min n max_entries) c.copy_within.ensures.len in
    let laid = laid_above g.met.E.Entry.rules s.table.now refl c.self.invariant (omega arith) c.args.l c.lower.new.starts less in
    rw (← c.self.view_is) held
