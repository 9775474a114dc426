use Rattle.std.proofs.Common.{rules, ◌≤◌, ◌+◌, ◌-◌, not, take, drop, ◌∙◌, arith, length-take}
use Rattle.std.proofs.lemmas.List.Sorted.{IsPartitionPoint-from_clause}
use Rattle.antichain.proofs.Placing.{put_at, placed_between, parted_part}
use Rattle.antichain.proofs.table.put_in_order.Goals as goal

pub returns : goal.returns
returns g c =
    let b = g.E.Entry.before in
    let e = c.args.e in
    let t = c.args.table.now in
    let from = c.args.from in
    let to = c.args.to in
    let r = c.requires in
    let i = c.partition_point.result in
    let part = take (to - from) (drop from t) in
    let at = IsPartitionPoint-from_clause (λ x. not (b e x)) part i c.partition_point.ensures.partitioned
    (parted_part g.met.E.Entry.rules e t from to c.args.len r.within.1 (omega arith) r.ordered) (λ a r f k. search rules) in
    let within : from + i ≤ c.args.len = omega (arith, c.partition_point.ensures.bound, length-take (to - from) (drop from t)) in
    rw c.copy_within.ensures.after
    (put_at b e t (from + i) c.args.len within r.within.2 ∙ placed_between b e t from to c.args.len i r.within.0 r.within.1 (omega arith) r.first r.last c.partition_point.ensures.bound at.0 at.1)
