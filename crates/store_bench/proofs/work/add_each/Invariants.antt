use Rattle.std.proofs.Common.{◌≤◌}
use Rattle.store_bench.proofs.work.add_each.Given as goal

abbrev pub invariant-loop-i : goal.invariant-loop-i
invariant-loop-i g l = l.added ≤ l.i
