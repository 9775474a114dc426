use Rattle.std.proofs.Common.{◌≡◌, ◌+◌, ◌++◌, map, take, drop}
use Rattle.antichain.proofs.levels.raise.Given as goal

abbrev pub invariant-loop-start : goal.invariant-loop-start
invariant-loop-start l = l.start-items ≡ map (λ n. n + 1) (take l.start-index l.initial.start-items) ++ drop l.start-index l.initial.start-items
