use Rattle.std.proofs.Common.{◌≡◌, ◌≤◌, Bool}
use Rattle.std.specs.Fn.{FnReturnsAt}
use Rattle.std.proofs.lemmas.List.Filters.{FiltersInPlace}
use Rattle.antichain.proofs.table.retain.Given as goal

abbrev pub invariant-loop-i : goal.invariant-loop-i
invariant-loop-i g l = ((p : g.row.T.Denot → Bool) → ((x : g.row.T.Denot) (b : Bool) → FnReturnsAt g.F.Fn l.test x b → b ≡ p x) → FiltersInPlace p l.initial.items l.items l.k l.i) × (l.k ≤ l.i)
