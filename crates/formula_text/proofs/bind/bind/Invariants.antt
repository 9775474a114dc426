use Rattle.std.proofs.Common.{◌≡◌, drop}
use Rattle.qbf.specs.Bound.{bind_all}
use Rattle.formula_text.proofs.bind.bind.Given as goal

-- What is left gives the same as the whole.
abbrev pub invariant-loop-v : goal.invariant-loop-v
invariant-loop-v l = bind_all l.highest l.all (drop l.v-index l.variables) ≡ bind_all l.highest l.bound l.variables
