use Rattle.std.proofs.Common.{◌≡◌, drop}
use lib.Bits.{bit_or}
use Rattle.truth.specs.Syntax.{mask_of}
use Rattle.qbf.proofs.formula.positions.mask_with.Given as goal

-- What is found and what is left make the whole.
abbrev pub invariant-loop-x : goal.invariant-loop-x
invariant-loop-x l = bit_or l.all (mask_of (drop l.x-index l.variables)) ≡ bit_or l.others (mask_of l.variables)
