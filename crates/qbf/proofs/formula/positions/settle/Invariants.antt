use Rattle.std.proofs.Common.{◌≡◌, drop}
use lib.Bits.{bit_or}
use Rattle.truth.specs.Occurrences.{settled}
use Rattle.qbf.specs.Held.{qbf_of}
use Rattle.qbf.proofs.formula.positions.settle.Given as goal

-- What is found and what is left make the whole.
abbrev pub invariant-loop-i : goal.invariant-loop-i
invariant-loop-i l = bit_or l.all (settled (qbf_of l.formula).matrix (drop l.i l.variables) l.value) ≡ settled (qbf_of l.formula).matrix l.variables l.value
