use Rattle.std.proofs.Common.{◌≡◌, drop}
use Rattle.qbf.specs.Held.{qbf_of}
use Rattle.certificate.specs.Accepting.{blocks_from}
use Rattle.certificate.specs.Plays.{assigned}
use Rattle.certificate.proofs.Assigning.{assigned_to}
use Rattle.certificate.proofs.assign.assign.Given as goal

-- What is assigned and what is left make the whole.
abbrev pub invariant-loop-i : goal.invariant-loop-i
invariant-loop-i l = assigned_to (drop l.i l.variables) l.value l.all ≡ assigned (blocks_from (qbf_of l.formula) l.level) l.value l.initial.all
