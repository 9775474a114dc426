-- The formula that a prefix and a matrix hold.
use Rattle.std.specs.Prelude.{List, Ok, Err, Result}
use Rattle.faults.specs.declared.fault.Fault.{Fault}
use Rattle.truth.specs.declared.literal.Clause.{Clause}
use Rattle.qbf.specs.declared.prefix.Prefix.{Prefix}
use Rattle.qbf.specs.declared.matrix.Matrix.{Matrix}
use Rattle.qbf.specs.declared.formula.Formula.{Formula}
use Rattle.truth.specs.Syntax.{Block, Qbf}
use Rattle.qbf.specs.Stored.{blocks_of}

abbrev pub blocks_in : Prefix → List Block
blocks_in p = blocks_of p.blocks.items

abbrev pub clauses_in : Matrix → List Clause
clauses_in m = m.clauses.items

abbrev pub qbf_of : Formula → Qbf
qbf_of f = record { variables = f.variables; prefix = blocks_in f.prefix; matrix = clauses_in f.matrix }

-- A formula is compared by what it means, a fault by itself.
abbrev pub meaning : Result Formula Fault → Result Qbf Fault
meaning (Ok f) = Ok (qbf_of f)
meaning (Err e) = Err e
