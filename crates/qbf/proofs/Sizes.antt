-- How many clauses and blocks a formula has at most.
use Rattle.std.proofs.Common.{◌≤◌, length, arith}
use Rattle.std.proofs.lemmas.List.{length-map}
use Rattle.truth.specs.Limits.{max_blocks, max_clauses}
use Rattle.qbf.specs.declared.formula.Formula.{Formula}
use Rattle.qbf.specs.Stored.{block_of}
use Rattle.qbf.specs.Held.{qbf_of}

pub few_clauses : (f : Formula) → length (qbf_of f).matrix ≤ max_clauses
few_clauses f = f.matrix.few

pub few_blocks : (f : Formula) → length (qbf_of f).prefix ≤ max_blocks
few_blocks f = omega (arith, length-map f.prefix.blocks.items block_of, f.prefix.few)
