-- The blocks that stored ones mean.
use Rattle.std.specs.Prelude.{ℕ, List, map, take}
use Rattle.qbf.specs.declared.block.Block.{Block as StoredBlock}
use Rattle.truth.specs.Syntax.{Block}

-- The variables that a stored block binds, in its first places.
abbrev pub bound_by : StoredBlock → List ℕ
bound_by b = take b.width b.variables

abbrev pub block_of : StoredBlock → Block
block_of b = record { quantifier = b.quantifier; variables = bound_by b }

abbrev pub blocks_of : List StoredBlock → List Block
blocks_of bs = map block_of bs
