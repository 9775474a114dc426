use Rattle.qbf.specs.Stored.{block_of}
use Rattle.qbf.proofs.Numbered.{numbered_lookup}
use Rattle.qbf.proofs.prefix.Prefix.block.Goals as goal

pub returns : goal.returns
returns c =
    let k = c.in_ok-checked_sub.ensures in
    let found = c.get.ensures.lookup in
    rw c.list.ensures at (numbered_lookup block_of c.list.result.now c.args.number c.in_ok-checked_sub.field-0 c.get.result k.0 k.1 found.0 found.1)
