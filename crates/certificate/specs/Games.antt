-- What accepted entries are played by.
use Rattle.std.specs.Prelude.{ℕ, Bool, List}
use Rattle.truth.specs.Syntax.{Block, Qbf}
use Rattle.truth.specs.Verdicts.{is_true}
use Rattle.qbf.specs.Held.{qbf_of}
use Rattle.entries.specs.declared.entry.Entry.{Entry}
use Rattle.certificate.specs.declared.position.Position.{Position}
use Rattle.certificate.specs.declared.accepted.Accepted.{Accepted}
use Rattle.certificate.specs.Accepting.{blocks_from}
use Rattle.certificate.specs.Plays.{start, moved, Safe}

abbrev pub formula_of : Accepted → Qbf
formula_of a = qbf_of a.formula.now

abbrev pub verdict_of : Accepted → Bool
verdict_of a = is_true a.verdict

abbrev pub entries_of : Accepted → List Entry
entries_of a = a.entries.now

-- The position that a play begins at.
abbrev pub root_at : Accepted → Position
root_at a = start (formula_of a) (verdict_of a)

-- The blocks that still get a value at a position.
abbrev pub blocks_at : Accepted → Position → List Block
blocks_at a p = blocks_from (formula_of a) p.level

-- The position that a value leads to.
abbrev pub onward : Accepted → Position → ℕ → Position
onward a p w = moved (formula_of a).matrix (blocks_at a p) w p

abbrev pub SafeAt : Accepted → Position → Type 0
SafeAt a p = Safe (formula_of a) (verdict_of a) (entries_of a) p
