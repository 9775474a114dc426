-- When an entry can stand in a certificate of a formula.
use Rattle.std.specs.Prelude.{◌-◌, ◌^◌, Bool, false, not, ◌&&◌, List, [], ◌∷◌, length, drop, nat_le, nat_lt}
use Rattle.truth.specs.Syntax.{Block, Qbf}
use Rattle.truth.specs.Sides.{owes}
use Rattle.entries.specs.declared.entry.Entry.{Entry}
use Rattle.entries.specs.declared.entry.Reply.{Reply}
use Rattle.entries.specs.declared.entry.Reply.TheVariants.{None, Value}

-- A reply stands just where whoever holds verdict v chooses, and is a value of its block. The blocks are those from the
-- entry's level on.
abbrev pub replies : Bool → List Block → Reply → Bool
replies v [] r = false
replies v (b ∷ bs) None = not (owes v b.quantifier)
replies v (b ∷ bs) (Value w) = owes v b.quantifier && nat_lt w (2 ^ length b.variables)

-- A level from 1 to n, clauses from 1 to C, and a reply as it is due.
abbrev pub fits : Bool → Qbf → Entry → Bool
fits v f e = nat_le 1 e.level && (nat_lt e.set (2 ^ length f.matrix) && replies v (drop (e.level - 1) f.prefix) e.reply)
