-- When a position is covered, an entry supported, and entries accepted.
use Rattle.std.specs.Prelude.{ℕ, zero, suc, ◌+◌, ◌^◌, Bool, false, ◌&&◌, List, [], ◌∷◌, length, drop, ◌==◌}
use Rattle.truth.specs.declared.literal.Clause.{Clause}
use Rattle.truth.specs.Syntax.{Block, Qbf}
use Rattle.truth.specs.Sides.{agrees}
use Rattle.truth.specs.WellFormed.{all}
use Rattle.truth.specs.Truth.{any, below, rest_under, root_of}
use Rattle.entries.specs.declared.entry.Entry.{Entry}
use Rattle.entries.specs.declared.entry.Reply.{Reply}
use Rattle.entries.specs.declared.entry.Reply.TheVariants.{None, Value}
use Rattle.entries.specs.Covering.{covering}
use Rattle.entries.specs.Fitting.{fits}

-- The blocks that still get a value at a level. Levels count from 1, and at 0 there are none.
abbrev pub blocks_from : Qbf → ℕ → List Block
blocks_from f zero = []
blocks_from f (suc i) = drop i f.prefix

-- An entry for verdict v covers the position of this level with this set.
abbrev pub covers : Bool → ℕ → ℕ → Entry → Bool
covers v level set e = e.level == level && covering v e.set set

-- The position is covered, where these blocks are to get a value: by an entry, or at the end by itself.
abbrev pub reached : Bool → List Entry → List Block → ℕ → ℕ → Bool
reached v es [] level set = agrees v (set == 0)
reached v es (b ∷ bs) level set = any (covers v level set) es

-- What a value of the first of these blocks leaves is covered one level on.
abbrev pub leads_on : Bool → List Clause → List Entry → List Block → ℕ → ℕ → ℕ → Bool
leads_on v cs es [] level set w = false
leads_on v cs es (b ∷ bs) level set w = reached v es bs (level + 1) (rest_under cs b w set)

-- Its reply leads on, or with no reply every value does.
abbrev pub upheld : Bool → List Clause → List Entry → List Block → ℕ → ℕ → Reply → Bool
upheld v cs es [] level set r = false
upheld v cs es (b ∷ bs) level set None = all (leads_on v cs es (b ∷ bs) level set) (below (2 ^ length b.variables))
upheld v cs es (b ∷ bs) level set (Value w) = leads_on v cs es (b ∷ bs) level set w

-- The entry fits the formula, and the next level's entries uphold it.
abbrev pub supported : Bool → Qbf → List Entry → Entry → Bool
supported v f es e = fits v f e && upheld v f.matrix es (blocks_from f e.level) e.level e.set e.reply

-- The entries are a certificate of verdict v for the formula: the root is covered, and every entry is supported.
abbrev pub accepts : Qbf → Bool → List Entry → Bool
accepts f v es = reached v es f.prefix 1 (root_of f v) && all (supported v f es) es
