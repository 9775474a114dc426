-- The field that a reply was read from.
use Rattle.std.specs.Prelude.{ℕ, List, Some, None, Option, codes}
use Rattle.certificate_text.specs.declared.bits.Bits.{Bits}

-- The digits that were read, or `-` where there are none.
abbrev pub field_of : Option Bits → List ℕ
field_of None = codes "-"
field_of (Some b) = b.digits.now
