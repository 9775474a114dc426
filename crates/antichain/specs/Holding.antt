-- What a store means, whatever its layout.
use Rattle.std.specs.Prelude.{ℕ, List}

-- The places that its table has, and the entries, in canonical order.
pub record Holding (E : Type 0) : Type 0 where
  pub places : ℕ
  pub entries : List E
