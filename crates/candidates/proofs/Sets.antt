-- Unions inside unions.
use Rattle.std.proofs.Common.{◌≡◌, ℕ, true, ap, ◌∙◌}
use lib.Bits.{bit_and, bit_or, or_comm}
use Rattle.truth.specs.declared.literal.Quantifier.{Quantifier}
use Rattle.truth.specs.declared.literal.Quantifier.TheVariants.{Existential, Universal}
use Rattle.truth.proofs.Bits.{Sub, sub_of, of_sub, sub_self, sub_on, sub_or, both_inside}
use Rattle.candidates.specs.Hits.{at_least}

pub sub_or_right : (a b : ℕ) → Sub b (bit_or a b)
sub_or_right a b = ap (bit_and b) (or_comm a b) ∙ sub_or b a

-- A union grows with its parts.
pub or_grows : (a b x y : ℕ) → Sub a b → Sub x y → Sub (bit_or a x) (bit_or b y)
or_grows a b x y h k = both_inside a x (bit_or b y) (sub_on a b (bit_or b y) h (sub_or b y)) (sub_on x y (bit_or b y) k (sub_or_right b y))

-- What is at least as good stays so with the same clauses more.
pub at_least_or : (q : Quantifier) (g h x : ℕ) → at_least q g h ≡ true → at_least q (bit_or g x) (bit_or h x) ≡ true
at_least_or Existential g h x e = of_sub _ _ (or_grows g h x x (sub_of g h e) (sub_self x))
at_least_or Universal g h x e = of_sub _ _ (or_grows h g x x (sub_of h g e) (sub_self x))
