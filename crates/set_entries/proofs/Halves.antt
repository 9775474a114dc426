-- Of the sets of `apart_set` none lies inside another.
use Rattle.std.proofs.Common.{◌≡◌, ℕ, ◌-◌, ◌<◌, ◌^◌, true, arith}
use Rattle.std.proofs.lemmas.Nat.{and_block, and_le_l, and_le_r}
use Rattle.std.proofs.lemmas.Bool.{eqb-true}
use Rattle.antichain.specs.Inclusion.{inside}
use Rattle.set_entries.specs.Apart.{apart_set}

-- by halves: the high one gives that i is at most j, and the low one that j is at most i
pub same_from_inside : (i j : ℕ) → i < 2 ^ 16 → j < 2 ^ 16 → inside (apart_set i) (apart_set j) ≡ true → i ≡ j
same_from_inside i j h k m =
    let halves = and_block 16 i j (65535 - i) (65535 - j) (omega arith) (omega arith) in
    let whole = eqb-true _ _ m in
    omega (arith, halves, whole, and_le_l (65535 - i) (65535 - j), and_le_r (65535 - i) (65535 - j), and_le_r i j)
