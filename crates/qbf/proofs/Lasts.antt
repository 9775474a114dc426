-- The last of some blocks.
use Rattle.std.proofs.Common.{◌≡◌, ℕ, zero, suc, ◌-◌, List, [], ◌∷◌, map, length, refl, Some, ap, arith}
use Rattle.qbf.specs.declared.block.Block.{Block as StoredBlock}
use Rattle.std.specs.List.{slice_get}
use denote.Enum.Bare.{sameb}
use Rattle.truth.specs.declared.literal.Quantifier.{Quantifier}
use Rattle.truth.specs.declared.literal.Quantifier.TheVariants.{Existential, Universal}
use Rattle.truth.specs.contracts.literal.Quantifier.{the_type}
use Rattle.truth.specs.WellFormed.{same, repeats}
use Rattle.qbf.specs.Stored.{block_of}

-- The derived equality of quantifiers.
pub same_derived : (q p : Quantifier) → sameb the_type q p ≡ same q p
same_derived Existential Existential = refl
same_derived Existential Universal = refl
same_derived Universal Existential = refl
same_derived Universal Universal = refl

repeats-at : (q : Quantifier) (bs : List StoredBlock) (i : ℕ) (b : StoredBlock) → suc i ≡ length bs → slice_get bs i ≡ Some b → repeats q (map block_of bs) ≡ same q b.quantifier
repeats-at q [] i b h e = absurd (omega arith)
repeats-at q (x ∷ []) zero b h e = let same_block : x ≡ b = cc in ap (λ y. same q y.quantifier) same_block
repeats-at q (x ∷ []) (suc i) b h e = absurd (omega arith)
repeats-at q (x ∷ y ∷ ys) zero b h e = absurd (omega arith)
repeats-at q (x ∷ y ∷ ys) (suc i) b h e = repeats-at q (y ∷ ys) i b (omega arith) e

-- The quantifier of the last of some blocks, and of none.
pub repeats_last : (q : Quantifier) (bs : List StoredBlock) (b : StoredBlock) → slice_get bs (length bs - 1) ≡ Some b → repeats q (map block_of bs) ≡ same q b.quantifier
repeats_last q [] b e = cc
repeats_last q (x ∷ xs) b e = repeats-at q (x ∷ xs) (length (x ∷ xs) - 1) b (omega arith) e
