-- Sets of clauses as numbers of as many digits as there are clauses.
use Rattle.std.proofs.Common.{◌≡◌, ℕ, ◌+◌, ◌-◌, ◌*◌, ◌/◌, ◌%◌, ◌^◌, ◌<◌, ◌≤◌, Bool, cond, List, [], ◌∷◌, ◌++◌, length, ap, pow_mono, arith}
use Rattle.std.proofs.lemmas.List.{length-append}
use Rattle.truth.specs.declared.literal.Clause.{Clause}
use Rattle.truth.specs.Limits.{max_clauses}
use Rattle.truth.specs.Occurrences.{satisfiers, occurrences}
use Rattle.truth.specs.Truth.{satisfied, rest, whole}
use Rattle.truth.proofs.Rests.{rest_small, rest_whole_more}
use Rattle.truth.proofs.Settling.{occurrences_small}
use Rattle.qbf.proofs.Parts.{parted}

-- The digit of one clause more.
pub occurrences_fit : (so : Bool) (c : Clause) (cs : List Clause) (v : ℕ) → length (c ∷ cs) ≤ max_clauses → (satisfiers so c / 2 ^ (v - 1)) % 2 + 2 * occurrences so cs v < 2 ^ max_clauses
occurrences_fit so c cs v few = omega (arith, occurrences_small so (c ∷ cs) v, pow_mono {i = length (c ∷ cs)} {j = max_clauses} few)

-- The same of the last of those left in a walk from the last clause to the first.
pub occurrences_room : (so : Bool) (cs left before behind : List Clause) (c : Clause) (v : ℕ) → cs ≡ left ++ behind → left ≡ before ++ (c ∷ []) → length cs ≤ max_clauses →
    (satisfiers so c / 2 ^ (v - 1)) % 2 + 2 * occurrences so behind v < 2 ^ max_clauses
occurrences_room so cs left before behind c v is last few =
    occurrences_fit so c behind v (omega (arith, ap length (parted cs left before behind c is last), length-append before (c ∷ behind)))

pub rest_fit : (c : Clause) (cs : List Clause) (t f d : ℕ) → length (c ∷ cs) ≤ max_clauses → d ≡ cond (satisfied c t f) 0 1 → d + 2 * rest cs t f (whole cs) < 2 ^ max_clauses
rest_fit c cs t f d few e = omega (arith, e, rest_whole_more c cs t f, rest_small (c ∷ cs) t f (whole (c ∷ cs)), pow_mono {i = length (c ∷ cs)} {j = max_clauses} few)

-- And of the last of those left, in the same walk.
pub rest_room : (cs left before behind : List Clause) (c : Clause) (t f d : ℕ) → cs ≡ left ++ behind → left ≡ before ++ (c ∷ []) → length cs ≤ max_clauses →
    d ≡ cond (satisfied c t f) 0 1 → d + 2 * rest behind t f (whole behind) < 2 ^ max_clauses
rest_room cs left before behind c t f d is last few e =
    rest_fit c behind t f d (omega (arith, ap length (parted cs left before behind c is last), length-append before (c ∷ behind))) e

pub rest_more : (c : Clause) (cs : List Clause) (t f d : ℕ) → d ≡ cond (satisfied c t f) 0 1 → d + 2 * rest cs t f (whole cs) ≡ rest (c ∷ cs) t f (whole (c ∷ cs))
rest_more c cs t f d e = omega (arith, e, rest_whole_more c cs t f)
