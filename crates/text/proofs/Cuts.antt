-- How the rows of a text begin, by the place of the first mark.
use Rattle.std.proofs.Common.{◌≡◌, ℕ, zero, suc, ◌+◌, ◌<◌, List, [], ◌∷◌, length, get_or, take, drop, ap, suc-add, arith}
use Rattle.std.proofs.lemmas.Bool.{eq-eqb, ne_eqb}
use Rattle.text.specs.Rows.{rows, onto}

-- No mark: one row, or none of nothing.
pub rows_whole : (mark : ℕ) (xs : List ℕ) → 0 < length xs → ((k : ℕ) → k < length xs → get_or xs k 0 ≡ mark → ⊥) → rows mark xs ≡ xs ∷ []
rows_whole mark [] some none = absurd (omega arith)
rows_whole mark (x ∷ []) some none = rw (ne_eqb x mark (none 0 (omega arith)))
rows_whole mark (x ∷ y ∷ xs) some none =
    rw (ne_eqb x mark (none 0 (omega arith))) (ap (onto x) (rows_whole mark (y ∷ xs) (omega arith) (λ k h. none (suc k) (omega arith))))

pub rows_cut : (mark : ℕ) (xs : List ℕ) (i : ℕ) → i < length xs → ((k : ℕ) → k < i → get_or xs k 0 ≡ mark → ⊥) → get_or xs i 0 ≡ mark → rows mark xs ≡ take i xs ∷ rows mark (drop (i + 1) xs)
rows_cut mark [] i h before here = absurd (omega arith)
rows_cut mark (x ∷ xs) zero h before here = rw (eq-eqb x mark here)
rows_cut mark (x ∷ xs) (suc i) h before here =
    rw (ne_eqb x mark (before 0 (omega arith)), suc-add i 1) (ap (onto x) (rows_cut mark xs i (omega arith) (λ k l. before (suc k) (omega arith)) here))
