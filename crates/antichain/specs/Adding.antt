-- What a store of a capacity answers to an addition, and what it holds then; and what it holds once levels are dropped.
use Rattle.std.specs.Prelude.{ℕ, Bool, if◌then◌else◌, not, List, [], ◌∷◌, length, filter, nat_lt}
use Rattle.antichain.specs.declared.store.AddAnswer.{AddAnswer}
use Rattle.antichain.specs.declared.store.AddAnswer.TheVariants.{Added, Covered, Full}
use Rattle.antichain.specs.Lookups.{covered}

-- The entries that e does not cover.
abbrev pub uncovered : {E : Type 0} → (E → E → Bool) → E → List E → List E
uncovered covers e xs = filter (λ x. not (covers e x)) xs

-- e put ahead of the first entry that it comes before.
abbrev pub placed : {E : Type 0} → (E → E → Bool) → E → List E → List E
placed before e [] = e ∷ []
placed before e (x ∷ xs) = if before e x then e ∷ x ∷ xs else x ∷ placed before e xs

-- Covered when some entry covers e; else those that e covers would leave, and full when no place is then left for e.
abbrev pub answer_to : {E : Type 0} → (E → E → Bool) → ℕ → List E → E → AddAnswer
answer_to covers capacity xs e =
    if covered covers xs e then Covered else (if nat_lt (length (uncovered covers e xs)) capacity then Added else Full)

abbrev pub held_after : {E : Type 0} → (E → E → Bool) → (E → E → Bool) → ℕ → List E → E → List E
held_after covers before capacity xs e =
    if covered covers xs e then xs
    else (if nat_lt (length (uncovered covers e xs)) capacity then placed before e (uncovered covers e xs) else xs)

-- The entries of a level above l.
abbrev pub above : {E : Type 0} → (E → ℕ) → ℕ → List E → List E
above level l xs = filter (λ x. nat_lt l (level x)) xs
