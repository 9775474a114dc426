-- What lists of calls lead to.
use Rattle.std.specs.Prelude.{◌≡◌, ℕ, List, [], ◌∷◌, length, Some, slice_get}
use Rattle.std.specs.List.{AllByRecursion}
use Rattle.antichain.specs.declared.calls.Call.{Call}
use Rattle.antichain.specs.declared.calls.Call.TheVariants.{Cover, Add, DropLevels, Empty, Count, Nth}
use Rattle.antichain.specs.declared.calls.Answer.{Answer}
use Rattle.antichain.specs.declared.calls.Answer.TheVariants.{Covers, Adds, Counts, Lists, Done}
use Rattle.antichain.specs.declared.calls.Round.{Round}
use Rattle.antichain.specs.declared.entry.Entry as entry
use Rattle.antichain.specs.Lookups.{covered}
use Rattle.antichain.specs.Adding.{answer_to, held_after, above}

-- In each round both stores gave the same answer.
abbrev pub Alike : {E : Type 0} → List (Round E) → Type 0
Alike rounds = AllByRecursion (λ r. r.first ≡ r.second) rounds

module _ {E : Type 0} (g : entry.Ghosts E) where
  -- What a store of a capacity that holds xs answers to a call, and what it holds then.
  abbrev pub answered : ℕ → List E → Call E → Answer E
  answered capacity xs (Cover e) = Covers (covered g.covers xs e)
  answered capacity xs (Add e) = Adds (answer_to g.covers capacity xs e)
  answered capacity xs (DropLevels l) = Done
  answered capacity xs Empty = Done
  answered capacity xs Count = Counts (length xs)
  answered capacity xs (Nth k) = Lists (slice_get xs k)

  abbrev pub leaves : ℕ → List E → Call E → List E
  leaves capacity xs (Cover e) = xs
  leaves capacity xs (Add e) = held_after g.covers g.before capacity xs e
  leaves capacity xs (DropLevels l) = above g.level l xs
  leaves capacity xs Empty = []
  leaves capacity xs Count = xs
  leaves capacity xs (Nth k) = xs

  -- What it holds after the calls of the rounds.
  abbrev pub ran : ℕ → List E → List (Round E) → List E
  ran capacity xs [] = xs
  ran capacity xs (r ∷ rs) = ran capacity (leaves capacity xs r.call) rs

  -- The rounds with the answers of two stores, of capacities m and n, that hold xs and ys.
  abbrev pub played : ℕ → ℕ → List E → List E → List (Round E) → List (Round E)
  played m n xs ys [] = []
  played m n xs ys (r ∷ rs) =
      record { call = r.call; first = Some (answered m xs r.call); second = Some (answered n ys r.call) } ∷
      played m n (leaves m xs r.call) (leaves n ys r.call) rs
