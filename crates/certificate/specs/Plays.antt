-- Plays by accepted entries.
use Rattle.std.specs.Prelude.{◌≡◌, ℕ, ◌+◌, ◌-◌, ◌^◌, ◌<◌, ◌≤◌, Bool, true, false, ◌&&◌, List, [], ◌∷◌, length, ◌==◌, bit_or}
use Rattle.truth.specs.declared.literal.Clause.{Clause}
use Rattle.truth.specs.Syntax.{Block, Qbf}
use Rattle.truth.specs.Sides.{owes}
use Rattle.truth.specs.Truth.{any, made_true, made_false, rest, rest_under, whole, root_of}
use Rattle.entries.specs.declared.entry.Entry.{Entry}
use Rattle.entries.specs.declared.entry.Reply.{Reply}
use Rattle.entries.specs.declared.entry.Reply.TheVariants.{None, Value}
use Rattle.truth.specs.declared.assignment.Assignment.{Assignment}
use Rattle.certificate.specs.declared.position.Position.{Position}
use Rattle.certificate.specs.declared.outcome.Outcome.{Outcome}
use Rattle.certificate.specs.declared.outcome.Outcome.TheVariants.{Ended, Due}
use Rattle.certificate.specs.Accepting.{blocks_from, covers, reached}
use Rattle.certificate.specs.Movers.{value_due}

abbrev pub gives : ℕ → Reply → Bool
gives w None = false
gives w (Value x) = x == w

-- Some entry covers the position and has this reply.
abbrev pub lends : Bool → List Entry → ℕ → ℕ → ℕ → Bool
lends v es level set w = any (λ e. covers v level set e && gives w e.reply) es

-- The assignment with one variable more, true or false.
abbrev pub with_variable : Bool → ℕ → Assignment → Assignment
with_variable true x a = record { trues = bit_or a.trues (2 ^ (x - 1)); falses = a.falses }
with_variable false x a = record { trues = a.trues; falses = bit_or a.falses (2 ^ (x - 1)) }

-- The assignment together with that of a value of the first of these blocks.
abbrev pub assigned : List Block → ℕ → Assignment → Assignment
assigned [] w a = a
assigned (b ∷ bs) w a = record { trues = bit_or a.trues (made_true b.variables w); falses = bit_or a.falses (made_false b.variables w) }

-- A play begins at the root.
abbrev pub start : Qbf → Bool → Position
start f v = record { level = 1; set = root_of f v; played = record { trues = 0; falses = 0 } }

-- It moves on by a value of the first of the blocks left.
abbrev pub moved : List Clause → List Block → ℕ → Position → Position
moved cs [] w p = p
moved cs (b ∷ bs) w p = record { level = p.level + 1; set = rest_under cs b w p.set; played = assigned (b ∷ bs) w p.played }

-- The position is covered, and its set is what the values given so far leave unsatisfied.
abbrev pub Safe : Qbf → Bool → List Entry → Position → Type 0
Safe f v es p =
    (1 ≤ p.level) × (reached v es (blocks_from f p.level) p.level p.set ≡ true)
    × (p.set ≡ rest f.matrix p.played.trues p.played.falses (whole f.matrix))

-- Played f v es bs p vs o: from the position p, with the blocks bs left, the offers vs bring a play by the entries for
-- verdict v to the outcome o. Any covering entry may lend its reply; a value that its block does not have is refused,
-- and the next offer is looked at; where the offers end, the other side's value is due.
pub data Played (f : Qbf) (v : Bool) (es : List Entry) : List Block → Position → List ℕ → Outcome → Type 0 where
  ended : {p : Position} {vs : List ℕ} → Played f v es [] p vs (Ended p.set p.played)
  waits : {b : Block} {bs : List Block} {p : Position} → owes v b.quantifier ≡ false → Played f v es (b ∷ bs) p [] (Due p.level)
  refused : {b : Block} {bs : List Block} {p : Position} {vs : List ℕ} {o : Outcome} (w : ℕ) →
      owes v b.quantifier ≡ false → 2 ^ length b.variables ≤ w → Played f v es (b ∷ bs) p vs o → Played f v es (b ∷ bs) p (w ∷ vs) o
  taken : {b : Block} {bs : List Block} {p : Position} {vs : List ℕ} {o : Outcome} (w : ℕ) →
      owes v b.quantifier ≡ false → w < 2 ^ length b.variables → Played f v es bs (moved f.matrix (b ∷ bs) w p) vs o → Played f v es (b ∷ bs) p (w ∷ vs) o
  replied : {b : Block} {bs : List Block} {p : Position} {vs : List ℕ} {o : Outcome} (w : ℕ) →
      owes v b.quantifier ≡ true → lends v es p.level p.set w ≡ true → Played f v es bs (moved f.matrix (b ∷ bs) w p) vs o → Played f v es (b ∷ bs) p vs o

-- A play that has ended leaves no clause on true and at least one on false, and the clauses left are those that the
-- assignment played leaves unsatisfied. One that has not waits for a value of the other side.
abbrev pub Right : Qbf → Bool → Outcome → Type 0
Right f v (Ended left played) = ((left == 0) ≡ v) × (left ≡ rest f.matrix played.trues played.falses (whole f.matrix))
Right f v (Due level) = value_due v (blocks_from f level) ≡ true

-- Whatever is offered, every play by the entries comes out right, and there is one.
pub record PlaysRight (f : Qbf) (v : Bool) (es : List Entry) : Type 0 where
  pub right : (vs : List ℕ) (o : Outcome) → Played f v es f.prefix (start f v) vs o → Right f v o
  pub goes : (vs : List ℕ) → (o : Outcome) × Played f v es f.prefix (start f v) vs o
