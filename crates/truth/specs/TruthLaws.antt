-- What holds of positions, of every formula.
use Rattle.std.specs.Prelude.{◌≡◌, ℕ, ◌^◌, ◌<◌, Bool, true, false, List, ◌∷◌, length, drop}
use Rattle.truth.specs.declared.literal.Clause.{Clause}
use Rattle.truth.specs.Syntax.{Block, Qbf}
use Rattle.truth.specs.Sets.{inside}
use Rattle.truth.specs.Truth.{rest, rest_under, wins, won, whole, root_of, holds}
use Rattle.truth.specs.Plain.{single, plain, holds_plainly}
use Rattle.truth.specs.Candidates.{candidates_at}
use Rattle.truth.specs.Decided.{rest_after, true_after, false_after}

-- A set inside another leaves a rest inside the other's.
abbrev pub RestsGrow : Type 0
RestsGrow = (cs : List Clause) (t f a b : ℕ) → inside a b ≡ true → inside (rest cs t f a) (rest cs t f b) ≡ true

-- A rest lies inside its set.
abbrev pub RestsInside : Type 0
RestsInside = (cs : List Clause) (t f s : ℕ) → inside (rest cs t f s) s ≡ true

-- A position inside a won one of its level is won.
abbrev pub WonInside : Type 0
WonInside = (cs : List Clause) (bs : List Block) (a b : ℕ) → inside a b ≡ true → won cs bs b ≡ true → won cs bs a ≡ true

-- A position around a lost one of its level is lost.
abbrev pub LostAround : Type 0
LostAround = (cs : List Clause) (bs : List Block) (a b : ℕ) → inside a b ≡ true → won cs bs a ≡ false → won cs bs b ≡ false

-- What several blocks leave of a set is what their joint assignment leaves unsatisfied.
abbrev pub JointRest : Type 0
JointRest = (cs : List Clause) (bs : List Block) (vs : List ℕ) (s : ℕ) → s < 2 ^ length cs →
    rest_after cs bs vs s ≡ rest cs (true_after bs vs) (false_after bs vs) s

-- The candidates decide a position like all values of its block.
abbrev pub CandidatesDecide : Type 0
CandidatesDecide = (cs : List Clause) (b : Block) (bs : List Block) (s : ℕ) →
    wins b.quantifier (λ v. won cs bs (rest_under cs b v s)) (candidates_at cs b s) ≡ won cs (b ∷ bs) s

-- The two recursions agree where the variables in t are true and those in f false.
abbrev pub MasksPlain : Type 0
MasksPlain = (cs : List Clause) (bs : List Block) (t f : ℕ) → won cs bs (rest cs t f (whole cs)) ≡ plain cs (single bs) t f

-- They agree at every position that values for the first blocks lead to.
abbrev pub DecidedPlain : Type 0
DecidedPlain = (cs : List Clause) (bs : List Block) (vs : List ℕ) →
    won cs (drop (length vs) bs) (rest_after cs bs vs (whole cs)) ≡ plain cs (single (drop (length vs) bs)) (true_after bs vs) (false_after bs vs)

-- They agree on every formula.
abbrev pub FormulasPlain : Type 0
FormulasPlain = (f : Qbf) → holds f ≡ holds_plainly f

-- The formula is true just where its root is won, whichever verdict is to be shown.
abbrev pub RootsHold : Type 0
RootsHold = (f : Qbf) (verdict : Bool) → won f.matrix f.prefix (root_of f verdict) ≡ holds f

pub record TruthLaws : Type 0 where
  pub rests_grow : RestsGrow
  pub rests_inside : RestsInside
  pub won-inside : WonInside
  pub lost_around : LostAround
  pub joint_rest : JointRest
  pub candidates_decide : CandidatesDecide
  pub masks_plain : MasksPlain
  pub decided_plain : DecidedPlain
  pub formulas_plain : FormulasPlain
  pub roots_hold : RootsHold
