-- What is told of a formula's truth.
use Rattle.std.specs.Prelude.{ℕ, Bool, true, false, cond, List, length, Some, None, Option, nat_le, codes}
use Rattle.truth.specs.declared.verdict.Verdict.{Verdict}
use Rattle.truth.specs.declared.verdict.Verdict.TheVariants.{True, False}
use Rattle.truth.specs.Limits.{max_decided}
use Rattle.truth.specs.Syntax.{Qbf, bound_in}

abbrev pub is_true : Verdict → Bool
is_true True = true
is_true False = false

-- The word that texts have for a verdict.
abbrev pub verdict_word : Verdict → List ℕ
verdict_word True = codes "true"
verdict_word False = codes "false"

-- The formula binds so few variables that every assignment can be tried.
abbrev pub few_bound : Qbf → Bool
few_bound f = nat_le (length (bound_in f.prefix)) max_decided

-- A formula's truth where it binds few variables, and else none.
abbrev pub if_few : (Qbf → Bool) → Qbf → Option Bool
if_few truth f = cond (few_bound f) (Some (truth f)) None
