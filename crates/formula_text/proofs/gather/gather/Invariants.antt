use Rattle.std.proofs.Common.{◌≡◌, length}
use Rattle.std.specs.Option.{option_map}
use Rattle.text.specs.Rows.{words}
use Rattle.formula_text.specs.Literals.{literals_of}
use Rattle.formula_text.specs.Gathered.{nothing, gathered}
use Rattle.formula_text.proofs.gather.gather.Given as goal

-- What is left gives the same as the whole.
abbrev pub invariant-loop-literal : goal.invariant-loop-literal
invariant-loop-literal l =
    (option_map (gathered l.all) (literals_of (words l.fields.rest.now)) ≡ option_map (gathered nothing) (literals_of (words l.initial.fields.rest.now)))
    × (l.fields.fault ≡ l.initial.fields.fault)

abbrev pub decreases-loop-literal : goal.decreases-loop-literal
decreases-loop-literal l = length l.fields.rest.now
