use Rattle.std.proofs.Common.{◌≡◌, length}
use Rattle.std.specs.Option.{option_map}
use Rattle.text.specs.Rows.{words}
use Rattle.text.specs.Taken.{and_then}
use Rattle.formula_text.specs.Literals.{literals_of, positives}
use Rattle.formula_text.specs.Gathered.{no_numbers, widened}
use Rattle.formula_text.proofs.gather.gather_numbers.Given as goal

-- What is left gives the same as the whole.
abbrev pub invariant-loop-literal : goal.invariant-loop-literal
invariant-loop-literal l =
    (option_map (widened l.numbers) (and_then (literals_of (words l.fields.rest.now)) positives)
    ≡ option_map (widened no_numbers) (and_then (literals_of (words l.initial.fields.rest.now)) positives))
    × (l.fields.fault ≡ l.initial.fields.fault)

abbrev pub decreases-loop-literal : goal.decreases-loop-literal
decreases-loop-literal l = length l.fields.rest.now
