use Rattle.std.proofs.Common.{◌≡◌, length, drop}
use Rattle.std.specs.Option.{option_map}
use Rattle.certificate_text.specs.SetField.{numerals, pieces, set_up_to}
use Rattle.certificate_text.specs.Gathering.{gathered, set_from}
use Rattle.certificate_text.proofs.set_field.gather.Given as goal

-- What is left gives the same as the whole.
abbrev pub invariant-loop-piece : goal.invariant-loop-piece
invariant-loop-piece l =
    option_map (λ cs. set_from (gathered l.highest l.all cs)) (numerals (drop (length l.yielded) (pieces l.field))) ≡ option_map (set_up_to l.highest) (numerals (pieces l.field))
