use Rattle.std.proofs.Common.{◌≡◌, ◌^◌, ◌<◌, drop}
use Rattle.std.specs.Str.{all_ascii_digits}
use Rattle.text.specs.Numeral.{read_on}
use Rattle.text.proofs.number.number.Given as goal

-- What is left gives the number, and tells whether all are digits.
abbrev pub invariant-loop-b : goal.invariant-loop-b
invariant-loop-b l =
    (read_on l.n (drop l.b-index l.field) ≡ read_on 0 l.field)
    × (all_ascii_digits (drop l.b-index l.field) ≡ all_ascii_digits l.field)
    × (l.n < 10 ^ l.b-index)
