use Rattle.std.proofs.Common.{◌≡◌, ◌^◌, ◌<◌, true, drop}
use Rattle.std.specs.List.{list_all}
use Rattle.certificate_text.specs.ReplyField.{is_bit, binary}
use Rattle.certificate_text.proofs.bits.Bits.value.Given as goal

-- What is left gives the number, and is binary digits.
abbrev pub invariant-loop-b : goal.invariant-loop-b
invariant-loop-b l =
    (binary l.n (drop l.b-index l.self.digits.now) ≡ binary 0 l.self.digits.now)
    × (list_all is_bit (drop l.b-index l.self.digits.now) ≡ true)
    × (l.n < 2 ^ l.b-index)
