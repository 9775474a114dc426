use Rattle.std.proofs.Common.{◌≡◌, map, drop}
use Rattle.text.specs.Left.{fields_left}
use Rattle.certificate_text.specs.Parse.{take_words}
use Rattle.certificate_text.proofs.heading.expect.Given as goal

-- The words that are left are to be taken of the fields that are left.
abbrev pub invariant-loop-word : goal.invariant-loop-word
invariant-loop-word l =
    (take_words (map (λ w. w.now) (drop l.word-index l.words)) (fields_left l.fields) ≡ take_words (map (λ w. w.now) l.words) (fields_left l.initial.fields))
    × (l.fields.fault ≡ l.initial.fields.fault)
