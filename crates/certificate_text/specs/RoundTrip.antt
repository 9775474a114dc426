-- What is written is read back.
use Rattle.std.specs.Prelude.{◌≡◌, ℕ, ◌≤◌, true, List, length, Ok}
use Rattle.truth.specs.declared.verdict.Verdict.{Verdict}
use Rattle.truth.specs.Syntax.{Qbf}
use Rattle.truth.specs.Verdicts.{is_true}
use Rattle.truth.specs.WellFormed.{WellFormed, all}
use Rattle.entries.specs.declared.entry.Entry.{Entry}
use Rattle.entries.specs.Fitting.{fits}
use Rattle.certificate_text.specs.Parse.{parse_certificate}
use Rattle.certificate_text.specs.CertificateText.{certificate_text}

-- The text of a verdict and of entries that fit, read with enough places, gives just these.
abbrev pub ReadsBack : Type 0
ReadsBack = (f : Qbf) (v : Verdict) (es : List Entry) (places : ℕ) → WellFormed f → all (fits (is_true v) f) es ≡ true → length es ≤ places →
    parse_certificate f places (certificate_text f v es) ≡ record { ending = Ok (record { verdict = v; count = length es }); entries = es }
