-- What is read is exact.
use Rattle.std.proofs.Common.{◌≡◌, ℕ, List, length, take, drop, Result, sym, refl, ap, ◌∙◌, subst}
use Rattle.std.proofs.lemmas.List.{take_at}
use Rattle.faults.specs.declared.fault.Fault.{Fault}
use Rattle.truth.specs.Syntax.{Qbf}
use Rattle.truth.specs.WellFormed.{WellFormed}
use Rattle.entries.specs.declared.entry.Entry.{Entry}
use Rattle.certificate_text.specs.declared.read.Certificate.{Certificate}
use Rattle.certificate_text.specs.Parse.{parse_certificate, filled}
use Rattle.certificate_text.specs.Form.{CertificateForm, Exact}
use Rattle.certificate_text.proofs.EntryFits.{certificate_fits}
use Rattle.certificate_text.proofs.LineForms.{form_accepted}
use Rattle.certificate_text.proofs.ReadingBack.{form_read}

pub exact : (f : Qbf) → WellFormed f → (places : ℕ) (text : List ℕ) (table old : List Entry) (r : Result Certificate Fault) → r ≡ (parse_certificate f places text).ending
    → table ≡ filled (parse_certificate f places text).entries old → Exact f places text r table
exact f formed places text table old r ending is =
    let es = (parse_certificate f places text).entries in
    record {
      accepted = λ c e.
          let ok = sym ending ∙ e in
          let form = form_accepted f places text c ok in
          let count = (certificate_fits f places text c ok).1 in
          let front = ap (take c.count) is ∙ take_at es (drop (length es) old) c.count (sym count) in
          (subst (λ xs. CertificateForm f c.verdict xs text) (sym front) form.0, form.1);
      complete = λ v xs form room.
          let p = form_read f formed v xs places text form room in
          (ending ∙ ap (λ q. q.ending) p, ap (take (length xs)) (is ∙ ap (λ q. filled q.entries old) p) ∙ take_at xs (drop (length xs) old) (length xs) refl);
    }
