-- When a text is a certificate's: how it is put together, line by line and field by field.
use Rattle.std.specs.Prelude.{◌≡◌, ℕ, ◌≤◌, true, List, [], ◌∷◌, length, take, Ok, codes, decimal, Result}
use Rattle.faults.specs.declared.fault.Fault.{Fault}
use Rattle.text.specs.Layout.{Lines, Spaced}
use Rattle.truth.specs.declared.verdict.Verdict.{Verdict}
use Rattle.truth.specs.Syntax.{Qbf}
use Rattle.truth.specs.Verdicts.{is_true, verdict_word}
use Rattle.truth.specs.WellFormed.{all}
use Rattle.formula_text.specs.Form.{Pairwise}
use Rattle.entries.specs.declared.entry.Entry.{Entry}
use Rattle.entries.specs.Fitting.{fits}
use Rattle.certificate_text.specs.declared.read.Certificate.{Certificate}
use Rattle.certificate_text.specs.CertificateText.{set_text, reply_text, width_at}

-- Three fields, with one or more spaces between each two.
abbrev pub ThreeFields : List ℕ → List ℕ → List ℕ → List ℕ → Type 0
ThreeFields a b c line = Spaced (a ∷ (b ∷ (c ∷ []))) line

-- The verdict, and the counts of blocks and clauses.
abbrev pub ClaimLine : Qbf → Verdict → List ℕ → Type 0
ClaimLine f v line = ThreeFields (verdict_word v) (decimal (length f.prefix)) (decimal (length f.matrix)) line

-- The level; the clauses of the set, ascending and joined by commas, or `-`; the reply's digits, or `-`.
abbrev pub EntryLine : Qbf → Entry → List ℕ → Type 0
EntryLine f e line = ThreeFields (decimal e.level) (set_text (length f.matrix) e.set) (reply_text (width_at f e.level) e.reply) line

-- The text of a certificate: two headings with the verdict between them, and a line for each entry. All entries fit.
pub record CertificateForm (f : Qbf) (v : Verdict) (es : List Entry) (text : List ℕ) : Type 0 where
  pub first : List ℕ
  pub claim : List ℕ
  pub third : List ℕ
  pub listed : List (List ℕ)
  pub lines : Lines text (first ∷ (claim ∷ (third ∷ listed)))
  pub headed : ThreeFields (codes "verdict") (codes "blocks") (codes "clauses") first
  pub claimed : ClaimLine f v claim
  pub titled : ThreeFields (codes "level") (codes "set") (codes "reply") third
  pub entered : Pairwise (EntryLine f) es listed
  pub fitting : all (fits (is_true v) f) es ≡ true

-- What reading a text gave, with what the table then holds, is exact: a certificate just where the text is that
-- certificate's, with places enough, and so the one certificate.
pub record Exact (f : Qbf) (places : ℕ) (text : List ℕ) (r : Result Certificate Fault) (table : List Entry) : Type 0 where
  pub accepted : (c : Certificate) → r ≡ Ok c → CertificateForm f c.verdict (take c.count table) text × (c.count ≤ places)
  pub complete : (v : Verdict) (es : List Entry) → CertificateForm f v es text → length es ≤ places →
      (r ≡ Ok (record { verdict = v; count = length es })) × (take (length es) table ≡ es)
