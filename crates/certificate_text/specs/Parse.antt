-- The certificate that a text means for a formula, or the fault with the lowest line and then the lowest number, and the
-- entries read before it.
use Rattle.std.specs.Prelude.{ℕ, ◌+◌, Bool, ◌&&◌, List, [], ◌∷◌, ◌++◌, length, drop, Some, None, Ok, Err, codes, Option, Result, ◌==◌, nat_lt, if◌then◌else◌}
use Rattle.std.specs.Option.{ok_or}
use Rattle.std.specs.Str.{bytes_eq}
use Rattle.faults.specs.declared.cause.Cause.TheVariants.{CertificateForm, OtherFormula, BadEntry, TableFull}
use Rattle.faults.specs.declared.fault.Fault.{Fault}
use Rattle.text.specs.Rows.{lines_of, fields_of}
use Rattle.text.specs.Taken.{and_then, take_number, ended}
use Rattle.truth.specs.declared.verdict.Verdict.{Verdict}
use Rattle.truth.specs.declared.verdict.Verdict.TheVariants.{True, False}
use Rattle.truth.specs.Syntax.{Qbf}
use Rattle.truth.specs.Places.{numbered}
use Rattle.truth.specs.Sides.{owes}
use Rattle.truth.specs.Verdicts.{is_true}
use Rattle.formula_text.specs.Parse.{fault, onward}
use Rattle.entries.specs.declared.entry.Entry.{Entry}
use Rattle.certificate_text.specs.declared.read.Certificate.{Certificate}
use Rattle.certificate_text.specs.declared.heading.Claim.{Claim}
use Rattle.certificate_text.specs.SetField.{take_set}
use Rattle.certificate_text.specs.ReplyField.{take_reply, reply_of}

-- The fields after this word.
abbrev pub take_word : List ℕ → List (List ℕ) → Option (List (List ℕ))
take_word word [] = None
take_word word (w ∷ ws) = if bytes_eq w word then Some ws else None

-- These words, and no field after them.
abbrev pub take_words : List (List ℕ) → List (List ℕ) → Option (Unit {0})
take_words [] fields = ended fields
take_words (w ∷ ws) fields = and_then (take_word w fields) (λ others. take_words ws others)

-- A line of these words.
abbrev pub heading_of : List (List ℕ) → List ℕ → Option (Unit {0})
heading_of words line = and_then (fields_of line) (λ fields. take_words words fields)

-- The words of line 1, and of line 3.
abbrev pub verdict_words : List (List ℕ)
verdict_words = codes "verdict" ∷ codes "blocks" ∷ codes "clauses" ∷ []

abbrev pub entry_words : List (List ℕ)
entry_words = codes "level" ∷ codes "set" ∷ codes "reply" ∷ []

-- The lines after the first, on line n, which is a heading of these words.
abbrev pub heading_line : ℕ → List (List ℕ) → List (List ℕ) → Result (List (List ℕ)) Fault
heading_line n words [] = Err (fault CertificateForm n)
heading_line n words (l ∷ ls) = onward (ok_or (heading_of words l) (fault CertificateForm n)) (λ _. Ok ls)

-- The verdict that a word says.
abbrev pub verdict_of : List ℕ → Option Verdict
verdict_of w = if bytes_eq w (codes "true") then Some True else (if bytes_eq w (codes "false") then Some False else None)

abbrev pub take_verdict : List (List ℕ) → Option (Verdict × List (List ℕ))
take_verdict [] = None
take_verdict (w ∷ ws) = and_then (verdict_of w) (λ v. Some (v, ws))

-- A verdict, and the counts of blocks and clauses.
abbrev pub claim_of : List ℕ → Option Claim
claim_of line =
    and_then (fields_of line) (λ fields.
    and_then (take_verdict fields) (λ v.
    and_then (take_number v.1) (λ n.
    and_then (take_number n.1) (λ c.
    and_then (ended c.1) (λ _. Some (record { verdict = v.0; blocks = n.0; clauses = c.0 }))))))

-- The verdict of line n, whose counts have to be the formula's.
abbrev pub read_verdict : ℕ → Qbf → List ℕ → Result Verdict Fault
read_verdict n f line =
    onward (ok_or (claim_of line) (fault CertificateForm n)) (λ m.
    if m.blocks == length f.prefix && m.clauses == length f.matrix then Ok m.verdict else Err (fault OtherFormula n))

-- The verdict of the first line, on line n, and the lines after it.
abbrev pub verdict_line : ℕ → Qbf → List (List ℕ) → Result (Verdict × List (List ℕ)) Fault
verdict_line n f [] = Err (fault CertificateForm n)
verdict_line n f (l ∷ ls) = onward (read_verdict n f l) (λ v. Ok (v, ls))

-- An entry line by its form. The set is none where the clauses are out of range or order.
pub record EntryFields : Type 0 where
  pub level : ℕ
  pub set : Option ℕ
  pub reply : List ℕ

abbrev pub entry_fields : ℕ → List ℕ → Option EntryFields
entry_fields highest line =
    and_then (fields_of line) (λ fields.
    and_then (take_number fields) (λ l.
    and_then (take_set highest l.1) (λ s.
    and_then (take_reply s.1) (λ r.
    and_then (ended r.1) (λ _. Some (record { level = l.0; set = s.0; reply = r.0 }))))))

-- The entry that fields of the right form write, or none where it does not fit the formula.
abbrev pub entry_of : Qbf → Bool → EntryFields → Option Entry
entry_of f v e =
    and_then (numbered f.prefix e.level) (λ b.
    and_then e.set (λ s.
    and_then (reply_of (owes v b.quantifier) (length b.variables) e.reply) (λ r.
    Some (record { level = e.level; set = s; reply = r }))))

-- The entry of line n.
abbrev pub read_entry : ℕ → Qbf → Bool → List ℕ → Result Entry Fault
read_entry n f v line =
    onward (ok_or (entry_fields (length f.matrix) line) (fault CertificateForm n)) (λ e. ok_or (entry_of f v e) (fault BadEntry n))

-- How reading ended, and the entries read.
pub record Parsed : Type 0 where
  pub ending : Result Certificate Fault
  pub entries : List Entry

abbrev pub stopped : Fault → List Entry → Parsed
stopped e es = record { ending = Err e; entries = es }

-- The lines from the n-th on, after the entries es, for which there are so many places.
abbrev pub entry_lines : ℕ → Qbf → Verdict → ℕ → List Entry → List (List ℕ) → Parsed
entry_lines n f v places es [] = record { ending = Ok (record { verdict = v; count = length es }); entries = es }
entry_lines n f v places es (l ∷ ls) =
    elim (read_entry n f (is_true v) l) [
      | Err e ↦ stopped e es
      | Ok e ↦ if nat_lt (length es) places then entry_lines (n + 1) f v places (es ++ e ∷ []) ls else stopped (fault TableFull n) es
    ]

-- What on makes of a value, or the fault that came before any entry.
abbrev pub from : {A : Type 0} → Result A Fault → (A → Parsed) → Parsed
from (Ok a) on = on a
from (Err e) on = stopped e []

-- The lines of a certificate.
abbrev pub parse_lines : Qbf → ℕ → List (List ℕ) → Parsed
parse_lines f places lines =
    from (heading_line 1 verdict_words lines) (λ second.
    from (verdict_line 2 f second) (λ v.
    from (heading_line 3 entry_words v.1) (λ others.
    entry_lines 4 f v.0 places [] others)))

abbrev pub parse_certificate : Qbf → ℕ → List ℕ → Parsed
parse_certificate f places text = parse_lines f places (lines_of text)

-- A table with these entries in its first places.
abbrev pub filled : List Entry → List Entry → List Entry
filled es table = es ++ drop (length es) table
