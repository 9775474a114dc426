-- The text of a certificate: single spaces, and byte 10 after each line.
use Rattle.std.specs.Prelude.{ℕ, zero, suc, ◌+◌, ◌/◌, ◌%◌, List, [], ◌∷◌, ◌++◌, map, length, drop, Some, None, Ok, Err, codes, decimal, Result, ◌==◌, nat_le, if◌then◌else◌}
use Rattle.faults.specs.declared.cause.Cause.TheVariants.{BufferShort}
use Rattle.faults.specs.declared.fault.Fault.{Fault}
use Rattle.truth.specs.declared.verdict.Verdict.{Verdict}
use Rattle.truth.specs.Places.{numbered}
use Rattle.truth.specs.Syntax.{Qbf}
use Rattle.truth.specs.Verdicts.{verdict_word}
use Rattle.formula_text.specs.Parse.{fault}
use Rattle.entries.specs.declared.entry.Entry.{Entry}
use Rattle.entries.specs.declared.entry.Reply.{Reply}
use Rattle.entries.specs.declared.entry.Reply.TheVariants.{None as NoReply, Value}

-- The clauses of a set among n that are numbered from c on, ascending.
abbrev pub clauses_from : ℕ → ℕ → ℕ → List ℕ
clauses_from c zero s = []
clauses_from c (suc n) s = if s % 2 == 1 then c ∷ clauses_from (c + 1) n (s / 2) else clauses_from (c + 1) n (s / 2)

-- Numbers joined by commas, with a text before the first.
abbrev pub listed_numbers : List ℕ → List ℕ → List ℕ
listed_numbers before [] = []
listed_numbers before (c ∷ cs) = before ++ (decimal c ++ listed_numbers (codes ",") cs)

-- The clauses of a set among the first n, joined by commas, or `-` for the empty set.
abbrev pub set_text : ℕ → ℕ → List ℕ
set_text n s = if s == 0 then codes "-" else listed_numbers [] (clauses_from 1 n s)

-- A number by binary digits, as many as the width, the first the highest.
abbrev pub binary_text : ℕ → ℕ → List ℕ
binary_text zero v = []
binary_text (suc k) v = binary_text k (v / 2) ++ ((48 + v % 2) ∷ [])

abbrev pub reply_text : ℕ → Reply → List ℕ
reply_text width NoReply = codes "-"
reply_text width (Value v) = binary_text width v

-- How many variables the block at a level has; none where there is no such level.
abbrev pub width_at : Qbf → ℕ → ℕ
width_at f level = elim (numbered f.prefix level) [ None ↦ 0 | Some b ↦ length b.variables ]

-- Three fields with single spaces (byte 32).
abbrev pub spaced : List ℕ → List ℕ → List ℕ → List ℕ
spaced a b c = a ++ (32 ∷ (b ++ (32 ∷ c)))

abbrev pub entry_text : Qbf → Entry → List ℕ
entry_text f e = spaced (decimal e.level) (set_text (length f.matrix) e.set) (reply_text (width_at f e.level) e.reply)

-- The verdict, and the counts of blocks and clauses.
abbrev pub claim_text : Qbf → Verdict → List ℕ
claim_text f v = spaced (verdict_word v) (decimal (length f.prefix)) (decimal (length f.matrix))

-- Lines, with byte 10 after each.
abbrev pub join_lines : List (List ℕ) → List ℕ
join_lines [] = []
join_lines (l ∷ ls) = l ++ (10 ∷ join_lines ls)

-- The lines of some entries.
abbrev pub entries_text : Qbf → List Entry → List ℕ
entries_text f es = join_lines (map (entry_text f) es)

abbrev pub certificate_lines : Qbf → Verdict → List Entry → List (List ℕ)
certificate_lines f v es = codes "verdict blocks clauses" ∷ (claim_text f v ∷ (codes "level set reply" ∷ map (entry_text f) es))

abbrev pub certificate_text : Qbf → Verdict → List Entry → List ℕ
certificate_text f v es = join_lines (certificate_lines f v es)

-- What writing a text into a buffer answers: its length, or a refusal with the length needed where the buffer is shorter.
abbrev pub writing : List ℕ → List ℕ → Result ℕ Fault
writing text buffer = if nat_le (length text) (length buffer) then Ok (length text) else Err (fault (BufferShort (length text)) 0)

-- What the buffer then holds: the text, and what stood behind; or all that it held, where it is shorter.
abbrev pub written : List ℕ → List ℕ → List ℕ
written text buffer = if nat_le (length text) (length buffer) then text ++ drop (length text) buffer else buffer
