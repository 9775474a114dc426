-- How long the texts of a certificate can be.
use Rattle.std.proofs.Common.{◌≡◌, ℕ, zero, suc, ◌+◌, ◌*◌, ◌/◌, ◌%◌, ◌^◌, ◌<◌, ◌≤◌, eqb, List, [], ◌∷◌, ◌++◌, length, codes, decimal, inl, inr, arith}
use Rattle.std.proofs.lemmas.Bool.{cases_Bool, cases_eq, eq-eqb, ne_eqb}
use Rattle.std.proofs.lemmas.List.{length-append}
use Rattle.std.proofs.lemmas.Fmt.{length-decimal-le}
use Rattle.truth.specs.Limits.{max_clauses, max_width}
use Rattle.truth.specs.Verdicts.{verdict_word}
use Rattle.truth.specs.declared.verdict.Verdict.{Verdict}
use Rattle.truth.specs.declared.verdict.Verdict.TheVariants.{True, False}
use Rattle.entries.specs.declared.entry.Entry.{Entry}
use Rattle.entries.specs.declared.entry.Reply.{Reply}
use Rattle.entries.specs.declared.entry.Reply.TheVariants.{None as NoReply, Value}
use Rattle.qbf.specs.declared.formula.Formula.{Formula}
use Rattle.qbf.specs.Held.{qbf_of}
use Rattle.certificate_text.specs.CertificateText.{clauses_from, listed_numbers, set_text, reply_text, width_at, spaced, entry_text, claim_text, entries_text, certificate_text}
use Rattle.certificate_text.specs.Listing.{max_listed}
use Rattle.certificate_text.specs.Writing.{max_line}
use Rattle.qbf.proofs.Sizes.{few_clauses, few_blocks}
use Rattle.certificate_text.proofs.FormulaFacts.{width_at_low}
use Rattle.certificate_text.proofs.Placed.{length-binary}

decimal_short : (n : ℕ) → n < 2 ^ 32 → length (decimal n) ≤ 10
decimal_short n l = length-decimal-le 10 n (omega arith) (omega arith) (omega arith)

spaced_length : (a b c : List ℕ) → length (spaced a b c) ≡ length a + length b + length c + 2
spaced_length a b c = omega (arith, length-append a (32 ∷ (b ++ (32 ∷ c))), length-append b (32 ∷ c))

-- A comma and a number for each clause.
numbers_short : (before : List ℕ) (c n s : ℕ) → length before ≤ 1 → c + n ≤ 2 ^ 32 → length (listed_numbers before (clauses_from c n s)) ≤ 11 * n
numbers_short before c zero s b l = omega arith
numbers_short before c (suc n) s b l =
    elim (cases_Bool (eqb (s % 2) 1)) [
      | inl t ↦
          let rest = numbers_short (44 ∷ []) (c + 1) n (s / 2) (omega arith) (omega arith) in
          let tail = listed_numbers (44 ∷ []) (clauses_from (c + 1) n (s / 2)) in
          let number = decimal_short c (omega arith) in
          rw (t, clauses_from) (omega (arith, length-append before (decimal c ++ tail), length-append (decimal c) tail))
      | inr t ↦
          let rest = numbers_short before (c + 1) n (s / 2) b (omega arith) in
          rw (t, clauses_from) (omega arith)
    ]

set_short : (n s : ℕ) → n ≤ max_clauses → length (set_text n s) ≤ 11 * max_clauses + 1
set_short n s few =
    elim (cases_eq s 0) [
      | inl z ↦ rw (eq-eqb s 0 z) (omega arith)
      | inr some ↦ rw (ne_eqb s 0 some) (omega (arith, numbers_short [] 1 n s (omega arith) (omega arith)))
    ]

reply_short : (width : ℕ) (r : Reply) → width ≤ max_width → length (reply_text width r) ≤ max_width
reply_short width NoReply low = omega arith
reply_short width (Value v) low = omega (arith, length-binary width v)

pub entry_short : (f : Formula) (e : Entry) → e.level < 2 ^ 32 → length (entry_text (qbf_of f) e) < max_line
entry_short f e low =
    let set = set_text (length (qbf_of f).matrix) e.set in
    let reply = reply_text (width_at (qbf_of f) e.level) e.reply in
    omega (
      arith,
      spaced_length (decimal e.level) set reply,
      decimal_short e.level low,
      set_short (length (qbf_of f).matrix) e.set (few_clauses f),
      reply_short (width_at (qbf_of f) e.level) e.reply (width_at_low f e.level),
    )

word_short : (v : Verdict) → length (verdict_word v) ≤ 5
word_short True = omega arith
word_short False = omega arith

claim_short : (f : Formula) (v : Verdict) → length (claim_text (qbf_of f) v) ≤ 27
claim_short f v =
    let blocks = decimal (length (qbf_of f).prefix) in
    let clauses = decimal (length (qbf_of f).matrix) in
    omega (
      arith,
      spaced_length (verdict_word v) blocks clauses,
      word_short v,
      decimal_short (length (qbf_of f).prefix) (omega (arith, few_blocks f)),
      decimal_short (length (qbf_of f).matrix) (omega (arith, few_clauses f)),
    )

pub certificate_short : (f : Formula) (v : Verdict) (es : List Entry) → length (entries_text (qbf_of f) es) ≤ max_line * max_listed → length (certificate_text (qbf_of f) v es) < 2 ^ 64
certificate_short f v es short =
    let claim = claim_text (qbf_of f) v in
    let entries = entries_text (qbf_of f) es in
    omega (arith, claim_short f v, length-append claim (10 ∷ (codes "level set reply" ++ (10 ∷ entries))))
