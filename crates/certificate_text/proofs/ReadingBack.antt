-- A text of the form of specs/Form is read as its certificate, and what is written has that form.
use Rattle.std.proofs.Common.{◌≡◌, ℕ, zero, suc, ◌+◌, ◌-◌, ◌^◌, ◌<◌, ◌≤◌, Bool, true, false, ◌&&◌, ltb, leb, List, [], ◌∷◌, ◌++◌, map, length, drop, Some, Ok, codes, decimal, sym, refl, ap, ◌∙◌, arith}
use Rattle.std.specs.List.{AllByRecursion}
use Rattle.std.proofs.lemmas.Slice.Eq.{bytes_eq-Decides}
use Rattle.std.proofs.lemmas.List.{append-nil, append_assoc, length-append}
use Rattle.std.proofs.ByRecursion.{All-append, All-weaker}
use Rattle.std.proofs.lemmas.Bool.{eq-eqb, leb-true, ltb-true, lt-ltb, and_parts, not-true, both_ways}
use Rattle.text.specs.Layout.{Without, Lines, Field, Spaced}
use Rattle.text.specs.Layout.Lines.{none, more}
use Rattle.text.specs.Layout.Spaced.{one, more as further}
use Rattle.text.proofs.Decimal.{numeral-decimal, decimal_field}
use Rattle.text.proofs.Layouts.{lines_unique, fields_unique}
use Rattle.truth.specs.declared.verdict.Verdict.{Verdict}
use Rattle.truth.specs.declared.verdict.Verdict.TheVariants.{True, False}
use Rattle.truth.specs.Places.{numbered}
use Rattle.truth.specs.Sides.{owes}
use Rattle.truth.specs.Syntax.{Block, Qbf}
use Rattle.truth.specs.Verdicts.{is_true, verdict_word}
use Rattle.truth.specs.WellFormed.{WellFormed, all, wide}
use Rattle.formula_text.specs.Form.{Pairwise}
use Rattle.entries.specs.declared.entry.Entry.{Entry}
use Rattle.entries.specs.declared.entry.Reply.{Reply}
use Rattle.entries.specs.declared.entry.Reply.TheVariants.{None as NoReply, Value}
use Rattle.entries.specs.Fitting.{replies, fits}
use Rattle.certificate_text.specs.ReplyField.{reply_formed, reply_of}
use Rattle.certificate_text.specs.Parse.{take_words, heading_line, entry_words, verdict_line, verdict_of, read_entry, entry_lines, from, parse_lines, parse_certificate}
use Rattle.certificate_text.specs.CertificateText.{set_text, reply_text, width_at, spaced, entry_text, claim_text, join_lines, certificate_lines, certificate_text}
use Rattle.certificate_text.specs.Form.{ThreeFields, ClaimLine, EntryLine, CertificateForm}
use Rattle.certificate_text.specs.RoundTrip.{ReadsBack}
use Rattle.certificate_text.proofs.FieldTexts.{Solid, solid_field, decimal_solid, set_taken, set_field_lem, value_field, value_formed, value_read}

-- Headings.

words_read : (words : List (List ℕ)) → take_words words words ≡ Some tt
words_read [] = refl
words_read (w ∷ ws) = rw ((bytes_eq-Decides w w).1 refl) (words_read ws)

heading_read : (n : ℕ) (words : List (List ℕ)) (line : List ℕ) (ls : List (List ℕ)) → Spaced words line → heading_line n words (line ∷ ls) ≡ Ok ls
heading_read n words line ls s = rw (fields_unique s, words_read words)

-- Lines that are written.

lines_joined : (ls : List (List ℕ)) → AllByRecursion (Without 10) ls → Lines (join_lines ls) ls
lines_joined [] w = none
lines_joined (l ∷ ls) w = more w.0 (lines_joined ls w.1)

solid_line : (bs : List ℕ) → Solid bs → Without 10 bs
solid_line bs s = All-weaker (λ b. 33 ≤ b) (λ b. b ≡ 10 → ⊥) (λ b h e. omega arith) bs s

spaced-written : (a b c : List ℕ) → Field a × Solid a → Field b × Solid b → Field c × Solid c → ThreeFields a b c (spaced a b c) × Without 10 (spaced a b c)
spaced-written a b c p q r = (
  further 0 p.0 (further 0 q.0 (one r.0)),
  All-append (λ x. x ≡ 10 → ⊥) a _ (solid_line a p.1) ((λ e. omega arith), All-append (λ x. x ≡ 10 → ⊥) b _ (solid_line b q.1) ((λ e. omega arith), solid_line c r.1)),
)

solid_tested : (w : List ℕ) → all (leb 33) w ≡ true → Solid w
solid_tested [] h = tt
solid_tested (b ∷ w) h = let p = and_parts (leb 33 b) _ h in (leb-true 33 b p.0, solid_tested w p.1)

-- A word of fixed bytes.
word_text : (w : List ℕ) → (ltb 0 (length w) && all (leb 33) w) ≡ true → Field w × Solid w
word_text w h = let p = and_parts (ltb 0 (length w)) _ h in let solid = solid_tested w p.1 in (solid_field w (ltb-true 0 _ p.0) solid, solid)

verdict_text : (v : Verdict) → Field (verdict_word v) × Solid (verdict_word v)
verdict_text True = word_text (codes "true") refl
verdict_text False = word_text (codes "false") refl

-- The line of the verdict.

verdict_word_lem : (v : Verdict) → verdict_of (verdict_word v) ≡ Some v
verdict_word_lem True = refl
verdict_word_lem False = refl

module _ (f : Qbf) (formed : WellFormed f) where
  blocks_low : length f.prefix < 10 ^ 9
  blocks_low = omega (arith, formed.few_blocks)

  clauses_low : length f.matrix < 10 ^ 9
  clauses_low = omega (arith, formed.few_clauses)

  claim_read : (v : Verdict) (line : List ℕ) (ls : List (List ℕ)) → ClaimLine f v line → verdict_line 2 f (line ∷ ls) ≡ Ok (v, ls)
  claim_read v line ls s =
      rw (fields_unique s, verdict_word_lem v, numeral-decimal _ blocks_low, numeral-decimal _ clauses_low, eq-eqb (length f.prefix) _ refl, eq-eqb (length f.matrix) _ refl)

-- Entry lines.

-- The block of an entry that fits.
pub record At (v : Bool) (bs : List Block) (level : ℕ) (r : Reply) : Type 0 where
  pub block : Block
  pub found : numbered bs level ≡ Some block
  pub due : replies v (block ∷ []) r ≡ true
  pub width : 1 ≤ length block.variables
  pub within : level ≤ length bs

block_at : (v : Bool) (bs : List Block) (level : ℕ) (r : Reply) → 1 ≤ level → replies v (drop (level - 1) bs) r ≡ true → all wide bs ≡ true → At v bs level r
block_at v bs zero r some d w = absurd (omega arith)
block_at v [] (suc i) r some d w = absurd (both_ways (replies v (drop (suc i - 1) []) r) (none_due (suc i - 1)) d)
  where
    none_due : (k : ℕ) → replies v (drop k []) r ≡ false
    none_due zero = refl
    none_due (suc k) = refl
block_at v (b ∷ bs) (suc zero) r some d w =
    record { block = b; found = refl; due = alone r d; width = leb-true _ _ (and_parts (leb 1 (length b.variables)) _ (and_parts (wide b) _ w).0).0; within = omega arith }
  where
    alone : (r : Reply) → replies v (b ∷ bs) r ≡ true → replies v (b ∷ []) r ≡ true
    alone NoReply d = d
    alone (Value x) d = d
block_at v (b ∷ bs) (suc (suc i)) r some d w =
    let down : suc (suc i) - 1 ≡ suc i = omega arith in
    let next : suc i - 1 ≡ i = omega arith in
    let d' : replies v (drop (suc i - 1) bs) r ≡ true = ap (λ k. replies v (drop k bs) r) next ∙ ap (λ k. replies v (drop k (b ∷ bs)) r) (sym down) ∙ d in
    let at = block_at v bs (suc i) r (omega arith) d' (and_parts (wide b) _ w).1 in
    record { block = at.block; found = at.found; due = at.due; width = at.width; within = omega (arith, at.within) }

-- A reply as it is due.
reply_formed_lem : (v : Bool) (b : Block) (r : Reply) → 1 ≤ length b.variables → reply_formed (reply_text (length b.variables) r) ≡ true
reply_formed_lem v b NoReply some = refl
reply_formed_lem v b (Value x) some = value_formed (length b.variables) x some

reply_read : (v : Bool) (b : Block) (r : Reply) → 1 ≤ length b.variables → replies v (b ∷ []) r ≡ true → reply_of (owes v b.quantifier) (length b.variables) (reply_text (length b.variables) r) ≡ Some r
reply_read v b NoReply some d = rw (not-true (owes v b.quantifier) d)
reply_read v b (Value x) some d =
    let p = and_parts (owes v b.quantifier) _ d in
    rw p.0 (value_read (length b.variables) x some (ltb-true x _ p.1))

reply_field_lem : (width : ℕ) (r : Reply) → 1 ≤ width → Field (reply_text width r) × Solid (reply_text width r)
reply_field_lem width NoReply some = (solid_field (codes "-") (omega arith) (omega arith, tt), (omega arith, tt))
reply_field_lem width (Value x) some = value_field width x some

module _ (f : Qbf) (formed : WellFormed f) (v : Verdict) (e : Entry) (fit : fits (is_true v) f e ≡ true) where
  level_some : 1 ≤ e.level
  level_some = leb-true 1 e.level (and_parts (leb 1 e.level) _ fit).0

  set_low : e.set < 2 ^ length f.matrix
  set_low = ltb-true e.set _ (and_parts (ltb e.set (2 ^ length f.matrix)) _ (and_parts (leb 1 e.level) _ fit).1).0

  at : At (is_true v) f.prefix e.level e.reply
  at = block_at (is_true v) f.prefix e.level e.reply level_some (and_parts (ltb e.set (2 ^ length f.matrix)) _ (and_parts (leb 1 e.level) _ fit).1).1 formed.widths

  level_low : e.level < 10 ^ 9
  level_low = omega (arith, at.within, formed.few_blocks)

  width_is : width_at f e.level ≡ length at.block.variables
  width_is = rw (at.found, width_at)

  entry_read : (n : ℕ) (line : List ℕ) → EntryLine f e line → read_entry n f (is_true v) line ≡ Ok e
  entry_read n line s =
      let s' : ThreeFields (decimal e.level) (set_text (length f.matrix) e.set) (reply_text (length at.block.variables) e.reply) line = rw (← width_is) s in
      rw (
        fields_unique s',
        numeral-decimal _ level_low,
        set_taken (length f.matrix) e.set formed.few_clauses set_low _,
        reply_formed_lem (is_true v) at.block e.reply at.width,
        at.found,
        reply_read (is_true v) at.block e.reply at.width at.due,
      )

  -- The fields of the written line.
  level_text : Field (decimal e.level) × Solid (decimal e.level)
  level_text = (decimal_field _ level_low, decimal_solid _ level_low)

  set_text_lem : Field (set_text (length f.matrix) e.set) × Solid (set_text (length f.matrix) e.set)
  set_text_lem = set_field_lem (length f.matrix) e.set formed.few_clauses set_low

  reply_text_lem : Field (reply_text (width_at f e.level) e.reply) × Solid (reply_text (width_at f e.level) e.reply)
  reply_text_lem = reply_field_lem (width_at f e.level) e.reply (rw width_is at.width)

  entry_written : EntryLine f e (entry_text f e) × Without 10 (entry_text f e)
  entry_written = spaced-written _ _ _ level_text set_text_lem reply_text_lem

-- All lines.

module _ (f : Qbf) (formed : WellFormed f) (v : Verdict) where
  entries_read : (n places : ℕ) (before es : List Entry) (lines : List (List ℕ)) → Pairwise (EntryLine f) es lines → all (fits (is_true v) f) es ≡ true → length (before ++ es) ≤ places
      → entry_lines n f v places before lines ≡ record { ending = Ok (record { verdict = v; count = length (before ++ es) }); entries = before ++ es }
  entries_read n places before [] [] p h room = rw (append-nil before)
  entries_read n places before [] (l ∷ lines) p h room = elim p [ ]
  entries_read n places before (e ∷ es) [] p h room = elim p [ ]
  entries_read n places before (e ∷ es) (l ∷ lines) p h room =
      let q = and_parts (fits (is_true v) f e) _ h in
      let next = append_assoc before (e ∷ []) es in
      let more : length before < places = omega (arith, simp length-append at room) in
      let step : entry_lines n f v places before (l ∷ lines) ≡ entry_lines (n + 1) f v places (before ++ e ∷ []) lines = rw (entry_lines, entry_read f formed v e q.0 n l p.0, lt-ltb (length before) places more) in
      step ∙ entries_read (n + 1) places (before ++ e ∷ []) es lines p.1 q.1 (rw next room) ∙ ap (λ xs. record { ending = Ok (record { verdict = v; count = length xs }); entries = xs }) next

  -- With places enough, a certificate's text is read as that certificate.
  pub form_read : (es : List Entry) (places : ℕ) (text : List ℕ) → CertificateForm f v es text → length es ≤ places
      → parse_certificate f places text ≡ record { ending = Ok (record { verdict = v; count = length es }); entries = es }
  form_read es places text t room =
      ap (parse_lines f places) (lines_unique t.lines)
      ∙ ap (λ r. from r (λ second. from (verdict_line 2 f second) (λ p. from (heading_line 3 entry_words p.1) (λ ls. entry_lines 4 f p.0 places [] ls)))) (heading_read 1 _ t.first _ t.headed)
      ∙ ap (λ r. from r (λ p. from (heading_line 3 entry_words p.1) (λ ls. entry_lines 4 f p.0 places [] ls))) (claim_read f formed v t.claim _ t.claimed)
      ∙ ap (λ r. from r (λ ls. entry_lines 4 f v places [] ls)) (heading_read 3 _ t.third _ t.titled)
      ∙ entries_read 4 places [] es t.listed t.entered t.fitting room

  entries_written : (es : List Entry) → all (fits (is_true v) f) es ≡ true → Pairwise (EntryLine f) es (map (entry_text f) es) × AllByRecursion (Without 10) (map (entry_text f) es)
  entries_written [] h = (tt, tt)
  entries_written (e ∷ es) h =
      let p = and_parts (fits (is_true v) f e) _ h in
      let line = entry_written f formed v e p.0 in
      let rest = entries_written es p.1 in
      ((line.0, rest.0), (line.1, rest.1))

  -- The text that is written is that of the certificate.
  form_written : (es : List Entry) → all (fits (is_true v) f) es ≡ true → CertificateForm f v es (certificate_text f v es)
  form_written es fit =
      let claim = spaced-written (verdict_word v) _ _ (verdict_text v) (decimal_field _ (blocks_low f formed), decimal_solid _ (blocks_low f formed)) (decimal_field _ (clauses_low f formed), decimal_solid _ (clauses_low f formed)) in
      let first = spaced-written _ _ _ (word_text (codes "verdict") refl) (word_text (codes "blocks") refl) (word_text (codes "clauses") refl) in
      let third = spaced-written _ _ _ (word_text (codes "level") refl) (word_text (codes "set") refl) (word_text (codes "reply") refl) in
      let entries = entries_written es fit in
      record {
        first = codes "verdict blocks clauses";
        claim = claim_text f v;
        third = codes "level set reply";
        listed = map (entry_text f) es;
        lines = lines_joined (certificate_lines f v es) (first.1, (claim.1, (third.1, entries.1)));
        headed = first.0;
        claimed = claim.0;
        titled = third.0;
        entered = entries.0;
        fitting = fit;
      }

pub reads_back : ReadsBack
reads_back f v es places formed fit room = form_read f formed v es places (certificate_text f v es) (form_written f formed v es fit) room
