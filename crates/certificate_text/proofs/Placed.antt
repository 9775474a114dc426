-- One text put after another.
use Rattle.std.proofs.Common.{◌≡◌, ℕ, zero, suc, ◌+◌, ◌-◌, ◌/◌, ◌%◌, ◌^◌, ◌<◌, ◌≤◌, List, [], ◌∷◌, ◌++◌, length, min, get_or, take, drop, set, Some, None, Ok, Err, codes, decimal, sym, refl, ap, ◌∙◌, subst, add-zero, zero-add, arith}
use Rattle.std.specs.List.{slice_get}
use Rattle.std.proofs.lemmas.Option.{slice_get-get_or}
use Rattle.std.proofs.lemmas.Bool.{le-leb, lt-leb, eq-eqb, ne_eqb}
use Rattle.std.proofs.lemmas.List.{append_assoc, length-append, length_push, length-set, take_more_set, take-append-drop, drop-set-lt, at_drop_more}
use Rattle.std.proofs.lemmas.Fmt.{decimal_digit, decimal_step}
use Rattle.faults.specs.declared.cause.Cause.TheVariants.{BufferShort}
use Rattle.faults.specs.declared.fault.Fault.{Fault}
use Rattle.formula_text.specs.Parse.{fault}
use Rattle.truth.specs.declared.verdict.Verdict.{Verdict}
use Rattle.truth.specs.Syntax.{Qbf}
use Rattle.entries.specs.declared.entry.Entry.{Entry}
use Rattle.certificate_text.specs.declared.writer.Writer.{Writer}
use Rattle.certificate_text.specs.CertificateText.{clauses_from, listed_numbers, binary_text, spaced, entry_text, claim_text, entries_text, certificate_text, writing, written}
use Rattle.certificate_text.specs.Writing.{put, state, Wrote, max_line}

pub put-append : (a b : List ℕ) (s : ℕ × List ℕ) → put (a ++ b) s ≡ put b (put a s)
put-append [] b s = refl
put-append (x ∷ a) b s = put-append a b (min (s.0 + 1) (2 ^ 64 - 1), set s.1 s.0 x)

pub wrote_more : {o m n : Writer} {a b : List ℕ} → Wrote o m a → Wrote m n b → Wrote o n (a ++ b)
wrote_more {o} {m} {n} {a} {b} p q = record { same = q.same ∙ p.same; after = q.after ∙ ap (put b) p.after ∙ sym (put-append a b (state o)) }

-- The same text in other words.
pub wrote_same : {o n : Writer} {a b : List ℕ} → Wrote o n a → a ≡ b → Wrote o n b
wrote_same {o} {n} p e = subst (Wrote o n) e p

-- The first part of what is left was put: the rest, put behind it, still gives the whole.
pub left_more : {o n : Writer} (left first rest : List ℕ) (whole : ℕ × List ℕ) → left ≡ first ++ rest → Wrote o n first → put left (state o) ≡ whole → put rest (state n) ≡ whole
left_more {o} {n} left first rest whole e w s = ap (put rest) w.after ∙ sym (put-append first rest (state o)) ∙ ap (λ t. put t (state o)) (sym e) ∙ s

-- A text whose length the count holds is counted, and one that has room stands in the buffer, with all else as it was.

one_more : (n : ℕ) → n + 1 < 2 ^ 64 → min (n + 1) (2 ^ 64 - 1) ≡ n + 1
one_more n h = omega arith

put_count : (at : ℕ) (text buffer : List ℕ) → at + length text < 2 ^ 64 → (put text (at, buffer)).0 ≡ at + length text
put_count at [] buffer room = sym (add-zero at)
put_count at (b ∷ bs) buffer room =
    let next : at + 1 + length bs ≡ at + length (b ∷ bs) = omega arith in
    ap (λ k. (put bs (k, set buffer at b)).0) (one_more at (omega arith)) ∙ put_count (at + 1) bs (set buffer at b) (omega arith) ∙ next

put_within : (at : ℕ) (text buffer : List ℕ) → at + length text < 2 ^ 64 → at + length text ≤ length buffer → (put text (at, buffer)).1 ≡ take at buffer ++ (text ++ drop (at + length text) buffer)
put_within at [] buffer low room = sym (ap (λ k. take at buffer ++ drop k buffer) (add-zero at) ∙ take-append-drop at buffer)
put_within at (b ∷ bs) buffer low room =
    let sets = length-set buffer at b in
    let next : at + 1 + length bs ≡ at + length (b ∷ bs) = omega arith in
    ap (λ k. (put bs (k, set buffer at b)).1) (one_more at (omega arith))
    ∙ put_within (at + 1) bs (set buffer at b) (omega arith) (omega arith)
    ∙ ap (λ t. t ++ (bs ++ drop (at + 1 + length bs) (set buffer at b))) (take_more_set buffer at b (omega arith))
    ∙ append_assoc (take at buffer) (b ∷ []) _
    ∙ ap (λ t. take at buffer ++ (b ∷ (bs ++ t))) (drop-set-lt (at + 1 + length bs) buffer at b (omega arith) ∙ ap (λ k. drop k buffer) next)

-- Decimal digits.

pub last_digit : (n : ℕ) → n < 10 → (48 + n % 10) ∷ [] ≡ decimal n
last_digit n h = let same : n % 10 ≡ n = omega arith in rw (same, decimal_digit n h)

pub digit_more : (n : ℕ) → 10 ≤ n → n < 2 ^ 32 → decimal (n / 10) ++ ((48 + n % 10) ∷ []) ≡ decimal n
digit_more n h l = sym (decimal_step n h (omega arith))

-- Binary digits.

pub length-binary : (width v : ℕ) → length (binary_text width v) ≡ width
length-binary zero v = refl
length-binary (suc k) v = let r = length-binary k (v / 2) in omega (arith, length_push (binary_text k (v / 2)) (48 + v % 2))

pub binary_more : (width v : ℕ) → 0 < width → binary_text (width - 1) (v / 2) ++ ((48 + v % 2) ∷ []) ≡ binary_text width v
binary_more zero v h = absurd (omega arith)
binary_more (suc k) v h = let down : suc k - 1 ≡ k = omega arith in ap (λ j. binary_text j (v / 2) ++ ((48 + v % 2) ∷ [])) down

-- Clauses of a set.

pub clause_held : (before : List ℕ) (k n s : ℕ) → k < n → s % 2 ≡ 1
    → listed_numbers before (clauses_from (k + 1) (n - k) s) ≡ (before ++ decimal (k + 1)) ++ listed_numbers (codes ",") (clauses_from (k + 1 + 1) (n - (k + 1)) (s / 2))
clause_held before k n s h odd =
    let down : n - k ≡ suc (n - (k + 1)) = omega arith in
    ap (λ j. listed_numbers before (clauses_from (k + 1) j s)) down
    ∙ rw (eq-eqb (s % 2) 1 odd) (sym (append_assoc before (decimal (k + 1)) (listed_numbers (codes ",") (clauses_from (k + 1 + 1) (n - (k + 1)) (s / 2)))))

pub clause_not_held : (before : List ℕ) (k n s : ℕ) → k < n → (s % 2 ≡ 1 → ⊥)
    → listed_numbers before (clauses_from (k + 1) (n - k) s) ≡ listed_numbers before (clauses_from (k + 1 + 1) (n - (k + 1)) (s / 2))
clause_not_held before k n s h even =
    let down : n - k ≡ suc (n - (k + 1)) = omega arith in
    ap (λ j. listed_numbers before (clauses_from (k + 1) j s)) down ∙ rw (ne_eqb (s % 2) 1 even)

-- Lines of entries.

pub entries_step : (f : Qbf) (es : List Entry) (k : ℕ) (e : Entry) → k < length es → Some e ≡ slice_get es k → entries_text f (drop k es) ≡ (entry_text f e ++ (10 ∷ [])) ++ entries_text f (drop (k + 1) es)
entries_step f es k e h n =
    let same : get_or es k e ≡ e = let p = n ∙ slice_get-get_or es k e h in cc in
    at_drop_more (entries_text f) es k e h
    ∙ ap (λ x. entry_text f x ++ (10 ∷ entries_text f (drop (k + 1) es))) same
    ∙ sym (append_assoc (entry_text f e) (10 ∷ []) (entries_text f (drop (k + 1) es)))

pub line_added : (f : Qbf) (es : List Entry) (k : ℕ) (e : Entry) → k < length es → Some e ≡ slice_get es k → length (entry_text f e) < max_line
    → length (entries_text f (drop k es)) ≤ max_line + length (entries_text f (drop (k + 1) es))
line_added f es k e h n short =
    let whole = ap length (entries_step f es k e h n) ∙ length-append (entry_text f e ++ (10 ∷ [])) (entries_text f (drop (k + 1) es)) in
    omega (arith, length_push (entry_text f e) 10)

-- An entry is told at each place before the end.
pub entries_told : {A : Type 0} (es : List Entry) (k : ℕ) → k < length es → slice_get es k ≡ None → A
entries_told [] k h n = absurd (omega arith)
entries_told (e ∷ es) k h n = let p = sym n ∙ slice_get-get_or (e ∷ es) k e h in absurd (let z : ◌≡◌ {A = ℕ} 0 1 = cc in omega arith)

-- Three fields and byte 10, put one after another.
pub fields_wrote : {w0 w1 w2 w3 w4 w5 w6 : Writer} {a b c : List ℕ} → Wrote w0 w1 a → Wrote w1 w2 (32 ∷ []) → Wrote w2 w3 b → Wrote w3 w4 (32 ∷ []) → Wrote w4 w5 c → Wrote w5 w6 (10 ∷ [])
    → Wrote w0 w6 (spaced a b c ++ (10 ∷ []))
fields_wrote {a = a} {b = b} {c = c} p q r s t u =
    let all = wrote_more (wrote_more (wrote_more (wrote_more (wrote_more p q) r) s) t) u in
    let same : ((((a ++ (32 ∷ [])) ++ b) ++ (32 ∷ [])) ++ c) ++ (10 ∷ []) ≡ spaced a b c ++ (10 ∷ []) = simp append_assoc in
    wrote_same all same

-- The two headings, the claim between them and the lines of entries, put one after another.
pub certificate_wrote : {w0 w1 w2 w3 w4 : Writer} (f : Qbf) (v : Verdict) (es : List Entry) → Wrote w0 w1 (codes "verdict blocks clauses\n") → Wrote w1 w2 (claim_text f v ++ (10 ∷ []))
    → Wrote w2 w3 (codes "level set reply\n") → Wrote w3 w4 (entries_text f es) → Wrote w0 w4 (certificate_text f v es)
certificate_wrote f v es p q r s =
    let all = wrote_more (wrote_more (wrote_more p q) r) s in
    let same : ((codes "verdict blocks clauses\n" ++ (claim_text f v ++ (10 ∷ []))) ++ codes "level set reply\n") ++ entries_text f es ≡ certificate_text f v es = simp append_assoc in
    wrote_same all same

-- A writer of a whole text that began at the front of a buffer, whether the text has room or not.
module _ (text : List ℕ) (low : length text < 2 ^ 64) {o n : Writer} (wrote : Wrote o n text) (front : o.count ≡ 0) where
  pub wrote_count : n.count ≡ length text
  wrote_count =
      ap (λ s. s.0) wrote.after ∙ ap (λ k. (put text (k, o.out.now)).0) front ∙ put_count 0 text o.out.now (omega arith) ∙ zero-add (length text)

  pub wrote_whole : (buffer : List ℕ) → o.out.now ≡ buffer → length text ≤ length buffer → n.out.now ≡ written text buffer
  wrote_whole buffer same room =
      ap (λ s. s.1) wrote.after ∙ ap (λ k. (put text (k, o.out.now)).1) front ∙ ap (λ b. (put text (0, b)).1) same
      ∙ rw (le-leb (length text) (length buffer) room) (put_within 0 text buffer (omega arith) (omega arith) ∙ ap (λ k. text ++ drop k buffer) (zero-add (length text)))

module _ (text buffer : List ℕ) (n : ℕ) (count : n ≡ length text) where
  pub short_refused : (r : Fault) → r ≡ fault (BufferShort n) 0 → length buffer < n → Err r ≡ writing text buffer
  short_refused r e h = rw (e, count, lt-leb (length text) (length buffer) (omega arith))

  pub short_untouched : length buffer < n → buffer ≡ written text buffer
  short_untouched h = rw (lt-leb (length text) (length buffer) (omega arith))

  pub long_answered : n ≤ length buffer → Ok n ≡ writing text buffer
  long_answered h = rw (count, le-leb (length text) (length buffer) (omega arith))
