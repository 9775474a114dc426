-- The lines that are read are those of specs/Form.
use Rattle.std.proofs.Common.{◌≡◌, ℕ, ◌+◌, ◌≤◌, Bool, true, ◌&&◌, eqb, ltb, List, [], ◌∷◌, ◌++◌, length, Some, Ok, Err, codes, decimal, Result, sym, refl, ap, ◌∙◌, subst, ap₂, inl, inr, append_assoc, append-nil, arith}
use Rattle.std.specs.Option.{ok_or}
use Rattle.std.specs.Str.{bytes_eq}
use Rattle.std.proofs.lemmas.Slice.Eq.{bytes_eq-Decides}
use Rattle.std.proofs.lemmas.List.{length-append}
use Rattle.std.proofs.lemmas.Bool.{cases_Bool, eqb-true, ltb-true, and_parts}
use Rattle.faults.specs.declared.cause.Cause.TheVariants.{TableFull}
use Rattle.faults.specs.declared.fault.Fault.{Fault}
use Rattle.text.specs.Rows.{lines_of, fields_of}
use Rattle.text.specs.Taken.{take_number, ended}
use Rattle.text.specs.Layout.{Lines, Spaced}
use Rattle.text.proofs.Layouts.{fields_made, lines_made}
use Rattle.truth.specs.declared.verdict.Verdict.{Verdict}
use Rattle.truth.specs.declared.verdict.Verdict.TheVariants.{True, False}
use Rattle.truth.specs.Places.{numbered}
use Rattle.truth.specs.Sides.{owes}
use Rattle.truth.specs.Syntax.{Qbf}
use Rattle.truth.specs.Verdicts.{is_true, verdict_word}
use Rattle.truth.specs.WellFormed.{all}
use Rattle.formula_text.specs.Form.{Pairwise}
use Rattle.formula_text.specs.Parse.{fault}
use Rattle.formula_text.proofs.LiteralForms.{none-some, then_some, cond_cases, ended-made}
use Rattle.formula_text.proofs.LineForms.{err_ok, onward_ok, number_taken}
use Rattle.entries.specs.declared.entry.Entry.{Entry}
use Rattle.entries.specs.Fitting.{fits}
use Rattle.certificate_text.specs.declared.read.Certificate.{Certificate}
use Rattle.certificate_text.specs.declared.heading.Claim.{Claim}
use Rattle.certificate_text.specs.SetField.{take_set}
use Rattle.certificate_text.specs.ReplyField.{reply_formed, reply_of, take_reply}
use Rattle.certificate_text.specs.Parse.{take_word, take_words, heading_of, heading_line, verdict_words, entry_words, verdict_of, take_verdict, claim_of, read_verdict, verdict_line, EntryFields, entry_fields, read_entry, entry_lines, stopped, parse_certificate}
use Rattle.certificate_text.specs.CertificateText.{set_text, reply_text, width_at}
use Rattle.certificate_text.specs.Form.{ThreeFields, ClaimLine, EntryLine, CertificateForm}
use Rattle.certificate_text.proofs.EntryFits.{ok_or_lem, reply_formed_lem, entries_fit, from_ok}
use Rattle.certificate_text.proofs.FieldForms.{set_taken_made, reply_made}

word_taken : (word : List ℕ) (ws us : List (List ℕ)) → take_word word ws ≡ Some us → ws ≡ word ∷ us
word_taken word [] us e = absurd (none-some e)
word_taken word (w ∷ ws) us e =
    cond_cases (bytes_eq w word) _ _ _ e (λ t e. let is : ws ≡ us = cc in ap₂ (λ x t. x ∷ t) ((bytes_eq-Decides w word).0 t) is) (λ _ e. absurd (none-some e))

none_left : (ws : List (List ℕ)) (x : Unit {0}) → ended ws ≡ Some x → ws ≡ []
none_left [] x e = refl
none_left (w ∷ ws) x e = absurd (none-some e)

-- Headings.

words_taken : (words ws : List (List ℕ)) (x : Unit {0}) → take_words words ws ≡ Some x → ws ≡ words
words_taken [] ws x e = none_left ws x e
words_taken (word ∷ words) ws x e =
    then_some (take_word word ws) _ x e (λ us p e. word_taken word ws us p ∙ ap (λ t. word ∷ t) (words_taken words us x e))

heading_made : (word : List ℕ) (words : List (List ℕ)) (line : List ℕ) (x : Unit {0}) → heading_of (word ∷ words) line ≡ Some x → Spaced (word ∷ words) line
heading_made word words line x e =
    then_some (fields_of line) _ x e (λ fs f e. fields_made line word words (f ∙ ap Some (words_taken (word ∷ words) fs x e)))

pub heading_accepted : {P : Type 0} (n : ℕ) (word : List ℕ) (words lines rest : List (List ℕ)) → heading_line n (word ∷ words) lines ≡ Ok rest → ((l : List ℕ) → lines ≡ l ∷ rest → Spaced (word ∷ words) l → P) → P
heading_accepted n word words [] rest e on = absurd (err_ok e)
heading_accepted n word words (l ∷ ls) rest e on =
    onward_ok (ok_or (heading_of (word ∷ words) l) _) _ rest e (λ x h e.
    let is : ls ≡ rest = cc in on l (ap (λ t. l ∷ t) is) (heading_made word words l x (ok_or_lem (heading_of (word ∷ words) l) _ x h)))

-- The line of the verdict.

word_made : (w : List ℕ) (v : Verdict) → verdict_of w ≡ Some v → w ≡ verdict_word v
word_made w v e =
    cond_cases (bytes_eq w (codes "true")) _ _ _ e (λ t e. let is : True ≡ v = cc in rw (← is) ((bytes_eq-Decides w (codes "true")).0 t))
    (λ _ e. cond_cases (bytes_eq w (codes "false")) _ _ _ e (λ t e. let is : False ≡ v = cc in rw (← is) ((bytes_eq-Decides w (codes "false")).0 t)) (λ _ e. absurd (none-some e)))

verdict_taken : (ws : List (List ℕ)) (v : Verdict × List (List ℕ)) → take_verdict ws ≡ Some v → ws ≡ verdict_word v.0 ∷ v.1
verdict_taken [] v e = absurd (none-some e)
verdict_taken (w ∷ ws) v e =
    then_some (verdict_of w) _ v e (λ x d e.
    let is : ◌≡◌ {A = Verdict × List (List ℕ)} (x, ws) v = cc in rw (← is) (ap (λ t. t ∷ ws) (word_made w x d)))

claim_made : (line : List ℕ) (m : Claim) → claim_of line ≡ Some m → ThreeFields (verdict_word m.verdict) (decimal m.blocks) (decimal m.clauses) line
claim_made line m e =
    then_some (fields_of line) _ m e (λ fs f e. then_some (take_verdict fs) _ m e (λ v p e. then_some (take_number v.1) _ m e (λ n q e. then_some (take_number n.1) _ m e (λ c r e.
    let d = ended-made c.1 _ m e in
    let is : fs ≡ verdict_word v.0 ∷ (decimal n.0 ∷ (decimal c.0 ∷ [])) =
    verdict_taken fs v p ∙ ap (λ t. verdict_word v.0 ∷ t) (number_taken v.1 n q ∙ ap (λ t. decimal n.0 ∷ t) (number_taken n.1 c r ∙ ap (λ t. decimal c.0 ∷ t) d.0)) in
    rw (← d.1) (fields_made line _ _ (f ∙ ap Some is))))))

pub verdict_accepted : {P : Type 0} (n : ℕ) (f : Qbf) (lines : List (List ℕ)) (v : Verdict × List (List ℕ)) → verdict_line n f lines ≡ Ok v → ((l : List ℕ) → lines ≡ l ∷ v.1 → ClaimLine f v.0 l → P) → P
verdict_accepted n f [] v e on = absurd (err_ok e)
verdict_accepted n f (l ∷ ls) v e on =
    onward_ok (read_verdict n f l) _ v e (λ x r e.
    let is : ◌≡◌ {A = Verdict × List (List ℕ)} (x, ls) v = cc in
    onward_ok (ok_or (claim_of l) _) _ x r (λ m h r.
    cond_cases (eqb m.blocks (length f.prefix) && eqb m.clauses (length f.matrix)) _ _ _ r (λ t r.
    let p = and_parts (eqb m.blocks (length f.prefix)) _ t in
    let same : m.verdict ≡ v.0 = let k : m.verdict ≡ x = cc in k ∙ ap (λ q. q.0) is in
    let line = claim_made l m (ok_or_lem (claim_of l) _ m h) in
    on l (ap (λ q. l ∷ q.1) is) (rw (same, eqb-true _ _ p.0, eqb-true _ _ p.1) at line)) (λ _ r. absurd (err_ok r))))

-- Entry lines.

reply_taken : (ws : List (List ℕ)) (r : List ℕ × List (List ℕ)) → take_reply ws ≡ Some r → ws ≡ r.0 ∷ r.1
reply_taken [] r e = absurd (none-some e)
reply_taken (w ∷ ws) r e =
    cond_cases (reply_formed w) _ _ _ e (λ t e. let is : ◌≡◌ {A = List ℕ × List (List ℕ)} (w, ws) r = cc in ap (λ q. q.0 ∷ q.1) is) (λ _ e. absurd (none-some e))

fields_are : (highest : ℕ) (line : List ℕ) (e : EntryFields) (s : ℕ) → entry_fields highest line ≡ Some e → e.set ≡ Some s → ThreeFields (decimal e.level) (set_text highest s) e.reply line × (reply_formed e.reply ≡ true)
fields_are highest line e s k set_is =
    then_some (fields_of line) _ e k (λ fs f k. then_some (take_number fs) _ e k (λ l p k. then_some (take_set highest l.1) _ e k (λ t q k. then_some (take_reply t.1) _ e k (λ r u k.
    let d = ended-made r.1 _ e k in
    let set = set_taken_made highest l.1 t s q (ap (λ x. x.set) d.1 ∙ set_is) in
    let is : fs ≡ decimal l.0 ∷ (set_text highest s ∷ (r.0 ∷ [])) =
    number_taken fs l p ∙ ap (λ x. decimal l.0 ∷ x) (set ∙ ap (λ x. set_text highest s ∷ x) (reply_taken t.1 r u ∙ ap (λ x. r.0 ∷ x) d.0)) in
    rw (← d.1) (fields_made line _ _ (f ∙ ap Some is), reply_formed_lem t.1 r u)))))

entry_accepted : (n : ℕ) (f : Qbf) (v : Bool) (line : List ℕ) (e : Entry) → read_entry n f v line ≡ Ok e → EntryLine f e line
entry_accepted n f v line e k =
    onward_ok (ok_or (entry_fields (length f.matrix) line) _) _ e k (λ w ws k.
    then_some (numbered f.prefix w.level) _ e (ok_or_lem _ _ e k) (λ b bs k.
    then_some w.set _ e k (λ s ss k. then_some (reply_of _ _ w.reply) _ e k (λ r rs k.
    let is : ◌≡◌ {A = Entry} (record { level = w.level; set = s; reply = r }) e = cc in
    let fields = fields_are (length f.matrix) line w s (ok_or_lem (entry_fields (length f.matrix) line) _ w ws) ss in
    let width : width_at f w.level ≡ length b.variables = rw (bs, width_at) in
    let reply = reply_made (owes v b.quantifier) (length b.variables) w.reply r fields.1 rs ∙ ap (λ k. reply_text k r) (sym width) in
    rw (← is) (rw reply at fields.0)))))

pub entries_accepted : {P : Type 0} (n : ℕ) (f : Qbf) (v : Verdict) (places : ℕ) (before : List Entry) (lines : List (List ℕ)) (c : Certificate) → length before ≤ places → (entry_lines n f v places before lines).ending ≡ Ok c
    → ((es : List Entry) → Pairwise (EntryLine f) es lines → (entry_lines n f v places before lines).entries ≡ before ++ es → length (before ++ es) ≤ places → P) → P
entries_accepted n f v places before [] c room e on = on [] tt (sym (append-nil before)) (rw (append-nil before) room)
entries_accepted {P} n f v places before (l ∷ lines) c room e on = by (λ x m k. entries_accepted (n + 1) f v places (before ++ x ∷ []) lines c m k) (read_entry n f (is_true v) l) refl
  where
    by : ((x : Entry) → length (before ++ x ∷ []) ≤ places → (entry_lines (n + 1) f v places (before ++ x ∷ []) lines).ending ≡ Ok c
        → ((es : List Entry) → Pairwise (EntryLine f) es lines → (entry_lines (n + 1) f v places (before ++ x ∷ []) lines).entries ≡ (before ++ x ∷ []) ++ es → length ((before ++ x ∷ []) ++ es) ≤ places → P) → P)
        → (r : Result Entry Fault) → read_entry n f (is_true v) l ≡ r → P
    by again (Err d) k = absurd (err_ok (rw (entry_lines, k) at e))
    by again (Ok x) k =
        elim (cases_Bool (ltb (length before) places)) [
          | inl t ↦
              let step : entry_lines n f v places before (l ∷ lines) ≡ entry_lines (n + 1) f v places (before ++ x ∷ []) lines = rw (entry_lines, k, t) in
              let more : length (before ++ x ∷ []) ≤ places = omega (arith, length-append before (x ∷ []), ltb-true (length before) places t) in
              again x more (ap (λ p. p.ending) (sym step) ∙ e) (λ es p is m.
              let next = append_assoc before (x ∷ []) es in
              on (x ∷ es) (entry_accepted n f (is_true v) l x k, p) (ap (λ p. p.entries) step ∙ is ∙ next) (rw (← next) m))
          | inr t ↦
              let step : entry_lines n f v places before (l ∷ lines) ≡ stopped (fault TableFull n) before = rw (entry_lines, k, t) in
              absurd (err_ok (ap (λ p. p.ending) (sym step) ∙ e))
        ]

-- The text.

pub form_accepted : (f : Qbf) (places : ℕ) (text : List ℕ) (c : Certificate) → (parse_certificate f places text).ending ≡ Ok c →
    CertificateForm f c.verdict (parse_certificate f places text).entries text × (c.count ≤ places)
form_accepted f places text c e =
    from_ok (heading_line 1 verdict_words (lines_of text)) _ c e (λ second h i e. from_ok (verdict_line 2 f second) _ c e (λ v m j e. from_ok (heading_line 3 entry_words v.1) _ c e (λ lines t k e.
    heading_accepted 1 _ _ (lines_of text) second h (λ first first-is headed. verdict_accepted 2 f second v m (λ claim claim-is claimed. heading_accepted 3 _ _ v.1 lines t (λ third third-is titled.
    entries_accepted 4 f v.0 places [] lines c (omega arith) e (λ es entered entries-are room.
    let fit = entries_fit 4 f v.0 places [] lines refl in
    let told = fit.1 c e in
    let are : (parse_certificate f places text).entries ≡ es = ap (λ p. p.entries) (i ∙ j ∙ k) ∙ entries-are in
    let form : CertificateForm f v.0 es text = record {
      first = first;
      claim = claim;
      third = third;
      listed = lines;
      lines = subst (Lines text) (first-is ∙ ap (λ t. first ∷ t) (claim-is ∙ ap (λ t. claim ∷ t) third-is)) (lines_made text);
      headed = headed;
      claimed = claimed;
      titled = titled;
      entered = entered;
      fitting = ap (all (fits (is_true v.0) f)) (sym entries-are) ∙ fit.0;
    } in (
      subst (λ w. CertificateForm f w (parse_certificate f places text).entries text) (sym told.0) (subst (λ xs. CertificateForm f v.0 xs text) (sym are) form),
      omega (arith, told.1, ap length entries-are),
    ))))))))
