-- Every entry that is read fits the formula.
use Rattle.std.proofs.Common.{◌≡◌, ℕ, zero, suc, ◌+◌, ◌-◌, ◌*◌, ◌^◌, ◌<◌, ◌≤◌, Bool, true, cond, not, ◌&&◌, eqb, ltb, leb, List, [], ◌∷◌, ◌++◌, length, take, drop, IfOk, Some, None, Ok, Err, Option, Result, sym, refl, ap, ◌∙◌, subst, inl, inr, mul-le-mul_right, mul_assoc, mul_comm, pow-suc, arith}
use native.Mathlib.Nat.{pow-le-pow_right}
use Rattle.std.specs.List.{list_all}
use Rattle.std.specs.Option.{ok_or}
use Rattle.std.proofs.lemmas.List.{take_at}
use Rattle.std.proofs.lemmas.Bool.{ltb-true, leb-true, lt-ltb, le-leb, eqb-true, and_parts, and_from, or_cases, both_ways, cond_both}
use Rattle.faults.specs.declared.cause.Cause.TheVariants.{TableFull}
use Rattle.faults.specs.declared.fault.Fault.{Fault}
use Rattle.text.specs.Rows.{lines_of, fields_of}
use Rattle.text.specs.Taken.{take_number}
use Rattle.truth.specs.declared.verdict.Verdict.{Verdict}
use Rattle.truth.specs.Places.{numbered}
use Rattle.truth.specs.Sides.{owes}
use Rattle.truth.specs.Syntax.{Block, Qbf}
use Rattle.truth.specs.Verdicts.{is_true}
use Rattle.truth.specs.WellFormed.{all}
use Rattle.truth.proofs.Members.{all_append}
use Rattle.formula_text.specs.Parse.{fault}
use Rattle.formula_text.proofs.LiteralForms.{none-some, then_some, cond_cases, ended-made}
use Rattle.formula_text.proofs.LineForms.{err_ok, onward_ok}
use Rattle.entries.specs.declared.entry.Entry.{Entry}
use Rattle.entries.specs.declared.entry.Reply.{Reply}
use Rattle.entries.specs.declared.entry.Reply.TheVariants.{None as NoReply, Value}
use Rattle.entries.specs.Fitting.{replies, fits}
use Rattle.certificate_text.specs.declared.read.Certificate.{Certificate}
use Rattle.certificate_text.specs.SetField.{is_dash, clauses_of, ascending, set_of, set_up_to, take_set}
use Rattle.certificate_text.specs.ReplyField.{is_bit, reply_formed, binary, reply_of, take_reply}
use Rattle.certificate_text.specs.Parse.{EntryFields, entry_fields, read_entry, Parsed, entry_lines, stopped, filled, from, heading_line, verdict_words, entry_words, verdict_line, parse_certificate}
use Rattle.certificate_text.proofs.SetSteps.{twice}

-- A set of ascending clauses above `last` leaves room for one of all clauses up to it.
ascending-below : (highest last : ℕ) (cs : List ℕ) → last ≤ highest → ascending highest last cs ≡ true → set_of cs + 2 ^ last ≤ 2 ^ highest
ascending-below highest last [] l a = let p : 2 ^ last ≤ 2 ^ highest = pow-le-pow_right (omega arith) l in omega arith
ascending-below highest last (c ∷ cs) l a =
    let p = and_parts (ltb last c && leb c highest) _ a in
    let q = and_parts (ltb last c) _ p.0 in
    let more = ltb-true last c q.0 in
    let most = leb-true c highest q.1 in
    let rest = ascending-below highest c cs most p.1 in
    let down : 2 ^ last ≤ 2 ^ (c - 1) = pow-le-pow_right (omega arith) (omega arith) in
    omega (arith, twice c (omega arith))

pub set_below : (highest : ℕ) (cs : List ℕ) → ascending highest 0 cs ≡ true → set_of cs < 2 ^ highest
set_below highest cs a = omega (arith, ascending-below highest 0 cs (omega arith) a)

-- Binary digits write a number below the power of their count.
bit_low : (b : ℕ) → is_bit b ≡ true → b - 48 < 2
bit_low b h = elim (or_cases (eqb b 48) _ h) [ inl e ↦ omega (arith, eqb-true b 48 e) | inr e ↦ omega (arith, eqb-true b 49 e) ]

binary-below : (n : ℕ) (bs : List ℕ) → list_all is_bit bs ≡ true → binary n bs < (n + 1) * 2 ^ length bs
binary-below n [] h = omega arith
binary-below n (b ∷ bs) h =
    let p = and_parts (is_bit b) _ h in
    let low = bit_low b p.0 in
    let r = binary-below (n * 2 + (b - 48)) bs p.1 in
    let P = 2 ^ length bs in
    let q : n * 2 + (b - 48) + 1 ≤ (n + 1) * 2 = omega arith in
    let more : (n * 2 + (b - 48) + 1) * P ≤ (n + 1) * 2 * P = mul-le-mul_right P q in
    let two : (n + 1) * 2 ^ length (b ∷ bs) ≡ (n + 1) * 2 * P = ap (λ k. (n + 1) * k) (pow-suc 2 (length bs) ∙ mul_comm P 2) ∙ sym (mul_assoc (n + 1) 2 P) in
    omega arith

pub value_below : (bs : List ℕ) → list_all is_bit bs ≡ true → binary 0 bs < 2 ^ length bs
value_below bs h = omega (arith, binary-below 0 bs h)

-- The reply is as it is due.
reply_fits : (v : Bool) (b : Block) (bs : List Block) (w : List ℕ) (r : Reply) → reply_formed w ≡ true → reply_of (owes v b.quantifier) (length b.variables) w ≡ Some r → replies v (b ∷ bs) r ≡ true
reply_fits v b bs w r formed e =
    cond_cases (is_dash w) _ _ _ e
    (λ _ e. cond_cases (owes v b.quantifier) _ _ _ e (λ _ e. absurd (none-some e)) (λ o e.
    let is : NoReply ≡ r = cc in rw (← is) (ap not o)))
    (λ d e. cond_cases (owes v b.quantifier && eqb (length w) (length b.variables)) _ _ _ e
    (λ t e.
    let p = and_parts (owes v b.quantifier) _ t in
    let is : Value (binary 0 w) ≡ r = cc in
    let bits : list_all is_bit w ≡ true = elim (or_cases (is_dash w) _ formed) [ inl y ↦ absurd (both_ways (is_dash w) d y) | inr y ↦ (and_parts (ltb 0 (length w)) _ y).1 ] in
    let low = value_below w bits in
    rw (← is) (and_from _ _ p.0 (lt-ltb _ _ (rw (← eqb-true _ _ p.1) low))))
    (λ _ e. absurd (none-some e)))

-- The blocks from a level on begin with the block of that level.
drop-numbered : (bs : List Block) (level : ℕ) (b : Block) → numbered bs level ≡ Some b → (1 ≤ level) × ((rest : List Block) × (drop (level - 1) bs ≡ b ∷ rest))
drop-numbered bs zero b e = absurd (none-some e)
drop-numbered [] (suc i) b e = absurd (none-some e)
drop-numbered (x ∷ bs) (suc zero) b e = (omega arith, (bs, cc))
drop-numbered (x ∷ bs) (suc (suc i)) b e =
    let r = drop-numbered bs (suc i) b e in
    let down : suc (suc i) - 1 ≡ suc i = omega arith in
    let next : suc i - 1 ≡ i = omega arith in
    (omega arith, (r.1.0, ap (λ k. drop k (x ∷ bs)) down ∙ ap (λ k. drop k bs) (sym next) ∙ r.1.1))

pub reply_formed_lem : (ws : List (List ℕ)) (r : List ℕ × List (List ℕ)) → take_reply ws ≡ Some r → reply_formed r.0 ≡ true
reply_formed_lem [] r e = absurd (none-some e)
reply_formed_lem (w ∷ ws) r e =
    cond_cases (reply_formed w) _ _ _ e (λ t e. let is : ◌≡◌ {A = List ℕ × List (List ℕ)} (w, ws) r = cc in rw (← is) t) (λ _ e. absurd (none-some e))

set_taken_below : (highest : ℕ) (ws : List (List ℕ)) (p : Option ℕ × List (List ℕ)) (s : ℕ) → take_set highest ws ≡ Some p → p.0 ≡ Some s → s < 2 ^ highest
set_taken_below highest [] p s e k = absurd (none-some e)
set_taken_below highest (w ∷ ws) p s e k =
    then_some (clauses_of w) _ p e (λ cs _ e.
    let is : ◌≡◌ {A = Option ℕ × List (List ℕ)} (set_up_to highest cs, ws) p = cc in
    let got : set_up_to highest cs ≡ Some s = ap (λ q. q.0) is ∙ k in
    cond_cases (ascending highest 0 cs) _ _ _ got (λ a e. let same : set_of cs ≡ s = cc in rw (← same) (set_below highest cs a)) (λ _ e. absurd (none-some e)))

-- What the form of an entry line gives.
fields_sound : (highest : ℕ) (line : List ℕ) (e : EntryFields) (s : ℕ) → entry_fields highest line ≡ Some e → e.set ≡ Some s → (s < 2 ^ highest) × (reply_formed e.reply ≡ true)
fields_sound highest line e s k set_is =
    then_some (fields_of line) _ e k (λ fields _ k. then_some (take_number fields) _ e k (λ l _ k.
    then_some (take_set highest l.1) _ e k (λ p ps k. then_some (take_reply p.1) _ e k (λ r rs k.
    let is = (ended-made r.1 _ e k).1 in
    (set_taken_below highest l.1 p s ps (ap (λ x. x.set) is ∙ set_is), rw (← is) (reply_formed_lem p.1 r rs))))))

pub ok_or_lem : {A : Type 0} (o : Option A) (d : Fault) (x : A) → ok_or o d ≡ Ok x → o ≡ Some x
ok_or_lem None d x e = absurd (err_ok e)
ok_or_lem (Some y) d x e = cc

pub entry_fits : (n : ℕ) (f : Qbf) (v : Bool) (line : List ℕ) (e : Entry) → read_entry n f v line ≡ Ok e → fits v f e ≡ true
entry_fits n f v line e k =
    onward_ok (ok_or (entry_fields (length f.matrix) line) _) _ e k (λ w ws k.
    let formed = ok_or_lem (entry_fields (length f.matrix) line) _ w ws in
    then_some (numbered f.prefix w.level) _ e (ok_or_lem _ _ e k) (λ b bs k.
    then_some w.set _ e k (λ s ss k. then_some (reply_of _ _ w.reply) _ e k (λ r rs k.
    let is : ◌≡◌ {A = Entry} (record { level = w.level; set = s; reply = r }) e = cc in
    let sound = fields_sound (length f.matrix) line w s formed ss in
    let d = drop-numbered f.prefix w.level b bs in
    let reply = reply_fits v b d.1.0 w.reply r sound.1 rs in
    rw (← is) (and_from _ _ (le-leb 1 w.level d.0) (and_from _ _ (lt-ltb s _ sound.0) (rw d.1.1 reply)))))))

-- All entries fit, and an accepted text has as many as it tells.
abbrev Fit : Qbf → Verdict → Parsed → Type 0
Fit f v p = (all (fits (is_true v) f) p.entries ≡ true) × ((c : Certificate) → p.ending ≡ Ok c → (c.verdict ≡ v) × (c.count ≡ length p.entries))

pub entries_fit : (n : ℕ) (f : Qbf) (v : Verdict) (places : ℕ) (es : List Entry) (lines : List (List ℕ)) → all (fits (is_true v) f) es ≡ true → Fit f v (entry_lines n f v places es lines)
entries_fit n f v places es [] a = (a, λ c e. let is : ◌≡◌ {A = Certificate} (record { verdict = v; count = length es }) c = cc in (ap (λ x. x.verdict) (sym is), ap (λ x. x.count) (sym is)))
entries_fit n f v places es (l ∷ lines) a = by (λ e k. entries_fit (n + 1) f v places (es ++ e ∷ []) lines (pushed e (entry_fits n f (is_true v) l e k))) (read_entry n f (is_true v) l) refl
  where
    pushed : (e : Entry) → fits (is_true v) f e ≡ true → all (fits (is_true v) f) (es ++ e ∷ []) ≡ true
    pushed e h = all_append (fits (is_true v) f) es (e ∷ []) ∙ and_from _ _ a (and_from _ _ h refl)

    by : ((e : Entry) → read_entry n f (is_true v) l ≡ Ok e → Fit f v (entry_lines (n + 1) f v places (es ++ e ∷ []) lines)) → (r : Result Entry Fault) → read_entry n f (is_true v) l ≡ r → Fit f v (entry_lines n f v places es (l ∷ lines))
    by on (Err d) k =
        let is : entry_lines n f v places es (l ∷ lines) ≡ stopped d es = rw (k, entry_lines) in
        subst (Fit f v) (sym is) (a, λ c e. absurd (err_ok e))
    by on (Ok e) k =
        let is : entry_lines n f v places es (l ∷ lines) ≡ cond (ltb (length es) places) (entry_lines (n + 1) f v places (es ++ e ∷ []) lines) (stopped (fault TableFull n) es) = rw (k, entry_lines) in
        subst (Fit f v) (sym is) (cond_both (ltb (length es) places) _ _ (Fit f v) (λ _. on e k) (λ _. (a, λ c e. absurd (err_ok e))))

pub from_ok : {A P : Type 0} (r : Result A Fault) (on : A → Parsed) (c : Certificate) → (from r on).ending ≡ Ok c → ((x : A) → r ≡ Ok x → from r on ≡ on x → (on x).ending ≡ Ok c → P) → P
from_ok (Ok x) on c e go = go x refl refl e
from_ok (Err d) on c e go = absurd (err_ok e)

-- An accepted certificate has as many entries as it tells, and all fit under its verdict.
pub certificate_fits : (f : Qbf) (places : ℕ) (text : List ℕ) (c : Certificate) → (parse_certificate f places text).ending ≡ Ok c →
    (all (fits (is_true c.verdict) f) (parse_certificate f places text).entries ≡ true) × (c.count ≡ length (parse_certificate f places text).entries)
certificate_fits f places text c e =
    from_ok (heading_line 1 verdict_words (lines_of text)) _ c e (λ second _ i e. from_ok (verdict_line 2 f second) _ c e (λ v _ j e.
    from_ok (heading_line 3 entry_words v.1) _ c e (λ lines _ k e.
    let is = i ∙ j ∙ k in
    let fit = entries_fit 4 f v.0 places [] lines refl in
    let told = fit.1 c e in
    rw (is, told.0) (fit.0, told.1))))

pub table_fits : (f : Qbf) (places : ℕ) (text : List ℕ) (table old : List Entry) (r : Result Certificate Fault) → r ≡ (parse_certificate f places text).ending → table ≡ filled (parse_certificate f places text).entries old →
    IfOk r (λ c. all (fits (is_true c.verdict) f) (take c.count table) ≡ true)
table_fits f places text table old (Err d) e t = tt
table_fits f places text table old (Ok c) e t =
    let k = certificate_fits f places text c (sym e) in
    let es = (parse_certificate f places text).entries in
    ap (all (fits (is_true c.verdict) f)) (ap (take c.count) t ∙ take_at es (drop (length es) old) c.count (sym k.1)) ∙ k.0
