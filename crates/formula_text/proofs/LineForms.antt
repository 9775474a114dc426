-- The header, the block lines and the clause lines that are read are those of specs/Form.
use Rattle.std.proofs.Common.{◌≡◌, ℕ, ◌^◌, ◌<◌, ◌≤◌, Bool, true, false, cond, not, ◌&&◌, ◌||◌, eqb, ltb, leb, List, [], ◌∷◌, ◌++◌, length, get_or, Some, None, Ok, Err, codes, decimal, Option, Result, sym, refl, ap, ◌∙◌, inl, inr, arith}
use Rattle.std.specs.List.{AllByRecursion}
use Rattle.std.proofs.lemmas.Fmt.{decimal_is_IsNumeral}
use Rattle.std.proofs.lemmas.Str.Parse.{digit_at}
use Rattle.std.proofs.lemmas.List.{drop_more, drop_all}
use Rattle.std.proofs.lemmas.Bool.{cond_both, eqb-true, ne_eqb, le-leb, lt-leb, leb-true, leb-false, le-ltb, ltb-false, not-false, not_from_true, and_from, and_parts, or_cases, or_from, or_parts}
use Rattle.faults.specs.declared.fault.Fault.{Fault}
use Rattle.text.specs.Numeral.{numeral}
use Rattle.text.specs.Rows.{fields_of}
use Rattle.text.specs.Taken.{take_number}
use Rattle.text.specs.Layout.{Spaced}
use Rattle.text.specs.Layout.Spaced.{one, more}
use Rattle.text.proofs.Decimal.{numeral-decimal, numeral-made}
use Rattle.text.proofs.Layouts.{fields_made, fields_unique}
use Rattle.truth.specs.declared.literal.Quantifier.{Quantifier}
use Rattle.truth.specs.declared.literal.Quantifier.TheVariants.{Existential, Universal}
use Rattle.truth.specs.declared.literal.Literal.{Literal}
use Rattle.truth.specs.declared.literal.Clause.{Clause}
use Rattle.formula_text.specs.declared.counts.Counts.{Counts}
use Rattle.formula_text.specs.declared.kind.Kind.{Kind}
use Rattle.formula_text.specs.declared.kind.Kind.TheVariants.{Comment, Problem, Prefix, Other}
use Rattle.truth.specs.Limits.{max_variables, max_clauses, max_blocks, max_width}
use Rattle.truth.specs.Syntax.{Block, bound_in, clause_of}
use Rattle.truth.specs.WellFormed.{all, elem, distinct, ranged, existential, repeats}
use Rattle.formula_text.specs.Kinds.{letter_kind, kind_of, is_prefix}
use Rattle.formula_text.specs.Literals.{literals_of}
use Rattle.formula_text.specs.Parse.{onward, take_letter, take_cnf, header_of, variables_of, clause_literals, read_header, read_block, read_clause}
use Rattle.formula_text.specs.Form.{CommentLine, HeaderLine, letter, BlockLine, literal_text, ClauseLine}
use Rattle.formula_text.proofs.LiteralForms.{none-some, then_some, cond_cases, ended-made, Writable, literals_made, literals_read, numbers_made, numbers_read}
use Rattle.formula_text.proofs.Prefixes.{Follows}

pub err_ok : {A : Type 0} {d : Fault} {y : A} → Err d ≡ Ok y → ⊥
err_ok e = let z : ◌≡◌ {A = ℕ} 0 1 = cc in omega arith

-- What led to a result. Each of these takes a proof that goes on from there.

pub onward_ok : {A B P : Type 0} (r : Result A Fault) (f : A → Result B Fault) (y : B) → onward r f ≡ Ok y → ((x : A) → r ≡ Ok x → f x ≡ Ok y → P) → P
onward_ok (Err d) f y e on = absurd (err_ok e)
onward_ok (Ok x) f y e on = on x refl e

read_some : {A B P : Type 0} (o : Option A) (d : Fault) (f : A → Result B Fault) (y : B) → ◌≡◌ {A = Result B Fault} (elim o [ None ↦ Err d | Some x ↦ f x ]) (Ok y)
    → ((x : A) → o ≡ Some x → f x ≡ Ok y → P) → P
read_some None d f y e on = absurd (err_ok e)
read_some (Some x) d f y e on = on x refl e

pub ok_left : {A P : Type 0} (t : Bool) (d : Fault) (r : Result A Fault) (y : A) → cond t (Err d) r ≡ Ok y → (t ≡ false → r ≡ Ok y → P) → P
ok_left true d r y e on = absurd (err_ok e)
ok_left false d r y e on = on refl e

-- Kinds.

abbrev Opens : Kind → ℕ → Type 0
Opens Comment b = b ≡ 99
Opens Problem b = b ≡ 112
Opens (Prefix q) b = b ∷ [] ≡ letter q
Opens Other b = Unit {0}

opens : (b : ℕ) (k : Kind) → letter_kind b ≡ k → Opens k b
opens b k e =
    let P : Kind → Type 0 = λ k. Opens k b in
    rw (← e) (
    cond_both (eqb b 99) Comment _ P (eqb-true b 99) (λ _.
    cond_both (eqb b 112) Problem _ P (eqb-true b 112) (λ _.
    cond_both (eqb b 97) (Prefix Universal) _ P (λ t. ap (λ c. c ∷ []) (eqb-true b 97 t)) (λ _.
    cond_both (eqb b 101) (Prefix Existential) Other P (λ t. ap (λ c. c ∷ []) (eqb-true b 101 t)) (λ _. tt)))))

pub kind_of_spaced : {b : ℕ} {f line : List ℕ} {fs : List (List ℕ)} → Spaced ((b ∷ f) ∷ fs) line → kind_of line ≡ letter_kind b
kind_of_spaced (one d) = refl
kind_of_spaced (more k d s) = refl

pub letter_kind_lem : (q : Quantifier) (ws : List (List ℕ)) (line : List ℕ) → Spaced (letter q ∷ ws) line → kind_of line ≡ Prefix q
letter_kind_lem Existential ws line s = kind_of_spaced s
letter_kind_lem Universal ws line s = kind_of_spaced s

pub comment_accepted : (line : List ℕ) → kind_of line ≡ Comment → CommentLine line
comment_accepted [] k = let z : ◌≡◌ {A = ℕ} 0 1 = cc in absurd (omega arith)
comment_accepted (b ∷ line) k = (line, ap (λ c. c ∷ line) (opens b Comment k))

-- A line whose first field is one letter.
lettered : {P : Type 0} (line : List ℕ) (fs ws : List (List ℕ)) (k : Kind) → fields_of line ≡ Some fs → take_letter fs ≡ Some ws → kind_of line ≡ k
    → ((b : ℕ) → Opens k b → Spaced ((b ∷ []) ∷ ws) line → P) → P
lettered line [] ws k e t m on = absurd (none-some t)
lettered line (f ∷ fs) ws k e t m on =
    cond_cases (eqb (length f) 1) _ _ _ t (λ o t.
    let l = eqb-true (length f) 1 o in
    let one_byte : f ≡ get_or f 0 0 ∷ [] = cc (drop_more f 0 0 (omega arith), drop_all 1 f (omega arith)) in
    let is : fs ≡ ws = cc in
    let s = rw (one_byte, is) at (fields_made line f fs e) in
    on (get_or f 0 0) (opens (get_or f 0 0) k (sym (kind_of_spaced s) ∙ m)) s) (λ _ t. absurd (none-some t))

-- The header.

cnf_taken : (ws us : List (List ℕ)) → take_cnf ws ≡ Some us → ws ≡ codes "cnf" ∷ us
cnf_taken [] us e = cc
cnf_taken (w ∷ ws) us e =
    cond_cases (eqb (length w) 3 && _) _ _ _ e (λ t e.
    let p = and_parts (eqb (length w) 3) _ t in
    let q = and_parts (eqb (get_or w 0 0) 99) _ p.1 in
    let r = and_parts (eqb (get_or w 1 0) 110) _ q.1 in
    let l = eqb-true (length w) 3 p.0 in
    let word : w ≡ get_or w 0 0 ∷ (get_or w 1 0 ∷ (get_or w 2 0 ∷ [])) =
    cc (drop_more w 0 0 (omega arith), drop_more w 1 0 (omega arith), drop_more w 2 0 (omega arith), drop_all 3 w (omega arith)) in
    cc (eqb-true _ _ q.0, eqb-true _ _ r.0, eqb-true _ _ r.1)) (λ _ e. absurd (none-some e))

pub number_taken : (us : List (List ℕ)) (v : ℕ × List (List ℕ)) → take_number us ≡ Some v → us ≡ decimal v.0 ∷ v.1
number_taken [] v e = cc
number_taken (w ∷ ws) v e =
    then_some (numeral w) _ v e (λ n d k.
    let p : ◌≡◌ {A = ℕ × List (List ℕ)} (n, ws) v = cc in
    rw (← p) (ap (λ f. f ∷ ws) (numeral-made w n d).0))

header_made : (line : List ℕ) (h : Counts) → kind_of line ≡ Problem → header_of line ≡ Some h → HeaderLine h.variables h.clauses line
header_made line h k e =
    then_some (fields_of line) _ h e (λ fs f e. then_some (take_letter fs) _ h e (λ ws l e. then_some (take_cnf ws) _ h e (λ us c e.
    then_some (take_number us) _ h e (λ v n e. then_some (take_number v.1) _ h e (λ w m e.
    lettered line fs ws Problem f l k (λ b p s.
    let d = ended-made w.1 _ h e in
    let is : ws ≡ codes "cnf" ∷ (decimal h.variables ∷ (decimal h.clauses ∷ [])) =
    rw (← d.1) (cc (cnf_taken ws us c, number_taken us v n, number_taken v.1 w m, d.0)) in
    rw (p, is) at s))))))

pub header_accepted : (n : ℕ) (line : List ℕ) (h : Counts) → kind_of line ≡ Problem → read_header n line ≡ Ok h
    → HeaderLine h.variables h.clauses line × (h.variables ≤ max_variables) × (h.clauses ≤ max_clauses)
header_accepted n line h k e =
    read_some (header_of line) _ _ h e (λ g m e. cond_cases (leb g.variables max_variables && leb g.clauses max_clauses) _ _ _ e (λ t e.
    let is : g ≡ h = cc in
    let p = and_parts _ _ t in
    rw (← is) (header_made line g k m, leb-true _ _ p.0, leb-true _ _ p.1)) (λ _ e. absurd (err_ok e)))

pub header_read : (n v c : ℕ) (line : List ℕ) → v ≤ max_variables → c ≤ max_clauses → HeaderLine v c line → read_header n line ≡ Ok (record { variables = v; clauses = c })
header_read n v c line hv hc s =
    let m : header_of line ≡ Some (record { variables = v; clauses = c }) = rw (fields_unique s, numeral-decimal v (omega arith), numeral-decimal c (omega arith)) in
    rw (m, read_header, le-leb v max_variables hv, le-leb c max_clauses hc)

-- Block lines.

block_made : (line vs : List ℕ) (q : Quantifier) → kind_of line ≡ Prefix q → variables_of line ≡ Some vs → BlockLine (record { quantifier = q; variables = vs }) line × (1 ≤ length vs)
block_made line vs q k e =
    then_some (fields_of line) _ vs e (λ fs f e. then_some (take_letter fs) _ vs e (λ ws l e.
    lettered line fs ws (Prefix q) f l k (λ b p s.
    let m = numbers_made ws vs e in
    (rw (p, m.0) at s, m.1))))

pub block_accepted : (n : ℕ) (h : Counts) (bs : List Block) (q : Quantifier) (next : Bool) (line : List ℕ) (b : Block) → kind_of line ≡ Prefix q
    → read_block n h bs q next line ≡ Ok b → BlockLine b line × Follows h.variables bs b × ((existential b.quantifier || next) ≡ true)
block_accepted n h bs q next line b k e =
    read_some (variables_of line) _ _ b e (λ vs m e.
    ok_left (leb max_blocks (length bs) || ltb max_width (length vs)) _ _ b e (λ t e.
    ok_left (not (all (ranged h.variables) vs && distinct (bound_in bs ++ vs))) _ _ b e (λ u e.
    ok_left (repeats q bs || not (existential q || next)) _ _ b e (λ v e.
    let is : ◌≡◌ {A = Block} (record { quantifier = q; variables = vs }) b = cc in
    let l = block_made line vs q k m in
    let p = or_parts _ (ltb max_width (length vs)) t in
    let r = and_parts _ (distinct (bound_in bs ++ vs)) (not-false _ u) in
    let w = or_parts (repeats q bs) _ v in
    let width = and_from _ _ (le-leb _ _ l.1) (le-leb _ _ (ltb-false _ _ p.1)) in
    rw (← is) (l.0, record { room = leb-false _ _ p.0; width = width; range = r.0; once = r.1; turns = w.0 }, not-false _ w.1)))))

ranged_writable : (highest : ℕ) → highest ≤ max_variables → (v : ℕ) → ranged highest v ≡ true → (1 ≤ v) × (v < 10 ^ 9)
ranged_writable highest h v r =
    let p = and_parts (leb 1 v) _ r in (leb-true 1 v p.0, omega (arith, leb-true v highest p.1))

all-holds : {A : Type 0} (p : A → Bool) (P : A → Type 0) → ((x : A) → p x ≡ true → P x) → (xs : List A) → all p xs ≡ true → AllByRecursion P xs
all-holds p P f [] h = tt
all-holds p P f (x ∷ xs) h = let r = and_parts (p x) _ h in (f x r.0, all-holds p P f xs r.1)

letter_taken : (q : Quantifier) (ws : List (List ℕ)) → take_letter (letter q ∷ ws) ≡ Some ws
letter_taken Existential ws = refl
letter_taken Universal ws = refl

pub block_read : (n : ℕ) (h : Counts) (bs : List Block) (next : Bool) (line : List ℕ) (b : Block) → h.variables ≤ max_variables → BlockLine b line
    → Follows h.variables bs b → (existential b.quantifier || next) ≡ true → read_block n h bs b.quantifier next line ≡ Ok b
block_read n h bs next line b limit s g o =
    let w = and_parts (leb 1 (length b.variables)) _ g.width in
    let us = all-holds (ranged h.variables) _ (ranged_writable h.variables limit) b.variables g.range in
    let m : variables_of line ≡ Some b.variables =
    rw (fields_unique s, letter_taken b.quantifier _, numbers_read b.variables (leb-true _ _ w.0) us) in
    let t = or_from _ _ (lt-leb _ _ g.room) (le-ltb _ _ (leb-true _ _ w.1)) in
    let u = not_from_true _ (and_from _ _ g.range g.once) in
    let v = or_from _ _ g.turns (not_from_true _ o) in
    rw (m, read_block, t, u, v)

-- Clause lines.

clause_made : (line : List ℕ) (ls : List Literal) → clause_literals line ≡ Some ls → ClauseLine ls line
clause_made line ls e = then_some (fields_of line) _ ls e by
  where
    by : (fs : List (List ℕ)) → fields_of line ≡ Some fs → literals_of fs ≡ Some ls → ClauseLine ls line
    by [] f e = absurd (none-some e)
    by (w ∷ ws) f e = rw (literals_made (w ∷ ws) ls e) at (fields_made line w ws f)

abbrev pub binds_all : List Block → List Literal → Bool
binds_all bs = all (λ l. elem l.variable (bound_in bs))

pub clause_accepted : {P : Type 0} (n : ℕ) (h : Counts) (bs : List Block) (line : List ℕ) (c : Clause) → read_clause n h bs line ≡ Ok c
    → ((ls : List Literal) → ClauseLine ls line → binds_all bs ls ≡ true → clause_of ls ≡ c → P) → P
clause_accepted n h bs line c e on =
    read_some (clause_literals line) _ _ c e (λ ls m e.
    ok_left (not (all (λ l. leb l.variable h.variables) ls)) _ _ c e (λ t e.
    ok_left (not (binds_all bs ls)) _ _ c e (λ u e.
    on ls (clause_made line ls m) (not-false _ u) (cc))))

elem-holds : (p : ℕ → Bool) (v : ℕ) (vs : List ℕ) → all p vs ≡ true → elem v vs ≡ true → p v ≡ true
elem-holds p v [] h e = cc
elem-holds p v (x ∷ vs) h e =
    let r = and_parts (p x) _ h in
    elim (or_cases (eqb v x) _ e) [
      | inl i ↦ rw (eqb-true v x i) r.0
      | inr i ↦ elem-holds p v vs r.1 i
    ]

-- A clause line begins with a minus or a digit, and not with a letter.

below_letters : {w line : List ℕ} {ws : List (List ℕ)} → Spaced (w ∷ ws) line → 0 < length w → get_or w 0 0 < 97 → is_prefix (kind_of line) ≡ false
below_letters {w = []} s some low = absurd (omega arith)
below_letters {w = b ∷ w} s some low =
    rw (kind_of_spaced s, ne_eqb b 99 (λ e. omega arith), ne_eqb b 112 (λ e. omega arith), ne_eqb b 97 (λ e. omega arith), ne_eqb b 101 (λ e. omega arith))

literal_first : (t : Bool) (v : ℕ) → v < 10 ^ 9 → let w = literal_text (record { negative = t; variable = v }) in (0 < length w) × (get_or w 0 0 < 97)
literal_first true v h = (omega arith, omega arith)
literal_first false v h = let d = (decimal_is_IsNumeral v (omega arith)).0 in (d.0, omega (arith, digit_at (decimal v) 0 d.1 d.0))

clause_digit : (ls : List Literal) (line : List ℕ) → AllByRecursion Writable ls → ClauseLine ls line → is_prefix (kind_of line) ≡ false
clause_digit [] line h s = ap is_prefix (kind_of_spaced s)
clause_digit (l ∷ ls) line h s = let f = literal_first l.negative l.variable h.0.1 in below_letters s f.0 f.1

-- The variables of clauses are those of blocks.
module _ (h : Counts) (bs : List Block) (limit : h.variables ≤ max_variables) (range : all (ranged h.variables) (bound_in bs) ≡ true) where
  literal_ranged : (l : Literal) → elem l.variable (bound_in bs) ≡ true → ranged h.variables l.variable ≡ true
  literal_ranged l e = elem-holds (ranged h.variables) l.variable (bound_in bs) range e

  literals_writable : (ls : List Literal) → binds_all bs ls ≡ true → AllByRecursion Writable ls
  literals_writable ls e = all-holds _ _ (λ l e. ranged_writable h.variables limit l.variable (literal_ranged l e)) ls e

  literals_low : (ls : List Literal) → binds_all bs ls ≡ true → all (λ l. leb l.variable h.variables) ls ≡ true
  literals_low [] e = refl
  literals_low (l ∷ ls) e =
      let p = and_parts (elem l.variable (bound_in bs)) _ e in
      and_from _ _ (and_parts (leb 1 l.variable) _ (literal_ranged l p.0)).1 (literals_low ls p.1)

  pub clause_read : (n : ℕ) (line : List ℕ) (ls : List Literal) → ClauseLine ls line → binds_all bs ls ≡ true → read_clause n h bs line ≡ Ok (clause_of ls)
  clause_read n line ls s e =
      let m : clause_literals line ≡ Some ls = rw (fields_unique s, literals_read ls (literals_writable ls e)) in
      rw (m, read_clause, literals_low ls e, e)

  -- A clause line is no block line.
  pub clause_kind : (line : List ℕ) (ls : List Literal) → ClauseLine ls line → binds_all bs ls ≡ true → is_prefix (kind_of line) ≡ false
  clause_kind line ls s e = clause_digit ls line (literals_writable ls e) s
