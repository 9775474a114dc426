-- Fields write literals, or numbers, just where they are the texts of these, and then 0.
use Rattle.std.proofs.Common.{◌≡◌, ℕ, ◌^◌, ◌<◌, ◌≤◌, Bool, true, false, cond, eqb, List, [], ◌∷◌, ◌++◌, map, length, get_or, drop, Some, None, codes, decimal, Option, refl, ap, ◌∙◌, arith}
use Rattle.std.specs.List.{AllByRecursion}
use Rattle.std.proofs.ByRecursion.{All-map}
use Rattle.std.proofs.lemmas.Bool.{ne_eqb, eqb-true, eqb-false}
use Rattle.text.specs.Taken.{and_then, ended}
use Rattle.text.proofs.Decimal.{decimal-zero, decimal_no_minus, numeral-decimal, numeral-made}
use Rattle.truth.specs.declared.literal.Literal.{Literal}
use Rattle.formula_text.specs.Literals.{literal_of, literals_of, positives, some, numbers_of}
use Rattle.formula_text.specs.Form.{literal_text}

pub none-some : {A : Type 0} {y : A} → None ≡ Some y → ⊥
none-some e = let z : ◌≡◌ {A = ℕ} 0 1 = cc in omega arith

-- What led to a value. Each of these takes a proof that goes on from there.

pub then_some : {A B P : Type 0} (o : Option A) (f : A → Option B) (y : B) → and_then o f ≡ Some y → ((x : A) → o ≡ Some x → f x ≡ Some y → P) → P
then_some None f y e on = absurd (none-some e)
then_some (Some x) f y e on = on x refl e

pub cond_cases : {A P : Type 0} (t : Bool) (x y z : A) → cond t x y ≡ z → (t ≡ true → x ≡ z → P) → (t ≡ false → y ≡ z → P) → P
cond_cases true x y z e on off = on refl e
cond_cases false x y z e on off = off refl e

pub ended-made : {A : Type 0} (ws : List (List ℕ)) (x y : A) → and_then (ended ws) (λ _. Some x) ≡ Some y → (ws ≡ []) × (x ≡ y)
ended-made [] x y e = (refl, cc)
ended-made (w ∷ ws) x y e = absurd (none-some e)

-- Literals.

minus_first : (w : List ℕ) → get_or w 0 0 ≡ 45 → w ≡ 45 ∷ drop 1 w
minus_first [] e = absurd (omega arith)
minus_first (b ∷ w) e = ap (λ c. c ∷ w) e

literal_made : (w : List ℕ) (l : Literal) → literal_of w ≡ Some l → (w ≡ literal_text l) × (l.variable ≡ 0 → w ≡ codes "0")
literal_made w l e =
    cond_cases (eqb (get_or w 0 0) 45) _ _ _ e
    (λ m e. then_some _ _ l e (λ n d e. cond_cases (eqb n 0) _ _ _ e (λ _ e. absurd (none-some e)) (λ some e.
    let is : ◌≡◌ {A = Literal} (record { negative = true; variable = n }) l = cc in
    (rw (← is) (minus_first w (eqb-true _ _ m) ∙ ap (λ ds. 45 ∷ ds) (numeral-made _ n d).0), λ z. absurd (eqb-false n 0 some (ap (λ k. k.variable) is ∙ z))))))
    (λ m e. then_some _ _ l e (λ n d e.
    let is : ◌≡◌ {A = Literal} (record { negative = false; variable = n }) l = cc in
    let w-is = (numeral-made _ n d).0 in
    (rw (← is) w-is, λ z. w-is ∙ ap decimal (ap (λ k. k.variable) is ∙ z) ∙ decimal-zero)))

pub literals_made : (ws : List (List ℕ)) (ls : List Literal) → literals_of ws ≡ Some ls → ws ≡ map literal_text ls ++ (codes "0" ∷ [])
literals_made [] ls e = cc
literals_made (w ∷ ws) ls e =
    then_some (literal_of w) _ ls e (λ l d e. let m = literal_made w l d in
    cond_cases (eqb l.variable 0) _ _ _ e
    (λ z e. let d = ended-made ws [] ls e in rw (d.0, ← d.1) (ap (λ x. x ∷ []) (m.1 (eqb-true _ _ z))))
    (λ n e. then_some (literals_of ws) _ ls e (λ rest r e.
    let is : ◌≡◌ {A = List Literal} (l ∷ rest) ls = cc in rw (← is) (cc (m.0, literals_made ws rest r)))))

-- What a literal's variable can be.
abbrev pub Writable : Literal → Type 0
Writable l = (1 ≤ l.variable) × (l.variable < 10 ^ 9)

literal_read : (t : Bool) (v : ℕ) → 1 ≤ v → v < 10 ^ 9 → literal_of (literal_text (record { negative = t; variable = v })) ≡ Some (record { negative = t; variable = v })
literal_read true v some small = rw (numeral-decimal v small, ne_eqb v 0 (λ e. omega arith))
literal_read false v some small = rw (ne_eqb (get_or (decimal v) 0 0) 45 (decimal_no_minus v small), numeral-decimal v small)

pub literals_read : (ls : List Literal) → AllByRecursion Writable ls → literals_of (map literal_text ls ++ (codes "0" ∷ [])) ≡ Some ls
literals_read [] h = refl
literals_read (l ∷ ls) h =
    let low = h.0.0 in
    rw (literal_read l.negative l.variable low h.0.1, ne_eqb l.variable 0 (λ e. omega arith), literals_read ls h.1)

-- Numbers are literals that are not negated.

abbrev number : ℕ → Literal
number v = record { negative = false; variable = v }

number_texts : (vs : List ℕ) → map literal_text (map number vs) ≡ map decimal vs
number_texts [] = refl
number_texts (v ∷ vs) = ap (λ ts. decimal v ∷ ts) (number_texts vs)

positives-made : (ls : List Literal) (vs : List ℕ) → positives ls ≡ Some vs → ls ≡ map number vs
positives-made [] vs e = let is : [] ≡ vs = cc in rw (← is)
positives-made (l ∷ ls) vs e =
    cond_cases l.negative _ _ _ e (λ _ e. absurd (none-some e)) (λ n e. then_some (positives ls) _ vs e (λ rest r e.
    let is : l.variable ∷ rest ≡ vs = cc in
    let first : l ≡ number l.variable = ap (λ t. record { negative = t; variable = l.variable }) n in
    rw (← is) (cc (first, positives-made ls rest r))))

positives_read : (vs : List ℕ) → positives (map number vs) ≡ Some vs
positives_read [] = refl
positives_read (v ∷ vs) = rw (positives_read vs)

some-made : (us vs : List ℕ) → some us ≡ Some vs → (us ≡ vs) × (1 ≤ length us)
some-made [] vs e = absurd (none-some e)
some-made (u ∷ us) vs e = (cc, omega arith)

pub numbers_made : (ws : List (List ℕ)) (vs : List ℕ) → numbers_of ws ≡ Some vs → (ws ≡ map decimal vs ++ (codes "0" ∷ [])) × (1 ≤ length vs)
numbers_made ws vs e =
    then_some _ some vs e (λ us e s. then_some (literals_of ws) positives us e (λ ls m e.
    let q = some-made us vs s in
    let texts = ap (map literal_text) (positives-made ls us e) ∙ number_texts us in
    rw (← q.0) (literals_made ws ls m ∙ ap (λ ts. ts ++ (codes "0" ∷ [])) texts, q.1)))

pub numbers_read : (vs : List ℕ) → 1 ≤ length vs → AllByRecursion (λ v. Writable (number v)) vs → numbers_of (map decimal vs ++ (codes "0" ∷ [])) ≡ Some vs
numbers_read [] h l = absurd (omega arith)
numbers_read (v ∷ vs) h l =
    let read = literals_read (map number (v ∷ vs)) (All-map Writable number (v ∷ vs) l) in
    rw (rw (number_texts vs) at read, positives_read vs)
