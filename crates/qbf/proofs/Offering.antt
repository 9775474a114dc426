-- The candidates of a position are the values that none beats in what they satisfy of its set.
use Rattle.std.proofs.Common.{◌≡◌, ℕ, suc, ◌-◌, ◌/◌, ◌%◌, ◌^◌, ◌≤◌, Bool, true, false, cond, not, ◌&&◌, ◌||◌, eqb, ltb, List, [], ◌∷◌, ◌++◌, length, Some, None, filter, Option, sym, refl, ap, ◌∙◌, subst, ap₂, inl, inr, arith}
use mathlib.Core.Path.{fun_ext}
use lib.Bits.{bit_and, bit_or, and_zero_r}
use Rattle.std.specs.Option.{option_map}
use Rattle.std.proofs.lemmas.List.{length-append}
use Rattle.std.proofs.lemmas.Bool.{cases_eq, both_ways, eqb-true, eq-eqb, ne_eqb, lt-ltb}
use Rattle.truth.specs.declared.literal.Quantifier.{Quantifier}
use Rattle.truth.specs.declared.literal.Quantifier.TheVariants.{Existential, Universal}
use Rattle.truth.specs.declared.literal.Clause.{Clause}
use Rattle.truth.specs.Limits.{max_width}
use Rattle.truth.specs.Syntax.{Block, Qbf}
use Rattle.truth.specs.Sets.{inside}
use Rattle.truth.specs.Places.{numbered}
use Rattle.truth.specs.Truth.{any, below, rest_under, whole}
use Rattle.truth.specs.Occurrences.{occurrences, settled}
use Rattle.truth.specs.Candidates.{beats, candidate, candidates_at, first_from}
use Rattle.truth.proofs.Bits.{Sub, sub_self, of_sub, and_or}
use Rattle.truth.proofs.Settling.{rest-settled, settled_sub}
use Rattle.truth.proofs.Complements.{minus_inside, minus_same, and_sub, and_minus, sub_le}
use Rattle.candidates.specs.declared.choice.Choice.{Choice}
use Rattle.candidates.specs.declared.choice.Hit.{Hit}
use Rattle.candidates.specs.Hits.{hit, better, beaten, bests}
use Rattle.qbf.specs.declared.candidate.Candidate.{Candidate}
use Rattle.text.specs.Taken.{and_then}
use Rattle.qbf.proofs.Parts.{parted}
use Rattle.qbf.specs.Offered.{offered, next_candidate}

offered-length : (cs : List Clause) (s : ℕ) (xs : List ℕ) → length (offered cs s xs) ≡ length xs
offered-length cs s [] = refl
offered-length cs s (x ∷ xs) = ap suc (offered-length cs s xs)

cond_and : (t : Bool) (s : ℕ) (f : Bool → ℕ) → cond t (bit_and s (f true)) (bit_and s (f false)) ≡ bit_and s (f t)
cond_and true s f = refl
cond_and false s f = refl

-- A value satisfies of the set what it settles.
hit-settled : (cs : List Clause) (s : ℕ) (xs : List ℕ) (v : ℕ) → hit (offered cs s xs) v ≡ bit_and s (settled cs xs v)
hit-settled cs s [] v = sym (and_zero_r s)
hit-settled cs s (x ∷ xs) v =
    let digit = eqb ((v / 2 ^ length xs) % 2) 1 in
    ap (λ n. bit_or (cond (eqb ((v / 2 ^ n) % 2) 1) (bit_and s (occurrences true cs x)) (bit_and s (occurrences false cs x))) (hit (offered cs s xs) v)) (offered-length cs s xs)
    ∙ ap₂ bit_or (cond_and digit s (λ t. occurrences t cs x)) (hit-settled cs s xs v)
    ∙ sym (and_or s (occurrences digit cs x) (settled cs xs v))

-- Better in rests is better in hits: with e for equal ones, i for at least as good ones, l for a lower value.
same_tests : (e i l : Bool) → (e ≡ true → i ≡ true) → ((i && not e) || (l && e)) ≡ (i && (not e || l))
same_tests true true true h = refl
same_tests true true false h = refl
same_tests true false l h = absurd (both_ways false refl (h refl))
same_tests false true true h = refl
same_tests false true false h = refl
same_tests false false true h = refl
same_tests false false false h = refl

eqb_swap : (a b : ℕ) → eqb a b ≡ eqb b a
eqb_swap a b = elim (cases_eq a b) [ inl e ↦ eq-eqb a b e ∙ sym (eq-eqb b a (sym e)) | inr n ↦ ne_eqb a b n ∙ sym (ne_eqb b a (λ e. n (sym e))) ]

-- Rests t - h and t - g, where h and g lie inside t.
better_rests : (q : Quantifier) (t g v h w : ℕ) → Sub g t → Sub h t → (beats q (t - h) (t - g) || (ltb w v && eqb (t - h) (t - g))) ≡ better q g v h w
better_rests Existential t g v h w i j =
    ap₂ (λ a b. (a && not b) || (ltb w v && b)) (minus_inside t h g j i) (minus_same t h g j i)
    ∙ same_tests (eqb h g) (inside g h) (ltb w v) (λ e. of_sub g h (subst (λ z. Sub g z) (sym (eqb-true h g e)) (sub_self g)))
better_rests Universal t g v h w i j =
    ap₂ (λ a b. (a && not (eqb (t - g) (t - h))) || (ltb w v && b)) (minus_inside t g h i j) (minus_same t h g j i)
    ∙ ap (λ b. (inside h g && not b) || (ltb w v && eqb h g)) (minus_same t g h i j ∙ eqb_swap g h)
    ∙ same_tests (eqb h g) (inside h g) (ltb w v) (λ e. of_sub h g (subst (λ z. Sub h z) (eqb-true h g e) (sub_self h)))

module _ (cs : List Clause) (b : Block) (s : ℕ) where
  abbrev choices : List Choice
  choices = offered cs s b.variables

  abbrev within : ℕ
  within = bit_and s (whole cs)

  hit_within : (v : ℕ) → Sub (hit choices v) within
  hit_within v = subst (λ z. Sub z within) (sym (hit-settled cs s b.variables v)) (and_sub s (settled cs b.variables v) (whole cs) (settled_sub cs b.variables v))

  pub rest-hit : (v : ℕ) → rest_under cs b v s ≡ within - hit choices v
  rest-hit v =
      rest-settled cs b v s ∙ and_minus s (whole cs) (settled cs b.variables v) (settled_sub cs b.variables v)
      ∙ ap (λ z. within - z) (sym (hit-settled cs s b.variables v))

  pub hit_less : (v : ℕ) → hit choices v ≤ within
  hit_less v = sub_le (hit choices v) within (hit_within v)

  candidates-bests : candidates_at cs b s ≡ bests b.quantifier choices
  candidates-bests =
      let q = b.quantifier in
      let n = 2 ^ length b.variables in
      let tests : (v : ℕ) → candidate (λ w. rest_under cs b w s) q (below n) v ≡ not (beaten q choices v) = λ v.
      ap not (ap (λ p. any p (below n)) (fun_ext (λ w.
      ap₂ (λ x y. beats q x y || (ltb w v && eqb x y)) (rest-hit w) (rest-hit v) ∙ better_rests q within (hit choices v) v (hit choices w) w (hit_within v) (hit_within w)))
      ∙ ap (λ k. any (λ w. better q (hit choices v) v (hit choices w) w) (below (2 ^ k))) (sym (offered-length cs s b.variables))) in
      ap (λ p. filter p (below n)) (fun_ext tests) ∙ ap (λ k. filter (λ v. not (beaten q choices v)) (below (2 ^ k))) (sym (offered-length cs s b.variables))

  abbrev as_hit : ℕ → Hit
  as_hit v = record { value = v; hits = hit choices v }

  abbrev as_candidate : ℕ → Candidate
  as_candidate v = record { value = v; rest = rest_under cs b v s }

  none_of : (o : Option ℕ) → None ≡ option_map as_hit o → None ≡ option_map as_candidate o
  none_of None e = refl
  none_of (Some v) e = cc

  some_of : (x : Hit) (o : Option ℕ) → Some x ≡ option_map as_hit o → (Some (record { value = x.value; rest = within - x.hits }) ≡ option_map as_candidate o) × (x.hits ≤ within)
  some_of x None e = let z : ◌≡◌ {A = ℕ} 0 1 = cc in absurd (omega arith)
  some_of x (Some v) e =
      let same : x ≡ as_hit v = cc in (
        ap (λ (y : Hit). Some (record { value = y.value; rest = within - y.hits })) same ∙ ap (λ r. Some (record { value = v; rest = r })) (sym (rest-hit v)),
        subst (λ (y : Hit). y.hits ≤ within) (sym same) (hit_less v),
      )

-- The next value that none beats, as a candidate with its rest.
module _ (f : Qbf) (level s from : ℕ) (b : Block) (is : Some b ≡ numbered f.prefix level) (held : List Choice) (gathered : held ≡ offered f.matrix s b.variables) where
  abbrev held_hit : ℕ → Hit
  held_hit v = record { value = v; hits = hit held v }

  abbrev told : Option ℕ
  told = first_from from (bests b.quantifier (offered f.matrix s b.variables))

  -- What is told of the choices held is told of those offered.
  told_is : option_map held_hit (first_from from (bests b.quantifier held)) ≡ option_map (as_hit f.matrix b s) told
  told_is = ap (λ hs. option_map {U = Hit} (λ v. record { value = v; hits = hit hs v }) (first_from from (bests b.quantifier hs))) gathered

  next_is : option_map (as_candidate f.matrix b s) told ≡ next_candidate f level s from
  next_is =
      ap (λ vs. option_map (as_candidate f.matrix b s) (first_from from vs)) (sym (candidates-bests f.matrix b s))
      ∙ ap (λ o. and_then o (λ d. option_map (as_candidate f.matrix d s) (first_from from (candidates_at f.matrix d s)))) is

  pub next_none : None ≡ option_map held_hit (first_from from (bests b.quantifier held)) → None ≡ next_candidate f level s from
  next_none e = none_of f.matrix b s told (e ∙ told_is) ∙ next_is

  module _ (x : Hit) (e : Some x ≡ option_map held_hit (first_from from (bests b.quantifier held))) (w : ℕ) (all : w ≡ whole f.matrix) where
    pub next_some : Some (record { value = x.value; rest = bit_and s w - x.hits }) ≡ next_candidate f level s from
    next_some =
        ap (λ n. Some (record { value = x.value; rest = bit_and s n - x.hits })) all ∙ (some_of f.matrix b s x told (e ∙ told_is)).0 ∙ next_is

    pub next_less : x.hits ≤ bit_and s w
    next_less = subst (λ n. x.hits ≤ bit_and s n) (sym all) (some_of f.matrix b s x told (e ∙ told_is)).1

-- The loop that gathers choices, from the last variable to the first: one more of those left.
module _ (vs left before behind : List ℕ) (x : ℕ) (is : vs ≡ left ++ behind) (last : left ≡ before ++ (x ∷ [])) where
  pub room_left : (cs : List Clause) (s : ℕ) → length vs ≤ max_width → ltb (length (offered cs s behind)) max_width ≡ true
  room_left cs s narrow = lt-ltb _ _ (omega (arith, ap length (parted vs left before behind x is last), length-append before (x ∷ behind), offered-length cs s behind))
