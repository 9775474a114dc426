-- The steps of a loop that takes literals.
use Rattle.std.proofs.Common.{◌≡◌, ℕ, true, false, List, [], ◌∷◌, Some, None, Ok, Err, Option, sym, refl, ap, ◌∙◌}
use Rattle.std.specs.Option.{ok_or, option_map}
use Rattle.faults.specs.declared.fault.Fault.{Fault}
use Rattle.std.proofs.lemmas.Bool.{ne_eqb}
use Rattle.text.specs.Taken.{and_then, take_field}
use Rattle.truth.specs.declared.literal.Literal.{Literal}
use Rattle.formula_text.specs.Literals.{literal_of, literals_of, prepend, positives, some}
use Rattle.formula_text.specs.Gathered.{Numbers, no_numbers, widened, has_none, fitting}
use Rattle.formula_text.proofs.Gathering.{numbers_widened, some_number}

pub literals_more : (ws left : List (List ℕ)) (w : List ℕ) (l : Literal) → take_field ws ≡ Some (w, left) → literal_of w ≡ Some l → (l.variable ≡ 0 → ⊥) → literals_of ws ≡ prepend l (literals_of left)
literals_more [] left w l t e n = cc
literals_more (v ∷ vs) left w l t e n =
    let p : ◌≡◌ {A = List ℕ × List (List ℕ)} (v, vs) (w, left) = cc in
    let a : v ≡ w = ap (λ x. x.0) p in
    let b : vs ≡ left = ap (λ x. x.1) p in
    simp (a, b, e, ne_eqb l.variable 0 n)

-- How the loop ends: at a negated number, with no number, or with a block. Here x is what all fields write.
module _ (at : Fault) (o : Option (List Literal)) (b : Numbers) (x : Option (List ℕ))
    (same : option_map (widened b) (and_then o positives) ≡ option_map (widened no_numbers) x) where
  written : o ≡ Some [] → Some b ≡ option_map (widened no_numbers) x
  written e = ap (λ y. option_map (widened b) (and_then y positives)) (sym e) ∙ same

  pub block_empty : o ≡ Some [] → has_none b ≡ true → Err at ≡ ok_or (option_map fitting (and_then x some)) at
  block_empty e z = by x (written e)
    where
      by : (x : Option (List ℕ)) → Some b ≡ option_map (widened no_numbers) x → Err at ≡ ok_or (option_map fitting (and_then x some)) at
      by None h = refl
      by (Some []) h = refl
      by (Some (v ∷ vs)) h =
          let is : b ≡ widened no_numbers (v ∷ vs) = cc in
          let none = ap has_none (is ∙ numbers_widened (v ∷ vs)) ∙ some_number v vs in
          cc

  pub block_whole : o ≡ Some [] → has_none b ≡ false → Ok b ≡ ok_or (option_map fitting (and_then x some)) at
  block_whole e n = by x (written e)
    where
      by : (x : Option (List ℕ)) → Some b ≡ option_map (widened no_numbers) x → Ok b ≡ ok_or (option_map fitting (and_then x some)) at
      by None h = cc
      by (Some []) h = let is : b ≡ no_numbers = cc in let none = ap has_none is in cc
      by (Some (v ∷ vs)) h = let is : b ≡ widened no_numbers (v ∷ vs) = cc in ap Ok (is ∙ numbers_widened (v ∷ vs))
