-- The assignment that a value makes, one variable after another.
use Rattle.std.proofs.Common.{◌≡◌, ℕ, suc, ◌+◌, ◌-◌, ◌*◌, ◌/◌, ◌%◌, ◌^◌, ◌<◌, ◌≤◌, Bool, true, eqb, List, [], ◌∷◌, length, get_or, drop, Some, None, Option, sym, refl, ap, ◌∙◌, ap₂, inl, inr, one-mul, zero-mul, arith}
use lib.Bits.{bit_or, or_zero_l, or_zero_r}
use Rattle.std.specs.Option.{option_map}
use Rattle.std.specs.List.{slice_get}
use Rattle.std.proofs.lemmas.List.{length-drop, drop_all, drop_more}
use Rattle.std.proofs.lemmas.Option.{slice_get-get_or}
use Rattle.std.proofs.lemmas.Bool.{cases_eq, and_parts, and_from, eq-eqb, ne_eqb}
use Rattle.text.specs.Taken.{and_then}
use Rattle.truth.specs.Limits.{max_variables}
use Rattle.truth.specs.Places.{numbered}
use Rattle.truth.specs.Syntax.{Block, Qbf, bound_in}
use Rattle.truth.specs.WellFormed.{all, ranged}
use Rattle.truth.specs.Truth.{made_true, made_false}
use Rattle.truth.proofs.Bits.{or_assoc}
use Rattle.truth.proofs.Members.{all_append}
use Rattle.qbf.specs.declared.formula.Formula.{Formula}
use Rattle.qbf.specs.Held.{qbf_of}
use Rattle.qbf.proofs.Refereeing.{all_ranged_up}
use Rattle.truth.specs.declared.assignment.Assignment.{Assignment}
use Rattle.certificate.specs.Accepting.{blocks_from}
use Rattle.certificate.specs.Plays.{with_variable, assigned}
use Rattle.certificate.proofs.FromLevel.{following, drop_nth, from_level, all_first, all_at}

-- The assignment together with that of a value of some variables.
abbrev pub assigned_to : List ℕ → ℕ → Assignment → Assignment
assigned_to xs w a = record { trues = bit_or a.trues (made_true xs w); falses = bit_or a.falses (made_false xs w) }

digit_more : (xs : List ℕ) (w x d : ℕ) (a : Assignment) → (w / 2 ^ length xs) % 2 ≡ d → d < 2 → assigned_to (x ∷ xs) w a ≡ assigned_to xs w (with_variable (eqb d 1) x a)
digit_more xs w x d a e small =
    let bit = 2 ^ (x - 1) in
    let t = made_true xs w in
    let f = made_false xs w in
    let make : ℕ → ℕ → Assignment = λ p q. record { trues = p; falses = q } in
    elim (cases_eq d 1) [
      | inl one ↦
          let here : (w / 2 ^ length xs) % 2 ≡ 1 = e ∙ one in
          ap₂ make
          (ap (λ n. bit_or a.trues (bit_or n t)) (ap (λ n. n * bit) here ∙ one-mul bit) ∙ sym (or_assoc a.trues bit t))
          (ap (λ n. bit_or a.falses (bit_or n f)) (ap (λ n. (1 - n) * bit) here ∙ zero-mul bit) ∙ ap (bit_or a.falses) (or_zero_l f))
          ∙ ap (λ b. assigned_to xs w (with_variable b x a)) (sym (eq-eqb d 1 one))
      | inr more ↦
          let none : (w / 2 ^ length xs) % 2 ≡ 0 = omega arith in
          ap₂ make
          (ap (λ n. bit_or a.trues (bit_or n t)) (ap (λ n. n * bit) none ∙ zero-mul bit) ∙ ap (bit_or a.trues) (or_zero_l t))
          (ap (λ n. bit_or a.falses (bit_or n f)) (ap (λ n. (1 - n) * bit) none ∙ one-mul bit) ∙ sym (or_assoc a.falses bit f))
          ∙ ap (λ b. assigned_to xs w (with_variable b x a)) (sym (ne_eqb d 1 more))
    ]

-- The variables of a block at a level.
pub assigned-start : (f : Qbf) (level w : ℕ) (xs : List ℕ) (a : Assignment) → Some xs ≡ option_map (λ b. b.variables) (numbered f.prefix level) → assigned_to xs w a ≡ assigned (blocks_from f level) w a
assigned-start f level w xs a e = at (numbered f.prefix level) e ∙ ap (λ z. assigned z w a) (sym (from_level f level))
  where
    at : (o : Option Block) → Some xs ≡ option_map (λ b. b.variables) o → assigned_to xs w a ≡ assigned (following o (drop level f.prefix)) w a
    at None h = cc
    at (Some b) h = let is : xs ≡ b.variables = cc in ap (λ l. assigned_to l w a) is

-- A loop over them, at place i.
module _ (w : ℕ) (xs : List ℕ) (i : ℕ) (a z : Assignment) (same : assigned_to (drop i xs) w a ≡ z) where
  pub assigned_more : i < length xs → assigned_to (drop (i + 1) xs) w (with_variable (eqb ((w / 2 ^ (length xs - 1 - i)) % 2) 1) (get_or xs i 0) a) ≡ z
  assigned_more h =
      let here = drop_more xs i 0 h in
      let rest : length (drop (i + 1) xs) ≡ length xs - 1 - i = omega (arith, length-drop (i + 1) xs) in
      sym (digit_more (drop (i + 1) xs) w (get_or xs i 0) _ a (ap (λ n. (w / 2 ^ n) % 2) rest) (omega arith)) ∙ ap (λ l. assigned_to l w a) (sym here) ∙ same

  pub assigned_end : length xs ≤ i → a ≡ z
  assigned_end h =
      let none : drop i xs ≡ [] = drop_all i xs h in
      let make : ℕ → ℕ → Assignment = λ p q. record { trues = p; falses = q } in
      sym (ap₂ make (or_zero_r a.trues) (or_zero_r a.falses)) ∙ ap (λ l. assigned_to l w a) (sym none) ∙ same
