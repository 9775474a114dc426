-- Some or every one of some values. One value with the verdict that the quantifier closes with is enough: true for an
-- existential one, false for a universal one.
use Rattle.std.proofs.Common.{◌≡◌, ℕ, Bool, true, false, not, ◌⊎◌, List, sym, refl, ◌∙◌, inl, inr}
use Rattle.std.proofs.lemmas.Bool.{cases_Bool, both_ways}
use Rattle.truth.specs.declared.literal.Quantifier.{Quantifier}
use Rattle.truth.specs.declared.literal.Quantifier.TheVariants.{Existential, Universal}
use Rattle.truth.specs.WellFormed.{all}
use Rattle.truth.specs.Sides.{closing}
use Rattle.truth.specs.Truth.{any, wins}
use Rattle.truth.proofs.Members.{Mem, any-from, any_member, all_member, all_from, not_all_member}

module _ (p : ℕ → Bool) where
  pub wins_one : (q : Quantifier) {v : ℕ} (vs : List ℕ) → Mem v vs → p v ≡ closing q → wins q p vs ≡ closing q
  wins_one Existential vs m e = any-from p vs m e
  wins_one Universal {v} vs m e = elim (cases_Bool (all p vs)) [ inl k ↦ absurd (both_ways (p v) e (all_member p vs k m)) | inr k ↦ k ]

  pub wins-none : (q : Quantifier) (vs : List ℕ) → ((v : ℕ) → Mem v vs → p v ≡ not (closing q)) → wins q p vs ≡ not (closing q)
  wins-none Existential vs h =
      elim (cases_Bool (any p vs)) [
        | inl k ↦ let r = any_member p vs k in absurd (both_ways (p r.0) (h r.0 r.1.0) r.1.1)
        | inr k ↦ k
      ]
  wins-none Universal vs h = all_from p vs h

  pub one_wins : (q : Quantifier) (vs : List ℕ) → wins q p vs ≡ closing q → (v : ℕ) × (Mem v vs × (p v ≡ closing q))
  one_wins Existential vs e = any_member p vs e
  one_wins Universal vs e = not_all_member p vs e

  pub none-wins : (q : Quantifier) (vs : List ℕ) → wins q p vs ≡ not (closing q) → (v : ℕ) → Mem v vs → p v ≡ not (closing q)
  none-wins Existential vs e v m = elim (cases_Bool (p v)) [ inl k ↦ absurd (both_ways (any p vs) e (any-from p vs m k)) | inr k ↦ k ]
  none-wins Universal vs e v m = all_member p vs e m

pub either_way : (v : Bool) (q : Quantifier) → (v ≡ closing q) ⊎ (v ≡ not (closing q))
either_way true Existential = inl refl
either_way false Existential = inr refl
either_way true Universal = inr refl
either_way false Universal = inl refl

-- What passes a verdict on from value to value passes it on.
pub wins-on : (v : Bool) (q : Quantifier) (p r : ℕ → Bool) (vs : List ℕ) → ((w : ℕ) → p w ≡ v → r w ≡ v) → wins q p vs ≡ v → wins q r vs ≡ v
wins-on v q p r vs h e =
    elim (either_way v q) [
      | inl k ↦ let w = one_wins p q vs (e ∙ k) in wins_one r q vs w.1.0 (h w.0 (w.1.1 ∙ sym k) ∙ k) ∙ sym k
      | inr k ↦ wins-none r q vs (λ w m. h w (none-wins p q vs (e ∙ k) w m ∙ sym k) ∙ k) ∙ sym k
    ]
