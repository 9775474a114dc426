-- The candidates decide a position like all values of its block.
use Rattle.std.proofs.Common.{◌≡◌, ℕ, ◌^◌, ◌<◌, Bool, true, false, not, ◌&&◌, ◌||◌, eqb, ltb, ◌⊎◌, List, [], ◌∷◌, length, sym, refl, ◌∙◌, subst, inl, inr, arith}
use Rattle.std.proofs.lemmas.Bool.{cases_Bool, cases_eq, both_ways, not-true, not_from_false, and_parts, and_from, or_cases, or_left, or_right, eqb-true, eqb-false, eq-eqb, ne_eqb, ltb-true, lt-ltb}
use Rattle.truth.specs.declared.literal.Quantifier.{Quantifier}
use Rattle.truth.specs.declared.literal.Quantifier.TheVariants.{Existential, Universal}
use Rattle.truth.specs.Sets.{inside}
use Rattle.truth.specs.Sides.{under, closing}
use Rattle.truth.specs.Truth.{any, below, rest_under, wins, won}
use Rattle.truth.specs.Candidates.{beats, candidate, candidates}
use Rattle.truth.specs.TruthLaws.{CandidatesDecide}
use Rattle.truth.proofs.Members.{Mem, Mem.here, Mem.there, mem_below, below_mem, any_member, mem_kept, kept_mem}
use Rattle.truth.proofs.Quantified.{wins_one, wins-none, one_wins, none-wins, either_way}
use Rattle.truth.proofs.Sides.{under_self, under-on, under_both, won-inside}

-- Above each member of a list stands one that nothing in the list beats.
module _ {A : Type 0} (b : A → A → Bool) (irr : (x : A) → b x x ≡ true → ⊥) (on : (x y z : A) → b x y ≡ true → b y z ≡ true → b x z ≡ true) where
  pub record Best (v : A) (xs : List A) : Type 0 where
    pub best : A
    pub from : (best ≡ v) ⊎ ((b best v ≡ true) × Mem best xs)
    pub none : (x : A) → Mem x xs → b x best ≡ true → ⊥

  none_more : (m x : A) (xs : List A) → (b x m ≡ true → ⊥) → ((y : A) → Mem y xs → b y m ≡ true → ⊥) → (y : A) → Mem y (x ∷ xs) → b y m ≡ true → ⊥
  none_more m x xs h k y here e = h e
  none_more m x xs h k y (there i) e = k y i e

  pub best_of : (v : A) (xs : List A) → Best v xs
  best_of v [] = record { best = v; from = inl refl; none = λ x m e. elim m [ ] }
  best_of v (x ∷ xs) =
      elim (cases_Bool (b x v)) [
        | inl h ↦ let r = best_of x xs in record {
          best = r.best;
          from = inr (elim r.from [
            | inl e ↦ (subst (λ z. b z v ≡ true) (sym e) h, subst (λ z. Mem z (x ∷ xs)) (sym e) here)
            | inr k ↦ (on r.best x v k.0 h, there k.1)
          ]);
          none = none_more r.best x xs (λ k. elim r.from [
            | inl e ↦ irr x (subst (λ z. b x z ≡ true) e k)
            | inr j ↦ irr x (on x r.best x k j.0)
          ]) r.none;
        }
        | inr h ↦ let r = best_of v xs in record {
          best = r.best;
          from = elim r.from [ inl e ↦ inl e | inr k ↦ inr (k.0, there k.1) ];
          none = none_more r.best x xs (λ k. elim r.from [
            | inl e ↦ both_ways (b x v) h (subst (λ z. b x z ≡ true) e k)
            | inr j ↦ both_ways (b x v) h (on x r.best v k j.0)
          ]) r.none;
        }
      ]

beats_is : (q : Quantifier) (a b : ℕ) → beats q a b ≡ true → (under (closing q) a b ≡ true) × (a ≡ b → ⊥)
beats_is Existential a b h = let k = and_parts (inside a b) (not (eqb a b)) h in (k.0, eqb-false a b (not-true (eqb a b) k.1))
beats_is Universal a b h = let k = and_parts (inside b a) (not (eqb b a)) h in (k.0, λ e. eqb-false b a (not-true (eqb b a) k.1) (sym e))

is_beats : (q : Quantifier) (a b : ℕ) → under (closing q) a b ≡ true → (a ≡ b → ⊥) → beats q a b ≡ true
is_beats Existential a b h n = and_from (inside a b) (not (eqb a b)) h (not_from_false (eqb a b) (ne_eqb a b n))
is_beats Universal a b h n = and_from (inside b a) (not (eqb b a)) h (not_from_false (eqb b a) (ne_eqb b a (λ e. n (sym e))))

module _ (r : ℕ → ℕ) (q : Quantifier) where
  abbrev better : ℕ → ℕ → Bool
  better w v = beats q (r w) (r v) || (ltb w v && eqb (r w) (r v))

  abbrev Better : ℕ → ℕ → Type 0
  Better w v = (under (closing q) (r w) (r v) ≡ true) × (r w ≡ r v → w < v)

  better_is : (w v : ℕ) → better w v ≡ true → Better w v
  better_is w v h =
      elim (or_cases (beats q (r w) (r v)) (ltb w v && eqb (r w) (r v)) h) [
        | inl k ↦ let j = beats_is q (r w) (r v) k in (j.0, λ e. absurd (j.1 e))
        | inr k ↦
            let j = and_parts (ltb w v) (eqb (r w) (r v)) k in
            (subst (λ z. under (closing q) (r w) z ≡ true) (eqb-true (r w) (r v) j.1) (under_self (closing q) (r w)), λ _. ltb-true w v j.0)
      ]

  is_better_lem : (w v : ℕ) → Better w v → better w v ≡ true
  is_better_lem w v h =
      elim (cases_eq (r w) (r v)) [
        | inl e ↦ or_right (beats q (r w) (r v)) _ (and_from (ltb w v) (eqb (r w) (r v)) (lt-ltb w v (h.1 e)) (eq-eqb (r w) (r v) e))
        | inr n ↦ or_left (beats q (r w) (r v)) _ (is_beats q (r w) (r v) h.0 n)
      ]

  better_irr : (v : ℕ) → better v v ≡ true → ⊥
  better_irr v h = let k = (better_is v v h).1 refl in omega arith

  better-on : (x y z : ℕ) → better x y ≡ true → better y z ≡ true → better x z ≡ true
  better-on x y z h k =
      let i = better_is x y h in let j = better_is y z k in
      is_better_lem x z (
        under-on (closing q) (r x) (r y) (r z) i.0 j.0,
        λ e. let equal : r x ≡ r y = under_both (closing q) (r x) (r y) i.0 (subst (λ n. under (closing q) (r y) n ≡ true) (sym e) j.0) in
            let a : x < y = i.1 equal in
            let b : y < z = j.1 (sym equal ∙ e) in omega arith,
      )

  pub candidate-below : (k w : ℕ) → Mem w (candidates r q k) → w < 2 ^ k
  candidate-below k w m = below_mem (2 ^ k) w (kept_mem (candidate r q (below (2 ^ k))) (below (2 ^ k)) m)

  -- Each value has a candidate at least as good.
  pub candidate_for : (k v : ℕ) → v < 2 ^ k → (w : ℕ) × (Mem w (candidates r q k) × (under (closing q) (r w) (r v) ≡ true))
  candidate_for k v l =
      let vs = below (2 ^ k) in
      let m = best_of better better_irr better-on v vs in
      let w = m.best in
      let in_list : Mem w vs = elim m.from [ inl e ↦ subst (λ z. Mem z vs) (sym e) (mem_below (2 ^ k) v l) | inr j ↦ j.1 ] in
      let good : under (closing q) (r w) (r v) ≡ true = elim m.from [
        | inl e ↦ subst (λ z. under (closing q) (r z) (r v) ≡ true) (sym e) (under_self (closing q) (r v))
        | inr j ↦ (better_is w v j.0).0
      ] in
      let is : candidate r q vs w ≡ true = elim (cases_Bool (any (λ x. better x w) vs)) [
        | inl e ↦ let x = any_member (λ x. better x w) vs e in absurd (m.none x.0 x.1.0 x.1.1)
        | inr e ↦ not_from_false _ e
      ] in
      (w, (mem_kept (candidate r q vs) vs in_list is, good))

-- What holds of a set holds of every set inside it.
abbrev Closed : (ℕ → Bool) → Type 0
Closed P = (a b : ℕ) → inside a b ≡ true → P b ≡ true → P a ≡ true

closed-under : (P : ℕ → Bool) → Closed P → (v : Bool) (a b : ℕ) → under v a b ≡ true → P b ≡ v → P a ≡ v
closed-under P c true a b h e = c a b h e
closed-under P c false a b h e = elim (cases_Bool (P a)) [ inl k ↦ absurd (both_ways (P b) e (c b a h k)) | inr k ↦ k ]

pub candidates_enough : (q : Quantifier) (r : ℕ → ℕ) (k : ℕ) (P : ℕ → Bool) → Closed P → wins q (λ v. P (r v)) (candidates r q k) ≡ wins q (λ v. P (r v)) (below (2 ^ k))
candidates_enough q r k P c =
    let p : ℕ → Bool = λ v. P (r v) in
    let vs = below (2 ^ k) in
    elim (either_way (wins q p vs) q) [
      | inl e ↦
          let v = one_wins p q vs e in
          let w = candidate_for r q k v.0 (below_mem (2 ^ k) v.0 v.1.0) in
          wins_one p q (candidates r q k) w.1.0 (closed-under P c (closing q) (r w.0) (r v.0) w.1.1 v.1.1) ∙ sym e
      | inr e ↦ wins-none p q (candidates r q k) (λ w m. none-wins p q vs e w (mem_below (2 ^ k) w (candidate-below r q k w m))) ∙ sym e
    ]

pub candidates_decide : CandidatesDecide
candidates_decide cs b bs s = candidates_enough b.quantifier (λ v. rest_under cs b v s) (length b.variables) (won cs bs) (won-inside cs bs)
