-- Sets as numbers, with a bit for each member; and kinds of entries that cover by inclusion of sets.
use Rattle.std.specs.Prelude.{◌≡◌, ℕ, ◌≤◌, Bool, true, false, ◌==◌, bit_and}
use Rattle.std.proofs.Common.{eqb, sym, refl, ap, ◌∙◌, subst, inl, inr}
use Rattle.std.specs.Int.Bits.{and_self}
use Rattle.std.proofs.lemmas.Nat.{and_assoc, and_comm}
use Rattle.std.proofs.lemmas.Bool.{eq-eqb, eqb-true, cond-true, cond-false, cases_Bool, both_ways}
use Rattle.antichain.specs.Limits.{max_level}
use Rattle.antichain.specs.Entries.{comes_before, covers_by, Rules}

-- Each member of s is one of t.
abbrev pub inside : ℕ → ℕ → Bool
inside s t = bit_and s t == s

-- What a set covers: at true the sets that lie inside it, at false those that it lies inside.
abbrev pub covering : Bool → ℕ → ℕ → Bool
covering true s t = inside t s
covering false s t = inside s t

-- To lie inside is an order of sets.
pub inside_itself : (s : ℕ) → inside s s ≡ true
inside_itself s = eq-eqb (bit_and s s) s (and_self s)

pub inside_on : (s t u : ℕ) → inside s t ≡ true → inside t u ≡ true → inside s u ≡ true
inside_on s t u h k =
    let p = eqb-true (bit_and s t) s h in
    eq-eqb (bit_and s u) s (ap (λ r. bit_and r u) (sym p) ∙ and_assoc u s t ∙ ap (bit_and s) (eqb-true (bit_and t u) t k) ∙ p)

pub inside_both : (s t : ℕ) → inside s t ≡ true → inside t s ≡ true → s ≡ t
inside_both s t h k = sym (eqb-true (bit_and s t) s h) ∙ and_comm s t ∙ eqb-true (bit_and t s) t k

-- And so is covering.
pub covering_itself : (v : Bool) (s : ℕ) → covering v s s ≡ true
covering_itself true s = inside_itself s
covering_itself false s = inside_itself s

pub covering_on : (v : Bool) (s t u : ℕ) → covering v s t ≡ true → covering v t u ≡ true → covering v s u ≡ true
covering_on true s t u h k = inside_on u t s k h
covering_on false s t u h k = inside_on s t u h k

pub covering_both : (v : Bool) (s t : ℕ) → covering v s t ≡ true → covering v t s ≡ true → s ≡ t
covering_both true s t h k = inside_both s t k h
covering_both false s t h k = inside_both s t h k

-- A kind of entry that covers by an order of set numbers keeps the laws.
module _ (test : ℕ → ℕ → Bool) where
  covers-true : (l s m t : ℕ) → l ≡ m → test s t ≡ true → covers_by test l s m t ≡ true
  covers-true l s m t p q = cond-true (eqb l m) _ _ (eq-eqb l m p) ∙ q

  covers_parts : (l s m t : ℕ) → covers_by test l s m t ≡ true → (l ≡ m) × (test s t ≡ true)
  covers_parts l s m t h =
      elim (cases_Bool (eqb l m)) [
        | inl k ↦ (eqb-true l m k, sym (cond-true (eqb l m) _ _ k) ∙ h)
        | inr k ↦ absurd (both_ways false refl (sym (cond-false (eqb l m) _ _ k) ∙ h))
      ]

  pub rules_by : {E : Type 0} (level set : E → ℕ) → ((x : E) → (1 ≤ level x) × (level x ≤ max_level))
      → ((s : ℕ) → test s s ≡ true)
      → ((s t u : ℕ) → test s t ≡ true → test t u ≡ true → test s u ≡ true)
      → ((s t : ℕ) → test s t ≡ true → test t s ≡ true → s ≡ t)
      → Rules level set (λ x y. covers_by test (level x) (set x) (level y) (set y)) (λ x y. comes_before (level x) (set x) (level y) (set y))
  rules_by {E} level set range own on both =
      let parts = λ (x y : E). covers_parts (level x) (set x) (level y) (set y) in
      let covers = λ (x y : E). covers-true (level x) (set x) (level y) (set y) in
      record {
        least = λ x. (range x).0;
        most = λ x. (range x).1;
        itself = λ x. covers x x refl (own (set x));
        passes = λ x y z h k.
            let p = parts x y h in
            let q = parts y z k in
            covers x z (p.0 ∙ q.0) (on (set x) (set y) (set z) p.1 q.1);
        within = λ x y h. (parts x y h).0;
        alike = λ x y p q. covers x y p (subst (λ t. test (set x) t ≡ true) q (own (set x)));
        same = λ x y h k. both (set x) (set y) (parts x y h).1 (parts y x k).1;
        order = λ x y. refl;
      }
