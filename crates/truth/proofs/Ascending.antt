-- Values in ascending order, taken one after another.
use Rattle.std.proofs.Common.{◌≡◌, ℕ, zero, suc, ◌+◌, ◌^◌, ◌<◌, ◌≤◌, Bool, leb, List, [], ◌∷◌, ◌++◌, Some, None, filter, sym, refl, ap, ◌∙◌, inl, inr, arith}
use Rattle.std.specs.List.{AllByRecursion}
use Rattle.std.proofs.ByRecursion.{All-weaker, All-push, all_kept_by}
use Rattle.std.proofs.lemmas.Bool.{cases_Bool, cond_both, leb-true, leb-false, le-leb, lt-leb}
use Rattle.truth.specs.declared.literal.Quantifier.{Quantifier}
use Rattle.truth.specs.Truth.{below}
use Rattle.truth.specs.Candidates.{candidate, candidates, first_from}

abbrev pub Ascending : List ℕ → Type 0
Ascending [] = Unit {0}
Ascending (v ∷ vs) = AllByRecursion (λ w. v < w) vs × Ascending vs

ascending_push : (vs : List ℕ) (n : ℕ) → AllByRecursion (λ w. w < n) vs → Ascending vs → Ascending (vs ++ (n ∷ []))
ascending_push [] n h a = (tt, tt)
ascending_push (v ∷ vs) n h a = (All-push (λ w. v < w) vs n a.0 h.0, ascending_push vs n h.1 a.1)

all-below : (n : ℕ) → AllByRecursion (λ w. w < n) (below n)
all-below zero = tt
all-below (suc n) = All-push (λ w. w < suc n) (below n) n (All-weaker (λ w. w < n) (λ w. w < suc n) (λ w h. omega arith) (below n) (all-below n)) (omega arith)

ascending-below : (n : ℕ) → Ascending (below n)
ascending-below zero = tt
ascending-below (suc n) = ascending_push (below n) n (all-below n) (ascending-below n)

ascending-kept : (p : ℕ → Bool) (vs : List ℕ) → Ascending vs → Ascending (filter p vs)
ascending-kept p [] a = tt
ascending-kept p (v ∷ vs) a =
    cond_both (p v) _ _ Ascending (λ _. (all_kept_by p (λ w. v < w) vs a.0, ascending-kept p vs a.1)) (λ _. ascending-kept p vs a.1)

pub candidates-ascending : (r : ℕ → ℕ) (q : Quantifier) (k : ℕ) → Ascending (candidates r q k)
candidates-ascending r q k = ascending-kept (candidate r q (below (2 ^ k))) (below (2 ^ k)) (ascending-below (2 ^ k))

kept_high : (n : ℕ) (vs : List ℕ) → AllByRecursion (λ w. n ≤ w) vs → filter (leb n) vs ≡ vs
kept_high n [] h = refl
kept_high n (v ∷ vs) h = rw (le-leb n v h.0) (ap (λ z. v ∷ z) (kept_high n vs h.1))

-- All values are not below 0.
pub from_start : (vs : List ℕ) → filter (leb 0) vs ≡ vs
from_start [] = refl
from_start (v ∷ vs) = rw (le-leb 0 v (omega arith)) (ap (λ z. v ∷ z) (from_start vs))

pub from_low : (from v : ℕ) (vs : List ℕ) → Some v ≡ first_from from vs → from ≤ v
from_low from v [] e = let z : ◌≡◌ {A = ℕ} 0 1 = cc in absurd (omega arith)
from_low from v (x ∷ vs) e =
    elim (cases_Bool (leb from x)) [
      | inl k ↦ let is : x ≡ v = (let z = rw k at e in cc) in omega (arith, leb-true from x k)
      | inr k ↦ from_low from v vs (rw k at e)
    ]

-- The first of those not below `from`, and then those above it.
pub from_next : (from v : ℕ) (vs : List ℕ) → Ascending vs → Some v ≡ first_from from vs → filter (leb from) vs ≡ v ∷ filter (leb (v + 1)) vs
from_next from v [] a e = cc
from_next from v (x ∷ vs) a e =
    elim (cases_Bool (leb from x)) [
      | inl k ↦
          let is : x ≡ v = (let z = rw k at e in cc) in
          let low = leb-true from x k in
          let old : filter (leb from) vs ≡ vs = kept_high from vs (All-weaker (λ w. x < w) (λ w. from ≤ w) (λ w h. omega arith) vs a.0) in
          let new : filter (leb (v + 1)) vs ≡ vs = kept_high (v + 1) vs (All-weaker (λ w. x < w) (λ w. v + 1 ≤ w) (λ w h. omega arith) vs a.0) in
          rw (k, lt-leb (v + 1) x (omega arith)) (ap (λ z. z ∷ filter (leb from) vs) is ∙ ap (λ z. v ∷ z) (old ∙ sym new))
      | inr k ↦
          let rest = rw k at e in
          let high = leb-false from x k in
          rw (k, lt-leb (v + 1) x (omega (arith, from_low from v vs rest))) (from_next from v vs a.1 rest)
    ]

pub from_end : (from : ℕ) (vs : List ℕ) → None ≡ first_from from vs → filter (leb from) vs ≡ []
from_end from [] e = refl
from_end from (x ∷ vs) e = elim (cases_Bool (leb from x)) [ inl k ↦ (let z = rw k at e in cc) | inr k ↦ rw k (from_end from vs (rw k at e)) ]
