-- What a walk need not look at.
use Rattle.std.proofs.Common.{◌≡◌, ℕ, suc, ◌+◌, ◌*◌, ◌/◌, ◌^◌, ◌<◌, Bool, true, false, cond, not, ◌&&◌, eqb, ltb, leb, List, [], ◌∷◌, length, Some, None, sym, refl, ap, ◌∙◌, subst, ap₂, inl, inr, pow-suc, div-one, arith}
use native.Mathlib.Nat.{div-div-eq-div-mul}
use lib.Bits.{bit_or, or_zero_r}
use Rattle.std.proofs.lemmas.Bool.{cases_Bool, both_ways, and_parts, and_from, or_cases, or_left, or_right, eqb-true, lt-ltb, lt-leb}
use Rattle.truth.specs.declared.literal.Quantifier.{Quantifier}
use Rattle.truth.specs.declared.literal.Quantifier.TheVariants.{Existential, Universal}
use Rattle.truth.proofs.Bits.{Sub, sub_of, of_sub, sub_self, sub_on, sub_or, or_assoc, both_inside}
use Rattle.candidates.specs.declared.choice.Choice.{Choice}
use Rattle.candidates.specs.Hits.{at_least, better, reach_of, reaching, may_reach}
use Rattle.candidates.specs.Walks.{some_hit, or_else, first_hit, good, Walked, Walked.begun, Walked.low, Walked.high}
use Rattle.candidates.proofs.Sets.{sub_or_right, or_grows, at_least_or}

-- What can be reached after one variable more could be reached before it.
may_before : (q : Quantifier) (g h x later reach : ℕ) → Sub x reach → Sub later reach → may_reach q g (bit_or h x) later ≡ true → may_reach q g h reach ≡ true
may_before Existential g h x later reach i j e =
    of_sub _ _ (sub_on g (bit_or (bit_or h x) later) (bit_or h reach) (sub_of _ _ e)
    (subst (λ n. Sub n (bit_or h reach)) (sym (or_assoc h x later)) (or_grows h h (bit_or x later) reach (sub_self h) (both_inside x later reach i j))))
may_before Universal g h x later reach i j e = of_sub _ _ (sub_on h (bit_or h x) g (sub_or h x) (sub_of _ _ e))

may_end : (q : Quantifier) (g h : ℕ) → at_least q g h ≡ true → may_reach q g h 0 ≡ true
may_end Existential g h e = of_sub _ _ (subst (Sub g) (sym (or_zero_r h)) (sub_of _ _ e))
may_end Universal g h e = e

-- A value that is better is within reach.
some_may : (q : Quantifier) (g v : ℕ) (cs : List Choice) (h w : ℕ) → reaching cs ≡ true → some_hit (better q g v) cs h w ≡ true → may_reach q g h (reach_of cs) ≡ true
some_may q g v [] h w r e = may_end q g h (and_parts (at_least q g h) _ e).0
some_may q g v (c ∷ cs) h w r e =
    let p = and_parts (eqb c.reach (bit_or (bit_or c.low c.high) (reach_of cs))) (reaching cs) r in
    let is = eqb-true c.reach _ p.0 in
    let both : Sub (bit_or c.low c.high) c.reach = subst (Sub (bit_or c.low c.high)) (sym is) (sub_or _ (reach_of cs)) in
    let later : Sub (reach_of cs) c.reach = subst (Sub (reach_of cs)) (sym is) (sub_or_right (bit_or c.low c.high) (reach_of cs)) in
    elim (or_cases (some_hit (better q g v) cs (bit_or h c.low) (2 * w)) _ e) [
      | inl k ↦ may_before q g h c.low (reach_of cs) c.reach (sub_on c.low _ c.reach (sub_or c.low c.high) both) later (some_may q g v cs (bit_or h c.low) (2 * w) p.1 k)
      | inr k ↦ may_before q g h c.high (reach_of cs) c.reach (sub_on c.high _ c.reach (sub_or_right c.low c.high) both) later (some_may q g v cs (bit_or h c.high) (2 * w + 1) p.1 k)
    ]

-- Nothing better is out of reach.
pub out_of_reach : (q : Quantifier) (g v : ℕ) (cs : List Choice) (h w reach : ℕ) → reaching cs ≡ true → reach ≡ reach_of cs → may_reach q g h reach ≡ false → some_hit (better q g v) cs h w ≡ false
out_of_reach q g v cs h w reach r is n =
    elim (cases_Bool (some_hit (better q g v) cs h w)) [
      | inl k ↦ absurd (both_ways (may_reach q g h reach) n (ap (may_reach q g h) is ∙ some_may q g v cs h w r k))
      | inr k ↦ k
    ]

-- All values that go on so are below the one to begin from.
pub all-below : (q : Quantifier) (all : List Choice) (from : ℕ) (cs : List Choice) (h w : ℕ) → w < from / 2 ^ length cs → first_hit (good q all from) cs h w ≡ None
all-below q all from [] h w e =
    let t : leb from w ≡ false = lt-leb from w (omega (arith, div-one from)) in
    ap (λ z. cond (z && not (some_hit (better q h w) all 0 0)) (Some (record { value = w; hits = h })) None) t
all-below q all from (c ∷ cs) h w e =
    let half : from / 2 ^ length cs / 2 ≡ from / 2 ^ suc (length cs) = div-div-eq-div-mul from (2 ^ length cs) 2 ∙ ap (λ n. from / n) (sym (pow-suc 2 (length cs))) in
    ap₂ or_else (all-below q all from cs (bit_or h c.low) (2 * w) (omega (arith, half))) (all-below q all from cs (bit_or h c.high) (2 * w + 1) (omega (arith, half)))

-- Each value that goes on from h is beaten by the one that goes on alike from better hits and lower digits.
all-beaten : (q : Quantifier) (all : List Choice) (from : ℕ) (cs : List Choice) (h w g v : ℕ) → at_least q h g ≡ true → v < w →
    ((p : ℕ → ℕ → Bool) → some_hit p cs g v ≡ true → some_hit p all 0 0 ≡ true) → first_hit (good q all from) cs h w ≡ None
all-beaten q all from [] h w g v a l on =
    let beats : some_hit (better q h w) all 0 0 ≡ true = on (better q h w) (and_from (at_least q h g) _ a (or_right (not (eqb g h)) (ltb v w) (lt-ltb v w l))) in
    let t : (leb from w && not (some_hit (better q h w) all 0 0)) ≡ false = and_not (leb from w) _ beats in
    ap (λ z. cond z (Some (record { value = w; hits = h })) None) t
  where
    and_not : (x y : Bool) → y ≡ true → (x && not y) ≡ false
    and_not true y e = ap not e
    and_not false y e = refl
all-beaten q all from (c ∷ cs) h w g v a l on =
    ap₂ or_else
    (all-beaten q all from cs (bit_or h c.low) (2 * w) (bit_or g c.low) (2 * v) (at_least_or q h g c.low a) (omega arith) (λ p e. on p (or_left _ _ e)))
    (all-beaten q all from cs (bit_or h c.high) (2 * w + 1) (bit_or g c.high) (2 * v + 1) (at_least_or q h g c.high a) (omega arith) (λ p e. on p (or_right (some_hit p cs (bit_or g c.low) (2 * v)) _ e)))

-- What a walk comes to is among all.
walked_some : {all rest : List Choice} {h w : ℕ} → Walked all rest h w → (p : ℕ → ℕ → Bool) → some_hit p rest h w ≡ true → some_hit p all 0 0 ≡ true
walked_some begun p e = e
walked_some (low {c} {cs} {h} {w} k) p e = walked_some k p (or_left _ _ e)
walked_some (high {c} {cs} {h} {w} k) p e = walked_some k p (or_right (some_hit p cs (bit_or h c.low) (2 * w)) _ e)

-- Where a variable's digit 0 satisfies at least as well as its digit 1, no value with digit 1 is a candidate.
pub high_needless : (q : Quantifier) (all : List Choice) (from : ℕ) (c : Choice) (cs : List Choice) (h w : ℕ) → Walked all (c ∷ cs) h w →
    at_least q (bit_or h c.high) (bit_or h c.low) ≡ true → first_hit (good q all from) cs (bit_or h c.high) (2 * w + 1) ≡ None
high_needless q all from c cs h w k a =
    all-beaten q all from cs (bit_or h c.high) (2 * w + 1) (bit_or h c.low) (2 * w) a (omega arith) (λ p e. walked_some k p (or_left _ _ e))
