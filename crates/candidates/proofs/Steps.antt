-- The steps of the two walks, at a variable: the last of a slice is the first of those left.
use Rattle.std.proofs.Common.{◌≡◌, ℕ, suc, ◌+◌, ◌-◌, ◌*◌, ◌/◌, ◌^◌, ◌<◌, ◌≤◌, true, false, [], ◌∷◌, ◌++◌, List, length, reverse, None, sym, ap, ◌∙◌, subst, pow-suc, arith}
use lib.Bits.{bit_or}
use Rattle.std.proofs.lemmas.Bool.{and_parts}
use Rattle.std.proofs.lemmas.List.{reverse-append, length-reverse, length_push}
use Rattle.truth.specs.declared.literal.Quantifier.{Quantifier}
use Rattle.truth.specs.Limits.{max_width}
use Rattle.candidates.specs.declared.choice.Choice.{Choice}
use Rattle.candidates.specs.Hits.{at_least, better, reach_of, reaching, may_reach}
use Rattle.candidates.specs.Walks.{some_hit, first_hit, good, Walked, Walked.low, Walked.high}
use Rattle.candidates.proofs.Pruning.{out_of_reach, all-below, high_needless}

module _ (xs ys : List Choice) (c : Choice) (is : xs ≡ ys ++ (c ∷ [])) where
  last_comes_first : reverse xs ≡ c ∷ reverse ys
  last_comes_first = ap reverse is ∙ reverse-append ys (c ∷ [])

  pub later_reaching : reaching (reverse xs) ≡ true → reaching (reverse ys) ≡ true
  later_reaching r = (and_parts _ (reaching (reverse ys)) (ap reaching (sym last_comes_first) ∙ r)).1

  pub later_small : (w : ℕ) → length xs ≤ max_width → w < 2 ^ (max_width - length xs) → 2 * w + 1 < 2 ^ (max_width - length ys)
  later_small w n l =
      let size : length xs ≡ length ys + 1 = ap length is ∙ length_push ys c in
      let more : max_width - length ys ≡ suc (max_width - length xs) = omega arith in
      subst (λ k. 2 * w + 1 < 2 ^ k) (sym more) (omega (arith, pow-suc 2 (max_width - length xs)))

  pub some_out : (q : Quantifier) (g v h w : ℕ) → reaching (reverse xs) ≡ true → false ≡ may_reach q g h c.reach → false ≡ some_hit (better q g v) (reverse xs) h w
  some_out q g v h w r e = sym (out_of_reach q g v (reverse xs) h w c.reach r (ap reach_of (sym last_comes_first)) (sym e))

  -- Towards the first good value.
  module _ (q : Quantifier) (all : List Choice) (from h w : ℕ) where
    pub first_skip : w < from / 2 ^ length xs → None ≡ first_hit (good q all from) (reverse xs) h w
    first_skip l = sym (all-below q all from (reverse xs) h w (subst (λ n. w < from / 2 ^ n) (sym (length-reverse xs)) l))

    pub walked_low : Walked all (reverse xs) h w → Walked all (reverse ys) (bit_or h c.low) (2 * w)
    walked_low k = low (subst (λ cs. Walked all cs h w) last_comes_first k)

    pub walked_high : Walked all (reverse xs) h w → Walked all (reverse ys) (bit_or h c.high) (2 * w + 1)
    walked_high k = high (subst (λ cs. Walked all cs h w) last_comes_first k)

    pub first_needless : None ≡ first_hit (good q all from) (reverse ys) (bit_or h c.low) (2 * w) → true ≡ at_least q (bit_or h c.high) (bit_or h c.low) →
        Walked all (reverse xs) h w → None ≡ first_hit (good q all from) (reverse xs) h w
    first_needless n e k =
        let high_none : first_hit (good q all from) (reverse ys) (bit_or h c.high) (2 * w + 1) ≡ None = high_needless q all from c (reverse ys) h w (subst (λ cs. Walked all cs h w) last_comes_first k) (sym e) in
        rw last_comes_first (cc)
