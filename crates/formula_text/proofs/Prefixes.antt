-- A prefix that grows by one block after another, innermost last.
use Rattle.std.proofs.Common.{◌≡◌, ℕ, ◌<◌, ◌≤◌, Bool, true, false, not, eqb, List, [], ◌∷◌, ◌++◌, length, sym, refl, ap, ◌∙◌, append_assoc, append-nil, arith}
use Rattle.std.proofs.lemmas.List.{length-append, length_push}
use Rattle.std.proofs.lemmas.Bool.{and_from, and_parts, or_parts, not-true, not_from_false}
use Rattle.truth.specs.declared.literal.Quantifier.{Quantifier}
use Rattle.truth.specs.declared.literal.Quantifier.TheVariants.{Existential, Universal}
use Rattle.truth.specs.Limits.{max_blocks}
use Rattle.truth.specs.Syntax.{Block, bound_in}
use Rattle.truth.specs.WellFormed.{all, elem, distinct, ranged, existential, same, repeats, wide, alternating, innermost}
use Rattle.truth.proofs.Members.{all_append}

-- What WellFormed says of the blocks, but that the innermost is existential.
pub record Sound (highest : ℕ) (bs : List Block) : Type 0 where
  pub few : length bs ≤ max_blocks
  pub widths : all wide bs ≡ true
  pub range : all (ranged highest) (bound_in bs) ≡ true
  pub once : distinct (bound_in bs) ≡ true
  pub alternates : alternating bs ≡ true

-- What a block must be to follow others.
pub record Follows (highest : ℕ) (bs : List Block) (b : Block) : Type 0 where
  pub room : length bs < max_blocks
  pub width : wide b ≡ true
  pub range : all (ranged highest) b.variables ≡ true
  pub once : distinct (bound_in bs ++ b.variables) ≡ true
  pub turns : repeats b.quantifier bs ≡ false

all_parts : {A : Type 0} (p : A → Bool) (xs ys : List A) → all p (xs ++ ys) ≡ true → (all p xs ≡ true) × (all p ys ≡ true)
all_parts p xs ys h = and_parts (all p xs) (all p ys) (sym (all_append p xs ys) ∙ h)

bound_append : (bs cs : List Block) → bound_in (bs ++ cs) ≡ bound_in bs ++ bound_in cs
bound_append [] cs = refl
bound_append (b ∷ bs) cs = ap (λ vs. b.variables ++ vs) (bound_append bs cs) ∙ sym (append_assoc b.variables (bound_in bs) (bound_in cs))

elem_front : (v : ℕ) (xs ys : List ℕ) → elem v (xs ++ ys) ≡ false → elem v xs ≡ false
elem_front v [] ys h = refl
elem_front v (x ∷ xs) ys h = let p = or_parts (eqb v x) _ h in rw p.0 (elem_front v xs ys p.1)

distinct_front : (xs ys : List ℕ) → distinct (xs ++ ys) ≡ true → distinct xs ≡ true
distinct_front [] ys h = refl
distinct_front (x ∷ xs) ys h =
    let p = and_parts (not (elem x (xs ++ ys))) _ h in
    and_from _ _ (not_from_false _ (elem_front x xs ys (not-true _ p.0))) (distinct_front xs ys p.1)

same_either_way : (p q : Quantifier) → same p q ≡ same q p
same_either_way Existential Existential = refl
same_either_way Existential Universal = refl
same_either_way Universal Existential = refl
same_either_way Universal Universal = refl

alternating_push : (bs : List Block) (b : Block) → alternating bs ≡ true → repeats b.quantifier bs ≡ false → alternating (bs ++ b ∷ []) ≡ true
alternating_push [] b h r = refl
alternating_push (a ∷ []) b h r = rw (same_either_way a.quantifier b.quantifier, r)
alternating_push (a ∷ c ∷ bs) b h r = let p = and_parts _ (alternating (c ∷ bs)) h in and_from _ _ p.0 (alternating_push (c ∷ bs) b p.1 r)

alternating_turns : (bs rest : List Block) (b : Block) → alternating (bs ++ b ∷ rest) ≡ true → repeats b.quantifier bs ≡ false
alternating_turns [] rest b h = refl
alternating_turns (a ∷ []) rest b h =
    same_either_way b.quantifier a.quantifier ∙ not-true _ (and_parts _ (alternating (b ∷ rest)) h).0
alternating_turns (a ∷ c ∷ bs) rest b h = alternating_turns (c ∷ bs) rest b (and_parts _ (alternating (c ∷ (bs ++ b ∷ rest))) h).1

pub innermost_push : (bs : List Block) (b : Block) → innermost (bs ++ b ∷ []) ≡ existential b.quantifier
innermost_push [] b = refl
innermost_push (a ∷ []) b = refl
innermost_push (a ∷ c ∷ bs) b = innermost_push (c ∷ bs) b

pub bound_push : (bs : List Block) (b : Block) → bound_in (bs ++ b ∷ []) ≡ bound_in bs ++ b.variables
bound_push bs b = bound_append bs (b ∷ []) ∙ ap (λ vs. bound_in bs ++ vs) (append-nil b.variables)

module _ (highest : ℕ) (bs : List Block) (b : Block) where
  pub sound_push : Sound highest bs → Follows highest bs b → Sound highest (bs ++ b ∷ [])
  sound_push s g = record {
    few = rw (length_push bs b) (omega arith);
    widths = all_append wide bs (b ∷ []) ∙ and_from _ _ s.widths (and_from _ _ g.width refl);
    range = rw (bound_push bs b) (all_append (ranged highest) (bound_in bs) b.variables ∙ and_from _ _ s.range g.range);
    once = rw (bound_push bs b) g.once;
    alternates = alternating_push bs b s.alternates g.turns;
  }

  pub follows_in : (rest : List Block) → Sound highest (bs ++ b ∷ rest) → Follows highest bs b
  follows_in rest s =
      let bound = bound_append bs (b ∷ rest) in
      let range = (all_parts (ranged highest) (bound_in bs) _ (ap (all (ranged highest)) (sym bound) ∙ s.range)).1 in
      record {
        room = omega (arith, simp length-append at s.few);
        width = (and_parts (wide b) _ (all_parts wide bs (b ∷ rest) s.widths).1).0;
        range = (all_parts (ranged highest) b.variables (bound_in rest) range).0;
        once = distinct_front (bound_in bs ++ b.variables) (bound_in rest) (ap distinct (append_assoc (bound_in bs) b.variables (bound_in rest) ∙ sym bound) ∙ s.once);
        turns = alternating_turns bs rest b s.alternates;
      }
