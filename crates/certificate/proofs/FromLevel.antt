-- Blocks by their level, and the blocks from a level on.
use Rattle.std.proofs.Common.{◌≡◌, ℕ, zero, suc, ◌+◌, ◌-◌, ◌*◌, ◌/◌, ◌%◌, ◌^◌, ◌≤◌, Bool, true, false, cond, eqb, ltb, leb, List, [], ◌∷◌, length, drop, is_some, Some, None, Option, sym, refl, ap, ◌∙◌, subst, inl, inr, zero-mul, add-one, arith, pow_pos, pow_mono}
use Rattle.std.specs.Option.{option_map}
use Rattle.std.specs.List.{slice_get}
use Rattle.truth.specs.Places.{numbered}
use Rattle.truth.specs.Limits.{max_width}
use Rattle.truth.specs.Syntax.{Block, Qbf}
use Rattle.truth.specs.WellFormed.{all, wide}
use Rattle.truth.specs.Sides.{owes}
use Rattle.truth.specs.declared.literal.Quantifier.{Quantifier}
use Rattle.std.proofs.lemmas.Bool.{cases_lt, both_ways, and_parts, leb-true, lt-ltb, le-ltb, eq-eqb, ne_eqb}
use native.Mathlib.Nat.{lt-div-mul-add, div-eq_of_lt}
use Rattle.std.proofs.lemmas.List.{length-drop}
use Rattle.certificate.specs.declared.mover.Mover.TheVariants.{Holder, Other}
use Rattle.certificate.specs.Accepting.{blocks_from}
use Rattle.certificate.specs.Movers.{mover_of, is_value}

-- What stands at a place, and all behind it.
abbrev pub following : {A : Type 0} → Option A → List A → List A
following None xs = []
following (Some x) xs = x ∷ xs

pub drop_nth : {A : Type 0} (xs : List A) (i : ℕ) → drop i xs ≡ following (slice_get xs i) (drop (suc i) xs)
drop_nth [] zero = refl
drop_nth [] (suc i) = refl
drop_nth (x ∷ xs) zero = refl
drop_nth (x ∷ xs) (suc i) = drop_nth xs i

pub drop_next : {A : Type 0} (n : ℕ) (xs : List A) (y : A) (ys : List A) → drop n xs ≡ y ∷ ys → drop (suc n) xs ≡ ys
drop_next zero [] y ys h = cc
drop_next zero (x ∷ xs) y ys h = cc
drop_next (suc n) [] y ys h = cc
drop_next (suc n) (x ∷ xs) y ys h = drop_next n xs y ys h

pub from_level : (f : Qbf) (level : ℕ) → blocks_from f level ≡ following (numbered f.prefix level) (drop level f.prefix)
from_level f zero = refl
from_level f (suc i) = drop_nth f.prefix i

-- The blocks from a level on, by how many are before it.
pub from_before : (f : Qbf) (level : ℕ) → 1 ≤ level → drop (level - 1) f.prefix ≡ blocks_from f level
from_before f zero h = absurd (omega arith)
from_before f (suc i) h = let same : suc i - 1 ≡ i = omega arith in ap (λ n. drop n f.prefix) same

pub from_next : (f : Qbf) (level : ℕ) → blocks_from f (level + 1) ≡ drop level f.prefix
from_next f level = rw add-one refl

-- The blocks from the next level on.
pub next_blocks : (f : Qbf) (b : Block) (bs : List Block) (level : ℕ) → blocks_from f level ≡ b ∷ bs → blocks_from f (level + 1) ≡ bs
next_blocks f b bs zero d = cc
next_blocks f b bs (suc i) d = from_next f (suc i) ∙ drop_next i f.prefix b bs d

-- A level with a block is one of the formula's.
pub level_there : (f : Qbf) (b : Block) (bs : List Block) (level : ℕ) → blocks_from f level ≡ b ∷ bs → level ≤ length f.prefix
level_there f b bs zero d = omega arith
level_there f b bs (suc i) d = omega (arith, length-drop i f.prefix, ap length d)

mapped_none : {A B : Type 0} (g : A → B) (o : Option A) (xs : List A) → None ≡ option_map g o → following o xs ≡ []
mapped_none g None xs e = refl
mapped_none g (Some x) xs e = cc

mapped_some : {A B : Type 0} (g : A → B) (o : Option A) (xs : List A) (y : B) → Some y ≡ option_map g o → (x : A) × ((y ≡ g x) × (following o xs ≡ x ∷ xs))
mapped_some g None xs y e = let z : ◌≡◌ {A = ℕ} 0 1 = cc in absurd (omega arith)
mapped_some g (Some x) xs y e = (x, (cc, refl))

-- What is told of the block at a level tells whether there is one.
module _ {B : Type 0} (g : Block → B) (f : Qbf) (level : ℕ) where
  pub told_none : None ≡ option_map g (numbered f.prefix level) → blocks_from f level ≡ []
  told_none e = from_level f level ∙ mapped_none g (numbered f.prefix level) (drop level f.prefix) e

  pub told_some : (y : B) → Some y ≡ option_map g (numbered f.prefix level) → (b : Block) × ((y ≡ g b) × (blocks_from f level ≡ b ∷ drop level f.prefix))
  told_some y e =
      let r = mapped_some g (numbered f.prefix level) (drop level f.prefix) y e in
      (r.0, (r.1.0, from_level f level ∙ r.1.1))

  pub is_none_there : (o : Option B) → o ≡ option_map g (numbered f.prefix level) → is_some o ≡ false → blocks_from f level ≡ []
  is_none_there None e k = told_none e
  is_none_there (Some y) e k = absurd (both_ways true k refl)

  pub is_some_there : (o : Option B) → o ≡ option_map g (numbered f.prefix level) → is_some o ≡ true → (b : Block) × (blocks_from f level ≡ b ∷ drop level f.prefix)
  is_some_there None e k = absurd (both_ways false refl k)
  is_some_there (Some y) e k = let b = told_some y e in (b.0, b.1.1)

  pub level_within : (y : B) → Some y ≡ option_map g (numbered f.prefix level) → level ≤ length f.prefix
  level_within y e = let b = told_some y e in level_there f b.0 (drop level f.prefix) level b.1.1

-- Who moves at a level, by the quantifier that is told of it.
module _ (v : Bool) (f : Qbf) (level : ℕ) where
  pub mover_none : None ≡ option_map (λ b. b.quantifier) (numbered f.prefix level) → None ≡ mover_of v (blocks_from f level)
  mover_none e = ap (mover_of v) (sym (told_none (λ b. b.quantifier) f level e))

  pub mover_is : (q : Quantifier) (o : Bool) → Some q ≡ option_map (λ b. b.quantifier) (numbered f.prefix level) → o ≡ owes v q → Some (cond o Holder Other) ≡ mover_of v (blocks_from f level)
  mover_is q o e k =
      let b = told_some (λ b. b.quantifier) f level q e in
      ap (λ z. Some (cond z Holder Other)) (k ∙ ap (owes v) b.1.0) ∙ ap (mover_of v) (sym b.1.1)

-- The first of some elements that all pass a test passes it.
pub all_first : {A : Type 0} (p : A → Bool) (n : ℕ) (xs : List A) (y : A) (ys : List A) → all p xs ≡ true → drop n xs ≡ y ∷ ys → p y ≡ true
all_first p zero [] y ys h e = cc
all_first p zero (x ∷ xs) y ys h e = let same : x ≡ y = cc in subst (λ z. p z ≡ true) same (and_parts (p x) (all p xs) h).0
all_first p (suc n) [] y ys h e = cc
all_first p (suc n) (x ∷ xs) y ys h e = all_first p n xs y ys (and_parts (p x) (all p xs) h).1 e

pub all_at : (p : Block → Bool) (f : Qbf) (b : Block) (bs : List Block) (level : ℕ) → all p f.prefix ≡ true → blocks_from f level ≡ b ∷ bs → p b ≡ true
all_at p f b bs zero h e = cc
all_at p f b bs (suc i) h e = all_first p i f.prefix b bs h e

module _ (f : Qbf) (level width : ℕ) (e : Some width ≡ option_map (λ b. length b.variables) (numbered f.prefix level)) where
  pub narrow_at : all wide f.prefix ≡ true → width ≤ max_width
  narrow_at h =
      let b = told_some (λ b. length b.variables) f level width e in
      let n = length b.0.variables in
      let k = and_parts (leb 1 n) (leb n max_width) (all_at wide f b.0 (drop level f.prefix) level h b.1.1) in
      omega (arith, leb-true n max_width k.1, b.1.0)

  pub value_is : (w : ℕ) → all wide f.prefix ≡ true → ltb w ((1 * 2 ^ width) % 65536) ≡ is_value (blocks_from f level) w
  value_is w h =
      let b = told_some (λ b. length b.variables) f level width e in
      let small : 2 ^ width ≤ 2 ^ max_width = pow_mono (narrow_at h) in
      let power : (1 * 2 ^ width) % 65536 ≡ 2 ^ width = omega arith in
      ap (ltb w) (power ∙ ap (λ n. 2 ^ n) b.1.0) ∙ ap (λ z. is_value z w) (sym b.1.1)

pub value_none : (f : Qbf) (level w : ℕ) → None ≡ option_map (λ b. length b.variables) (numbered f.prefix level) → false ≡ is_value (blocks_from f level) w
value_none f level w e = ap (λ z. is_value z w) (sym (told_none (λ b. length b.variables) f level e))

-- A number is below a power of two just where nothing is left of it above.
pub above-none : (s n : ℕ) → eqb (s / 2 ^ n) 0 ≡ ltb s (2 ^ n)
above-none s n =
    elim (cases_lt s (2 ^ n)) [
      | inl h ↦ eq-eqb (s / 2 ^ n) 0 (div-eq_of_lt h) ∙ sym (lt-ltb s (2 ^ n) h)
      | inr h ↦
          ne_eqb (s / 2 ^ n) 0 (λ e. let z : s / 2 ^ n * 2 ^ n ≡ 0 = ap (λ k. k * 2 ^ n) e ∙ zero-mul (2 ^ n) in omega (arith, lt-div-mul-add {a = s} (pow_pos n)))
          ∙ sym (le-ltb s (2 ^ n) h)
    ]
