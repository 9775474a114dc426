-- The values that walks end with are all values of the block, ascending, each with what it satisfies.
use Rattle.std.proofs.Common.{◌≡◌, ℕ, zero, suc, ◌+◌, ◌*◌, ◌^◌, ◌<◌, ◌≤◌, Bool, true, false, cond, not, ◌&&◌, ◌||◌, eqb, leb, List, [], ◌∷◌, ◌++◌, map, length, Some, None, filter, Option, sym, refl, ap, ◌∙◌, ap₂, add-zero, add_assoc, add-suc, mul_assoc, mul_comm, add-mul, one-mul, pow-suc, zero-mul, mul-one, arith}
use mathlib.Core.Path.{fun_ext}
use lib.Bits.{bit_or, or_zero_l, or_zero_r}
use Rattle.std.specs.Option.{option_map}
use Rattle.std.proofs.lemmas.List.{map-append, append_assoc, append-nil}
use Rattle.std.proofs.lemmas.Simd.{map-map}
use Rattle.truth.specs.declared.literal.Quantifier.{Quantifier}
use Rattle.truth.specs.Truth.{any, below}
use Rattle.truth.specs.Candidates.{first_from}
use Rattle.truth.proofs.Bits.{or_assoc}
use Rattle.truth.proofs.Members.{Mem, Mem.here, Mem.there, below_mem}
use Rattle.truth.proofs.Values.{digit_shift, digit_low, digit_high}
use Rattle.candidates.specs.declared.choice.Choice.{Choice}
use Rattle.candidates.specs.declared.choice.Hit.{Hit}
use Rattle.candidates.specs.Hits.{hit, better, beaten, bests}
use Rattle.candidates.specs.Walks.{some_hit, or_else, first_hit, good}

leaves : List Choice → ℕ → ℕ → List Hit
leaves [] h w = record { value = w; hits = h } ∷ []
leaves (c ∷ cs) h w = leaves cs (bit_or h c.low) (2 * w) ++ leaves cs (bit_or h c.high) (2 * w + 1)

any_append : {A : Type 0} (p : A → Bool) (xs ys : List A) → any p (xs ++ ys) ≡ (any p xs || any p ys)
any_append p [] ys = refl
any_append p (x ∷ xs) ys = elim (p x) as (λ t. (t || any p (xs ++ ys)) ≡ ((t || any p xs) || any p ys)) [ true ↦ refl | false ↦ any_append p xs ys ]

any-map : {A B : Type 0} (p : B → Bool) (f : A → B) (xs : List A) → any p (map f xs) ≡ any (λ x. p (f x)) xs
any-map p f [] = refl
any-map p f (x ∷ xs) = ap (λ t. p (f x) || t) (any-map p f xs)

-- The first element that passes a test.
abbrev first_where : {A : Type 0} → (A → Bool) → List A → Option A
first_where p [] = None
first_where p (x ∷ xs) = cond (p x) (Some x) (first_where p xs)

first_append : {A : Type 0} (p : A → Bool) (xs ys : List A) → first_where p (xs ++ ys) ≡ or_else (first_where p xs) (first_where p ys)
first_append p [] ys = refl
first_append p (x ∷ xs) ys = elim (p x) as (λ t. cond t (Some x) (first_where p (xs ++ ys)) ≡ or_else (cond t (Some x) (first_where p xs)) (first_where p ys)) [ true ↦ refl | false ↦ first_append p xs ys ]

first_map : {A B : Type 0} (p : B → Bool) (f : A → B) (xs : List A) → first_where p (map f xs) ≡ option_map f (first_where (λ x. p (f x)) xs)
first_map p f [] = refl
first_map p f (x ∷ xs) = elim (p (f x)) as (λ t. cond t (Some (f x)) (first_where p (map f xs)) ≡ option_map f (cond t (Some x) (first_where (λ x. p (f x)) xs))) [ true ↦ refl | false ↦ first_map p f xs ]

first_kept : (from : ℕ) (P : ℕ → Bool) (us : List ℕ) → first_from from (filter P us) ≡ first_where (λ u. leb from u && P u) us
first_kept from P [] = refl
first_kept from P (u ∷ us) =
    elim (P u) as (λ t. first_from from (cond t (u ∷ filter P us) (filter P us)) ≡ cond (leb from u && t) (Some u) (first_where (λ u. leb from u && P u) us)) [
      | true ↦ elim (leb from u) as (λ t. cond t (Some u) (first_from from (filter P us)) ≡ cond (t && true) (Some u) (first_where (λ u. leb from u && P u) us)) [ true ↦ refl | false ↦ first_kept from P us ]
      | false ↦ first_kept from P us ∙ (elim (leb from u) as (λ t. first_where (λ u. leb from u && P u) us ≡ cond (t && false) (Some u) (first_where (λ u. leb from u && P u) us)) [ true ↦ refl | false ↦ refl ])
    ]

some_leaves : (p : ℕ → ℕ → Bool) (cs : List Choice) (h w : ℕ) → some_hit p cs h w ≡ any (λ x. p x.hits x.value) (leaves cs h w)
unfolding leaves
some_leaves p [] h w = elim (p h w) as (λ t. t ≡ (t || false)) [ true ↦ refl | false ↦ refl ]
some_leaves p (c ∷ cs) h w =
    ap₂ ◌||◌ (some_leaves p cs (bit_or h c.low) (2 * w)) (some_leaves p cs (bit_or h c.high) (2 * w + 1))
    ∙ sym (any_append (λ x. p x.hits x.value) (leaves cs (bit_or h c.low) (2 * w)) (leaves cs (bit_or h c.high) (2 * w + 1)))

first_leaves : (p : ℕ → ℕ → Bool) (cs : List Choice) (h w : ℕ) → first_hit p cs h w ≡ first_where (λ x. p x.hits x.value) (leaves cs h w)
unfolding leaves
first_leaves p [] h w = refl
first_leaves p (c ∷ cs) h w =
    ap₂ or_else (first_leaves p cs (bit_or h c.low) (2 * w)) (first_leaves p cs (bit_or h c.high) (2 * w + 1))
    ∙ sym (first_append (λ x. p x.hits x.value) (leaves cs (bit_or h c.low) (2 * w)) (leaves cs (bit_or h c.high) (2 * w + 1)))

below_split : (a b : ℕ) → below (a + b) ≡ below a ++ map (λ v. a + v) (below b)
below_split a zero = ap below (add-zero a) ∙ sym (append-nil (below a))
below_split a (suc b) =
    ap below (add-suc a b) ∙ ap (λ xs. xs ++ ((a + b) ∷ [])) (below_split a b)
    ∙ append_assoc (below a) (map (λ v. a + v) (below b)) ((a + b) ∷ []) ∙ ap (λ xs. below a ++ xs) (sym (map-append (λ v. a + v) (below b) (b ∷ [])))

map_same : {A B : Type 0} (f g : A → B) (xs : List A) → ((x : A) → Mem x xs → f x ≡ g x) → map f xs ≡ map g xs
map_same f g [] h = refl
map_same f g (x ∷ xs) h = ap₂ ◌∷◌ (h x here) (map_same f g xs (λ y m. h y (there m)))

hit_shift : (cs : List Choice) (m v : ℕ) → length cs ≤ m → hit cs (2 ^ m + v) ≡ hit cs v
hit_shift [] m v h = refl
hit_shift (c ∷ cs) m v h = ap₂ (λ d r. bit_or (cond (eqb d 1) c.high c.low) r) (digit_shift (length cs) m v (omega arith)) (hit_shift cs m v (omega arith))

-- The value w * 2 ^ n + u, and what it satisfies beside h.
abbrev leaf_at : List Choice → ℕ → ℕ → ℕ → Hit
leaf_at cs h w u = record { value = w * 2 ^ length cs + u; hits = bit_or h (hit cs u) }

doubled : (w n : ℕ) → 2 * w * 2 ^ n ≡ w * 2 ^ suc n
doubled w n = ap (λ z. z * 2 ^ n) (mul_comm 2 w) ∙ mul_assoc w 2 (2 ^ n) ∙ ap (λ z. w * z) (mul_comm 2 (2 ^ n) ∙ sym (pow-suc 2 n))

-- The value and the hits of a leaf in the lower and in the upper half.
module _ (c : Choice) (cs : List Choice) (h w u : ℕ) (lt : u < 2 ^ length cs) where
  low_leaf : leaf_at cs (bit_or h c.low) (2 * w) u ≡ leaf_at (c ∷ cs) h w u
  low_leaf =
      let hits : bit_or (bit_or h c.low) (hit cs u) ≡ bit_or h (hit (c ∷ cs) u) =
      or_assoc h c.low (hit cs u) ∙ ap (bit_or h) (sym (ap (λ d. bit_or (cond (eqb d 1) c.high c.low) (hit cs u)) (digit_low (length cs) u lt))) in
      let value : 2 * w * 2 ^ length cs + u ≡ w * 2 ^ suc (length cs) + u = ap (λ z. z + u) (doubled w (length cs)) in
      ap₂ (λ a b. record { value = a; hits = b }) value hits

  high_leaf : leaf_at cs (bit_or h c.high) (2 * w + 1) u ≡ leaf_at (c ∷ cs) h w (2 ^ length cs + u)
  high_leaf =
      let hits : bit_or (bit_or h c.high) (hit cs u) ≡ bit_or h (hit (c ∷ cs) (2 ^ length cs + u)) =
      or_assoc h c.high (hit cs u) ∙ ap (bit_or h) (sym (ap₂ (λ d r. bit_or (cond (eqb d 1) c.high c.low) r) (digit_high (length cs) u lt) (hit_shift cs (length cs) u (omega arith)))) in
      let value : (2 * w + 1) * 2 ^ length cs + u ≡ w * 2 ^ suc (length cs) + (2 ^ length cs + u) =
      ap (λ z. z + u) (add-mul (2 * w) 1 (2 ^ length cs) ∙ ap₂ ◌+◌ (doubled w (length cs)) (one-mul (2 ^ length cs))) ∙ add_assoc _ _ _ in
      ap₂ (λ a b. record { value = a; hits = b }) value hits

leaves_are : (cs : List Choice) (h w : ℕ) → leaves cs h w ≡ map (leaf_at cs h w) (below (2 ^ length cs))
unfolding leaves
leaves_are [] h w = ap₂ (λ a b. record { value = a; hits = b } ∷ []) (omega (arith, mul-one w)) (sym (or_zero_r h))
leaves_are (c ∷ cs) h w =
    let n = 2 ^ length cs in
    let twice : n + n ≡ 2 ^ suc (length cs) = omega (arith, pow-suc 2 (length cs)) in
    ap₂ ◌++◌
    (leaves_are cs (bit_or h c.low) (2 * w) ∙ map_same _ (leaf_at (c ∷ cs) h w) (below n) (λ u m. low_leaf c cs h w u (below_mem n u m)))
    (leaves_are cs (bit_or h c.high) (2 * w + 1) ∙ map_same _ (λ u. leaf_at (c ∷ cs) h w (n + u)) (below n) (λ u m. high_leaf c cs h w u (below_mem n u m)) ∙ sym (map-map (leaf_at (c ∷ cs) h w) (λ u. n + u) (below n)))
    ∙ sym (map-append (leaf_at (c ∷ cs) h w) (below n) (map (λ u. n + u) (below n)))
    ∙ ap (map (leaf_at (c ∷ cs) h w)) (sym (below_split n n) ∙ ap below twice)

-- The value u, and what it satisfies.
abbrev value_hit : List Choice → ℕ → Hit
value_hit cs u = record { value = u; hits = hit cs u }

all_leaves : (cs : List Choice) → leaves cs 0 0 ≡ map (value_hit cs) (below (2 ^ length cs))
all_leaves cs =
    leaves_are cs 0 0
    ∙ map_same _ (value_hit cs) (below (2 ^ length cs)) (λ u m. ap₂ (λ a b. record { value = a; hits = b }) (omega (arith, zero-mul (2 ^ length cs))) (or_zero_l (hit cs u)))

some-beaten : (q : Quantifier) (cs : List Choice) (v : ℕ) → some_hit (better q (hit cs v) v) cs 0 0 ≡ beaten q cs v
some-beaten q cs v =
    some_leaves (better q (hit cs v) v) cs 0 0 ∙ ap (any (λ x. better q (hit cs v) v x.hits x.value)) (all_leaves cs)
    ∙ any-map (λ x. better q (hit cs v) v x.hits x.value) (value_hit cs) (below (2 ^ length cs))

-- The first good leaf is the first of the values that none beats.
pub first_best : (q : Quantifier) (cs : List Choice) (from : ℕ) → first_hit (good q cs from) cs 0 0 ≡ option_map (value_hit cs) (first_from from (bests q cs))
first_best q cs from =
    first_leaves (good q cs from) cs 0 0 ∙ ap (first_where (λ x. good q cs from x.hits x.value)) (all_leaves cs)
    ∙ first_map (λ x. good q cs from x.hits x.value) (value_hit cs) (below (2 ^ length cs))
    ∙ ap (λ p. option_map (value_hit cs) (first_where p (below (2 ^ length cs)))) (fun_ext (λ u. ap (λ t. leb from u && not t) (some-beaten q cs u)))
    ∙ ap (option_map (value_hit cs)) (sym (first_kept from (λ u. not (beaten q cs u)) (below (2 ^ length cs))))
