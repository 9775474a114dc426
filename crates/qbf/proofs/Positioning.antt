-- What values and words settle, by loops over variables and blocks.
use Rattle.std.proofs.Common.{◌≡◌, ℕ, zero, suc, ◌+◌, ◌-◌, ◌*◌, ◌/◌, ◌%◌, ◌^◌, ◌<◌, ◌≤◌, Bool, true, false, ◌&&◌, eqb, leb, List, [], ◌∷◌, map, length, get_or, take, drop, Some, Ok, Err, sym, refl, ap, ◌∙◌, ap₂, mod-eq_of_lt, one-mul, arith}
use lib.Pow.{pow-lt}
use lib.Bits.{bit_and, bit_or, or_zero_r}
use Rattle.std.specs.Option.{option_map, ok_or}
use Rattle.std.specs.List.{slice_get}
use Rattle.std.proofs.lemmas.List.{at_drop_more, at_drop_all, drop_more, length-drop, length-map, take-map}
use Rattle.faults.specs.declared.fault.Fault.{Fault}
use Rattle.std.proofs.lemmas.Bool.{and_parts, eq-eqb, ne_eqb, le-leb}
use Rattle.truth.specs.declared.literal.Clause.{Clause}
use Rattle.truth.specs.Limits.{max_variables, max_clauses}
use Rattle.truth.specs.Syntax.{Block, mask_of, bound_in}
use Rattle.truth.specs.WellFormed.{all, ranged}
use Rattle.truth.specs.Places.{numbered}
use Rattle.truth.specs.Sets.{inside}
use Rattle.truth.specs.Truth.{rest, rest_under, whole}
use Rattle.truth.specs.Positions.{decided_by, left_by, position_at}
use Rattle.truth.specs.Occurrences.{occurrences, settled}
use Rattle.truth.proofs.Bits.{or_assoc}
use Rattle.truth.proofs.Members.{all_append}
use Rattle.truth.proofs.Settling.{rest-settled, settled_small}
use Rattle.qbf.specs.declared.block.Block.{Block as StoredBlock}
use Rattle.qbf.specs.declared.formula.Formula.{Formula}
use Rattle.qbf.specs.Stored.{bound_by, block_of}
use Rattle.qbf.specs.Held.{blocks_in, qbf_of}
use Rattle.qbf.proofs.Masks.{mask_append}
use Rattle.qbf.proofs.Refereeing.{bound_of, block_ranged, inner_ranged, all_ranged_up}

pub all-at : {A : Type 0} (p : A → Bool) (xs : List A) (i : ℕ) (d : A) → i < length xs → all p xs ≡ true → p (get_or xs i d) ≡ true
all-at p [] i d h e = absurd (omega arith)
all-at p (x ∷ xs) zero d h e = (and_parts (p x) (all p xs) e).0
all-at p (x ∷ xs) (suc i) d h e = all-at p xs i d (omega arith) (and_parts (p x) (all p xs) e).1

-- A loop that gathers a union, at index i.
module _ (all_in found one more x : ℕ) (step : bit_or one more ≡ found) where
  or_more : bit_or all_in found ≡ x → bit_or (bit_or all_in one) more ≡ x
  or_more same = or_assoc all_in one more ∙ ap (bit_or all_in) step ∙ same

or_end : (all_in found x : ℕ) → found ≡ 0 → bit_or all_in found ≡ x → all_in ≡ x
or_end all_in found x none same = sym (or_zero_r all_in) ∙ ap (bit_or all_in) (sym none) ∙ same

-- The variables of a block settle clauses one after another.
module _ (cs : List Clause) (xs : List ℕ) (v i all_in : ℕ) (same : bit_or all_in (settled cs (drop i xs) v) ≡ settled cs xs v) where
  pub settle_more : i < length xs → (found : ℕ) → found ≡ occurrences (eqb ((v / 2 ^ (length xs - 1 - i)) % 2) 1) cs (get_or xs i 0) →
      bit_or (bit_or all_in found) (settled cs (drop (i + 1) xs) v) ≡ settled cs xs v
  settle_more h found e =
      let digits : length (drop (i + 1) xs) ≡ length xs - 1 - i = omega (arith, length-drop (i + 1) xs) in
      let step = at_drop_more (λ ys. settled cs ys v) xs i 0 h in
      let here = ap (λ n. bit_or (occurrences (eqb ((v / 2 ^ n) % 2) 1) cs (get_or xs i 0)) (settled cs (drop (i + 1) xs) v)) digits in
      or_more all_in (settled cs (drop i xs) v) found (settled cs (drop (i + 1) xs) v) _
      (ap (λ n. bit_or n (settled cs (drop (i + 1) xs) v)) e ∙ sym (step ∙ here)) same

  pub settle_end : length xs ≤ i → all_in ≡ settled cs xs v
  settle_end h = or_end all_in (settled cs (drop i xs) v) _ (at_drop_all (λ ys. settled cs ys v) xs i h) same

module _ (xs : List ℕ) (i all_in x : ℕ) (same : bit_or all_in (mask_of (drop i xs)) ≡ x) where
  pub mask_more : i < length xs → (one : ℕ) → one ≡ 2 ^ (get_or xs i 0 - 1) → bit_or (bit_or all_in one) (mask_of (drop (i + 1) xs)) ≡ x
  mask_more h one e =
      or_more all_in (mask_of (drop i xs)) one (mask_of (drop (i + 1) xs)) x
      (ap (λ n. bit_or n (mask_of (drop (i + 1) xs))) e ∙ sym (at_drop_more mask_of xs i 0 h)) same

  pub mask_end : length xs ≤ i → all_in ≡ x
  mask_end h = or_end all_in (mask_of (drop i xs)) x (at_drop_all mask_of xs i h) same

-- The masks of blocks, and that the blocks left are in range.
abbrev pub Masks : List StoredBlock → ℕ → ℕ → Type 0
Masks bs i all_in = (bit_or all_in (mask_of (bound_of (drop i bs))) ≡ mask_of (bound_of bs)) × (all (ranged max_variables) (bound_of (drop i bs)) ≡ true)

module _ (bs : List StoredBlock) (i all_in : ℕ) (inv : Masks bs i all_in) (h : i < length bs) (b : StoredBlock) (is : b ≡ get_or bs i b) where
  left_is : drop i bs ≡ b ∷ drop (i + 1) bs
  left_is = drop_more bs i b h ∙ ap (λ z. z ∷ drop (i + 1) bs) (sym is)

  pub masks_ranged : all (ranged max_variables) (bound_by b) ≡ true
  masks_ranged = block_ranged max_variables (drop i bs) (drop (i + 1) bs) b left_is inv.1 (bound_by b) refl

  pub masks_more : (one : ℕ) → one ≡ bit_or all_in (mask_of (bound_by b)) → Masks bs (i + 1) one
  masks_more one f =
      let parts : mask_of (bound_of (drop i bs)) ≡ bit_or (mask_of (bound_by b)) (mask_of (bound_of (drop (i + 1) bs))) =
      ap (λ ys. mask_of (bound_of ys)) left_is ∙ mask_append (bound_by b) (bound_of (drop (i + 1) bs)) in (
        ap (λ n. bit_or n (mask_of (bound_of (drop (i + 1) bs)))) f
            ∙ or_more all_in (mask_of (bound_of (drop i bs))) (mask_of (bound_by b)) (mask_of (bound_of (drop (i + 1) bs))) _ (sym parts) inv.0,
        inner_ranged max_variables (drop i bs) (drop (i + 1) bs) b left_is inv.1,
      )

pub masks_end : (bs : List StoredBlock) (i all_in : ℕ) → Masks bs i all_in → length bs ≤ i → all_in ≡ mask_of (bound_of bs)
masks_end bs i all_in inv h = or_end all_in (mask_of (bound_of (drop i bs))) _ (at_drop_all (λ ys. mask_of (bound_of ys)) bs i h) inv.0

-- All clauses, as a shifted one less one.
pub whole_shift : (n : ℕ) → n < max_clauses → (1 * 2 ^ n) % 2 ^ max_clauses ≡ 2 ^ n
whole_shift n h = ap (λ z. z % 2 ^ max_clauses) (one-mul (2 ^ n)) ∙ mod-eq_of_lt (pow-lt h)

-- The variables of one block, and of the first blocks, are among those bound.
nth_bound : (p : ℕ → Bool) (bs : List Block) (i : ℕ) (b : Block) → slice_get bs i ≡ Some b → all p (bound_in bs) ≡ true → all p b.variables ≡ true
nth_bound p [] i b e h = cc
nth_bound p (x ∷ bs) zero b e h =
    let same : x ≡ b = cc in
    ap (λ z. all p z.variables) (sym same) ∙ (and_parts _ _ (sym (all_append p x.variables (bound_in bs)) ∙ h)).0
nth_bound p (x ∷ bs) (suc i) b e h = nth_bound p bs i b e (and_parts _ _ (sym (all_append p x.variables (bound_in bs)) ∙ h)).1

numbered_bound : (p : ℕ → Bool) (bs : List Block) (l : ℕ) (b : Block) → numbered bs l ≡ Some b → all p (bound_in bs) ≡ true → all p b.variables ≡ true
numbered_bound p bs zero b e h = cc
numbered_bound p bs (suc i) b e h = nth_bound p bs i b e h

first_bound : (p : ℕ → Bool) (bs : List StoredBlock) (k : ℕ) → all p (bound_of bs) ≡ true → all p (bound_of (take k bs)) ≡ true
first_bound p [] zero h = refl
first_bound p [] (suc k) h = refl
first_bound p (b ∷ bs) zero h = refl
first_bound p (b ∷ bs) (suc k) h =
    let q = and_parts _ _ (sym (all_append p (bound_by b) (bound_of bs)) ∙ h) in
    all_append p (bound_by b) (bound_of (take k bs)) ∙ ap₂ ◌&&◌ q.0 (first_bound p bs k q.1)

pub all_bound : (f : Formula) → all (ranged max_variables) (bound_in (blocks_in f.prefix)) ≡ true
all_bound f = all_ranged_up f.variables max_variables (bound_in (blocks_in f.prefix)) f.few f.range

-- The block at a level: its variables are in range.
pub level_ranged : (f : Formula) (level : ℕ) (b : StoredBlock) → Some (block_of b) ≡ numbered (blocks_in f.prefix) level → all (ranged max_variables) (bound_by b) ≡ true
level_ranged f level b is = numbered_bound (ranged max_variables) (blocks_in f.prefix) level (block_of b) (sym is) (all_bound f)

-- The rest at a level, by what its block settles.
module _ (f : Formula) (level value set : ℕ) (b : StoredBlock) (is : Some (block_of b) ≡ numbered (blocks_in f.prefix) level) where
  pub level_rest : (w m : ℕ) → w ≡ whole (qbf_of f).matrix → m ≡ settled (qbf_of f).matrix (bound_by b) value →
      Some (bit_and set (w - m)) ≡ option_map (λ b. rest_under (qbf_of f).matrix b value set) (numbered (blocks_in f.prefix) level)
  level_rest w m p q =
      ap Some (ap₂ (λ a d. bit_and set (a - d)) p q ∙ sym (rest-settled (qbf_of f).matrix (block_of b) value set))
      ∙ ap (option_map (λ b. rest_under (qbf_of f).matrix b value set)) is

pub settled_less : (cs : List Clause) (xs : List ℕ) (value w m : ℕ) → w ≡ whole cs → m ≡ settled cs xs value → m ≤ w
settled_less cs xs value w m p q = omega (arith, p, q, settled_small cs xs value)

-- The position that a word leads to.
module _ (f : Formula) (bs : List StoredBlock) (is : bs ≡ f.prefix.blocks.items) (k word : ℕ) where
  prefix_is : blocks_in f.prefix ≡ map block_of bs
  prefix_is = ap (map block_of) (sym is)

  pub first_ranged : all (ranged max_variables) (bound_of (take k bs)) ≡ true
  first_ranged = first_bound (ranged max_variables) bs k (ap (λ ys. all (ranged max_variables) (bound_in ys)) (sym prefix_is) ∙ all_bound f)

  decided_is : mask_of (bound_of (take k bs)) ≡ decided_by (qbf_of f) k
  decided_is = ap (λ ys. mask_of (bound_in ys)) (sym (take-map block_of k bs) ∙ ap (take k) (sym prefix_is))

  count_is : length (qbf_of f).prefix ≡ length bs
  count_is = ap length prefix_is ∙ length-map bs block_of

  module _ (within : k ≤ length bs) (m : ℕ) (mask : m ≡ mask_of (bound_of (take k bs))) where
    near : leb k (length (qbf_of f).prefix) ≡ true
    near = le-leb k _ (omega (arith, count_is))

    mask_is : m ≡ decided_by (qbf_of f) k
    mask_is = mask ∙ decided_is

    pub position_off : (e : Fault) → (bit_and word m ≡ word → ⊥) → Err e ≡ ok_or (position_at (qbf_of f) k word) e
    position_off e n =
        let t : inside word (decided_by (qbf_of f) k) ≡ false = ne_eqb _ _ (λ h. n (ap (bit_and word) mask_is ∙ h)) in
        simp (near, t)

    pub position_on : (e : Fault) (cs : List Clause) (r : ℕ) → bit_and word m ≡ word → cs ≡ (qbf_of f).matrix → r ≡ rest cs word (m - word) (whole cs) → Ok r ≡ ok_or (position_at (qbf_of f) k word) e
    position_on e cs r h c q =
        let t : inside word (decided_by (qbf_of f) k) ≡ true = eq-eqb _ _ (ap (bit_and word) (sym mask_is) ∙ h) in
        let same : r ≡ left_by (qbf_of f) k word = q ∙ ap₂ (λ ds n. rest ds word (n - word) (whole ds)) c mask_is in
        ap Ok same ∙ sym (simp (near, t))
