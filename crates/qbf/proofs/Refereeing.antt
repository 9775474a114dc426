-- Deciding a formula one variable after another.
use Rattle.std.proofs.Common.{◌≡◌, ℕ, ◌+◌, ◌*◌, ◌<◌, ◌≤◌, Bool, true, false, ◌&&◌, leb, List, [], ◌∷◌, map, length, sum_by, Some, None, Option, sym, refl, ap, ◌∙◌, ap₂, arith}
use Rattle.std.proofs.lemmas.List.{length-append, length-take-le}
use Rattle.std.proofs.lemmas.List.Sums.{sum_by-cons}
use Rattle.std.specs.List.{list_all}
use Rattle.std.proofs.lemmas.Bool.{and_from, and_parts, leb-true, le-leb, cond-true, cond-false}
use Rattle.truth.specs.declared.literal.Quantifier.{Quantifier}
use Rattle.truth.specs.declared.literal.Clause.{Clause}
use Rattle.qbf.specs.declared.block.Block.{Block as StoredBlock}
use Rattle.qbf.specs.declared.formula.Formula.{Formula}
use Rattle.truth.specs.Limits.{max_width, max_decided}
use Rattle.truth.specs.Syntax.{Qbf, bound_in}
use Rattle.qbf.specs.Stored.{bound_by, block_of}
use Rattle.truth.specs.WellFormed.{all, ranged}
use Rattle.qbf.specs.Held.{qbf_of}
use Rattle.truth.specs.Truth.{satisfied, holds}
use Rattle.truth.specs.Plain.{bind_before, single, plain, holds_plainly}
use Rattle.truth.specs.TruthLaws.{TruthLaws}
use Rattle.truth.specs.Verdicts.{few_bound, if_few}
use Rattle.truth.proofs.OneByOne.{formulas_plain}
use Rattle.truth.proofs.Members.{all_append}
use Rattle.truth.proofs.Truths.{truth_laws}

-- A test of all elements, as the library has it.
pub all_list : {A : Type 0} (p : A → Bool) (xs : List A) → list_all p xs ≡ all p xs
all_list p [] = refl
all_list p (x ∷ xs) = ap (λ t. p x && t) (all_list p xs)

abbrev pub bound_of : List StoredBlock → List ℕ
bound_of bs = bound_in (map block_of bs)

pub width_is : (b : StoredBlock) → length (bound_by b) ≡ b.width
width_is b = length-take-le b.width b.variables (omega (arith, b.narrow, b.table))

pub bound_narrow : (b : StoredBlock) → length (bound_by b) ≤ max_width
bound_narrow b = omega (arith, width_is b, b.narrow)

bound_cons : (b : StoredBlock) (bs : List StoredBlock) → length (bound_of (b ∷ bs)) ≡ b.width + length (bound_of bs)
bound_cons b bs = length-append (bound_by b) (bound_of bs) ∙ ap (λ n. n + length (bound_of bs)) (width_is b)

pub bound_few : (bs : List StoredBlock) → length (bound_of bs) ≤ max_width * length bs
bound_few [] = omega arith
bound_few (b ∷ bs) = omega (arith, bound_cons b bs, bound_few bs, b.narrow)

-- The widths of blocks together.
pub bound_sum : (bs : List StoredBlock) → sum_by (λ b. b.width) bs ≡ length (bound_of bs)
bound_sum [] = refl
bound_sum (b ∷ bs) = sum_by-cons (λ b. b.width) b bs ∙ ap (λ n. b.width + n) (bound_sum bs) ∙ sym (bound_cons b bs)

-- What is left when all variables have a value, and where a block begins.
module _ (cs : List Clause) (q : Quantifier) (t f : ℕ) (r : Bool) where
  pub decided_end : (xs : List ℕ) (bs : List StoredBlock) → length xs ≡ 0 → length bs ≡ 0 → r ≡ all (λ c. satisfied c t f) cs →
      r ≡ plain cs (bind_before q xs (single (map block_of bs))) t f
  decided_end [] [] h k e = e
  decided_end (x ∷ xs) bs h k e = absurd (omega arith)
  decided_end [] (b ∷ bs) h k e = absurd (omega arith)

  pub decided_block : (xs : List ℕ) (bs inner : List StoredBlock) (b : StoredBlock) (vs : List ℕ) → length xs ≡ 0 → bs ≡ b ∷ inner → vs ≡ bound_by b →
      r ≡ plain cs (bind_before b.quantifier vs (single (map block_of inner))) t f → r ≡ plain cs (bind_before q xs (single (map block_of bs))) t f
  decided_block [] bs inner b vs h k l e =
      e ∙ ap (λ ys. plain cs (bind_before b.quantifier ys (single (map block_of inner))) t f) l ∙ ap (λ ys. plain cs (single (map block_of ys)) t f) (sym k)
  decided_block (x ∷ xs) bs inner b vs h k l e = absurd (omega arith)

-- A block begins with fewer steps left, at most twelve for its variables and one for itself.
pub block_fewer : (xs vs : List ℕ) (bs inner : List StoredBlock) (b : StoredBlock) → bs ≡ b ∷ inner → vs ≡ bound_by b →
    length vs + 13 * length inner < length xs + 13 * length bs
block_fewer xs vs bs inner b k e = omega (arith, ap length e, width_is b, b.narrow, ap length k)

-- The variables of a block, and of those inside it, are in range where all are.
module _ (highest : ℕ) (bs inner : List StoredBlock) (b : StoredBlock) (is : bs ≡ b ∷ inner) (range : all (ranged highest) (bound_of bs) ≡ true) where
  parts : (all (ranged highest) (bound_by b) ≡ true) × (all (ranged highest) (bound_of inner) ≡ true)
  parts = and_parts _ _ (sym (all_append (ranged highest) (bound_by b) (bound_of inner)) ∙ ap (λ ys. all (ranged highest) (bound_of ys)) (sym is) ∙ range)

  pub block_ranged : (vs : List ℕ) → vs ≡ bound_by b → all (ranged highest) vs ≡ true
  block_ranged vs e = ap (all (ranged highest)) e ∙ parts.0

  pub inner_ranged : all (ranged highest) (bound_of inner) ≡ true
  inner_ranged = parts.1

ranged_up : (low high v : ℕ) → low ≤ high → ranged low v ≡ true → ranged high v ≡ true
ranged_up low high v h e =
    let p = and_parts (leb 1 v) (leb v low) e in
    and_from _ _ p.0 (le-leb v high (omega (arith, leb-true v low p.1)))

pub all_ranged_up : (low high : ℕ) (vs : List ℕ) → low ≤ high → all (ranged low) vs ≡ true → all (ranged high) vs ≡ true
all_ranged_up low high [] h e = refl
all_ranged_up low high (v ∷ vs) h e =
    let p = and_parts (ranged low v) (all (ranged low) vs) e in
    and_from _ _ (ranged_up low high v h p.0) (all_ranged_up low high vs h p.1)

-- A formula's truth is told just where it binds few variables.
module _ (truth : Qbf → Bool) (f : Qbf) where
  told_none : few_bound f ≡ false → None ≡ if_few truth f
  told_none h = sym (cond-false (few_bound f) (Some (truth f)) None h)

  told_some : (b : Bool) → few_bound f ≡ true → b ≡ truth f → Some b ≡ if_few truth f
  told_some b h e = ap Some e ∙ sym (cond-true (few_bound f) (Some (truth f)) None h)

-- What is promised of a formula's decision.
pub record Refereed (f : Qbf) (o : Option Bool) : Type 0 where
  pub plainly : o ≡ if_few holds_plainly f
  pub blocks : o ≡ if_few holds f
  pub laws : TruthLaws

module _ (f : Formula) (bs : List StoredBlock) (is : bs ≡ f.prefix.blocks.items) where
  few_bound_lem : leb (length (bound_of bs)) max_decided ≡ few_bound (qbf_of f)
  few_bound_lem = ap (λ xs. leb (length (bound_of xs)) max_decided) is

  pub refereed_none : leb (length (bound_of bs)) max_decided ≡ false → Refereed (qbf_of f) None
  refereed_none h =
      let many = sym few_bound_lem ∙ h in
      record { plainly = told_none holds_plainly (qbf_of f) many; blocks = told_none holds (qbf_of f) many; laws = truth_laws }

  pub refereed_some : leb (length (bound_of bs)) max_decided ≡ true → (cs : List Clause) → cs ≡ f.matrix.clauses.items → (b : Bool) → b ≡ plain cs (single (map block_of bs)) 0 0 → Refereed (qbf_of f) (Some b)
  refereed_some h cs held b e =
      let few = sym few_bound_lem ∙ h in
      let same = e ∙ ap₂ (λ xs ys. plain xs (single (map block_of ys)) 0 0) held is in
      record {
        plainly = told_some holds_plainly (qbf_of f) b few same;
        blocks = told_some holds (qbf_of f) b few (same ∙ sym (formulas_plain (qbf_of f)));
        laws = truth_laws;
      }
