-- What the tests of a block line and of a clause line decide.
use Rattle.std.proofs.Common.{◌≡◌, ℕ, ◌<◌, ◌≤◌, Bool, true, false, cond, not, ◌&&◌, ◌||◌, eqb, ltb, leb, List, [], ◌∷◌, ◌++◌, length, Some, None, Ok, Err, Option, Result, sym, refl, ap, ◌∙◌, subst, ap₂, arith}
use lib.Bits.{bit_and, bit_or}
use Rattle.std.specs.Option.{ok_or, option_map}
use Rattle.std.proofs.lemmas.List.{length-map}
use Rattle.std.proofs.lemmas.Bool.{leb-true, le-leb, lt-leb, le-ltb, and_parts, and_from, eqb-false}
use Rattle.faults.specs.declared.cause.Cause.TheVariants.{BadVariable, BadAlternation, UnboundVariable}
use Rattle.faults.specs.declared.fault.Fault.{Fault}
use Rattle.text.specs.Rows.{fields_of}
use Rattle.text.specs.Taken.{and_then}
use Rattle.truth.specs.declared.literal.Quantifier.{Quantifier}
use Rattle.truth.specs.declared.literal.Literal.{Literal}
use Rattle.arrayvec.specs.ArrayVec.{ArrayVec}
use Rattle.formula_text.specs.declared.counts.Counts.{Counts}
use Rattle.qbf.specs.declared.prefix.Prefix.{Prefix}
use Rattle.formula_text.specs.declared.gather.Gathered.{Gathered}
use Rattle.truth.specs.Limits.{max_variables, max_blocks, max_width}
use Rattle.truth.specs.Syntax.{Block, bound_in, mask_of, clause_of}
use Rattle.truth.specs.WellFormed.{all, elem, distinct, positive, ranged, existential, repeats}
use Rattle.qbf.specs.Stored.{block_of}
use Rattle.qbf.specs.Held.{blocks_in}
use Rattle.formula_text.specs.Literals.{literal_of, literals_of}
use Rattle.formula_text.specs.Gathered.{Numbers, fitting, nothing, gathered}
use Rattle.qbf.specs.Bound.{bind_all, Binds}
use Rattle.formula_text.specs.Parse.{fault, variables_of, clause_literals, place_block, bind_clause}
use Rattle.qbf.proofs.Masks.{closed-elem}
use Rattle.qbf.proofs.Refereeing.{all_ranged_up}
use Rattle.formula_text.proofs.Gathering.{is_fitting, highest_gathered, clause_gathered}
use Rattle.truth.proofs.Members.{all_append, all_weaker}
use Rattle.formula_text.proofs.Binding.{bound_by_rule, bind_rule}
use Rattle.formula_text.proofs.LiteralForms.{then_some, cond_cases, ended-made}
use Rattle.formula_text.proofs.Prefixes.{bound_push}

-- Literals that were read are of variables from 1 up.
abbrev PositiveLiterals : List Literal → Type 0
PositiveLiterals ls = all (λ l. positive l.variable) ls ≡ true

literals_positive : (ws : List (List ℕ)) (ls : List Literal) → literals_of ws ≡ Some ls → PositiveLiterals ls
literals_positive [] ls e = cc
literals_positive (w ∷ ws) ls e =
    then_some (literal_of w) _ ls e (λ l d e.
    cond_cases (eqb l.variable 0) _ _ _ e
    (λ z e. let none = (ended-made ws [] ls e).1 in rw (← none) refl)
    (λ n e. then_some (literals_of ws) _ ls e (λ ms r e.
    let is : ◌≡◌ {A = List Literal} (l ∷ ms) ls = cc in
    let some : 1 ≤ l.variable = let d = eqb-false l.variable 0 n in omega arith in
    rw (← is) (and_from (positive l.variable) _ (le-leb 1 l.variable some) (literals_positive ws ms r)))))

fields_positive : (o : Option (List (List ℕ))) (ls : List Literal) → and_then o literals_of ≡ Some ls → PositiveLiterals ls
fields_positive o ls e = then_some o literals_of ls e (λ ws d e. literals_positive ws ls e)

-- A clause line, of which the literals g were gathered.
high_test : (ls : List Literal) (v : ℕ) → leb (gathered nothing ls).highest v ≡ all (λ l. leb l.variable v) ls
high_test ls v = highest_gathered nothing ls v ∙ ap (λ t. t && all (λ l. leb l.variable v) ls) (le-leb 0 v (omega arith))

clause_over : (n : ℕ) (h : Counts) (bs : List Block) (o : Option (List Literal)) (g : Gathered) (at : Fault) → Ok g ≡ ok_or (option_map (gathered nothing) o) at → h.variables < g.highest → Err (fault BadVariable n) ≡ bind_clause n h bs o
clause_over n h bs None g at got l = cc
clause_over n h bs (Some ls) g at got l =
    let e : g ≡ gathered nothing ls = cc in
    let t : all (λ l. leb l.variable h.variables) ls ≡ false = sym (ap (λ x. leb x.highest h.variables) e ∙ high_test ls h.variables) ∙ lt-leb g.highest h.variables l in
    simp t

pub clause_high : (n : ℕ) (h : Counts) (bs : List Block) (line : List ℕ) (g : Gathered) (at : Fault) → Ok g ≡ ok_or (option_map (gathered nothing) (clause_literals line)) at → h.variables < g.highest → Err (fault BadVariable n) ≡ bind_clause n h bs (clause_literals line)
clause_high n h bs line g at got l = clause_over n h bs (clause_literals line) g at got l

-- Within the count of variables, the masks tell whether each literal is bound.
clause_bound : (h : Counts) (bs : List Block) (ls : List Literal) (bound : ℕ) → h.variables ≤ max_variables → Binds bound (bound_in bs) → PositiveLiterals ls → (gathered nothing ls).highest ≤ h.variables →
    (all (λ l. leb l.variable h.variables) ls ≡ true) × ((gathered nothing ls).clause ≡ clause_of ls)
    × (all (λ l. elem l.variable (bound_in bs)) ls ≡ eqb (bit_and (bit_or (gathered nothing ls).clause.positive (gathered nothing ls).clause.negative) bound) (bit_or (gathered nothing ls).clause.positive (gathered nothing ls).clause.negative))
clause_bound h bs ls bound few binds p l =
    let t : all (λ l. leb l.variable h.variables) ls ≡ true = sym (high_test ls h.variables) ∙ le-leb (gathered nothing ls).highest h.variables l in
    let w = all_weaker (λ l. leb l.variable h.variables) (λ l. leb l.variable max_variables) (λ x k. le-leb x.variable max_variables (omega (arith, leb-true x.variable h.variables k))) ls t in
    let c = clause_gathered ls w in (
      t,
      c,
      sym (ap (λ x. eqb (bit_and (bit_or x.positive x.negative) bound) (bit_or x.positive x.negative)) c
          ∙ ap (λ m. eqb (bit_and (bit_or (clause_of ls).positive (clause_of ls).negative) m) (bit_or (clause_of ls).positive (clause_of ls).negative)) binds.0
          ∙ closed-elem (bound_in bs) ls binds.2 p),
    )

module _ (n : ℕ) (h : Counts) (p : Prefix) (line : List ℕ) (g : Gathered) (at : Fault) (few : h.variables ≤ max_variables)
    (got : Ok g ≡ ok_or (option_map (gathered nothing) (clause_literals line)) at) (low : g.highest ≤ h.variables) where
  abbrev used : ℕ
  used = bit_or g.clause.positive g.clause.negative

  clause_by_mask : (o : Option (List Literal)) → o ≡ clause_literals line → bind_clause n h (blocks_in p) o ≡ cond (eqb (bit_and used p.bound) used) (Ok g.clause) (Err (fault UnboundVariable n))
  clause_by_mask None o_is = let e : Ok g ≡ ok_or (option_map (gathered nothing) None) at = got ∙ ap (λ x. ok_or (option_map (gathered nothing) x) at) (sym o_is) in cc
  clause_by_mask (Some ls) o_is =
      let e : Ok g ≡ Ok (gathered nothing ls) = got ∙ ap (λ x. ok_or (option_map (gathered nothing) x) at) (sym o_is) in
      let g-is : g ≡ gathered nothing ls = cc in
      let r = clause_bound h (blocks_in p) ls p.bound few p.binds (fields_positive (fields_of line) ls (sym o_is)) (subst (λ x. x.highest ≤ h.variables) g-is low) in
      let test : all (λ l. elem l.variable (bound_in (blocks_in p))) ls ≡ eqb (bit_and used p.bound) used = r.2 ∙ ap (λ x. eqb (bit_and (bit_or x.clause.positive x.clause.negative) p.bound) (bit_or x.clause.positive x.clause.negative)) (sym g-is) in
      let c-is : clause_of ls ≡ g.clause = sym r.1 ∙ ap (λ x. x.clause) (sym g-is) in
      simp (r.0, test, c-is) (elim (eqb (bit_and used p.bound) used) as (λ t. cond (not t) (Err (fault UnboundVariable n)) (Ok g.clause) ≡ cond t (Ok g.clause) (Err (fault UnboundVariable n))) [ true ↦ refl | false ↦ refl ])

  pub clause_unbound : eqb (bit_and used p.bound) used ≡ false → Err (fault UnboundVariable n) ≡ bind_clause n h (blocks_in p) (clause_literals line)
  clause_unbound d = sym (clause_by_mask (clause_literals line) refl ∙ ap (λ t. cond t (Ok g.clause) (Err (fault UnboundVariable n))) d)

  pub clause_closed : eqb (bit_and used p.bound) used ≡ true → Ok g.clause ≡ bind_clause n h (blocks_in p) (clause_literals line)
  clause_closed d = sym (clause_by_mask (clause_literals line) refl ∙ ap (λ t. cond t (Ok g.clause) (Err (fault UnboundVariable n))) d)

-- A block line after the blocks of a prefix, of which the numbers were gathered.
module _ (n : ℕ) (h : Counts) (p : Prefix) (q : Quantifier) (next : Bool) (line : List ℕ) (numbers : Numbers) (at : Fault)
    (got : Ok numbers ≡ ok_or (option_map fitting (variables_of line)) at) where
  abbrev bs : List Block
  bs = blocks_in p

  abbrev placed : Option (List ℕ) → Result Block Fault
  placed o = place_block n h bs q next o

  numbers_are : (vs : List ℕ) → Some vs ≡ variables_of line → numbers ≡ fitting vs
  numbers_are vs o_is = let e : Ok numbers ≡ Ok (fitting vs) = got ∙ ap (λ x. ok_or (option_map fitting x) at) (sym o_is) in cc

  none_read : None ≡ variables_of line → ⊥
  none_read o_is =
      let e : Ok numbers ≡ Err at = got ∙ ap (λ x. ok_or (option_map fitting x) at) (sym o_is) in
      let z : ◌≡◌ {A = ℕ} 0 1 = cc in omega arith

  -- Within the limits the mask decides.
  module _ (variables : ArrayVec ℕ) (some_is : numbers ≡ Some variables) (room : length p.blocks.items < max_blocks) where
    abbrev block : Block
    block = record { quantifier = q; variables = variables.items }

    fits : (vs : List ℕ) → Some vs ≡ variables_of line → (variables.items ≡ vs) × (length vs ≤ max_width)
    fits vs o_is = is_fitting vs variables (sym (numbers_are vs o_is) ∙ some_is)

    within : (vs : List ℕ) → Some vs ≡ variables_of line → (leb max_blocks (length bs) || ltb max_width (length vs)) ≡ false
    within vs o_is = ap₂ ◌||◌ (lt-leb max_blocks (length bs) (omega (arith, length-map p.blocks.items block_of))) (le-ltb max_width (length vs) (fits vs o_is).1)

    abbrev ruled : Option ℕ → Result Block Fault
    ruled None = Err (fault BadVariable n)
    ruled (Some m) = cond (repeats q bs || not (existential q || next)) (Err (fault BadAlternation n)) (Ok block)

    abbrev tried : Option ℕ
    tried = bind_all h.variables p.bound variables.items

    stored : (vs : List ℕ) → Some vs ≡ variables_of line → block ≡ record { quantifier = q; variables = vs }
    stored vs o_is = ap (λ xs. record { quantifier = q; variables = xs }) (fits vs o_is).0

    tried_is : (vs : List ℕ) → Some vs ≡ variables_of line → tried ≡ bind_rule h.variables (bound_in bs) vs
    tried_is vs o_is =
        ap₂ (bind_all h.variables) p.binds.0 (fits vs o_is).0 ∙ bound_by_rule h.variables (bound_in bs) vs p.binds.1 p.binds.2

    by_mask : (o : Option (List ℕ)) → o ≡ variables_of line → placed o ≡ ruled tried
    by_mask None o_is = absurd (none_read o_is)
    by_mask (Some vs) o_is =
        simp (within vs o_is, tried_is vs o_is)
        (elim (all (ranged h.variables) vs && distinct (bound_in bs ++ vs)) as (λ u.
        cond (not u) (Err (fault BadVariable n)) (cond (repeats q bs || not (existential q || next)) (Err (fault BadAlternation n)) (Ok (record { quantifier = q; variables = vs })))
        ≡ ruled (cond u (Some (mask_of (bound_in bs ++ vs))) None)) [ true ↦ ap (λ b. cond (repeats q bs || not (existential q || next)) (Err (fault BadAlternation n)) (Ok b)) (sym (stored vs o_is)) | false ↦ refl ])

    pub block_bad : None ≡ tried → placed (variables_of line) ≡ Err (fault BadVariable n)
    block_bad e = by_mask (variables_of line) refl ∙ ap ruled (sym e)

    module _ (all_bound : ℕ) (e : Some all_bound ≡ tried) where
      pub block_misplaced : (repeats q bs || not (existential q || next)) ≡ true → placed (variables_of line) ≡ Err (fault BadAlternation n)
      block_misplaced m = by_mask (variables_of line) refl ∙ ap ruled (sym e) ∙ simp m

      pub block_placed : (repeats q bs || not (existential q || next)) ≡ false → placed (variables_of line) ≡ Ok block
      block_placed m = by_mask (variables_of line) refl ∙ ap ruled (sym e) ∙ simp m

      by_rule : (vs : List ℕ) → (u : Bool) → u ≡ (all (ranged h.variables) vs && distinct (bound_in bs ++ vs)) → Some all_bound ≡ cond u (Some (mask_of (bound_in bs ++ vs))) None →
          Binds all_bound (bound_in bs ++ vs) × (all (ranged h.variables) vs ≡ true)
      by_rule vs false u-is f = absurd (let z : ◌≡◌ {A = ℕ} 0 1 = cc in omega arith)
      by_rule vs true u-is f =
          let r = and_parts (all (ranged h.variables) vs) (distinct (bound_in bs ++ vs)) (sym u-is) in
          let low = all_weaker (ranged h.variables) positive (λ v t. (and_parts (positive v) (leb v h.variables) t).0) vs r.0 in
          ((cc, r.1, all_append positive (bound_in bs) vs ∙ and_from (all positive (bound_in bs)) (all positive vs) p.binds.2 low), r.0)

      bound_from : (o : Option (List ℕ)) → o ≡ variables_of line → Binds all_bound (bound_in (bs ++ (block ∷ []))) × (all (ranged h.variables) variables.items ≡ true)
      bound_from None o_is = absurd (none_read o_is)
      bound_from (Some vs) o_is =
          let r = by_rule vs (all (ranged h.variables) vs && distinct (bound_in bs ++ vs)) refl (e ∙ tried_is vs o_is) in (
            subst (Binds all_bound) (sym (bound_push bs block ∙ ap (λ b. bound_in bs ++ b.variables) (stored vs o_is))) r.0,
            ap (all (ranged h.variables)) (fits vs o_is).0 ∙ r.1,
          )

      pub block_binds : Binds all_bound (bound_in (bs ++ (block ∷ [])))
      block_binds = (bound_from (variables_of line) refl).0

      pub block_ranged : h.variables ≤ max_variables → all (ranged max_variables) variables.items ≡ true
      block_ranged few = all_ranged_up h.variables max_variables variables.items few (bound_from (variables_of line) refl).1
