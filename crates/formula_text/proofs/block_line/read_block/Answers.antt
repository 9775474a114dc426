use Rattle.std.proofs.Common.{◌≡◌, ℕ, Ok, Err, [], ◌∷◌, ◌++◌, sym, ap, ◌∙◌, ap₂, subst, rules}
use Rattle.truth.specs.Syntax.{bound_in}
use Rattle.qbf.specs.Bound.{Binds}
use Rattle.qbf.specs.Stored.{block_of}
use Rattle.qbf.specs.Held.{blocks_in}
use Rattle.formula_text.proofs.LineRules.{block_bad, block_misplaced, block_placed, block_binds, block_ranged}
use Rattle.formula_text.proofs.block_line.read_block.Goals as goal

pub returns-in_default-bind : goal.returns-in_default-bind
returns-in_default-bind c =
    block_bad c.args.n c.args.header.counts c.args.prefix.now c.args.quantifier c.args.next c.args.line.now _ _ c.in_ok-numbers.ensures c.in-Some.variables c.in-Some.is (search rules)
    (rw c.as_slice.ensures.value at (c.in_default-bind.ensures)) ∙ ap Err (sym c.new-in_default-bind.ensures)

pub returns-then-misplaced : goal.returns-then-misplaced
returns-then-misplaced c =
    block_misplaced c.args.n c.args.header.counts c.args.prefix.now c.args.quantifier c.args.next c.args.line.now _ _ c.in_ok-numbers.ensures c.in-Some.variables c.in-Some.is (search rules)
    c.in-Some-bind.bound (rw c.as_slice.ensures.value at c.in-Some-bind.ensures) (sym c.if-misplaced.ensures) ∙ ap Err (sym c.new-then-misplaced.ensures)

pub unreachable-requires : goal.unreachable-requires
unreachable-requires c =
    let range =
    block_ranged c.args.n c.args.header.counts c.args.prefix.now c.args.quantifier c.args.next c.args.line.now _ _ c.in_ok-numbers.ensures c.in-Some.variables c.in-Some.is (search rules)
    c.in-Some-bind.bound (rw c.as_slice.ensures.value at c.in-Some-bind.ensures) c.args.header.few_variables in
    let none = c.in_default-new.ensures in
    cc

pub returns : goal.returns
returns c =
    let made = c.in-Some-new.ensures in
    let is : block_of c.in-Some-new.block ≡ record { quantifier = c.args.quantifier; variables = c.in-Some.variables.items } = ap₂ (λ q vs. record { quantifier = q; variables = vs }) made.0 made.1 in (
      block_placed c.args.n c.args.header.counts c.args.prefix.now c.args.quantifier c.args.next c.args.line.now _ _ c.in_ok-numbers.ensures c.in-Some.variables c.in-Some.is (search rules)
          c.in-Some-bind.bound (rw c.as_slice.ensures.value at c.in-Some-bind.ensures) (sym c.if-misplaced.ensures) ∙ ap Ok (sym is),
      search rules,
      subst (λ b. Binds c.in-Some-bind.bound (bound_in (blocks_in c.args.prefix.now ++ (b ∷ [])))) (sym is)
          (block_binds c.args.n c.args.header.counts c.args.prefix.now c.args.quantifier c.args.next c.args.line.now _ _ c.in_ok-numbers.ensures c.in-Some.variables c.in-Some.is (search rules)
          c.in-Some-bind.bound (rw c.as_slice.ensures.value at c.in-Some-bind.ensures)),
    )
