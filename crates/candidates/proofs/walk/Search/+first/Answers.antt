use Rattle.std.proofs.Common.{◌≡◌, [], ◌∷◌, ◌++◌, reverse, ap, sym, subst, arith, rules}
use Rattle.candidates.specs.Walks.{Walked}
use Rattle.candidates.proofs.Steps.{later_small, first_skip, walked_low, walked_high, first_needless}
use Rattle.candidates.proofs.walk.Search.+first.Goals as goal

pub returns-then-so_far-self-2 : goal.returns-then-so_far-self-2
returns-then-so_far-self-2 t c =
    let is : c.args.left.now ≡ c.in-Some.later.now ++ (c.in-Some.choice.now ∷ []) = search rules in search (rules, first_skip)

pub first-requires : goal.first-requires
first-requires t c =
    let is : c.args.left.now ≡ c.in-Some.later.now ++ (c.in-Some.choice.now ∷ []) = search rules in
    let small = later_small _ _ _ is c.args.so_far.value c.requires.narrow c.requires.small in
    let s = c.args.self.now in (
      search rules,
      (
        search rules,
        (
          omega (arith, ap (λ h. h.value) c.low-low.ensures),
          subst (λ h. Walked (reverse s.all.now) (reverse c.in-Some.later.now) h.hits h.value) (sym c.low-low.ensures) (walked_low _ _ _ is s.quantifier (reverse s.all.now) s.from _ _ c.requires.walked),
        ),
      ),
    )

pub returns-then-is_at_least : goal.returns-then-is_at_least
returns-then-is_at_least t c =
    let is : c.args.left.now ≡ c.in-Some.later.now ++ (c.in-Some.choice.now ∷ []) = search rules in
    let s = c.args.self.now in
    first_needless _ _ _ is s.quantifier (reverse s.all.now) s.from _ c.args.so_far.value
    (rw c.low-low.ensures at c.in_default-first.ensures) (rw (c.low-low.ensures, c.high-high.ensures) at c.if-is_at_least.ensures) c.requires.walked

pub first-requires-2 : goal.first-requires-2
first-requires-2 t c =
    let is : c.args.left.now ≡ c.in-Some.later.now ++ (c.in-Some.choice.now ∷ []) = search rules in
    let small = later_small _ _ _ is c.args.so_far.value c.requires.narrow c.requires.small in
    let s = c.args.self.now in (
      search rules,
      (
        search rules,
        (
          omega (arith, ap (λ h. h.value) c.high-high.ensures),
          subst (λ h. Walked (reverse s.all.now) (reverse c.in-Some.later.now) h.hits h.value) (sym c.high-high.ensures) (walked_high _ _ _ is s.quantifier (reverse s.all.now) s.from _ _ c.requires.walked),
        ),
      ),
    )
