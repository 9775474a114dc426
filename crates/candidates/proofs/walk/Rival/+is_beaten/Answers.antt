use Rattle.std.proofs.Common.{◌≡◌, [], ◌∷◌, ◌++◌, arith, rules}
use Rattle.candidates.proofs.Steps.{later_reaching, later_small, some_out}
use Rattle.candidates.proofs.walk.Rival.+is_beaten.Goals as goal

pub returns-then-not-can_reach : goal.returns-then-not-can_reach
returns-then-not-can_reach t c =
    let is : c.args.left.now ≡ c.in-Some.later.now ++ (c.in-Some.choice.now ∷ []) = search rules in
    some_out _ _ _ is c.args.self.now.quantifier _ _ _ c.args.value c.requires.reaches c.if-not-can_reach.ensures

pub is_beaten-requires : goal.is_beaten-requires
is_beaten-requires t c =
    let is : c.args.left.now ≡ c.in-Some.later.now ++ (c.in-Some.choice.now ∷ []) = search rules in
    let small = later_small _ _ _ is c.args.value c.requires.narrow c.requires.small in
    (search rules, (later_reaching _ _ _ is c.requires.reaches, (search rules, omega arith)))

pub is_beaten-requires-else-is_beaten : goal.is_beaten-requires-else-is_beaten
is_beaten-requires-else-is_beaten t c =
    let is : c.args.left.now ≡ c.in-Some.later.now ++ (c.in-Some.choice.now ∷ []) = search rules in
    let small = later_small _ _ _ is c.args.value c.requires.narrow c.requires.small in
    (search rules, (later_reaching _ _ _ is c.requires.reaches, (search rules, omega arith)))
