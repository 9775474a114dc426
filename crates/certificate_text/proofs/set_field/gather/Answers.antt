use Rattle.std.proofs.Common.{◌≡◌, ℕ, ◌==◌, Some, None, length, refl, rules, tests}
use Rattle.std.proofs.lemmas.Iterator.Consumers.{YieldsList-turn, YieldsList-end}
use Rattle.std.proofs.lemmas.Iterator.Splits.{YieldsList-from_slice_split}
use Rattle.std.proofs.lemmas.List.{length_push}
use Rattle.text.specs.Numeral.{numeral}
use Rattle.text.specs.Taken.{and_then}
use Rattle.certificate_text.specs.Gathering.{further}
use Rattle.certificate_text.specs.SetField.{pieces}
use Rattle.certificate_text.proofs.SetSteps.{gather_start, gather_more, gather_refused, gather_all}
use Rattle.certificate_text.proofs.set_field.gather.Goals as goal

pub loop-piece-init : goal.loop-piece-init
loop-piece-init c = gather_start _ _ _ refl

pub loop-piece-preserved : goal.loop-piece-preserved
loop-piece-preserved c =
    let loop = c.loop-piece in
    let road = YieldsList-from_slice_split _ (λ (b : ℕ). b == 44) c.args.field.now (cc) (cc) (cc) (λ x b q k. search (rules, tests)) in
    let turn = YieldsList-turn road loop.yielded loop.piece-iterator loop.yielded_by c.next.result c.next.new.self c.in-Some.piece c.in-Some.is c.next.ensures.steps in
    let n : numeral c.in-Some.piece.now ≡ Some c.in_ok-clause.clause = search rules in
    let left = gather_more c.args.highest loop.all (pieces c.args.field.now) (length loop.yielded) c.in-Some.piece.now _ turn.0 turn.1 loop.invariant c.in_ok-clause.clause _ n (length_push loop.yielded c.in-Some.piece) in
    let same : c.and_then-all.result ≡ and_then loop.all (λ a. further c.args.highest a c.in_ok-clause.clause) = search rules in
    rw same left

pub returns-in_err-clause : goal.returns-in_err-clause
returns-in_err-clause c =
    let loop = c.loop-piece in
    let road = YieldsList-from_slice_split _ (λ (b : ℕ). b == 44) c.args.field.now (cc) (cc) (cc) (λ x b q k. search (rules, tests)) in
    let turn = YieldsList-turn road loop.yielded loop.piece-iterator loop.yielded_by c.next.result c.next.new.self c.in-Some.piece c.in-Some.is c.next.ensures.steps in
    let n : numeral c.in-Some.piece.now ≡ None = search rules in
    let left = gather_refused c.args.highest loop.all (pieces c.args.field.now) (length loop.yielded) c.in-Some.piece.now _ turn.0 turn.1 loop.invariant n in
    search rules

pub returns : goal.returns
returns c =
    let loop = c.loop-piece in
    let road = YieldsList-from_slice_split _ (λ (b : ℕ). b == 44) c.args.field.now (cc) (cc) (cc) (λ x b q k. search (rules, tests)) in
    let end = YieldsList-end road loop.yielded loop.piece-iterator loop.yielded_by c.next.result c.next.new.self c.in-None.is c.next.ensures.steps in
    let all = gather_all c.args.highest loop.all (pieces c.args.field.now) (length loop.yielded) _ end.1 loop.invariant in
    search rules
