use Rattle.std.proofs.Common.{rules, tests, ◌≡◌, eqb, length, filter, find, ◌∙◌, sym, subst}
use Rattle.std.proofs.lemmas.Iterator.{YieldsList-from_slice}
use Rattle.std.proofs.lemmas.Iterator.Search.{find_from_yields_List}
use Rattle.antichain.proofs.Members.{Found, found}
use Rattle.antichain.proofs.Ranks.{ranked}
use Rattle.antichain.proofs.arrivals.find_rank.Goals as goal

pub returns : goal.returns
returns g c =
    let xs = c.args.entries.now in
    let p = λ (x : g.row.E.Denot). eqb (length (filter (λ y. g.E.Entry.before y x) xs)) c.args.k in
    let is : c.copied.result ≡ find p xs =
    c.copied.ensures ∙ find_from_yields_List p _ _ _ c.find.ensures.ran (YieldsList-from_slice xs cc) (λ x b q k. search (rules, tests)) in
    ranked g.met.E.Entry.rules xs c.args.k _ c.requires (subst (Found p xs) (sym is) (found p xs))
