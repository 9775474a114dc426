use Rattle.std.proofs.Common.{rules, tests, ◌≡◌, find, ◌∙◌, sym, subst}
use Rattle.std.proofs.lemmas.Iterator.{YieldsList-from_slice}
use Rattle.std.proofs.lemmas.Iterator.Search.{find_from_yields_List}
use Rattle.antichain.proofs.Members.{Found, found}
use Rattle.antichain.proofs.Covering.{told_found}
use Rattle.antichain.proofs.table.find_cover.Goals as goal

pub returns : goal.returns
returns g c =
    let p = λ (x : g.row.E.Denot). g.E.Entry.covers x c.args.e.now in
    let xs = c.args.entries.now in
    let is : c.copied.result ≡ find p xs =
    c.copied.ensures ∙ find_from_yields_List p _ _ _ c.find.ensures.ran (YieldsList-from_slice xs cc) (λ x b q k. search (rules, tests)) in
    told_found g.E.Entry.covers c.args.e.now xs _ (subst (Found p xs) (sym is) (found p xs))
