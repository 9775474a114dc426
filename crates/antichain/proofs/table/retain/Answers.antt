use Rattle.std.proofs.Common.{◌≡◌, ◌<◌, true, length, sym, refl, ap, ◌∙◌, subst, arith}
use Rattle.std.proofs.lemmas.List.{get_or_default}
use Rattle.std.proofs.iter.Next.{says_at}
use Rattle.std.proofs.lemmas.List.Filters.{FiltersInPlace-more_no, FiltersInPlace-more_here, FiltersInPlace-more_set}
use Rattle.antichain.proofs.table.retain.Goals as goal
use Rattle.antichain.proofs.table.retain.Goals.{then-test, then-k-i, else-k-i, else-test}

pub loop-i-preserved : goal.loop-i-preserved
loop-i-preserved g c =
    let x = c.index-items-i.result in
    let h : c.loop-i.i < length c.loop-i.items = omega arith in (
      λ p says.
          let f = c.loop-i.invariant.0 p says in
          let told : c.test.result ≡ p x = says _ c.test.result (says_at g.F.Fn c.test.ensures refl) ∙ ap p (sym c.index-items-i.is) in
          elim c.if-test.branch [
            | then-test w ↦
                let yes : p x ≡ true = sym told ∙ w.if-test.true in
                elim w.if-k-i.branch [
                  | then-k-i u ↦
                      let y = u.index-items-i-then-k-i in
                      let same : x ≡ y.result = c.index-items-i.is ∙ get_or_default c.loop-i.items c.loop-i.i x y.result h ∙ sym y.is in
                      simp (w.items-is, w.k-is, u.items-is) (FiltersInPlace-more_set f h (subst (λ z. p z ≡ true) same yes) y.is)
                  | else-k-i u ↦ simp (w.items-is, w.k-is, u.items-is) (FiltersInPlace-more_here f h yes c.index-items-i.is (omega (arith, u.if-k-i.false, f.behind)))
                ]
            | else-test w ↦ simp (w.items-is, w.k-is) (FiltersInPlace-more_no f h (sym told ∙ w.if-test.false) c.index-items-i.is)
          ],
      elim c.if-test.branch [
        | then-test w ↦ omega (arith, w.k-is, c.loop-i.invariant.1)
        | else-test w ↦ omega (arith, w.k-is, c.loop-i.invariant.1)
      ],
    )
