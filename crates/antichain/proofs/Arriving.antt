-- An addition to a table in order of arrival, once the entries that the new one covers are gone.
use Rattle.std.proofs.Common.{◌≡◌, ℕ, ◌+◌, ◌≤◌, Bool, false, List, ◌++◌, length, take, drop, set, sym, ap, ◌∙◌, subst, arith, length-set, length-take}
use Rattle.std.proofs.lemmas.List.{take_more_set}
use Rattle.antichain.specs.Limits.{capacity_of}
use Rattle.antichain.specs.declared.store.AddAnswer.TheVariants.{Added, Full}
use Rattle.antichain.specs.Entries.{Rules}
use Rattle.antichain.specs.Lookups.{covered}
use Rattle.antichain.specs.Adding.{uncovered, answer_to, held_after}
use Rattle.antichain.specs.Antichain.{Apart}
use Rattle.antichain.specs.Layouts.{sorted, arrived, Arrived}
use Rattle.antichain.proofs.Compacting.{front-long, front-kept}
use Rattle.antichain.proofs.Additions.{arrived_full, arrived_added, apart_after}

module _ {E : Type 0} {v s : E → ℕ} {c b : E → E → Bool} (w : Rules v s c b) (len r : ℕ) (t ys : List E) (e : E)
    (long : length ys ≡ length (take len t)) (fewer : r ≤ length (take len t)) (kept : take r ys ≡ uncovered c e (take len t))
    (h : Arrived c b len t) (new : covered c (arrived b len t) e ≡ false) where
  same_long : length (ys ++ drop len t) ≡ length t
  same_long = front-long len t ys long

  rest : take r (ys ++ drop len t) ≡ uncovered c e (take len t)
  rest = front-kept len t ys long r fewer kept

  pub when_full : r ≡ capacity_of t → Arrived c b r (ys ++ drop len t) × (Full ≡ answer_to c (capacity_of t) (arrived b len t) e) × (arrived b r (ys ++ drop len t) ≡ held_after c b (capacity_of t) (arrived b len t) e)
  when_full q =
      let done = arrived_full w (capacity_of t) (take len t) (take r (ys ++ drop len t)) e new rest
      (omega (arith, length-take len t, h.fits)) (omega (arith, length-take r (ys ++ drop len t), same_long)) in (
        record { fits = omega (arith, same_long); apart = subst (Apart c) (sym done.1) (apart_after c b _ e _ h.apart) },
        done.0,
        done.1,
      )

  pub when_room : (r ≡ capacity_of t → ⊥) → Arrived c b (r + 1) (set (ys ++ drop len t) r e) × (Added ≡ answer_to c (capacity_of t) (arrived b len t) e) × (arrived b (r + 1) (set (ys ++ drop len t) r e) ≡ held_after c b (capacity_of t) (arrived b len t) e)
  when_room q =
      let room : r + 1 ≤ capacity_of t = omega (arith, q, fewer, length-take len t, h.fits) in
      let done = arrived_added w (capacity_of t) (take len t) (take r (ys ++ drop len t)) e new rest (omega (arith, length-take r (ys ++ drop len t))) in
      let f : arrived b (r + 1) (set (ys ++ drop len t) r e) ≡ held_after c b (capacity_of t) (arrived b len t) e =
      ap (sorted b) (take_more_set (ys ++ drop len t) r e (omega (arith, same_long))) ∙ done.1 in (
        record { fits = omega (arith, length-set (ys ++ drop len t) r e, same_long); apart = subst (Apart c) (sym f) (apart_after c b _ e _ h.apart) },
        done.0,
        f,
      )
