-- Lists of calls, made one by one.
use Rattle.std.proofs.Common.{◌≡◌, ℕ, ◌+◌, ◌<◌, ◌≤◌, ltb, List, [], ◌∷◌, ◌++◌, length, get_or, take, drop, set, Some, sym, refl, ap, ◌∙◌, arith}
use lib.Seq.{append_snoc}
use Rattle.std.proofs.lemmas.List.{take_all, drop_all, drop_more, drop-set-lt, take_more_set, append-nil}
use Rattle.antichain.specs.declared.calls.Call.{Call}
use Rattle.antichain.specs.declared.calls.Call.TheVariants.{Cover, Add, DropLevels, Empty, Count, Nth}
use Rattle.antichain.specs.declared.calls.Answer.{Answer}
use Rattle.antichain.specs.declared.calls.Round.{Round}
use Rattle.antichain.specs.declared.entry.Entry as entry
use Rattle.antichain.specs.Entries.{Rules}
use Rattle.antichain.specs.Antichain.{Antichain}
use Rattle.antichain.specs.Runs.{Alike, answered, leaves, ran, played}
use Rattle.antichain.proofs.Additions.{antichain_none, antichain_kept, antichain_after}

-- the rounds that are left give, from what is held now, what all give
pub record Playing {E : Type 0} (g : entry.Ghosts E) (m n : ℕ) (xs₀ ys₀ xs ys : List E) (start rounds : List (Round E)) (i : ℕ) : Type 0 where
  pub told : take i rounds ++ played g m n xs ys (drop i rounds) ≡ played g m n xs₀ ys₀ start
  pub first : ran g m xs (drop i rounds) ≡ ran g m xs₀ start
  pub second : ran g n ys (drop i rounds) ≡ ran g n ys₀ start

module _ {E : Type 0} {g : entry.Ghosts E} {m n : ℕ} {xs₀ ys₀ xs ys : List E} {start rounds : List (Round E)} {i : ℕ} (p : Playing g m n xs₀ ys₀ xs ys start rounds i) where
  pub playing_more : (z : Round E) {xs' ys' : List E} {a b : Answer E} {m' n' : ℕ} → i < length rounds
      → m' ≡ m → a ≡ answered g m' xs (get_or rounds i z).call → xs' ≡ leaves g m' xs (get_or rounds i z).call
      → n' ≡ n → b ≡ answered g n' ys (get_or rounds i z).call → ys' ≡ leaves g n' ys (get_or rounds i z).call
      → Playing g m n xs₀ ys₀ xs' ys' start (set rounds i (record { call = (get_or rounds i z).call; first = Some a; second = Some b })) (i + 1)
  playing_more z {xs'} {ys'} {a} {b} h same-m a' x' same-n b' y' =
      let r = get_or rounds i z in
      let k = r.call in
      let new : Round E = record { call = k; first = Some a; second = Some b } in
      let front = take_more_set rounds i new h in
      let rest = drop-set-lt (i + 1) rounds i new (omega arith) in
      let d : drop i rounds ≡ r ∷ drop (i + 1) rounds = drop_more rounds i z h in
      let x = x' ∙ ap (λ c. leaves g c xs k) same-m in
      let y = y' ∙ ap (λ c. leaves g c ys k) same-n in
      let at-m = a' ∙ ap (λ c. answered g c xs k) same-m in
      let at_n = b' ∙ ap (λ c. answered g c ys k) same-n in
      record {
        told =
            ap (λ z. z ++ played g m n xs' ys' (drop (i + 1) (set rounds i new))) front ∙ append_snoc (take i rounds) new _ ∙
            ap (λ z. take i rounds ++ new ∷ played g m n xs' ys' z) rest ∙
            (let e : new ∷ played g m n xs' ys' (drop (i + 1) rounds) ≡ played g m n xs ys (r ∷ drop (i + 1) rounds) = simp (at-m, at_n, x, y) in
            ap (λ z. take i rounds ++ z) e) ∙
            sym (ap (λ z. take i rounds ++ played g m n xs ys z) d) ∙ p.told;
        first = ap (ran g m xs') rest ∙ ap (λ z. ran g m z (drop (i + 1) rounds)) x ∙ sym (ap (ran g m xs) d) ∙ p.first;
        second = ap (ran g n ys') rest ∙ ap (λ z. ran g n z (drop (i + 1) rounds)) y ∙ sym (ap (ran g n ys) d) ∙ p.second;
      }

  pub playing_all : length rounds ≤ i → (rounds ≡ played g m n xs₀ ys₀ start) × (xs ≡ ran g m xs₀ start) × (ys ≡ ran g n ys₀ start)
  playing_all h =
      let d : drop i rounds ≡ [] = drop_all i rounds h in (
        sym (append-nil rounds) ∙ ap (λ z. z ++ []) (sym (take_all i rounds h)) ∙ sym (ap (λ z. take i rounds ++ played g m n xs ys z) d) ∙ p.told,
        sym (ap (ran g m xs) d) ∙ p.first,
        sym (ap (ran g n ys) d) ∙ p.second,
      )

module _ {E : Type 0} (g : entry.Ghosts E) where
  -- from equal capacities and entries, equal answers
  pub alike_played : (n : ℕ) (xs : List E) (rounds : List (Round E)) → Alike (played g n n xs xs rounds)
  alike_played n xs [] = tt
  alike_played n xs (r ∷ rs) = (refl, alike_played n (leaves g n xs r.call) rs)

  module _ (w : Rules g.level g.set g.covers g.before) (n : ℕ) where
    antichain_left : (xs : List E) (k : Call E) → Antichain g.covers g.before n xs → Antichain g.covers g.before n (leaves g n xs k)
    antichain_left xs (Cover e) h = h
    antichain_left xs (Add e) h = antichain_after w n xs e h
    antichain_left xs (DropLevels l) h = antichain_kept w n (λ x. ltb l (g.level x)) xs h
    antichain_left xs Empty h = antichain_none w n
    antichain_left xs Count h = h
    antichain_left xs (Nth k) h = h

    -- whatever the calls
    pub antichain_ran : (xs : List E) (rounds : List (Round E)) → Antichain g.covers g.before n xs → Antichain g.covers g.before n (ran g n xs rounds)
    antichain_ran xs [] h = h
    antichain_ran xs (r ∷ rs) h = antichain_ran (leaves g n xs r.call) rs (antichain_left xs r.call h)

-- what depends on a store's capacity and entries, once it is emptied
pub begun : {A E : Type 0} (F : ℕ → List E → A) {y : A} {n m : ℕ} {xs : List E} → y ≡ F n xs → n ≡ m → xs ≡ [] → y ≡ F m []
begun F {y} {n} {m} {xs} h p q = h ∙ ap (λ k. F k xs) p ∙ ap (F m) q
