-- The kinds cover as certificates do: so the laws that stores ask of a kind say it of certificates' covering.
use Rattle.std.specs.Prelude.{◌≡◌, ℕ, ◌≤◌, Bool, true, false, ◌==◌, if◌then◌else◌}
use Rattle.std.proofs.Common.{refl, ap}
use Rattle.antichain.specs.Limits.{max_level}
use Rattle.antichain.specs.Entries.{comes_before, covers_by, Rules}
use Rattle.antichain.specs.Inclusion.{covering as kind_covers, rules_by}
use Rattle.truth.proofs.Sides.{under_self, under-on, under_both}
use Rattle.entries.specs.declared.entry.Entry.{Entry}
use Rattle.entries.specs.Covering.{covering}

pub covers_alike : (v : Bool) (s t : ℕ) → kind_covers v s t ≡ covering v s t
covers_alike true s t = refl
covers_alike false s t = refl

alike_by_level : (v : Bool) (l s m t : ℕ) → covers_by (kind_covers v) l s m t ≡ covers_by (covering v) l s m t
alike_by_level v l s m t = ap (λ r. if l == m then r else false) (covers_alike v s t)

-- A kind of entries for a verdict keeps the laws of stores.
pub lawful : (v : Bool) {E : Type 0} (entry : E → Entry) → ((x : E) → (1 ≤ (entry x).level) × ((entry x).level ≤ max_level)) →
    Rules (λ x. (entry x).level) (λ x. (entry x).set)
    (λ x y. covers_by (covering v) (entry x).level (entry x).set (entry y).level (entry y).set)
    (λ x y. comes_before (entry x).level (entry x).set (entry y).level (entry y).set)
lawful v entry range =
    rules_by (covering v) (λ x. (entry x).level) (λ x. (entry x).set) range
    (under_self v) (λ s t u h k. under-on v u t s k h) (λ s t h k. under_both v s t k h)

-- What makes a kind one for a verdict: each has an entry, which covers as in certificates, and the laws of stores are kept.
pub record CoversFor (v : Bool) {E : Type 0} (entry : E → Entry) (covers before : E → E → Bool) : Type 0 where
  pub alike : (x y : E) → covers x y ≡ covers_by (covering v) (entry x).level (entry x).set (entry y).level (entry y).set
  pub rules : Rules (λ x. (entry x).level) (λ x. (entry x).set) covers before

pub covers_for : (v : Bool) {E : Type 0} (entry : E → Entry) → ((x : E) → (1 ≤ (entry x).level) × ((entry x).level ≤ max_level)) →
    CoversFor v entry
    (λ x y. covers_by (kind_covers v) (entry x).level (entry x).set (entry y).level (entry y).set)
    (λ x y. comes_before (entry x).level (entry x).set (entry y).level (entry y).set)
covers_for true entry range = record {
  alike = λ x y. alike_by_level true (entry x).level (entry x).set (entry y).level (entry y).set;
  rules = lawful true entry range;
}
covers_for false entry range = record {
  alike = λ x y. alike_by_level false (entry x).level (entry x).set (entry y).level (entry y).set;
  rules = lawful false entry range;
}
