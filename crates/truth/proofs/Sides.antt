-- A smaller set is easier: a verdict passes to every set on its side, true inside and false around.
use Rattle.std.proofs.Common.{◌≡◌, ℕ, ◌^◌, Bool, true, false, eqb, List, [], ◌∷◌, length}
use Rattle.std.proofs.lemmas.Bool.{eqb-true, eqb-false, eq-eqb, ne_eqb}
use Rattle.truth.specs.declared.literal.Clause.{Clause}
use Rattle.truth.specs.Syntax.{Block}
use Rattle.truth.specs.Sides.{under}
use Rattle.truth.specs.Truth.{made_true, made_false, rest, rest_under, below, won}
use Rattle.truth.specs.TruthLaws.{RestsGrow, WonInside, LostAround}
use Rattle.truth.proofs.Bits.{sub_of, of_sub, sub_on, sub_self, sub_both, sub_none}
use Rattle.truth.proofs.Rests.{rest_sub}
use Rattle.truth.proofs.Quantified.{wins-on}

pub under_self : (v : Bool) (a : ℕ) → under v a a ≡ true
under_self true a = of_sub a a (sub_self a)
under_self false a = of_sub a a (sub_self a)

pub under-on : (v : Bool) (a b d : ℕ) → under v a b ≡ true → under v b d ≡ true → under v a d ≡ true
under-on true a b d h k = of_sub a d (sub_on a b d (sub_of a b h) (sub_of b d k))
under-on false a b d h k = of_sub d a (sub_on d b a (sub_of d b k) (sub_of b a h))

pub under_both : (v : Bool) (a b : ℕ) → under v a b ≡ true → under v b a ≡ true → a ≡ b
under_both true a b h k = sub_both a b (sub_of a b h) (sub_of b a k)
under_both false a b h k = sub_both a b (sub_of a b k) (sub_of b a h)

pub under-rest : (v : Bool) (cs : List Clause) (t f a b : ℕ) → under v a b ≡ true → under v (rest cs t f a) (rest cs t f b) ≡ true
under-rest true cs t f a b h = of_sub _ _ (rest_sub cs t f a b (sub_of a b h))
under-rest false cs t f a b h = of_sub _ _ (rest_sub cs t f b a (sub_of b a h))

empty_under : (v : Bool) (a b : ℕ) → under v a b ≡ true → eqb b 0 ≡ v → eqb a 0 ≡ v
empty_under true a b h e = eq-eqb a 0 (sub_none a b (sub_of a b h) (eqb-true b 0 e))
empty_under false a b h e = ne_eqb a 0 (λ z. eqb-false b 0 e (sub_none b a (sub_of b a h) z))

pub won-under : (v : Bool) (cs : List Clause) (bs : List Block) (s t : ℕ) → under v s t ≡ true → won cs bs t ≡ v → won cs bs s ≡ v
won-under v cs [] s t h e = empty_under v s t h e
won-under v cs (b ∷ bs) s t h e =
    wins-on v b.quantifier (λ w. won cs bs (rest_under cs b w t)) (λ w. won cs bs (rest_under cs b w s)) (below (2 ^ length b.variables))
    (λ w k. won-under v cs bs (rest_under cs b w s) (rest_under cs b w t) (under-rest v cs (made_true b.variables w) (made_false b.variables w) s t h) k) e

pub rests_grow : RestsGrow
rests_grow cs t f a b h = under-rest true cs t f a b h

pub won-inside : WonInside
won-inside cs bs a b h e = won-under true cs bs a b h e

pub lost_around : LostAround
lost_around cs bs a b h e = won-under false cs bs b a h e
