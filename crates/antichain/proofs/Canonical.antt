-- What the laws of entries say of canonical order.
use Rattle.std.proofs.Common.{◌≡◌, ℕ, ◌<◌, ◌≤◌, Bool, true, false, sym, ◌∙◌, arith, rules}
use Rattle.antichain.specs.Entries.{comes_before, Rules}

not_itself : (l s : ℕ) → comes_before l s l s ≡ false
not_itself l s = search rules

not_both : (l s m t : ℕ) → comes_before l s m t ≡ true → comes_before m t l s ≡ false
not_both l s m t h = search rules

on : (l s m t n u : ℕ) → comes_before l s m t ≡ true → comes_before n u m t ≡ false → comes_before l s n u ≡ true
on l s m t n u h k = search rules

levels : (l s m t : ℕ) → comes_before m t l s ≡ false → l ≤ m
levels l s m t h = search rules

tie : (l s m t : ℕ) → comes_before l s m t ≡ false → comes_before m t l s ≡ false → (l ≡ m) × (s ≡ t)
tie l s m t h k = (grind arith, grind arith)

lower : (l s m t : ℕ) → l < m → (comes_before l s m t ≡ true) × (comes_before m t l s ≡ false)
lower l s m t h = (grind arith, grind arith)

module _ {E : Type 0} {v s : E → ℕ} {c b : E → E → Bool} (w : Rules v s c b) where
  pub before_not_itself : (x : E) → b x x ≡ false
  before_not_itself x = w.order x x ∙ not_itself (v x) (s x)

  pub before_not_both : (x y : E) → b x y ≡ true → b y x ≡ false
  before_not_both x y h = w.order y x ∙ not_both (v x) (s x) (v y) (s y) (sym (w.order x y) ∙ h)

  -- x comes before y, and z does not, so x comes before z
  pub before_on : (x y z : E) → b x y ≡ true → b z y ≡ false → b x z ≡ true
  before_on x y z h k = w.order x z ∙ on (v x) (s x) (v y) (s y) (v z) (s z) (sym (w.order x y) ∙ h) (sym (w.order z y) ∙ k)

  pub before_levels : (x y : E) → b y x ≡ false → v x ≤ v y
  before_levels x y h = levels (v x) (s x) (v y) (s y) (sym (w.order y x) ∙ h)

  -- where neither comes first, each covers the other
  pub tied : (x y : E) → b x y ≡ false → b y x ≡ false → c x y ≡ true
  tied x y h k =
      let e = tie (v x) (s x) (v y) (s y) (sym (w.order x y) ∙ h) (sym (w.order y x) ∙ k) in w.alike x y e.0 e.1

  pub before_by_level : (x y : E) → v x < v y → (b x y ≡ true) × (b y x ≡ false)
  before_by_level x y h = let e = lower (v x) (s x) (v y) (s y) h in (w.order x y ∙ e.0, w.order y x ∙ e.1)
