-- From a covered position every play of supported entries goes on to a covered one; so what they tell is true.
use Rattle.std.proofs.Common.{◌≡◌, ℕ, ◌+◌, ◌^◌, ◌<◌, Bool, true, false, not, ◌&&◌, eqb, ltb, leb, List, [], ◌∷◌, length, sym, refl, ap, ◌∙◌, subst, inl, inr}
use Rattle.std.proofs.lemmas.Bool.{cases_Bool, both_ways, and_parts, and_from, not-true, not_from_true, eqb-true, eq-eqb, ltb-true, leb-true}
use Rattle.truth.specs.declared.literal.Clause.{Clause}
use Rattle.truth.specs.Syntax.{Block, Qbf}
use Rattle.truth.specs.Sides.{under, closing, agrees, owes}
use Rattle.truth.specs.WellFormed.{all}
use Rattle.truth.specs.Truth.{made_true, made_false, below, rest_under, won, root_of, holds}
use Rattle.truth.specs.Plain.{holds_plainly}
use Rattle.truth.proofs.Members.{Mem, mem_below, below_mem, any-from, any_member, all_member}
use Rattle.truth.proofs.Quantified.{wins_one, wins-none}
use Rattle.truth.proofs.Sides.{under-on, under-rest, won-under}
use Rattle.truth.proofs.OneByOne.{formulas_plain}
use Rattle.truth.proofs.Truths.{truth_laws}
use Rattle.entries.specs.declared.entry.Entry.{Entry}
use Rattle.entries.specs.declared.entry.Reply.{Reply}
use Rattle.entries.specs.declared.entry.Reply.TheVariants.{None, Value}
use Rattle.entries.specs.Fitting.{replies, fits}
use Rattle.certificate.specs.Accepting.{blocks_from, covers, reached, leads_on, upheld, supported, accepts}
use Rattle.certificate.specs.Plays.{gives, lends}
use Rattle.certificate.proofs.FromLevel.{from_before, next_blocks}

pub agrees_is : (v b : Bool) → agrees v b ≡ true → b ≡ v
agrees_is true b h = h
agrees_is false b h = not-true b h

pub is_agrees : (v b : Bool) → b ≡ v → agrees v b ≡ true
is_agrees true b h = h
is_agrees false b h = ap not h

pub disagrees_is : (v b : Bool) → agrees v b ≡ false → not b ≡ v
disagrees_is true b h = ap not h
disagrees_is false true h = refl
disagrees_is false false h = h

module _ (v : Bool) (es : List Entry) where
  -- A position on the side of a covered one is covered.
  pub reached-under : (bs : List Block) (level s t : ℕ) → under v s t ≡ true → reached v es bs level t ≡ true → reached v es bs level s ≡ true
  reached-under [] level s t h r = is_agrees v (eqb s 0) (won-under v [] [] s t h (agrees_is v (eqb t 0) r))
  reached-under (b ∷ bs) level s t h r =
      let k = any_member (covers v level t) es r in
      let p = and_parts (eqb k.0.level level) (under v t k.0.set) k.1.1 in
      any-from (covers v level s) es k.1.0 (and_from _ _ p.0 (under-on v s t k.0.set h p.1))

  module _ (cs : List Clause) (b : Block) (bs : List Block) (level set : ℕ) where
    -- What a reply that is owed tells, and what it tells that none is owed.
    pub replies_so : (r : Reply) → owes v b.quantifier ≡ true → replies v (b ∷ bs) r ≡ true → upheld v cs es (b ∷ bs) level set r ≡ true →
        (w : ℕ) × ((r ≡ Value w) × (w < 2 ^ length b.variables) × (reached v es bs (level + 1) (rest_under cs b w set) ≡ true))
    replies_so None o h u = absurd (both_ways _ (not_from_true _ o) h)
    replies_so (Value w) o h u =
        let k = and_parts (owes v b.quantifier) (ltb w (2 ^ length b.variables)) h in
        (w, (refl, ltb-true w _ k.1, u))

    pub every_value : (r : Reply) → owes v b.quantifier ≡ false → replies v (b ∷ bs) r ≡ true → upheld v cs es (b ∷ bs) level set r ≡ true →
        (w : ℕ) → w < 2 ^ length b.variables → reached v es bs (level + 1) (rest_under cs b w set) ≡ true
    every_value None o h u w l = all_member (leads_on v cs es (b ∷ bs) level set) (below (2 ^ length b.variables)) u (mem_below _ w l)
    every_value (Value x) o h u w l = absurd (both_ways (owes v b.quantifier) o (and_parts (owes v b.quantifier) (ltb x (2 ^ length b.variables)) h).0)

gives_is : (w : ℕ) (r : Reply) → gives w r ≡ true → r ≡ Value w
gives_is w None h = absurd (both_ways false refl h)
gives_is w (Value x) h = ap Value (eqb-true x w h)

module _ (f : Qbf) (v : Bool) (es : List Entry) (sup : all (supported v f es) es ≡ true) where
  -- What is known of a supported entry at a level: it fits, and it is upheld.
  stands_at : (e : Entry) (b : Block) (bs : List Block) (level : ℕ) → Mem e es → e.level ≡ level → blocks_from f level ≡ b ∷ bs →
      (replies v (b ∷ bs) e.reply ≡ true) × (upheld v f.matrix es (b ∷ bs) level e.set e.reply ≡ true)
  stands_at e b bs level m at d =
      let k = and_parts (fits v f e) _ (all_member (supported v f es) es sup m) in
      let i = and_parts (leb 1 e.level) _ k.0 in
      let j = and_parts (ltb e.set (2 ^ length f.matrix)) _ i.1 in
      let same = ap (blocks_from f) at ∙ d in (
        subst (λ z. replies v z e.reply ≡ true) (from_before f e.level (leb-true 1 e.level i.0) ∙ same) j.1,
        subst (λ n. upheld v f.matrix es (b ∷ bs) n e.set e.reply ≡ true) at (subst (λ z. upheld v f.matrix es z e.level e.set e.reply ≡ true) same k.1),
      )

  module _ (b : Block) (bs : List Block) (level s : ℕ) (d : blocks_from f level ≡ b ∷ bs) where
    onward : (e : Entry) (w : ℕ) → under v s e.set ≡ true → reached v es bs (level + 1) (rest_under f.matrix b w e.set) ≡ true → reached v es bs (level + 1) (rest_under f.matrix b w s) ≡ true
    onward e w h r = reached-under v es bs (level + 1) _ _ (under-rest v f.matrix (made_true b.variables w) (made_false b.variables w) s e.set h) r

    -- Every value of the other side leads on.
    pub value_reached : (w : ℕ) → owes v b.quantifier ≡ false → w < 2 ^ length b.variables → reached v es (b ∷ bs) level s ≡ true → reached v es bs (level + 1) (rest_under f.matrix b w s) ≡ true
    value_reached w o l r =
        let k = any_member (covers v level s) es r in
        let e = k.0 in
        let p = and_parts (eqb e.level level) (under v s e.set) k.1.1 in
        let a = stands_at e b bs level k.1.0 (eqb-true e.level level p.0) d in
        onward e w p.1 (every_value v es f.matrix b bs level e.set e.reply o a.0 a.1 w l)

    -- The reply of a covering entry is a value of its block, and leads on.
    pub reply_reached : (w : ℕ) → owes v b.quantifier ≡ true → lends v es level s w ≡ true → (w < 2 ^ length b.variables) × (reached v es bs (level + 1) (rest_under f.matrix b w s) ≡ true)
    reply_reached w o h =
        let k = any_member (λ e. covers v level s e && gives w e.reply) es h in
        let e = k.0 in
        let c = and_parts (covers v level s e) (gives w e.reply) k.1.1 in
        let p = and_parts (eqb e.level level) (under v s e.set) c.0 in
        let a = stands_at e b bs level k.1.0 (eqb-true e.level level p.0) d in
        let r = replies_so v es f.matrix b bs level e.set e.reply o a.0 a.1 in
        let same : r.0 ≡ w = (let x = sym r.1.0 ∙ gives_is w e.reply c.1 in cc) in
        subst (λ z. (z < 2 ^ length b.variables) × (reached v es bs (level + 1) (rest_under f.matrix b z s) ≡ true)) same
        (r.1.1, onward e r.0 p.1 r.1.2)

    -- Where a reply is owed, a covering entry has one.
    pub reply_there : owes v b.quantifier ≡ true → (e : Entry) → Mem e es → covers v level s e ≡ true → (w : ℕ) × ((e.reply ≡ Value w) × (lends v es level s w ≡ true))
    reply_there o e m c =
        let p = and_parts (eqb e.level level) (under v s e.set) c in
        let a = stands_at e b bs level m (eqb-true e.level level p.0) d in
        let r = replies_so v es f.matrix b bs level e.set e.reply o a.0 a.1 in
        let w = r.0 in
        let own : gives w e.reply ≡ true = ap (gives w) r.1.0 ∙ eq-eqb w w refl in
        (w, (r.1.0, any-from (λ e. covers v level s e && gives w e.reply) es m (and_from _ _ c own)))

  -- A covered position has the verdict.
  pub reached-won : (bs : List Block) (level s : ℕ) → blocks_from f level ≡ bs → reached v es bs level s ≡ true → won f.matrix bs s ≡ v
  reached-won [] level s d r = agrees_is v (eqb s 0) r
  reached-won (b ∷ bs) level s d r =
      let p : ℕ → Bool = λ w. won f.matrix bs (rest_under f.matrix b w s) in
      let q = b.quantifier in
      let n = 2 ^ length b.variables in
      let on : (w : ℕ) → reached v es bs (level + 1) (rest_under f.matrix b w s) ≡ true → p w ≡ v =
      λ w. reached-won bs (level + 1) (rest_under f.matrix b w s) (next_blocks f b bs level d) in
      elim (cases_Bool (owes v q)) [
        | inl o ↦
            let c = agrees_is v (closing q) o in
            let k = any_member (covers v level s) es r in
            let w = reply_there b bs level s d o k.0 k.1.0 k.1.1 in
            let a = reply_reached b bs level s d w.0 o w.1.1 in
            wins_one p q (below n) (mem_below n w.0 a.0) (on w.0 a.1 ∙ sym c) ∙ c
        | inr o ↦
            let c = disagrees_is v (closing q) o in
            wins-none p q (below n) (λ w m. on w (value_reached b bs level s d w o (below_mem n w m) r) ∙ sym c) ∙ c
      ]

-- Accepted entries tell the truth, by blocks and by single variables.
pub accepted_true : (f : Qbf) (v : Bool) (es : List Entry) → accepts f v es ≡ true → (holds f ≡ v) × (holds_plainly f ≡ v)
accepted_true f v es h =
    let k = and_parts (reached v es f.prefix 1 (root_of f v)) (all (supported v f es) es) h in
    let so : holds f ≡ v = sym (truth_laws.roots_hold f v) ∙ reached-won f v es k.1 f.prefix 1 (root_of f v) refl k.0 in
    (so, sym (formulas_plain f) ∙ so)
