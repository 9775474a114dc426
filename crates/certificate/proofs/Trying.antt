-- The candidates of a block lead on just where all its values do.
use Rattle.std.proofs.Common.{◌≡◌, ℕ, ◌+◌, ◌-◌, ◌^◌, ◌<◌, ◌≤◌, Bool, true, false, ◌&&◌, ltb, leb, List, [], ◌∷◌, length, drop, Some, None, filter, Option, sym, refl, ap, ◌∙◌, subst, ap₂, inl, inr, arith, pow_mono}
use Rattle.std.specs.Option.{option_map}
use Rattle.std.proofs.lemmas.Bool.{cases_Bool, both_ways, and_parts, and_left, not-true, leb-true}
use Rattle.text.specs.Taken.{and_then}
use Rattle.truth.specs.declared.literal.Quantifier.{Quantifier}
use Rattle.truth.specs.declared.literal.Clause.{Clause}
use Rattle.truth.specs.Limits.{max_width}
use Rattle.truth.specs.Places.{numbered}
use Rattle.truth.specs.Syntax.{Block, Qbf}
use Rattle.truth.specs.Sides.{under, closing, agrees, owes}
use Rattle.truth.specs.WellFormed.{all, wide}
use Rattle.truth.specs.Truth.{below, rest_under}
use Rattle.truth.specs.Candidates.{candidates_at, first_from}
use Rattle.truth.proofs.Members.{Mem, Mem.here, mem_below, below_mem, kept_mem, all_member, all_from}
use Rattle.truth.proofs.Choosing.{candidate_for, candidate-below}
use Rattle.truth.proofs.Ascending.{candidates-ascending, from_start, from_low, from_next, from_end}
use Rattle.qbf.specs.declared.candidate.Candidate.{Candidate}
use Rattle.qbf.specs.Offered.{next_candidate}
use Rattle.entries.specs.declared.entry.Entry.{Entry}
use Rattle.entries.specs.declared.entry.Reply.TheVariants.{None as NoReply}
use Rattle.entries.specs.Fitting.{replies, fits}
use Rattle.certificate.specs.Accepting.{blocks_from, reached, leads_on, upheld}
use Rattle.certificate.specs.Movers.{value_due}
use Rattle.certificate.proofs.Sound.{reached-under}
use Rattle.certificate.proofs.FromLevel.{following, from_level, from_before, next_blocks, level_there, all_at}

-- What lies on one verdict's side of a set has the set on the other's.
turned : (v : Bool) (q : Quantifier) (a b : ℕ) → owes v q ≡ false → under (closing q) a b ≡ true → under v b a ≡ true
turned v q a b o h = at v (closing q) o h
  where
    at : (v c : Bool) → agrees v c ≡ false → under c a b ≡ true → under v b a ≡ true
    at true true e k = absurd (both_ways true e refl)
    at true false e k = k
    at false true e k = k
    at false false e k = absurd (both_ways true e refl)

module _ (v : Bool) (cs : List Clause) (es : List Entry) (b : Block) (bs : List Block) (level s : ℕ) (o : owes v b.quantifier ≡ false) where
  abbrev leads : ℕ → Bool
  leads = leads_on v cs es (b ∷ bs) level s

  -- Where the candidates lead on, each value does.
  candidates_lead : all leads (candidates_at cs b s) ≡ true → all leads (below (2 ^ length b.variables)) ≡ true
  candidates_lead h =
      let k = length b.variables in
      all_from leads (below (2 ^ k)) (λ w m.
      let c = candidate_for (λ x. rest_under cs b x s) b.quantifier k w (below_mem (2 ^ k) w m) in
      reached-under v es bs (level + 1) _ _ (turned v b.quantifier _ _ o c.1.1) (all_member leads (candidates_at cs b s) h c.1.0))

  pub candidates-all : all leads (candidates_at cs b s) ≡ upheld v cs es (b ∷ bs) level s NoReply
  candidates-all =
      let k = length b.variables in
      elim (cases_Bool (all leads (candidates_at cs b s))) [
        | inl h ↦ h ∙ sym (candidates_lead h)
        | inr h ↦ h ∙ sym (elim (cases_Bool (all leads (below (2 ^ k)))) [
          | inl j ↦
              absurd (both_ways _ h (all_from leads (candidates_at cs b s) (λ w m.
              all_member leads (below (2 ^ k)) j (mem_below (2 ^ k) w (candidate-below (λ x. rest_under cs b x s) b.quantifier k w m)))))
          | inr j ↦ j
        ])
      ]

-- The candidates that are still to be tried, from a value on.
abbrev pub untried : List Clause → List Block → ℕ → ℕ → List ℕ
untried cs [] s from = []
untried cs (b ∷ bs) s from = filter (leb from) (candidates_at cs b s)

module _ (v : Bool) (cs : List Clause) (es : List Entry) (level s : ℕ) where
  pub tried_none : (rs : List Block) → value_due v rs ≡ true → all (leads_on v cs es rs level s) (untried cs rs s 0) ≡ upheld v cs es rs level s NoReply
  tried_none [] due = absurd (both_ways false refl due)
  tried_none (b ∷ bs) due = ap (all (leads_on v cs es (b ∷ bs) level s)) (from_start (candidates_at cs b s)) ∙ candidates-all v cs es b bs level s (not-true _ due)

-- What the next candidate tells of those that are left.
pub record Next (cs : List Clause) (rs : List Block) (s from : ℕ) (c : Candidate) : Type 0 where
  pub block : Block
  pub after : List Block
  pub is : rs ≡ block ∷ after
  pub low : from ≤ c.value
  pub first : untried cs rs s from ≡ c.value ∷ untried cs rs s (c.value + 1)
  pub value : c.value < 2 ^ length block.variables
  pub rest : c.rest ≡ rest_under cs block c.value s

next_of : (cs : List Clause) (b : Block) (bs : List Block) (s from : ℕ) (c : Candidate) (o : Option ℕ) → o ≡ first_from from (candidates_at cs b s) →
    Some c ≡ option_map {U = Candidate} (λ w. record { value = w; rest = rest_under cs b w s }) o → Next cs (b ∷ bs) s from c
next_of cs b bs s from c None d e = let z : ◌≡◌ {A = ℕ} 0 1 = cc in absurd (omega arith)
next_of cs b bs s from c (Some w) d e =
    let r : ℕ → ℕ = λ x. rest_under cs b x s in
    let k = length b.variables in
    let is : c ≡ record { value = w; rest = r w } = cc in
    let first = from_next from w (candidates_at cs b s) (candidates-ascending r b.quantifier k) d in
    let among : Mem w (filter (leb from) (candidates_at cs b s)) = subst (Mem w) (sym first) here in
    subst (Next cs (b ∷ bs) s from) (sym is) (record {
      block = b;
      after = bs;
      is = refl;
      low = from_low from w (candidates_at cs b s) d;
      first = first;
      value = candidate-below r b.quantifier k w (kept_mem (leb from) (candidates_at cs b s) among);
      rest = refl;
    })

module _ (f : Qbf) (level s from : ℕ) where
  pub next_some : (c : Candidate) → Some c ≡ next_candidate f level s from → Next f.matrix (blocks_from f level) s from c
  next_some c e = subst (λ z. Next f.matrix z s from c) (sym (from_level f level)) (at (numbered f.prefix level) e)
    where
      at : (o : Option Block) → Some c ≡ and_then o (λ b. option_map (λ v. record { value = v; rest = rest_under f.matrix b v s }) (first_from from (candidates_at f.matrix b s))) →
          Next f.matrix (following o (drop level f.prefix)) s from c
      at None h = let z : ◌≡◌ {A = ℕ} 0 1 = cc in absurd (omega arith)
      at (Some b) h = next_of f.matrix b _ s from c (first_from from (candidates_at f.matrix b s)) refl h

  pub next_none : None ≡ next_candidate f level s from → untried f.matrix (blocks_from f level) s from ≡ []
  next_none e = ap (λ z. untried f.matrix z s from) (from_level f level) ∙ at (numbered f.prefix level) e
    where
      mapped_none : {A B : Type 0} (g : A → B) (o : Option A) → None ≡ option_map g o → None ≡ o
      mapped_none g None h = refl
      mapped_none g (Some x) h = cc

      at : (o : Option Block) → None ≡ and_then o (λ b. option_map {U = Candidate} (λ v. record { value = v; rest = rest_under f.matrix b v s }) (first_from from (candidates_at f.matrix b s))) →
          untried f.matrix (following o (drop level f.prefix)) s from ≡ []
      at None h = refl
      at (Some b) h = from_end from (candidates_at f.matrix b s) (mapped_none _ (first_from from (candidates_at f.matrix b s)) h)

module _ (f : Qbf) (level s from : ℕ) (c : Candidate) (e : Some c ≡ next_candidate f level s from) where
  pub candidate_low : from ≤ c.value
  candidate_low = (next_some f level s from c e).low

  pub candidate_small : all wide f.prefix ≡ true → c.value < 2 ^ max_width
  candidate_small h =
      let n = next_some f level s from c e in
      let k = length n.block.variables in
      let w = and_parts (leb 1 k) (leb k max_width) (all_at wide f n.block n.after level h n.is) in
      let few : 2 ^ k ≤ 2 ^ max_width = pow_mono (leb-true k max_width w.1) in
      omega (arith, n.value)

  pub candidate_level : level ≤ length f.prefix
  candidate_level = let n = next_some f level s from c e in level_there f n.block n.after level n.is

-- The steps of a loop over the candidates, where x is what all values together say.
module _ (v : Bool) (f : Qbf) (es : List Entry) (level s from : ℕ) (x : Bool) where
  abbrev blocks : List Block
  blocks = blocks_from f level

  abbrev all_lead : List ℕ → Bool
  all_lead = all (leads_on v f.matrix es blocks level s)

  module _ (same : all_lead (untried f.matrix blocks s from) ≡ x) where
    module _ (c : Candidate) (e : Some c ≡ next_candidate f level s from) where
      here_is : (r : Bool) → r ≡ reached v es (blocks_from f (level + 1)) (level + 1) c.rest → r ≡ leads_on v f.matrix es blocks level s c.value
      here_is r k =
          let n = next_some f level s from c e in
          k ∙ ap₂ (λ z t. reached v es z (level + 1) t) (next_blocks f n.block n.after level n.is) n.rest
          ∙ ap (λ z. leads_on v f.matrix es z level s c.value) (sym n.is)

      parts : (leads_on v f.matrix es blocks level s c.value && all_lead (untried f.matrix blocks s (c.value + 1))) ≡ x
      parts = ap all_lead (sym (next_some f level s from c e).first) ∙ same

      pub tried_stop : false ≡ reached v es (blocks_from f (level + 1)) (level + 1) c.rest → false ≡ x
      tried_stop k = sym (and_left _ _ (sym (here_is false k))) ∙ parts

      pub tried_more : true ≡ reached v es (blocks_from f (level + 1)) (level + 1) c.rest → all_lead (untried f.matrix blocks s (c.value + 1)) ≡ x
      tried_more k = sym (ap (λ z. z && all_lead (untried f.matrix blocks s (c.value + 1))) (sym (here_is true k))) ∙ parts

    pub tried_all : None ≡ next_candidate f level s from → true ≡ x
    tried_all e = ap all_lead (sym (next_none f level s from e)) ∙ same

pub fits_level : (v : Bool) (f : Qbf) (e : Entry) → fits v f e ≡ true → 1 ≤ e.level
fits_level v f e h = leb-true 1 e.level (and_parts (leb 1 e.level) _ h).0

-- An entry that fits and has no reply stands at the other side's level.
pub none_due : (v : Bool) (f : Qbf) (e : Entry) → fits v f e ≡ true → e.reply ≡ NoReply → value_due v (blocks_from f e.level) ≡ true
none_due v f e h k =
    let i = and_parts (leb 1 e.level) _ h in
    let j = and_parts (ltb e.set (2 ^ length f.matrix)) _ i.1 in
    let told = subst (λ r. replies v (drop (e.level - 1) f.prefix) r ≡ true) k j.1 in
    at (blocks_from f e.level) (subst (λ z. replies v z NoReply ≡ true) (from_before f e.level (leb-true 1 e.level i.0)) told)
  where
    at : (rs : List Block) → replies v rs NoReply ≡ true → value_due v rs ≡ true
    at [] r = r
    at (b ∷ bs) r = r
