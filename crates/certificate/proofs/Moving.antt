-- Moves of a play: from a safe position to the next.
use Rattle.std.proofs.Common.{◌≡◌, ℕ, ◌+◌, ◌^◌, ◌<◌, Bool, true, false, eqb, List, [], ◌∷◌, length, is_some, Some, None, Option, sym, refl, ap, ◌∙◌, subst, ap₂, inl, inr, arith}
use Rattle.std.specs.Option.{option_map}
use Rattle.std.proofs.lemmas.Bool.{cases_Bool, cases_lt, both_ways, and_parts, not-true, not_from_false, ltb-true}
use Rattle.truth.specs.Places.{numbered}
use Rattle.truth.specs.Syntax.{Block, Qbf}
use Rattle.truth.specs.Sides.{owes}
use Rattle.truth.specs.WellFormed.{all}
use Rattle.truth.specs.Truth.{made_true, made_false, rest_under, whole, root_of}
use Rattle.truth.proofs.Members.{Mem, any_member}
use Rattle.truth.proofs.Rests.{rest-rest, rest-whole}
use Rattle.entries.specs.declared.entry.Entry.{Entry}
use Rattle.entries.specs.declared.entry.Reply.TheVariants.{None as NoReply, Value}
use Rattle.certificate.specs.declared.outcome.Outcome.{Outcome}
use Rattle.certificate.specs.declared.outcome.Outcome.TheVariants.{Ended, Due}
use Rattle.truth.specs.declared.assignment.Assignment.{Assignment}
use Rattle.certificate.specs.declared.position.Position.{Position}
use Rattle.certificate.specs.Accepting.{blocks_from, covers, reached, supported, accepts}
use Rattle.certificate.specs.Movers.{reply_due, value_due, is_value}
use Rattle.certificate.specs.Plays.{lends, assigned, start, moved, Safe, Played, Played.ended, Played.waits, Played.refused, Played.taken, Played.replied, Right, PlaysRight}
use Rattle.std.specs.List.{find}
use Rattle.certificate.proofs.Steps.{first_some, first_member}
use Rattle.certificate.proofs.Sound.{agrees_is, value_reached, reply_reached, reply_there}
use Rattle.certificate.proofs.FromLevel.{next_blocks, told_none, told_some}

module _ (f : Qbf) (w : ℕ) (p : Position) where
  pub moved_nowhere : None ≡ option_map (λ b. rest_under f.matrix b w p.set) (numbered f.prefix p.level) → p ≡ moved f.matrix (blocks_from f p.level) w p
  moved_nowhere e = ap (λ z. moved f.matrix z w p) (sym (told_none (λ b. rest_under f.matrix b w p.set) f p.level e))

  pub moved_to : (s : ℕ) (a : Assignment) → Some s ≡ option_map (λ b. rest_under f.matrix b w p.set) (numbered f.prefix p.level) → a ≡ assigned (blocks_from f p.level) w p.played →
      ◌≡◌ {A = Position} (record { level = p.level + 1; set = s; played = a }) (moved f.matrix (blocks_from f p.level) w p)
  moved_to s a e k =
      let b = told_some (λ b. rest_under f.matrix b w p.set) f p.level s e in
      let make : ℕ → Assignment → Position = λ x y. record { level = p.level + 1; set = x; played = y } in
      ap₂ make b.1.0 (k ∙ ap (λ z. assigned z w p.played) b.1.1) ∙ ap (λ z. moved f.matrix z w p) (sym b.1.1)

module _ (f : Qbf) (v : Bool) (es : List Entry) where
  pub safe_start : accepts f v es ≡ true → Safe f v es (start f v)
  safe_start h =
      (omega arith, (and_parts (reached v es f.prefix 1 (root_of f v)) (all (supported v f es) es) h).0, sym (rest-whole f.matrix))

  module _ (sup : all (supported v f es) es ≡ true) where
    -- One move of a safe play, where the value leads on.
    safe_on : (p : Position) (b : Block) (bs : List Block) (w : ℕ) → blocks_from f p.level ≡ b ∷ bs → Safe f v es p →
        reached v es bs (p.level + 1) (rest_under f.matrix b w p.set) ≡ true → Safe f v es (moved f.matrix (b ∷ bs) w p)
    safe_on p b bs w d s r =
        let next = next_blocks f b bs p.level d in
        let t = made_true b.variables w in
        let g = made_false b.variables w in (
          omega arith,
          subst (λ z. reached v es z (p.level + 1) (rest_under f.matrix b w p.set) ≡ true) (sym next) r,
          ap (rest_under f.matrix b w) s.2 ∙ rest-rest f.matrix p.played.trues p.played.falses t g (whole f.matrix),
        )

    pub safe_taken : (p : Position) (b : Block) (bs : List Block) (w : ℕ) → blocks_from f p.level ≡ b ∷ bs → Safe f v es p → owes v b.quantifier ≡ false → w < 2 ^ length b.variables →
        Safe f v es (moved f.matrix (b ∷ bs) w p)
    safe_taken p b bs w d s o h =
        safe_on p b bs w d s (value_reached f v es sup b bs p.level p.set d w o h (subst (λ z. reached v es z p.level p.set ≡ true) d s.1))

    pub safe_replied : (p : Position) (b : Block) (bs : List Block) (w : ℕ) → blocks_from f p.level ≡ b ∷ bs → Safe f v es p → owes v b.quantifier ≡ true → lends v es p.level p.set w ≡ true →
        Safe f v es (moved f.matrix (b ∷ bs) w p)
    safe_replied p b bs w d s o h = safe_on p b bs w d s (reply_reached f v es sup b bs p.level p.set d w o h).1

  -- The root, by a set that is found to be it.
  pub safe_root : accepts f v es ≡ true → (s : ℕ) → s ≡ root_of f v → Safe f v es (record { level = 1; set = s; played = record { trues = 0; falses = 0 } })
  safe_root h s e = subst (λ z. Safe f v es (record { level = 1; set = z; played = record { trues = 0; falses = 0 } })) (sym e) (safe_start h)

  module _ (acc : accepts f v es ≡ true) where
    upheld-all : all (supported v f es) es ≡ true
    upheld-all = (and_parts (reached v es f.prefix 1 (root_of f v)) (all (supported v f es) es) acc).1

    -- The same by what is due, whichever blocks are left.
    pub safe_value : (p q : Position) (w : ℕ) → q ≡ moved f.matrix (blocks_from f p.level) w p → Safe f v es p → value_due v (blocks_from f p.level) ≡ true → is_value (blocks_from f p.level) w ≡ true → Safe f v es q
    safe_value p q w e s due k = subst (Safe f v es) (sym e) (at (blocks_from f p.level) refl due k)
      where
        at : (rs : List Block) → blocks_from f p.level ≡ rs → value_due v rs ≡ true → is_value rs w ≡ true → Safe f v es (moved f.matrix rs w p)
        at [] d i j = absurd (both_ways false refl i)
        at (b ∷ bs) d i j = safe_taken upheld-all p b bs w d s (not-true (owes v b.quantifier) i) (ltb-true w _ j)

    pub safe_reply : (p q : Position) (w : ℕ) → q ≡ moved f.matrix (blocks_from f p.level) w p → Safe f v es p → reply_due v (blocks_from f p.level) ≡ true → lends v es p.level p.set w ≡ true → Safe f v es q
    safe_reply p q w e s due k = subst (Safe f v es) (sym e) (at (blocks_from f p.level) refl due)
      where
        at : (rs : List Block) → blocks_from f p.level ≡ rs → reply_due v rs ≡ true → Safe f v es (moved f.matrix rs w p)
        at [] d i = absurd (both_ways false refl i)
        at (b ∷ bs) d i = safe_replied upheld-all p b bs w d s i k

    -- At a safe position at which a reply is due, the first covering entry has one.
    module _ (p : Position) (s : Safe f v es p) (due : reply_due v (blocks_from f p.level) ≡ true) where
      abbrev found : Option Entry
      found = find (covers v p.level p.set) es

      pub covered_there : None ≡ found → ⊥
      covered_there e = at (blocks_from f p.level) due s.1
        where
          at : (rs : List Block) → reply_due v rs ≡ true → reached v es rs p.level p.set ≡ true → ⊥
          at [] i r = both_ways false refl i
          at (b ∷ bs) i r = both_ways _ (sym (first_some (covers v p.level p.set) es) ∙ ap is_some (sym e)) r

      pub reply_of_lem : (e : Entry) → Some e ≡ found → (w : ℕ) × ((e.reply ≡ Value w) × (lends v es p.level p.set w ≡ true))
      reply_of_lem e k =
          let m = first_member (covers v p.level p.set) es e (sym k) in
          at (blocks_from f p.level) refl due m.0 m.1
        where
          at : (rs : List Block) → blocks_from f p.level ≡ rs → reply_due v rs ≡ true → Mem e es → covers v p.level p.set e ≡ true → (w : ℕ) × ((e.reply ≡ Value w) × (lends v es p.level p.set w ≡ true))
          at [] d i m c = absurd (both_ways false refl i)
          at (b ∷ bs) d i m c = reply_there f v es upheld-all b bs p.level p.set d i e m c

      pub reply_given : (e : Entry) (w : ℕ) → Some e ≡ found → e.reply ≡ Value w → lends v es p.level p.set w ≡ true
      reply_given e w k g =
          let r = reply_of_lem e k in
          let same : r.0 ≡ w = (let z = sym r.1.0 ∙ g in cc) in
          subst (λ x. lends v es p.level p.set x ≡ true) same r.1.1

      pub reply_not_none : (e : Entry) → Some e ≡ found → e.reply ≡ NoReply → ⊥
      reply_not_none e k g = let r = reply_of_lem e k in let h = sym r.1.0 ∙ g in let z : ◌≡◌ {A = ℕ} 0 1 = cc in omega arith

    -- Every play from a safe position comes out right.
    play_right : {bs : List Block} {p : Position} {vs : List ℕ} {o : Outcome} → Played f v es bs p vs o → blocks_from f p.level ≡ bs → Safe f v es p → Right f v o
    play_right (ended {p = p}) d s = (agrees_is v (eqb p.set 0) (subst (λ z. reached v es z p.level p.set ≡ true) d s.1), s.2)
    play_right (waits {p = p} o) d s = ap (value_due v) d ∙ not_from_false _ o
    play_right (refused w o h k) d s = play_right k d s
    play_right (taken {b = b} {bs = bs} {p = p} w o h k) d s =
        play_right k (next_blocks f b bs p.level d) (safe_taken upheld-all p b bs w d s o h)
    play_right (replied {b = b} {bs = bs} {p = p} w o h k) d s =
        play_right k (next_blocks f b bs p.level d) (safe_replied upheld-all p b bs w d s o h)

    -- And there is one, whatever is offered.
    abbrev Goes : List Block → Position → Type 0
    Goes bs p = (vs : List ℕ) → (o : Outcome) × Played f v es bs p vs o

    offered : (b : Block) (bs : List Block) (p : Position) → owes v b.quantifier ≡ false → ((w : ℕ) → w < 2 ^ length b.variables → Goes bs (moved f.matrix (b ∷ bs) w p)) → Goes (b ∷ bs) p
    offered b bs p o on [] = (Due p.level, waits o)
    offered b bs p o on (w ∷ vs) =
        elim (cases_lt w (2 ^ length b.variables)) [
          | inl h ↦ let r = on w h vs in (r.0, taken w o h r.1)
          | inr h ↦ let r = offered b bs p o on vs in (r.0, refused w o h r.1)
        ]

    play_goes : (bs : List Block) (p : Position) → blocks_from f p.level ≡ bs → Safe f v es p → Goes bs p
    play_goes [] p d s = λ vs. (Ended p.set p.played, ended)
    play_goes (b ∷ bs) p d s =
        let next = next_blocks f b bs p.level d in
        elim (cases_Bool (owes v b.quantifier)) [
          | inl o ↦ λ vs.
              let k = any_member (covers v p.level p.set) es (subst (λ z. reached v es z p.level p.set ≡ true) d s.1) in
              let w = reply_there f v es upheld-all b bs p.level p.set d o k.0 k.1.0 k.1.1 in
              let r = play_goes bs (moved f.matrix (b ∷ bs) w.0 p) next (safe_replied upheld-all p b bs w.0 d s o w.1.1) vs in
              (r.0, replied w.0 o w.1.1 r.1)
          | inr o ↦ offered b bs p o (λ w h. play_goes bs (moved f.matrix (b ∷ bs) w p) next (safe_taken upheld-all p b bs w d s o h))
        ]

    pub plays_right : PlaysRight f v es
    plays_right = record {
      right = λ vs o k. play_right k refl (safe_start acc);
      goes = play_goes f.prefix (start f v) refl (safe_start acc);
    }
