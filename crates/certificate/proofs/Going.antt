-- How a play goes on, turn by turn.
use Rattle.std.proofs.Common.{◌≡◌, ℕ, ◌+◌, ◌-◌, ◌<◌, ◌≤◌, Bool, true, false, List, [], ◌∷◌, sym, refl, ap, subst, ap₂, ◌∙◌, arith}
use Rattle.std.proofs.lemmas.Bool.{both_ways, not-true, ltb-true, ltb-false}
use Rattle.truth.specs.Limits.{max_blocks}
use Rattle.truth.specs.Syntax.{Block, Qbf}
use Rattle.entries.specs.declared.entry.Entry.{Entry}
use Rattle.truth.specs.declared.assignment.Assignment.{Assignment}
use Rattle.certificate.specs.declared.position.Position.{Position}
use Rattle.certificate.specs.declared.outcome.Outcome.{Outcome}
use Rattle.certificate.specs.declared.outcome.Outcome.TheVariants.{Ended, Due}
use Rattle.certificate.specs.declared.accepted.Accepted.{Accepted}
use Rattle.certificate.specs.declared.scene.Scene.{Scene}
use Rattle.certificate.specs.declared.turns.OtherTurn.{OtherTurn}
use Rattle.certificate.specs.declared.turns.HolderTurn.{HolderTurn}
use Rattle.certificate.specs.declared.turns.Ended.{Ended as End}
use Rattle.certificate.specs.declared.turns.Turn.{Turn}
use Rattle.certificate.specs.declared.turns.Turn.TheVariants.{Other, Holder, Over}
use Rattle.certificate.specs.Movers.{reply_due, value_due, nothing_due, is_value}
use Rattle.certificate.specs.Accepting.{blocks_from}
use Rattle.certificate.specs.Plays.{lends, moved, Played, Played.ended, Played.waits, Played.refused, Played.taken, Played.replied}
use Rattle.certificate.specs.Games.{formula_of, verdict_of, entries_of, root_at, blocks_at, onward}
use Rattle.certificate.specs.Views.{scene_of, At}
use Rattle.certificate.proofs.FromLevel.{next_blocks, level_there}
use Rattle.qbf.proofs.Sizes.{few_blocks}

-- One step of a play, by what is due at its position.
module _ (f : Qbf) (v : Bool) (es : List Entry) (p : Position) (o : Outcome) (vs : List ℕ) where
  abbrev left : List Block
  left = blocks_from f p.level

  abbrev next : ℕ → Position
  next w = moved f.matrix (blocks_from f p.level) w p

  step_replied : (w : ℕ) → reply_due v left ≡ true → lends v es p.level p.set w ≡ true → Played f v es (blocks_from f (next w).level) (next w) vs o → Played f v es left p vs o
  step_replied w due lent k = at left refl due k
    where
      at : (rs : List Block) → left ≡ rs → reply_due v rs ≡ true → Played f v es (blocks_from f (moved f.matrix rs w p).level) (moved f.matrix rs w p) vs o → Played f v es rs p vs o
      at [] d i j = absurd (both_ways false refl i)
      at (b ∷ bs) d i j = replied w i lent (subst (λ z. Played f v es z (moved f.matrix (b ∷ bs) w p) vs o) (next_blocks f b bs p.level d) j)

  step_taken : (w : ℕ) → value_due v left ≡ true → is_value left w ≡ true → Played f v es (blocks_from f (next w).level) (next w) vs o → Played f v es left p (w ∷ vs) o
  step_taken w due is k = at left refl due is k
    where
      at : (rs : List Block) → left ≡ rs → value_due v rs ≡ true → is_value rs w ≡ true → Played f v es (blocks_from f (moved f.matrix rs w p).level) (moved f.matrix rs w p) vs o → Played f v es rs p (w ∷ vs) o
      at [] d i h j = absurd (both_ways false refl i)
      at (b ∷ bs) d i h j = taken w (not-true _ i) (ltb-true w _ h) (subst (λ z. Played f v es z (moved f.matrix (b ∷ bs) w p) vs o) (next_blocks f b bs p.level d) j)

  step_refused : (w : ℕ) → value_due v left ≡ true → is_value left w ≡ false → Played f v es left p vs o → Played f v es left p (w ∷ vs) o
  step_refused w due is k = at left due is k
    where
      at : (rs : List Block) → value_due v rs ≡ true → is_value rs w ≡ false → Played f v es rs p vs o → Played f v es rs p (w ∷ vs) o
      at [] i h j = absurd (both_ways false refl i)
      at (b ∷ bs) i h j = refused w (not-true _ i) (ltb-false w _ h) j

step_waits : (f : Qbf) (v : Bool) (es : List Entry) (p : Position) (rs : List Block) → value_due v rs ≡ true → Played f v es rs p [] (Due p.level)
step_waits f v es p [] i = absurd (both_ways false refl i)
step_waits f v es p (b ∷ bs) i = waits (not-true _ i)

step_ended : (f : Qbf) (v : Bool) (es : List Entry) (p : Position) (vs : List ℕ) (rs : List Block) → nothing_due rs ≡ true → Played f v es rs p vs (Ended p.set p.played)
step_ended f v es p vs [] i = ended
step_ended f v es p vs (b ∷ bs) i = absurd (both_ways false refl i)

-- The play goes from a position with these offers to an outcome.
abbrev Goes : Accepted → Position → List ℕ → Outcome → Type 0
Goes a p vs o = Played (formula_of a) (verdict_of a) (entries_of a) (blocks_at a p) p vs o

-- How it goes on from a position is how it goes from the root.
abbrev Continues : Accepted → Position → List ℕ → List ℕ → Type 0
Continues a p rest offers = (o : Outcome) → Goes a p rest o → Goes a (root_at a) offers o

abbrev pub Going : Accepted → Turn → List ℕ → List ℕ → Type 0
Going a turn rest offers = (p : Position) × (At turn a p × Continues a p rest offers)

same_game : (a b : Accepted) (p q : Position) (rest offers : List ℕ) → b ≡ a → q ≡ p → Continues a p rest offers → Continues b q rest offers
same_game a b p q rest offers e d k = subst (λ x. Continues x q rest offers) (sym e) (subst (λ x. Continues a x rest offers) (sym d) k)

module _ (a : Accepted) (turn : Turn) (rest offers : List ℕ) (g : Going a turn rest offers) where
  module _ (s : Scene) (e : scene_of turn ≡ s) where
    same_play : s.game ≡ a
    same_play = ap (λ z. z.game) (sym e) ∙ g.1.0.0

    goes_on : Continues s.game s.at rest offers
    goes_on = same_game a s.game g.0 s.at rest offers same_play (ap (λ z. z.at) (sym e) ∙ g.1.0.1) g.1.1

  module _ (h : HolderTurn) (e : turn ≡ Holder h) where
    pub go_replied : (w : ℕ) (next : Turn) → lends (verdict_of h.scene.game) (entries_of h.scene.game) h.scene.at.level h.scene.at.set w ≡ true → At next h.scene.game (onward h.scene.game h.scene.at w) →
        Going a next rest offers
    go_replied w next lent at =
        let k = goes_on h.scene (ap scene_of e) in
        subst (λ x. Going x next rest offers) (same_play h.scene (ap scene_of e))
        (onward h.scene.game h.scene.at w, (at, λ o j. k o (step_replied _ _ _ h.scene.at o rest w h.due lent j)))

  module _ (h : OtherTurn) (e : turn ≡ Other h) where
    goes_after : (vs : List ℕ) → rest ≡ vs → Continues h.scene.game h.scene.at vs offers
    goes_after vs d = subst (λ vs. Continues h.scene.game h.scene.at vs offers) d (goes_on h.scene (ap scene_of e))

    pub go_taken : (w : ℕ) (after : List ℕ) (next : Turn) → rest ≡ w ∷ after → is_value (blocks_at h.scene.game h.scene.at) w ≡ true → At next h.scene.game (onward h.scene.game h.scene.at w) →
        Going a next after offers
    go_taken w after next d is at =
        let k = goes_after (w ∷ after) d in
        subst (λ x. Going x next after offers) (same_play h.scene (ap scene_of e))
        (onward h.scene.game h.scene.at w, (at, λ o j. k o (step_taken _ _ _ h.scene.at o after w h.due is j)))

    pub go_refused : (w : ℕ) (after : List ℕ) (back : OtherTurn) → rest ≡ w ∷ after → is_value (blocks_at h.scene.game h.scene.at) w ≡ false → back ≡ h → Going a (Other back) after offers
    go_refused w after back d is same =
        let k = goes_after (w ∷ after) d in
        subst (λ x. Going x (Other back) after offers) (same_play h.scene (ap scene_of e))
        (h.scene.at, (subst (λ b. At (Other b) h.scene.game h.scene.at) (sym same) (refl, refl), λ o j. k o (step_refused _ _ _ h.scene.at o after w h.due is j)))

    pub go_waits : (p : Position) → p ≡ h.scene.at → rest ≡ [] → Goes a (root_at a) offers (Due p.level)
    go_waits p same d =
        let out = Due h.scene.at.level in
        rw same (subst (λ x. Goes x (root_at x) offers out) (same_play h.scene (ap scene_of e)) (goes_after [] d out (step_waits _ _ _ h.scene.at _ h.due)))

  pub go_ended : (h : End) (s : ℕ) (played : Assignment) → turn ≡ Over h → s ≡ h.scene.at.set → played ≡ h.scene.at.played → Goes a (root_at a) offers (Ended s played)
  go_ended h s played e same_set same-played =
      let k = goes_on h.scene (ap scene_of e) in
      let at = h.scene.at in
      let same : Ended at.set at.played ≡ Ended s played = ap₂ Ended (sym same_set) (sym same-played) in
      subst (Goes a (root_at a) offers) same
      (subst (λ x. Goes x (root_at x) offers (Ended at.set at.played)) (same_play h.scene (ap scene_of e)) (k (Ended at.set at.played) (step_ended _ _ _ at rest _ h.due)))

-- How many levels are left, at most.
abbrev pub height : Turn → ℕ
height (Other t) = (max_blocks + 2) - t.scene.at.level
height (Holder t) = (max_blocks + 2) - t.scene.at.level
height (Over t) = 0

height-at : (turn : Turn) (a : Accepted) (p : Position) → At turn a p → height turn ≤ (max_blocks + 2) - p.level
height-at (Other t) a p at = omega (arith, ap (λ q. q.level) at.1)
height-at (Holder t) a p at = omega (arith, ap (λ q. q.level) at.1)
height-at (Over t) a p at = omega arith

-- A level with a block is within the limit, and a move leads to the next.
level_left : (a : Accepted) (p : Position) (w : ℕ) (b : Block) (bs : List Block) → blocks_at a p ≡ b ∷ bs → (p.level ≤ max_blocks) × ((onward a p w).level ≡ p.level + 1)
level_left a p w b bs d =
    let few = few_blocks a.formula.now in
    let there = level_there (formula_of a) b bs p.level d in
    (omega arith, ap (λ z. (moved (formula_of a).matrix z w p).level) d)

lower : (a : Accepted) (p : Position) (w : ℕ) (next : Turn) (rs : List Block) → blocks_at a p ≡ rs → nothing_due rs ≡ false → At next a (onward a p w) → height next < (max_blocks + 2) - p.level
lower a p w next [] d i at = absurd (both_ways true i refl)
lower a p w next (b ∷ bs) d i at =
    let k = level_left a p w b bs d in
    omega (arith, height-at next a (onward a p w) at, k.0, k.1)

reply_some : (v : Bool) (rs : List Block) → reply_due v rs ≡ true → nothing_due rs ≡ false
reply_some v [] i = sym i
reply_some v (b ∷ bs) i = refl

value_some : (v : Bool) (rs : List Block) → value_due v rs ≡ true → nothing_due rs ≡ false
value_some v [] i = sym i
value_some v (b ∷ bs) i = refl

pub lower_replied : (turn next : Turn) (h : HolderTurn) (w : ℕ) → turn ≡ Holder h → At next h.scene.game (onward h.scene.game h.scene.at w) → height next < height turn
lower_replied turn next h w e at =
    subst (λ t. height next < height t) (sym e) (lower h.scene.game h.scene.at w next _ refl (reply_some _ _ h.due) at)

pub lower_taken : (turn next : Turn) (h : OtherTurn) (w : ℕ) → turn ≡ Other h → At next h.scene.game (onward h.scene.game h.scene.at w) → height next < height turn
lower_taken turn next h w e at =
    subst (λ t. height next < height t) (sym e) (lower h.scene.game h.scene.at w next _ refl (value_some _ _ h.due) at)
