-- Turns by what they hold.
use Rattle.std.specs.Prelude.{◌≡◌}
use Rattle.certificate.specs.declared.position.Position.{Position}
use Rattle.certificate.specs.declared.accepted.Accepted.{Accepted}
use Rattle.certificate.specs.declared.scene.Scene.{Scene}
use Rattle.certificate.specs.declared.turns.Turn.{Turn}
use Rattle.certificate.specs.declared.turns.Turn.TheVariants.{Other, Holder, Over}

-- The scene of a turn.
abbrev pub scene_of : Turn → Scene
scene_of (Other t) = t.scene
scene_of (Holder t) = t.scene
scene_of (Over t) = t.scene

-- A turn of a play by these accepted entries, at this position.
abbrev pub At : Turn → Accepted → Position → Type 0
At t a p = ((scene_of t).game ≡ a) × ((scene_of t).at ≡ p)
