-- All laws of positions together.
use Rattle.std.proofs.Common.{refl}
use Rattle.truth.specs.TruthLaws.{TruthLaws}
use Rattle.truth.proofs.Rests.{rests_inside, joint_rest}
use Rattle.truth.proofs.Sides.{rests_grow, won-inside, lost_around}
use Rattle.truth.proofs.Choosing.{candidates_decide}
use Rattle.truth.proofs.OneByOne.{masks_plain, decided_plain, formulas_plain}

pub truth_laws : TruthLaws
truth_laws = record {
  rests_grow = rests_grow;
  rests_inside = rests_inside;
  won-inside = won-inside;
  lost_around = lost_around;
  joint_rest = joint_rest;
  candidates_decide = candidates_decide;
  masks_plain = masks_plain;
  decided_plain = decided_plain;
  formulas_plain = formulas_plain;
  roots_hold = λ f verdict. refl;
}
