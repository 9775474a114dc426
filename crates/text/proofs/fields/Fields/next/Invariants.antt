use Rattle.std.proofs.Common.{◌≡◌, ◌≤◌, length}
use Rattle.text.specs.Rows.{words}
use Rattle.text.proofs.fields.Fields.next.Given as goal

abbrev pub invariant-loop-field : goal.invariant-loop-field
invariant-loop-field l =
    (words l.self.rest.now ≡ words l.initial.self.rest.now) × (length l.self.rest.now ≤ length l.initial.self.rest.now)
    × (l.self.fault ≡ l.initial.self.fault)

abbrev pub decreases-loop-field : goal.decreases-loop-field
decreases-loop-field l = length l.self.rest.now
