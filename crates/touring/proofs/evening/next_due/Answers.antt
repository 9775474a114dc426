use Rattle.certificate.proofs.Going.{lower_replied}
use Rattle.touring.proofs.evening.next_due.Goals as goal

pub loop-turn-smaller : goal.loop-turn-smaller
loop-turn-smaller c = lower_replied c.loop-turn.turn c.reply-value.result.1 _ _ c.in-Holder.is c.reply-value.ensures.next
