use Rattle.std.proofs.Common.{length}
use Rattle.chains.specs.Places.{nexts, places, values}
use Rattle.chains.specs.Steps.{Reached}
use Rattle.chains.proofs.walk.Walk.locate.Given as goal

abbrev pub invariant-loop-next : goal.invariant-loop-next
invariant-loop-next g l = Reached (goal.F-post g l.passes) g.R.Keyed.keyed (nexts l.self.slots.now) (values l.self.slots.now) l.self.place l.at l.next

abbrev pub decreases-loop-next : goal.decreases-loop-next
decreases-loop-next g l = length (places (nexts l.self.slots.now) l.next)
