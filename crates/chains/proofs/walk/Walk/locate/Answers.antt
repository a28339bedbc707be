use Rattle.std.proofs.Common.{[], refl, inl, arith}
use Rattle.chains.proofs.Props.{ends_of}
use Rattle.chains.proofs.Searches.{reached_below, reached_less, reached_next, reached_end, reached_stop}
use Rattle.chains.proofs.walk.Walk.locate.Goals as goal
use Rattle.chains.proofs.walk.Walk.locate.Goals.{then-loop-next-test+then-not-passes, else-loop-next-test}

pub loop-next-init : goal.loop-next-init
loop-next-init g c = record { before = []; after = _; split = refl; last = inl (refl, refl); trail = ends_of c.args.self.now; passed = tt }

pub offset_bounds-slots-next : goal.offset_bounds-slots-next
offset_bounds-slots-next g c = omega (arith, reached_below c.args.self.now.slots.now c.loop-next.invariant c.loop-next-test.true)

pub bounds-slots-next : goal.bounds-slots-next
bounds-slots-next g c = reached_below c.args.self.now.slots.now c.loop-next.invariant c.loop-next-test.true

pub loop-next-smaller : goal.loop-next-smaller
loop-next-smaller g c = reached_less c.args.self.now.slots.now c.loop-next.invariant c.loop-next-test.true c.index-slots-next.result c.index-slots-next.is

pub loop-next-preserved : goal.loop-next-preserved
loop-next-preserved g c = reached_next c.args.self.now.slots.now c.loop-next.invariant c.loop-next-test.true c.index-slots-next.result c.index-slots-next.is c.key.result c.key.ensures (c.if-not-passes.ensures)

pub returns : goal.returns
returns g c = elim c.loop-next-test.branch [
  | else-loop-next-test w ↦ reached_end c.loop-next.invariant w.loop-next-test.false
  | then-loop-next-test+then-not-passes w ↦ reached_stop c.args.self.now.slots.now c.loop-next.invariant w.loop-next-test.true w.index-slots-next.result w.index-slots-next.is w.key.result w.key.ensures (w.if-not-passes.ensures)
]
