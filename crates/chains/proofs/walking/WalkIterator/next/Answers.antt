use Rattle.std.proofs.Common.{arith, ap, length}
use Rattle.chains.proofs.Props.{ends_of}
use Rattle.chains.proofs.Walks.{walk_ends, walk_next}
use Rattle.chains.proofs.walking.WalkIterator.next.Goals as goal

pub invariant_of-self : goal.invariant_of-self
invariant_of-self g c = record { ends = ∣ walk_ends c.args.self.now.slots.now c.args.self.now.place (ends_of c.args.self.now) c.if-self-eq0.false c.index-slots-self.result ∣₁ }

pub returns-clause-steps : goal.returns-clause-steps
returns-clause-steps g c = walk_next c.args.self.now.slots.now c.args.self.now.place (ends_of c.args.self.now) c.if-self-eq0.false c.index-slots-self.result c.index-slots-self-2.result

pub returns-clause-goes : goal.returns-clause-goes
returns-clause-goes g c =
    let e = ap length (walk_next c.args.self.now.slots.now c.args.self.now.place (ends_of c.args.self.now) c.if-self-eq0.false c.index-slots-self.result c.index-slots-self-2.result) in
    record { on = λ _. (tt, tt, omega arith); keeps = tt; rests = λ _. tt }
