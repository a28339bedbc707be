use Rattle.std.proofs.Common.{Ok}
use Rattle.chains.specs.Boards.{stored}
use Rattle.chains.proofs.Ordered.{replaces_ordered}
use Rattle.chains.proofs.Outcomes.{replaces}
use Rattle.chains.proofs.Props.{kept_of, ordered_of}
use Rattle.chains.proofs.chains.Chains.replace.Goals as goal

pub returns-in_err-place-clause-ordered : goal.returns-in_err-place-clause-ordered
returns-in_err-place-clause-ordered g c = ordered_of c.args.self.now

pub invariant_of-self : goal.invariant_of-self
invariant_of-self g c =
    let b = c.args.self.now.board in
    let (kept, i) = replaces g.row.N b (kept_of c.args.self.now) g.R.Keyed.keyed c.args.chain c.args.item c.key.result c.in_ok-place.field-0-0 c.in_ok-place.place c.index-self-place.result c.rewrite.new.self c.key.ensures c.in_ok-place.ensures c.rewrite.ensures in
    record { kept = ∣ kept ∣₁; ordered = ∣ replaces_ordered g.R.Keyed.keyed (stored b) c.args.chain c.args.item (Ok _) (stored c.rewrite.new.self) i (ordered_of c.args.self.now) ∣₁ }

pub returns : goal.returns
returns g c =
    let b = c.args.self.now.board in
    let (kept, i) = replaces g.row.N b (kept_of c.args.self.now) g.R.Keyed.keyed c.args.chain c.args.item c.key.result c.in_ok-place.field-0-0 c.in_ok-place.place c.index-self-place.result c.rewrite.new.self c.key.ensures c.in_ok-place.ensures c.rewrite.ensures in
    record { replaces = i; ordered = replaces_ordered g.R.Keyed.keyed (stored b) c.args.chain c.args.item (Ok _) (stored c.rewrite.new.self) i (ordered_of c.args.self.now) }
