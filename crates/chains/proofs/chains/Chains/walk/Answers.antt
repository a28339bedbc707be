use Rattle.std.proofs.Common.{refl, sym, ap, ◌∙◌, subst}
use Rattle.chains.specs.Records.{Ascends}
use Rattle.chains.specs.Views.{left_of}
use Rattle.chains.proofs.Ordered.{ascend_row}
use Rattle.chains.proofs.Props.{ordered_of}
use Rattle.chains.proofs.Walks.{over_ends, begun_row}
use Rattle.chains.proofs.chains.Chains.walk.Goals as goal

pub invariant_of-unwrap_or : goal.invariant_of-unwrap_or
invariant_of-unwrap_or g c = record { ends = ∣ over_ends c.args.self.now.board.slots.now ∣₁ }

pub returns-clause-walks : goal.returns-clause-walks
returns-clause-walks g c = ap left_of c.unwrap_or.ensures ∙ begun_row c.args.self.now.board c.args.chain c.walk_of.result _ refl c.walk_of.ensures

pub returns-clause-ordered : goal.returns-clause-ordered
returns-clause-ordered g c =
    subst (Ascends g.R.Keyed.keyed) (sym (returns-clause-walks g c)) (ascend_row g.R.Keyed.keyed _ c.args.chain (ordered_of c.args.self.now))
