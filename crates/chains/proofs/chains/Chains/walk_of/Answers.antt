use Rattle.std.proofs.Common.{subst}
use Rattle.chains.specs.Boards.{Begins}
use Rattle.chains.proofs.Walks.{begun_ends}
use Rattle.chains.proofs.Props.{kept_of}
use Rattle.chains.proofs.chains.Chains.walk_of.Goals as goal

pub invariant_of-result : goal.invariant_of-result
invariant_of-result g c =
    let b = c.args.self.now.board in
    record { ends = ∣ begun_ends g.row.N b c.args.chain c.in_ok-place.place (kept_of c.args.self.now) (subst (Begins b.heads c.args.chain) c.in_ok-place.was c.first_of.ensures) ∣₁ }
