use Rattle.std.proofs.Common.{sym, subst}
use Rattle.chains.specs.Boards.{Seeks}
use Rattle.chains.proofs.Outcomes.{begun, sought}
use Rattle.chains.proofs.Props.{kept_of}
use Rattle.chains.proofs.chains.Chains.seek.Goals as goal

pub returns : goal.returns
returns g c =
    let b = c.args.self.now.board in
    let w = c.in_ok-walk.walk in
    let begins = begun b c.args.chain w c.walk_of.result _ c.ok_or.result c.walk_of.ensures c.in_ok-walk.was c.ok_or.ensures.value in
    subst (Seeks g.R.Keyed.keyed b c.args.chain c.args.key) (sym c.ok_or-2.ensures.value) (sought g.row.N b (kept_of c.args.self.now) c.args.chain w begins g.R.Keyed.keyed c.args.key c.place_of.result c.place_of.ensures)
