use Rattle.chains.proofs.Outcomes.{found_rules, found_item}
use Rattle.chains.proofs.Props.{kept_of}
use Rattle.chains.proofs.chains.Chains.find.Goals as goal

pub returns : goal.returns
returns g c =
    let kept = kept_of c.args.self.now in
    let (w, f) = c.in_ok-place.ensures in
    (found_rules g.row.N c.args.self.now.board kept c.args.chain w g.R.Keyed.keyed c.args.key _ _ f, found_item g.row.N c.args.self.now.board kept c.args.chain w g.R.Keyed.keyed c.args.key _ _ f c.index-self-place.result)
