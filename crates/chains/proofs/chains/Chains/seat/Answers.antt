use Rattle.std.proofs.Common.{refl, inl, inr}
use Rattle.chains.proofs.Outcomes.{begun, there, some_has, none_has, goes_there, full, not_full}
use Rattle.chains.proofs.Props.{kept_of}
use Rattle.chains.proofs.chains.Chains.seat.Goals as goal

pub returns-then-is_some : goal.returns-then-is_some
returns-then-is_some g c =
    let b = c.args.self.now.board in
    let w = c.in_ok-walk.walk in
    let begins = begun b c.args.chain w c.walk_of.result _ c.ok_or.result c.walk_of.ensures c.in_ok-walk.was c.ok_or.ensures.value in
    inr (there g.row.N b (kept_of c.args.self.now) c.args.chain w begins, inl (some_has g.row.N b (kept_of c.args.self.now) c.args.chain w begins g.R.Keyed.keyed c.args.key c.place_of.result c.place_of.ensures c.if-is_some.ensures, refl))

pub returns-then-self-eq0 : goal.returns-then-self-eq0
returns-then-self-eq0 g c =
    let b = c.args.self.now.board in
    let w = c.in_ok-walk.walk in
    let begins = begun b c.args.chain w c.walk_of.result _ c.ok_or.result c.walk_of.ensures c.in_ok-walk.was c.ok_or.ensures.value in
    let lacks = none_has g.row.N b (kept_of c.args.self.now) c.args.chain w begins g.R.Keyed.keyed c.args.key c.place_of.result c.place_of.ensures c.if-is_some.ensures in
    inr (there g.row.N b (kept_of c.args.self.now) c.args.chain w begins, inr (λ present. present lacks, inl (full g.row.N b (kept_of c.args.self.now) c.if-self-eq0.true, refl)))

pub returns : goal.returns
returns g c =
    let b = c.args.self.now.board in
    let w = c.in_ok-walk.walk in
    let begins = begun b c.args.chain w c.walk_of.result _ c.ok_or.result c.walk_of.ensures c.in_ok-walk.was c.ok_or.ensures.value in
    let lacks = none_has g.row.N b (kept_of c.args.self.now) c.args.chain w begins g.R.Keyed.keyed c.args.key c.place_of.result c.place_of.ensures c.if-is_some.ensures in (
      begins.0,
      inr (there g.row.N b (kept_of c.args.self.now) c.args.chain w begins, inr (λ present. present lacks, inr (not_full g.row.N b (kept_of c.args.self.now) c.if-self-eq0.false, refl))),
      goes_there g.row.N b (kept_of c.args.self.now) c.args.chain w begins g.R.Keyed.keyed c.args.key c.gap_for.result.0 c.gap_for.result.1 c.gap_for.ensures,
    )
