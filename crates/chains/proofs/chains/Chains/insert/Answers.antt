use Rattle.std.proofs.Common.{Ok, arith, rules}
use Rattle.chains.specs.Boards.{stored}
use Rattle.chains.specs.Views.{content}
use Rattle.chains.proofs.Ordered.{inserts_ordered}
use Rattle.chains.proofs.Outcomes.{spare_left, spare_below, count_below, at_of_insert, inserts, inserts_not}
use Rattle.chains.proofs.Props.{kept_of, ordered_of}
use Rattle.chains.proofs.chains.Chains.insert.Goals as goal

pub returns-in_err-at : goal.returns-in_err-at
returns-in_err-at g c = record {
  inserts = inserts_not g.R.Keyed.keyed (content c.args.self.now) c.args.chain c.key.result c.in_err-at.field-0.0 c.args.item c.from_residual.result c.key.ensures (search rules) c.in_err-at.ensures;
  ordered = ordered_of c.args.self.now;
}

pub link_in-requires : goal.link_in-requires
link_in-requires g c =
    let b = c.args.self.now.board in
    let kept = kept_of c.args.self.now in
    let (w, none, l) = c.in_ok-at.ensures in
    let some = spare_left g.row.N b kept g.R.Keyed.keyed c.args.chain c.key.result none in
    (search rules, (omega (arith, w.least, w.most), (spare_below g.row.N b kept some, (at_of_insert g.row.N b kept c.args.chain w l some, count_below g.row.N b kept some))))

pub invariant_of-self : goal.invariant_of-self
invariant_of-self g c =
    let b = c.args.self.now.board in
    let (kept, i) = inserts g.row.N b (kept_of c.args.self.now) g.R.Keyed.keyed c.args.chain c.args.item c.key.result c.in_ok-at.at c.in_ok-at.next c.link_in.new.self c.key.ensures c.in_ok-at.ensures c.link_in.ensures in
    record { kept = ∣ kept ∣₁; ordered = ∣ inserts_ordered g.R.Keyed.keyed (stored b) c.args.chain c.args.item (Ok tt) (stored c.link_in.new.self) i (ordered_of c.args.self.now) ∣₁ }

pub returns : goal.returns
returns g c =
    let b = c.args.self.now.board in
    let (kept, i) = inserts g.row.N b (kept_of c.args.self.now) g.R.Keyed.keyed c.args.chain c.args.item c.key.result c.in_ok-at.at c.in_ok-at.next c.link_in.new.self c.key.ensures c.in_ok-at.ensures c.link_in.ensures in
    record { inserts = i; ordered = inserts_ordered g.R.Keyed.keyed (stored b) c.args.chain c.args.item (Ok tt) (stored c.link_in.new.self) i (ordered_of c.args.self.now) }
