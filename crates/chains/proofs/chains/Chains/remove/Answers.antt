use Rattle.std.proofs.Common.{Ok, arith, rules}
use Rattle.chains.specs.Boards.{stored}
use Rattle.chains.specs.Views.{content}
use Rattle.chains.proofs.Ordered.{removes_ordered}
use Rattle.chains.proofs.Outcomes.{place_below, at_of_remove, some_stand, removes, removes_not}
use Rattle.chains.proofs.Props.{kept_of, ordered_of}
use Rattle.chains.proofs.chains.Chains.remove.Goals as goal

pub returns-in_err-at : goal.returns-in_err-at
returns-in_err-at g c = record {
  removes = removes_not g.R.Keyed.keyed (content c.args.self.now) c.args.chain c.args.key c.in_err-at.field-0.0 c.from_residual.result (search rules) c.in_err-at.ensures;
  ordered = ordered_of c.args.self.now;
}

pub link_out-requires : goal.link_out-requires
link_out-requires g c =
    let b = c.args.self.now.board in
    let kept = kept_of c.args.self.now in
    let (w, f) = c.in_ok-at.ensures in
    (search rules, (omega (arith, w.least, w.most), (place_below g.row.N b kept c.args.chain w _ _ _ _ f, (at_of_remove g.row.N b kept c.args.chain w _ _ _ _ f, some_stand g.row.N b kept c.args.chain w _ _ _ _ f))))

pub invariant_of-self : goal.invariant_of-self
invariant_of-self g c =
    let b = c.args.self.now.board in
    let (kept, i) = removes g.row.N b (kept_of c.args.self.now) g.R.Keyed.keyed c.args.chain c.args.key c.in_ok-at.at c.in_ok-at.place c.index-self-place.result c.link_out.new.self c.in_ok-at.ensures c.link_out.ensures in
    record { kept = ∣ kept ∣₁; ordered = ∣ removes_ordered g.R.Keyed.keyed (stored b) c.args.chain c.args.key (Ok _) (stored c.link_out.new.self) i (ordered_of c.args.self.now) ∣₁ }

pub returns : goal.returns
returns g c =
    let b = c.args.self.now.board in
    let (kept, i) = removes g.row.N b (kept_of c.args.self.now) g.R.Keyed.keyed c.args.chain c.args.key c.in_ok-at.at c.in_ok-at.place c.index-self-place.result c.link_out.new.self c.in_ok-at.ensures c.link_out.ensures in
    record { removes = i; ordered = removes_ordered g.R.Keyed.keyed (stored b) c.args.chain c.args.key (Ok _) (stored c.link_out.new.self) i (ordered_of c.args.self.now) }
