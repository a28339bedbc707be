use Rattle.std.proofs.Common.{sym, ap, ◌∙◌, subst}
use Rattle.book.specs.Spans.{Orderly}
use Rattle.chains.specs.Views.{content}
use Rattle.chain_book.specs.Bookings.{spans_of}
use Rattle.chain_book.specs.Props.{sound_of}
use Rattle.chain_book.proofs.Keeping.{link_row, link_orderly}
use Rattle.chain_book.proofs.chain_book.ChainBook.pass.Goals as goal

pub invariant_of-result : goal.invariant_of-result
invariant_of-result c =
    let b = c.args.self.now in
    let s = sound_of b in
    record {
      orderly = ∣ subst (λ bs. Orderly b.extent.cycle (spans_of bs)) (sym c.walk.ensures.walks) (link_orderly b.extent.cycle b.extent.links (content b.chains) s c.args.link c.requires) ∣₁;
      limited = s.ranged.cycled.most;
    }

pub returns-clause-bookings : goal.returns-clause-bookings
returns-clause-bookings c =
    let b = c.args.self.now in
    ap spans_of c.walk.ensures.walks ∙ sym (link_row b.extent.cycle b.extent.links (content b.chains) (sound_of b) c.args.link c.requires)
