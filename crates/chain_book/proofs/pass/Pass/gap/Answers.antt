use Rattle.std.proofs.Common.{ap, subst, rules, sym}
use Rattle.std.proofs.lemmas.Iterator.{YieldsList-from_map}
use Rattle.std.proofs.lemmas.Iterator.Adapters.{serves_from_places}
use Rattle.std.proofs.lemmas.Iterator.Consumers.{YieldsList-from_first, min_from_yields_List}
use Rattle.book.specs.Spans.{offset}
use Rattle.chains.specs.Views.{left_of}
use Rattle.chain_book.specs.Bookings.{spans_of}
use Rattle.chain_book.specs.Scans.{Gap}
use Rattle.chain_book.proofs.Passes.{fits_at, orderly_of, gap_least}
use Rattle.chain_book.proofs.pass.Pass.gap.Goals as goal

pub min-requires-clause-can : goal.min-requires-clause-can
min-requires-clause-can c = (
  tt,
  serves_from_places (YieldsList-from_first (λ x. x) left_of (left_of c.args.self.ahead) (ap left_of c.map.ensures.source)) (λ x q k. search rules)
      (λ x k l e. let fits = fits_at c.args.self k x l e in let start = fits.start in search rules),
)

pub returns : goal.returns
returns c =
    let H = c.args.self.cycle in
    subst (Gap H (spans_of (left_of c.args.self.ahead)) c.args.tick) (sym c.unwrap_or.ensures)
    (gap_least H c.args.tick (left_of c.args.self.ahead) c.min.result (orderly_of c.args.self)
    (min_from_yields_List {v = λ x. x} c.map.result c.min.result c.min.ensures.ran (YieldsList-from_map _ (λ b. offset H c.args.tick b.start) (YieldsList-from_first (λ x. x) left_of (left_of c.args.self.ahead) (ap left_of c.map.ensures.source)) c.map.ensures.closure (λ x r q k. search rules))))
