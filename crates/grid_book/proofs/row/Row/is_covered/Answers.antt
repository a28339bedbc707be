use Rattle.std.proofs.Common.{refl, rules, arith}
use borrow.Author.Tests.{tests}
use Rattle.std.proofs.lemmas.Bool.Decides.{not_from_Decides}
use Rattle.std.proofs.lemmas.Iterator.{YieldsList-from_range, cases_from_any}
use Rattle.book.specs.Spans.{Free, round, span}
use Rattle.grid_book.specs.Cells.{spans}
use Rattle.grid_book.proofs.Stretches.{clash_told}
use Rattle.grid_book.proofs.row.Row.is_covered.Goals as goal

pub returns : goal.returns
returns c =
    let H = c.args.self.now.cycle in
    let ss = spans c.args.self.now.cells.now in
    let some = cases_from_any _ _ c.any.result (λ k. Free H ss (round H c.args.start k) → ⊥) (λ k. Free H ss (round H c.args.start k)) c.any.ensures.ran (YieldsList-from_range 0 c.args.holding.ticks c.args.holding.ticks refl (omega arith)) (λ x q k. search (rules, tests, not_from_Decides)) (λ x q k. search (rules, tests)) in
    clash_told H ss (span c.args.start c.args.holding.ticks c.args.holding.flow) c.requires c.any.result some
