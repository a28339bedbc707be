use Rattle.std.proofs.Common.{sym, subst, rules}
use borrow.Author.Tests.{tests}
use Rattle.std.proofs.lemmas.Iterator.{first_from_Range}
use Rattle.book.specs.Spans.{Alike, Run, round}
use Rattle.grid_book.specs.Cells.{spans}
use Rattle.grid_book.proofs.Stretches.{run_until, alike_told, apart_told}
use Rattle.grid_book.proofs.row.Row.run.Goals as goal

pub returns-clause-run : goal.returns-clause-run
returns-clause-run c =
    let H = c.args.self.now.cycle in
    let ss = spans c.args.self.now.cells.now in
    let first = first_from_Range _ _ _ c.find.result (λ k. Alike H ss c.args.tick (round H c.args.tick k) → ⊥) (λ k. Alike H ss c.args.tick (round H c.args.tick k)) c.find.ensures.ran (λ x q k. search (rules, tests, apart_told)) (λ x q k. search (rules, tests, alike_told)) in
    subst (Run H ss c.args.tick) (sym c.unwrap_or-ticks.ensures) (run_until H ss c.args.tick c.requires c.find.result first)
