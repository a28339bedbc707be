use Rattle.std.proofs.Common.{length, replicate, ◌≡◌, sym, subst, rules}
use Rattle.grid_book.specs.Made.{Made}
use Rattle.grid_book.specs.declared.cell.Cell.TheVariants.{Free}
use Rattle.grid_book.proofs.Clear.{free_means, free_sound}
use Rattle.grid_book.proofs.grid.GridBook.new.Goals as goal

pub invariant_of-result-2 : goal.invariant_of-result-2
invariant_of-result-2 c =
    let free : c.fill.new.self ≡ replicate (length c.args.cells.now) Free = c.fill.ensures.after (λ y e. search rules) in
    search (rules, free_sound)

pub returns : goal.returns
returns c =
    let free : c.fill.new.self ≡ replicate (length c.args.cells.now) Free = c.fill.ensures.after (λ y e. search rules) in
    subst (Made (length c.args.cells.now) c.args.room c.args.cycle c.args.links) (sym (free_means _ _ _ _ c.fill.new.self free)) (search rules)
