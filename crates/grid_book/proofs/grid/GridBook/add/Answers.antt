use Rattle.book.specs.Meanings.{with_row, row}
use Rattle.book.specs.Spans.{insert, span}
use Rattle.grid_book.specs.Grids.{Sound, means}
use Rattle.grid_book.specs.Views.{meaning_of}
use Rattle.std.proofs.Common.{◌≡◌, ◌+◌, sym, subst}
use Rattle.grid_book.proofs.Kept.{added}
use Rattle.grid_book.proofs.grid.GridBook.add.Goals as goal

pub invariant_of-self : goal.invariant_of-self
invariant_of-self c =
    let b = c.args.self.now in
    let is = added _ _ _ _ _ b.sound c.args.link c.args.start c.args.holding c.requires c.paint.new.self.cells.now c.paint.ensures.painted in
    record { sound = subst (λ e. Sound e.cycle e.links b.room (b.count + 1) c.paint.new.self.cells.now) (sym c.paint.ensures.kept) is.1 }

pub returns : goal.returns
returns c =
    let b = c.args.self.now in
    let h = c.args.holding in
    let is = added _ _ _ _ _ b.sound c.args.link c.args.start h c.requires c.paint.new.self.cells.now c.paint.ensures.painted in
    (c.requires, subst (λ e. means e.cycle e.links b.room c.paint.new.self.cells.now ≡ with_row (meaning_of b) c.args.link (insert (span c.args.start h.ticks h.flow) (row (meaning_of b) c.args.link))) (sym c.paint.ensures.kept) is.0)
