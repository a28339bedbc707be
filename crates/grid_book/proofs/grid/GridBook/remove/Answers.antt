use Rattle.std.proofs.Common.{◌≡◌, ◌-◌, sym, subst}
use Rattle.book.specs.Meanings.{with_row, row}
use Rattle.book.specs.Spans.{without}
use Rattle.grid_book.specs.Grids.{Sound, means}
use Rattle.grid_book.specs.Views.{meaning_of}
use Rattle.grid_book.proofs.Kept.{removed, release_known, release_some, release_room, release_fits}
use Rattle.grid_book.proofs.grid.GridBook.remove.Goals as goal

pub paint-requires-clause-whole : goal.paint-requires-clause-whole
paint-requires-clause-whole c =
    let b = c.args.self.now in
    b.sound.sized.enough (release_room _ _ _ _ _ b.sound c.args.link c.args.start c.args.holding c.requires)

pub paint-requires-clause-lasts : goal.paint-requires-clause-lasts
paint-requires-clause-lasts c =
    let b = c.args.self.now in
    (release_fits _ _ _ _ _ b.sound c.args.link c.args.start c.args.holding c.requires).ticks

pub overflow_sub-self : goal.overflow_sub-self
overflow_sub-self c =
    let b = c.args.self.now in
    release_some _ _ _ _ _ b.sound c.args.link c.args.start c.args.holding c.requires

pub invariant_of-self : goal.invariant_of-self
invariant_of-self c =
    let b = c.args.self.now in
    let is = removed _ _ _ _ _ b.sound c.args.link c.args.start c.args.holding c.requires c.paint.new.self.cells.now c.paint.ensures.painted in
    record { sound = subst (λ x. Sound x.cycle x.links b.room (b.count - 1) c.paint.new.self.cells.now) (sym c.paint.ensures.kept) is.1 }

pub returns : goal.returns
returns c =
    let b = c.args.self.now in
    let h = c.args.holding in
    let known = release_known _ _ _ _ _ b.sound c.args.link c.args.start h c.requires in
    let is = removed _ _ _ _ _ b.sound c.args.link c.args.start h c.requires c.paint.new.self.cells.now c.paint.ensures.painted in
    (known, (h.flow, c.requires.1), subst (λ e. means e.cycle e.links b.room c.paint.new.self.cells.now ≡ with_row (meaning_of b) c.args.link (without c.args.start (row (meaning_of b) c.args.link))) (sym c.paint.ensures.kept) is.0)
