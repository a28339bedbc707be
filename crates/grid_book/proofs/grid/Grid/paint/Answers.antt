use Rattle.std.proofs.Common.{◌+◌, ◌-◌, ◌*◌, arith}
use Rattle.grid_book.proofs.Places.{row_written, row_whole}
use Rattle.grid_book.proofs.grid.Grid.paint.Goals as goal

pub returns-clause-painted : goal.returns-clause-painted
returns-clause-painted c =
    let b = c.args.self.now in
    let H = b.extent.cycle in
    let place = c.args.link - 1 in
    row_written H place c.args.start c.args.ticks c.args.first c.args.further b.cells.now c.paint.new.row (row_whole H b.extent.links c.args.link b.cells.now c.requires.there c.requires.whole) (place * H + H - place * H) (omega arith) c.paint.ensures
