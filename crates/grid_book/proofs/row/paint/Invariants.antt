use Rattle.std.proofs.Common.{length}
use Rattle.grid_book.specs.Rows.{Painted}
use Rattle.grid_book.proofs.row.paint.Given as goal

abbrev pub invariant-loop-past : goal.invariant-loop-past
invariant-loop-past l = Painted (length l.fn.row) l.fn.start l.past l.fn.first l.further l.fn.row l.row
