-- Which bookings a row of cells holds. Assumes nothing.
use Rattle.std.specs.Prelude.{ℕ, ◌+◌, ◌<◌, Bool, true, false, List, [], ◌∷◌, Some, None, Decides, Option, slice_index_or}
use Rattle.book.specs.Spans.{Span, span, Free}
use Rattle.book.specs.declared.refusal.Holding.{Holding}
use Rattle.grid_book.specs.declared.cell.Cell.{Cell}
use Rattle.grid_book.specs.declared.cell.Cell.TheVariants.{Free as free_cell, First, Further}

-- whether a cell is free
abbrev pub is_free : Cell → Bool
is_free free_cell = true
is_free (First h) = false
is_free Further = false

-- the booking whose first tick a cell is
abbrev pub begun : Cell → Option Holding
begun free_cell = None
begun (First h) = Some h
begun Further = None

-- the cell of a tick; one that is not there is free
abbrev pub cell_at : List Cell → ℕ → Cell
cell_at cells tick = slice_index_or cells tick free_cell

-- a booking that begins at a tick, before later ones
abbrev pub begins : ℕ → Option Holding → List Span → List Span
begins tick None later = later
begins tick (Some h) later = span tick h.ticks h.flow ∷ later

-- the bookings that begin in some cells, the first of which is that of the tick
abbrev pub spans_from : ℕ → List Cell → List Span
spans_from tick [] = []
spans_from tick (c ∷ cs) = begins tick (begun c) (spans_from (tick + 1) cs)

-- the bookings of the row of one link
abbrev pub spans : List Cell → List Span
spans cells = spans_from 0 cells

-- a tick's cell is free exactly where no booking of the row covers the tick
abbrev pub Marked : ℕ → List Cell → Type 0
Marked H cells = (t : ℕ) → t < H → Decides (is_free (cell_at cells t)) (Free H (spans cells) t)
