-- What is done in the row of one link. Assumes nothing.
use Rattle.std.specs.Prelude.{◌≡◌, ℕ, ◌<◌, ◌≤◌, List, length}
use Rattle.book.specs.Spans.{offset}
use Rattle.grid_book.specs.declared.cell.Cell.{Cell}
use Rattle.grid_book.specs.Cells.{cell_at}

-- one cell at the first tick of a booking in a cycle of H ticks, another at each further tick, and all others as they were
pub record Painted (H start ticks : ℕ) (first further : Cell) (before after : List Cell) : Type 0 where
  pub long : length after ≡ length before
  pub at_start : cell_at after start ≡ first
  pub within : (t : ℕ) → t < H → 0 < offset H start t → offset H start t < ticks → cell_at after t ≡ further
  pub outside : (t : ℕ) → t < H → ticks ≤ offset H start t → cell_at after t ≡ cell_at before t
