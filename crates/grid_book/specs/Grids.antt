-- What a grid of cells stands for. Assumes nothing.
use Rattle.std.specs.Prelude.{◌≡◌, ℕ, zero, suc, ◌*◌, ◌<◌, List, [], ◌∷◌, length, take, drop, ◌≢◌}
use Rattle.book.specs.Meanings.{Meaning, Formed, total}
use Rattle.book.specs.Spans.{Span}
use Rattle.grid_book.specs.declared.cell.Cell.{Cell}
use Rattle.grid_book.specs.Cells.{spans, Marked}
use Rattle.grid_book.specs.Made.{Sized}
use Rattle.grid_book.specs.Rows.{Painted}

-- the cells of the link at a place, from 0 on, where each link has H cells
abbrev pub cells_of : ℕ → ℕ → List Cell → List Cell
cells_of H place cells = take H (drop (place * H) cells)

-- the bookings of so many links, link by link
abbrev pub rows_of : ℕ → ℕ → List Cell → List (List Span)
rows_of H zero cells = []
rows_of H (suc links) cells = spans (take H cells) ∷ rows_of H links (drop H cells)

-- the book that a grid stands for
abbrev pub means : ℕ → ℕ → ℕ → List Cell → Meaning
means cycle links room cells = record { cycle = cycle; links = links; room = room; rows = rows_of cycle links cells }

-- what holds of every grid
pub record Sound (cycle links room count : ℕ) (cells : List Cell) : Type 0 where
  pub sized : Sized (length cells) cycle links room
  pub formed : Formed (means cycle links room cells)
  pub counted : count ≡ total (rows_of cycle links cells)
  pub marked : (place : ℕ) → place < links → Marked cycle (cells_of cycle place cells)

-- the row of one link is painted, and every other is as it was
pub record RowPainted (H place start ticks : ℕ) (first further : Cell) (before after : List Cell) : Type 0 where
  pub long : length after ≡ length before
  pub here : Painted H start ticks first further (cells_of H place before) (cells_of H place after)
  pub elsewhere : (other : ℕ) → (other ≢ place) → cells_of H other after ≡ cells_of H other before
