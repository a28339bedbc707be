-- What a book in a grid stands for. Assumes nothing.
use Rattle.book.specs.Meanings.{Meaning}
use Rattle.grid_book.specs.declared.grid.GridBook.{GridBook}
use Rattle.grid_book.specs.Grids.{Sound, means}

-- the book that a book in a grid stands for, read off its cells
abbrev pub meaning_of : GridBook → Meaning
meaning_of b = means b.grid.extent.cycle b.grid.extent.links b.room b.grid.cells.now

-- every book in a grid is sound
pub sound_of : (b : GridBook) → Sound b.grid.extent.cycle b.grid.extent.links b.room b.count b.grid.cells.now
sound_of b = b.sound
