-- What a grid is made to stand for, whatever is asked and lent. Assumes nothing.
use Rattle.std.specs.Prelude.{◌≡◌, ℕ, ◌*◌, ◌<◌, ◌≤◌}
use Rattle.book.specs.Bare.{InRange, empty}
use Rattle.book.specs.Meanings.{Meaning}
use Rattle.limits.specs.Ranges.{Within, Cycle, LinkCount, room_max}

-- a room that a book may have, and a cell for each tick of each link
pub record Suffices (cells room cycle links : ℕ) : Type 0 where
  pub roomed : Within 1 room_max room
  pub enough : links * cycle ≤ cells

-- a size that a book in so many cells may have
pub record Sized (cells cycle links room : ℕ) : Type 0 where
  pub cycled : Cycle cycle
  pub linked : LinkCount links
  pub limited : room ≤ room_max
  pub enough : 0 < room → links * cycle ≤ cells

-- m is the book that is made in so many cells for what was asked: just that, or with no room, or with no link either
pub record Made (cells room cycle links : ℕ) (m : Meaning) : Type 0 where
  pub as_asked : InRange cycle links → Suffices cells room cycle links → m ≡ empty cycle links room
  pub no_room : InRange cycle links → (Suffices cells room cycle links → ⊥) → m ≡ empty cycle links 0
  pub nothing : (InRange cycle links → ⊥) → m ≡ empty 1 0 0
