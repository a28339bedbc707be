-- Books in which nothing stands. Assumes nothing.
use Rattle.std.specs.Prelude.{◌≡◌, ℕ, [], Some, None, Option, replicate}
use Rattle.limits.specs.Ranges.{Cycle, LinkCount}
use Rattle.book.specs.Meanings.{Meaning}
use Rattle.book.specs.declared.extent.Extent.{Extent}

-- a cycle and a number of links that a book may be asked for
pub record InRange (cycle links : ℕ) : Type 0 where
  pub cycled : Cycle cycle
  pub linked : LinkCount links

-- what was asked for, exactly where both numbers are in range
abbrev pub Asked : ℕ → ℕ → Option Extent → Type 0
Asked cycle links (Some e) = InRange cycle links × (e ≡ record { cycle = cycle; links = links })
Asked cycle links None = InRange cycle links → ⊥

-- the book of no booking, with so much room
abbrev pub empty : ℕ → ℕ → ℕ → Meaning
empty cycle links room = record { cycle = cycle; links = links; room = room; rows = replicate links [] }

-- the book that has no room
abbrev pub bare : ℕ → ℕ → Meaning
bare cycle links = empty cycle links 0
