-- What a chain book is made to stand for, whatever is asked and lent. Assumes nothing.
use Rattle.std.specs.Prelude.{◌≡◌, ℕ, ◌-◌, min}
use Rattle.book.specs.Bare.{InRange, empty}
use Rattle.book.specs.Meanings.{Meaning}
use Rattle.limits.specs.Ranges.{room_max}

-- what stands for m is made from so many records: with the cycle and the links that were asked for and room for all records but the first, 1,024 at most; or with nothing
pub record Made (records cycle links : ℕ) (m : Meaning) : Type 0 where
  pub as_asked : InRange cycle links → m ≡ empty cycle links (min (records - 1) room_max)
  pub nothing : (InRange cycle links → ⊥) → m ≡ empty 1 0 0
