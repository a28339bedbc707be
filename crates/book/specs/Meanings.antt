-- What a book stands for. Assumes nothing.
use Rattle.std.specs.Prelude.{◌≡◌, ℕ, ◌+◌, ◌-◌, ◌≤◌, List, [], ◌∷◌, length, slice_index_or, slice_set}
use Rattle.book.specs.Spans.{Span, Orderly}

-- a book by what it means: its cycle, how many links and how many bookings it has room for, and for each link its bookings by start
pub record Meaning : Type 0 where
  pub cycle : ℕ
  pub links : ℕ
  pub room : ℕ
  pub rows : List (List Span)

-- the bookings of a link; links are numbered from 1
abbrev pub row : Meaning → ℕ → List Span
row m link = slice_index_or m.rows (link - 1) []

-- how many bookings stand on all links
abbrev pub total : List (List Span) → ℕ
total [] = 0
total (r ∷ rs) = length r + total rs

-- every link's bookings are in order
abbrev pub AllOrderly : ℕ → List (List Span) → Type 0
AllOrderly H [] = Unit {0}
AllOrderly H (r ∷ rs) = Orderly H r × AllOrderly H rs

-- what holds of every book
pub record Formed (m : Meaning) : Type 0 where
  pub linked : length m.rows ≡ m.links
  pub orderly : AllOrderly m.cycle m.rows
  pub roomy : total m.rows ≤ m.room

-- the book with other bookings on one link
abbrev pub with_row : Meaning → ℕ → List Span → Meaning
with_row m link r = record { cycle = m.cycle; links = m.links; room = m.room; rows = slice_set m.rows (link - 1) r }
