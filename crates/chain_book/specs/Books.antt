-- What chains of booking records stand for. Assumes nothing.
use Rattle.std.specs.Prelude.{◌≡◌, ℕ, ◌≤◌, List, map, length, take, drop}
use Rattle.book.specs.Bare.{InRange}
use Rattle.book.specs.Meanings.{Meaning, Formed}
use Rattle.book.specs.Spans.{Span}
use Rattle.chains.specs.Calls.{Content}
use Rattle.chains.specs.Records.{total as records_in}
use Rattle.limits.specs.Ranges.{link_max, room_max}
use Rattle.chain_book.specs.Bookings.{spans_of}
use Rattle.chain_book.specs.declared.booking.Booking.{Booking}

-- the bookings of so many links, chain by chain
abbrev pub rows_of : ℕ → List (List Booking) → List (List Span)
rows_of links rows = take links (map spans_of rows)

-- the book that chains stand for
abbrev pub means : ℕ → ℕ → Content Booking → Meaning
means cycle links m = record { cycle = cycle; links = links; room = m.room; rows = rows_of links m.rows }

-- what holds of every chain book: there is a chain for each link, and no booking stands in any other
pub record Sound (cycle links : ℕ) (m : Content Booking) : Type 0 where
  pub ranged : InRange cycle links
  pub many : length m.rows ≡ link_max
  pub limited : m.room ≤ room_max
  pub formed : Formed (means cycle links m)
  pub elsewhere : records_in (drop links m.rows) ≡ 0
