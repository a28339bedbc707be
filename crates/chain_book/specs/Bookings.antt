-- Booking records, by the bookings that they stand for. Assumes nothing.
use Rattle.std.specs.Prelude.{List, map}
use Rattle.book.specs.Spans.{Span, span}
use Rattle.chain_book.specs.declared.booking.Booking.{Booking}

-- the booking that a record stands for
abbrev pub to_span : Booking → Span
to_span b = span b.start b.ticks b.flow

-- the bookings that the records of a chain stand for
abbrev pub spans_of : List Booking → List Span
spans_of bs = map to_span bs
