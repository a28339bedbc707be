use Rattle.chains.specs.Views.{left_of}
use Rattle.chain_book.specs.Bookings.{spans_of}
use Rattle.chain_book.proofs.Scanning.{Extending}
use Rattle.chain_book.proofs.pass.Pass.extend.Given as goal

abbrev pub invariant-loop-booking : goal.invariant-loop-booking
invariant-loop-booking l = Extending l.fn.self.cycle (spans_of (left_of l.fn.self.ahead)) l.tick l.run (spans_of (left_of l.booking-iterator)) l.reach
