use Rattle.std.proofs.Common.{◌-◌, ◌≤◌}
use Rattle.book.specs.Meanings.{row}
use Rattle.chain_book.specs.Scans.{CoveredFor}
use Rattle.chain_book.specs.Views.{meaning_of}
use Rattle.chain_book.proofs.chain_book.ChainBook.booked_for.Given as goal

abbrev pub invariant-loop-run : goal.invariant-loop-run
invariant-loop-run l = record {
  within : l.run ≤ l.self.extent.cycle;
  covered : CoveredFor l.self.extent.cycle (row (meaning_of l.self) l.link) l.tick l.run;
}

abbrev pub decreases-loop-run : goal.decreases-loop-run
decreases-loop-run l = l.self.extent.cycle - l.run
