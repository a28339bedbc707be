use Rattle.sheet.specs.Readers.{words_left}
use Rattle.sheet.proofs.Collecting.{Sofar}
use Rattle.sheet.proofs.reading.numbers.Given as goal

abbrev pub invariant-loop-index : goal.invariant-loop-index
invariant-loop-index l = Sofar (words_left l.initial.words) (words_left l.words) l.index l.known
