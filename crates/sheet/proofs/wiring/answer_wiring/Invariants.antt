use Rattle.std.proofs.Common.{string_bytes}
use Rattle.sheet.specs.Lines.{lines}
use Rattle.sheet.specs.Readers.{lines_left}
use Rattle.sheet.specs.Runs.{state_of}
use Rattle.sheet.proofs.Progress.{Wired}
use Rattle.sheet.proofs.wiring.answer_wiring.Given as goal

abbrev pub invariant-loop-line : goal.invariant-loop-line
invariant-loop-line l = Wired (lines l.sheet) (lines_left l.line-iterator) (state_of l.state) (string_bytes l.refused)
