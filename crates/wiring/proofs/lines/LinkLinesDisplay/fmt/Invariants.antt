use Rattle.std.proofs.Common.{◌≡◌, ℕ, ◌+◌, List, ◌++◌, drop}
use Rattle.std.specs.Fmt.{HasWritten, IsPlainFormatter}
use Rattle.wiring.specs.Texts.{link_lines}
use Rattle.wiring.proofs.lines.LinkLinesDisplay.fmt.Given as goal

abbrev pub invariant-loop-place : goal.invariant-loop-place
invariant-loop-place g l =
    IsPlainFormatter l.initial.f
    → (written : List ℕ)
    × HasWritten g.W.Write.write_str_gives l.initial.f written l.f
    × (written ++ link_lines (l.place + 1) (drop l.place l.self.0.now) ≡ link_lines 1 l.self.0.now)
