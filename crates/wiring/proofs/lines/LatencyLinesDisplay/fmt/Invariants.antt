use Rattle.std.proofs.Common.{◌≡◌, ℕ, ◌+◌, ◌-◌, List, ◌++◌}
use Rattle.std.specs.Fmt.{HasWritten, IsPlainFormatter}
use Rattle.limits.specs.Ranges.{path_link_max}
use Rattle.network.specs.Views.{closed}
use Rattle.wiring.specs.Texts.{latency_lines}
use Rattle.wiring.proofs.lines.LatencyLinesDisplay.fmt.Given as goal

abbrev pub invariant-loop-links : goal.invariant-loop-links
invariant-loop-links g l =
    let lines = latency_lines (closed l.self.network.now) l.self.small l.self.large in
    IsPlainFormatter l.initial.f
    → (written : List ℕ)
    × HasWritten g.W.Write.write_str_gives l.initial.f written l.f
    × (written ++ lines l.links-counter (path_link_max + 1 - l.links-counter) ≡ lines 1 path_link_max)
