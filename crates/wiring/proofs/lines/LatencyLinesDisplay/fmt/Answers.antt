use Rattle.std.proofs.Common.{rules, ◌≡◌, suc, ◌+◌, ◌-◌, ◌++◌, ap, arith}
use Rattle.std.proofs.Output.{has_written_append}
use Rattle.limits.specs.Ranges.{path_link_max}
use Rattle.network.specs.Times.{latency}
use Rattle.network.specs.Views.{closed}
use Rattle.wiring.specs.Texts.{latency_line, latency_lines}
use Rattle.wiring.proofs.Pieces.{next}
use Rattle.wiring.proofs.lines.LatencyLinesDisplay.fmt.Goals as goal

pub loop-links-preserved : goal.loop-links-preserved
loop-links-preserved g c = λ p.
    let lines = c.args.self.now in
    let net = closed lines.network.now in
    let links = c.loop-links.links-counter in
    let so_far = c.loop-links.invariant p in
    let more : path_link_max + 1 - links ≡ suc (path_link_max + 1 - (links + 1)) = omega arith in
    let piece = latency_line links (latency net lines.small links) (latency net lines.large links) in
    (so_far.0 ++ piece, has_written_append _ _ _ _ _ _ so_far.1 (search rules), next so_far.0 piece _ _ _ (ap (latency_lines net lines.small lines.large links) more) so_far.2)
