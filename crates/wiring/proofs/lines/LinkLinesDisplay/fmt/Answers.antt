use Rattle.std.proofs.Common.{rules, ◌+◌, ◌<◌, ◌++◌, length, get_or, arith}
use Rattle.std.proofs.Output.{has_written_append}
use Rattle.std.proofs.lemmas.List.{at_drop_more}
use Rattle.network.specs.Net.{link}
use Rattle.wiring.specs.Texts.{link_line, link_lines}
use Rattle.wiring.proofs.Pieces.{next}
use Rattle.wiring.proofs.lines.LinkLinesDisplay.fmt.Goals as goal

pub loop-place-preserved : goal.loop-place-preserved
loop-place-preserved g c = λ p.
    let links = c.args.self.now.0.now in
    let place = c.loop-place.place in
    let so_far = c.loop-place.invariant p in
    let there : place < length links = omega arith in
    let piece = link_line (place + 1) (get_or links place (link 0 0)) in
    (so_far.0 ++ piece, has_written_append _ _ _ _ _ _ so_far.1 (search rules), next so_far.0 piece _ _ _ (at_drop_more (link_lines (place + 1)) links place (link 0 0) there) so_far.2)
