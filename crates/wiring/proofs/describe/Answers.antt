use Rattle.std.proofs.Common.{◌≡◌, ℕ, List, ◌++◌, string_bytes, ap, ◌∙◌, arith}
use Rattle.limits.specs.Ranges.{frame_min, frame_max, path_link_max}
use Rattle.network.specs.Net.{Net}
use Rattle.network.specs.declared.numbers.Link.{Link}
use Rattle.network.specs.declared.numbers.Numbers.{Numbers}
use Rattle.network.specs.Views.{closed}
use Rattle.std.proofs.lemmas.Result.{IfOk-weaker}
use Rattle.wiring.specs.Texts.{number_lines, link_lines, frame_line, latency_lines, description, Describes}
use Rattle.wiring.proofs.Ticks.{frame_time_few}
use Rattle.wiring.proofs.describe.Goals as goal

pub invariant_of-latencies : goal.invariant_of-latencies
invariant_of-latencies c =
    let net = closed c.args.network.now in
    let sound = c.numbers.ensures.sound in
    record {
      few = frame_time_few net frame_min _ sound (omega arith) c.frame_time-small.ensures;
      many = frame_time_few net frame_max _ sound (omega arith) c.frame_time-large.ensures;
    }

pub returns : goal.returns
returns c = IfOk-weaker c.format.result _ (λ s. Describes net (string_bytes s)) (λ s told. (small, large, c.frame_time-small.ensures, c.frame_time-large.ensures, all (string_bytes s) told)) c.format.ensures.ok
  where
    net : Net
    net = closed c.args.network.now

    small : ℕ
    small = c.frame_time-small.result

    large : ℕ
    large = c.frame_time-large.result

    lines : Numbers → List Link → List ℕ
    lines numbers links = number_lines numbers ++ (link_lines 1 links ++ (frame_line frame_min small ++ (frame_line frame_max large ++ latency_lines net small large 1 path_link_max)))

    all : (text : List ℕ) → text ≡ lines c.numbers.result c.wired.result.now → text ≡ description net small large
    all text told = told ∙ ap (λ n. lines n c.wired.result.now) c.numbers.ensures.value ∙ ap (lines net.numbers) c.wired.ensures
