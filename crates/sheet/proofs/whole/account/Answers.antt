use Rattle.std.proofs.Common.{ap, ◌∙◌}
use Rattle.sheet.specs.Readers.{lines_left, seen_line}
use Rattle.sheet.proofs.Progress.{none_yet, account_more}
use Rattle.sheet.proofs.whole.account.Goals as goal

pub loop-line-init : goal.loop-line-init
loop-line-init c = record {
  sofar = none_yet _ _ _ (ap lines_left c.into_iter-line-iterator.ensures.into_iter_gives ∙ c.new-line-items.ensures) c.new-state.ensures;
  replies = c.new-out.ensures.bytes;
}

pub loop-line-preserved : goal.loop-line-preserved
loop-line-preserved c = account_more _ _ _ _ (seen_line c.in-Some.line) c.respond-reply.result _ c.in-Some.ensures.steps c.respond-reply.ensures _ _ c.loop-line.invariant c.in_ok-writeln.ensures.bytes
