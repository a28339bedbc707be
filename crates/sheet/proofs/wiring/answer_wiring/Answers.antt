use Rattle.std.proofs.Common.{refl, ap, ◌∙◌}
use Rattle.std.proofs.lemmas.Bool.Decides.{not_from_Decides}
use Rattle.sheet.specs.Readers.{lines_left, seen_line}
use Rattle.sheet.proofs.Progress.{none_yet, wired_more, wired_ready, wired_end}
use Rattle.sheet.proofs.wiring.answer_wiring.Goals as goal

pub loop-line-init : goal.loop-line-init
loop-line-init c = record {
  sofar = none_yet _ _ _ (ap lines_left c.into_iter-line-iterator.ensures.into_iter_gives ∙ c.new-line-items.ensures) c.new-state.ensures;
  refusals = c.new-refused.ensures.bytes;
  unready = tt;
}

pub returns-then-is_ready : goal.returns-then-is_ready
returns-then-is_ready c = wired_ready _ _ _ _ (seen_line c.in-Some.line) c.respond-reply.result _ c.in-Some.ensures.steps c.respond-reply.ensures _ _ c.loop-line.invariant c.in_ok-push_refused.ensures c.args.sheet.now refl (c.is_ready.ensures.0 c.if-is_ready.true)

pub loop-line-preserved : goal.loop-line-preserved
loop-line-preserved c = wired_more _ _ _ _ (seen_line c.in-Some.line) c.respond-reply.result _ c.in-Some.ensures.steps c.respond-reply.ensures _ _ c.loop-line.invariant c.in_ok-push_refused.ensures (not_from_Decides _ c.is_ready.ensures c.if-is_ready.false)

pub returns : goal.returns
returns c = wired_end c.args.sheet.now _ _ _ c.loop-line.invariant c.in-None.ensures.steps.0
