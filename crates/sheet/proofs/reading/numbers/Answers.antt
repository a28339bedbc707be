use Rattle.std.proofs.Common.{sym, subst, arith}
use Rattle.sheet.proofs.Collecting.{Sofar, one_more}
use Rattle.sheet.proofs.reading.numbers.Goals as goal

pub loop-index-preserved : goal.loop-index-preserved
loop-index-preserved c =
    let steps = c.in_ok-next.ensures.steps in
    subst (Sofar _ _ _) (sym c.noted-known.ensures) (one_more _ _ _ _ _ _ c.loop-index.invariant steps.next steps.told (omega arith))
