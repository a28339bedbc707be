use Rattle.std.proofs.Common.{◌+◌, ◌-◌, min, ap, ◌∙◌, arith}
use Rattle.chain_book.specs.Bookings.{spans_of}
use Rattle.chain_book.proofs.Passes.{fits_here}
use Rattle.chain_book.proofs.Scanning.{extending_more, extending_past}
use Rattle.chain_book.proofs.pass.Pass.extend.Goals as goal
use Rattle.chain_book.proofs.pass.Pass.extend.Goals.{else-reach-cycle-via-then-reach-cycle+else-passed-booking, else-reach-cycle-via-else-reach-cycle}

pub ticks_after-passed-requires-clause-start : goal.ticks_after-passed-requires-clause-start
ticks_after-passed-requires-clause-start c = (fits_here c.args.self _ _ _ (ap spans_of c.in-Some.ensures.steps) c.loop-booking.invariant.among).start

pub overflow_add-reach : goal.overflow_add-reach
overflow_add-reach c =
    let fits = fits_here c.args.self _ _ _ (ap spans_of c.in-Some.ensures.steps) c.loop-booking.invariant.among in
    omega (arith, fits.ticks.most, c.loop-booking.invariant.most, c.args.self.limited)

pub loop-booking-preserved-then-passed-booking : goal.loop-booking-preserved-then-passed-booking
loop-booking-preserved-then-passed-booking c =
    let on = ap spans_of c.in-Some.ensures.steps in
    let fits = fits_here c.args.self _ _ _ on c.loop-booking.invariant.among in
    extending_more c.args.self.cycle _ c.args.tick c.args.run _ _ _ c.loop-booking.reach on c.requires.inside fits c.loop-booking.invariant c.if-reach-cycle.true (omega (arith, c.ticks_after-passed.ensures, c.if-passed-booking.true))
    c.min-reach.result (c.min-reach.ensures ∙ ap (λ n. min (c.loop-booking.reach + c.in-Some.booking.ticks - n) c.args.self.cycle) c.ticks_after-passed.ensures)

pub loop-booking-preserved : goal.loop-booking-preserved
loop-booking-preserved c =
    extending_past c.args.self.cycle _ c.args.tick c.args.run _ _ _ c.loop-booking.reach (ap spans_of c.in-Some.ensures.steps) c.loop-booking.invariant
    (λ less covers. elim c.else-reach-cycle.branch [
      | else-reach-cycle-via-then-reach-cycle+else-passed-booking w ↦ omega (arith, covers, c.ticks_after-passed.ensures, w.if-passed-booking.false)
      | else-reach-cycle-via-else-reach-cycle w ↦ omega (arith, less, w.if-reach-cycle.false)
    ])
