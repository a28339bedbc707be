use Rattle.std.proofs.Common.{◌≡◌, refl, subst, arith}
use Rattle.book.proofs.Whole.{orderly_row}
use Rattle.book.specs.Meanings.{row}
use Rattle.book.specs.Spans.{Free}
use Rattle.chain_book.specs.Props.{sound_of}
use Rattle.chain_book.specs.Scans.{BookedFor}
use Rattle.chain_book.specs.Views.{meaning_of}
use Rattle.chain_book.proofs.Scanning.{booked_run, free_run, round_none, gap_at}
use Rattle.chain_book.proofs.calls.ChainBookBook.run.Goals as goal

pub returns-then-booked-gt0 : goal.returns-then-booked-gt0
returns-then-booked-gt0 c =
    let (taken, run) = booked_run _ _ _ _ c.in_ok-check_tick.ensures.inside c.if-booked-gt0.true c.booked_for-booked.ensures in
    (c.in_ok-check_tick.ensures.checks, (λ e. absurd (cc), λ free. absurd (taken free)), run)

pub returns : goal.returns
returns c =
    let b = c.args.self.now in
    let ss = row (meaning_of b) c.args.link in
    let inside = c.in_ok-check_tick.ensures.inside in
    let none : c.booked_for-booked.result ≡ 0 = omega (arith, c.if-booked-gt0.false) in
    let at_once = subst (λ n. BookedFor b.extent.cycle ss c.args.tick n) none c.booked_for-booked.ensures in
    let free = subst (Free b.extent.cycle ss) (round_none b.extent.cycle c.args.tick inside) (at_once.ends (omega arith)) in
    let gap = gap_at _ _ _ _ _ _ c.pass.ensures.cycle c.pass.ensures.bookings c.gap.ensures in
    (c.in_ok-check_tick.ensures.checks, (λ _. free, λ _. refl), free_run b.extent.cycle ss c.args.tick c.gap.result inside (orderly_row (meaning_of b) c.args.link (sound_of b).formed) free gap)
