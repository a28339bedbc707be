use Rattle.std.proofs.Common.{⊎_elim, arith}
use Rattle.std.proofs.lemmas.Bool.{lt-ltb, ltb-true}
use Rattle.chain_book.specs.Bookings.{to_span}
use Rattle.chain_book.proofs.Scanning.{overlap_start, overlap_first, overlap_second}
use Rattle.chain_book.proofs.scan.overlap.Goals as goal

pub returns-then-ticks_after-a : goal.returns-then-ticks_after-a
returns-then-ticks_after-a c = (λ _. overlap_first c.args.cycle (to_span c.args.a) (to_span c.args.b) c.requires.second (omega (arith, c.ticks_after.ensures, c.if-ticks_after-a.true)), λ _. lt-ltb _ _ c.if-ticks_after-a.true)

pub returns-else-ticks_after-a : goal.returns-else-ticks_after-a
returns-else-ticks_after-a c = (
  λ e. overlap_second c.args.cycle (to_span c.args.a) (to_span c.args.b) c.requires.first (omega (arith, c.ticks_after-else-ticks_after-a.ensures, ltb-true _ _ e)),
  λ o. ⊎_elim
      (λ x. absurd (omega (arith, x, c.ticks_after.ensures, c.if-ticks_after-a.false)))
      (λ y. lt-ltb _ _ (omega (arith, y, c.ticks_after-else-ticks_after-a.ensures)))
      (overlap_start c.args.cycle (to_span c.args.a) (to_span c.args.b) c.requires.first c.requires.second o),
)
