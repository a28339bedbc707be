use Rattle.std.proofs.Common.{rules}
use Rattle.std.proofs.lemmas.Bool.Decides.{not_from_Decides}
use Rattle.book.specs.Spans.{span}
use Rattle.chains.specs.Views.{content}
use Rattle.chain_book.specs.Props.{sound_of}
use Rattle.chain_book.proofs.Keeping.{inserts_sound, tells_booked}
use Rattle.chain_book.proofs.Scanning.{clear_at}
use Rattle.chain_book.proofs.calls.ChainBookBook.book.Goals as goal

pub invariant_of-self : goal.invariant_of-self
invariant_of-self c =
    let b = c.args.self.now in
    let passed = c.in_ok-check_booking.ensures in
    let clear = clear_at _ _ _ _ (span c.args.start c.args.ticks c.args.flow) c.pass.ensures.cycle c.pass.ensures.bookings (not_from_Decides c.clashes.result c.clashes.ensures c.if-clashes.false) in
    record { sound = ∣ inserts_sound b.extent.cycle b.extent.links (content b.chains) (sound_of b) c.args.link passed.there _ passed.fits clear _ c.insert-added.result c.insert-added.ensures.inserts ∣₁ }

pub returns : goal.returns
returns c =
    let b = c.args.self.now in
    let passed = c.in_ok-check_booking.ensures in
    let clear = clear_at _ _ _ _ (span c.args.start c.args.ticks c.args.flow) c.pass.ensures.cycle c.pass.ensures.bookings (not_from_Decides c.clashes.result c.clashes.ensures c.if-clashes.false) in
    tells_booked b.extent.cycle b.extent.links (content b.chains) (sound_of b) c.args.link passed.there _ passed.fits clear _ c.insert-added.result c.map_err.result _ c.insert-added.ensures.inserts c.map_err.ensures.cases (λ e d told. search rules)
