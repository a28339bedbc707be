use Rattle.std.proofs.Common.{rules}
use Rattle.chains.specs.Views.{content}
use Rattle.chain_book.specs.Props.{sound_of}
use Rattle.chain_book.proofs.Keeping.{removes_sound, tells_released}
use Rattle.chain_book.proofs.calls.ChainBookBook.release.Goals as goal

pub invariant_of-self : goal.invariant_of-self
invariant_of-self c =
    let b = c.args.self.now in
    let passed = c.in_ok-check_tick.ensures in
    record { sound = ∣ removes_sound b.extent.cycle b.extent.links (content b.chains) (sound_of b) c.args.link passed.there c.args.start passed.inside _ c.remove-removed.result c.remove-removed.ensures.removes ∣₁ }

pub returns : goal.returns
returns c =
    let b = c.args.self.now in
    let passed = c.in_ok-check_tick.ensures in
    tells_released b.extent.cycle b.extent.links (content b.chains) (sound_of b) c.args.link passed.there c.args.start passed.inside _ c.remove-removed.result c.map.result c.map_err.result _ _ c.remove-removed.ensures.removes c.map.ensures.cases c.map_err.ensures.cases (λ x n told. search rules) (λ e d told. search rules)
