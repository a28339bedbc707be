use Rattle.std.proofs.Common.{sym, subst}
use Rattle.network.specs.Net.{Sound}
use Rattle.network.specs.Views.{drafted}
use Rattle.network.proofs.Soundness.{sound_of, sound_more}
use Rattle.network.proofs.draft.Draft.push.Goals as goal

pub invariant_of-self : goal.invariant_of-self
invariant_of-self c =
    let d = c.args.self.now in
    let more = sound_more (drafted d) _ _ (sound_of d) c.requires.ends c.requires.fresh c.requires.room in
    record { sound = ∣ subst (λ ls. Sound (record { numbers = d.numbers; links = ls })) (sym c.push.ensures.items) more ∣₁ }
