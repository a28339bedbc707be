use Rattle.std.proofs.Common.{◌+◌, ◌∙◌, sym, subst}
use Rattle.network.specs.Calls.{TellsNumber}
use Rattle.network.specs.Net.{LinkIs}
use Rattle.network.specs.Views.{drafted}
use Rattle.network.proofs.Found.{found_first, found_none, found_once}
use Rattle.network.proofs.Soundness.{sound_of}
use Rattle.network.proofs.draft.Draft.number_between.Goals as goal

pub returns-in_err-place : goal.returns-in_err-place
returns-in_err-place c =
    let net = drafted c.args.self.now in
    let none = sym (rw c.as_slice.ensures.value at c.place_of.ensures) ∙ c.in_err-place.was in
    subst (TellsNumber net c.args.from c.args.to) (sym c.from_residual.ensures) (λ l. found_none net _ _ none l.0 l.1)

pub returns : goal.returns
returns c =
    let net = drafted c.args.self.now in
    let some = sym (rw c.as_slice.ensures.value at c.place_of.ensures) ∙ c.in_ok-place.was in
    let here : LinkIs net (c.in_ok-place.place + 1) c.args.from c.args.to = found_first net _ _ _ some in
    (here, λ j l. found_once net _ _ (sound_of c.args.self.now) j _ l here)
