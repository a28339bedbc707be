use Rattle.std.proofs.Common.{ℕ, ◌<◌, length, get_or, set, ap, ◌∙◌, arith}
use lib.Seq.{map-set}
use Rattle.std.proofs.lemmas.List.Edits.{fill_by_more}
use Rattle.std.proofs.lemmas.List.{length-map}
use Rattle.chains.specs.Places.{nexts}
use Rattle.chains.specs.Steps.{blank}
use Rattle.chains.proofs.making.clear.Goals as goal

pub loop-place-preserved : goal.loop-place-preserved
loop-place-preserved g c =
    let slots = c.loop-place.slots in
    let place = c.loop-place.place in
    let f : ℕ → ℕ = λ k. blank (length c.args.slots.now) k in
    let less : place < length (nexts slots) = omega (arith, length-map slots (λ s. s.next)) in
    λ k l. ap (λ ns. get_or ns k 0) (map-set (λ s. s.next) slots place _ ∙ ap (set (nexts slots) place) c.blank_link-slot.ensures) ∙ fill_by_more f (nexts slots) place 0 less c.loop-place.invariant k l
