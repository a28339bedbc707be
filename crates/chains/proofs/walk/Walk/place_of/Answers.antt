use Rattle.std.proofs.Common.{◌∙◌, sym, rules}
use Rattle.std.proofs.lemmas.List.{length-map}
use Rattle.chains.proofs.Outcomes.{located_as, is_other, absent, found}
use Rattle.chains.proofs.walk.Walk.place_of.Goals as goal

pub returns-then-place-eq0 : goal.returns-then-place-eq0
returns-then-place-eq0 g c = absent (located_as (λ n b h. is_other c.args.key n b (search rules)) c.locate-at.ensures) c.if-place-eq0.true

pub returns-else-place-eq0 : goal.returns-else-place-eq0
returns-else-place-eq0 g c = found (length-map c.args.self.now.slots.now (λ s. s.item) ∙ sym (length-map c.args.self.now.slots.now (λ s. s.next))) (located_as (λ n b h. is_other c.args.key n b (search rules)) c.locate-at.ensures) c.if-place-eq0.false
