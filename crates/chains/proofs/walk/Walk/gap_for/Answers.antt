use Rattle.std.proofs.Common.{rules}
use Rattle.chains.proofs.Outcomes.{located_as, is_up_to}
use Rattle.chains.proofs.walk.Walk.gap_for.Goals as goal

pub returns : goal.returns
returns g c = located_as (λ n b h. is_up_to c.args.key n b (search rules)) c.locate.ensures
