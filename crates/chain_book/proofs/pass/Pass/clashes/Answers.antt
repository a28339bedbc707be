use Rattle.std.proofs.Common.{refl, rules}
use Rattle.std.proofs.lemmas.Iterator.{cases_from_any}
use Rattle.std.proofs.lemmas.Iterator.Adapters.{serves_from_places}
use Rattle.std.proofs.lemmas.Iterator.Consumers.{YieldsList-from_first}
use Rattle.chains.specs.Views.{left_of}
use Rattle.chain_book.specs.Bookings.{to_span}
use Rattle.chain_book.specs.Scans.{Placed, Overlaps}
use Rattle.chain_book.proofs.Passes.{fits_at, clash_any}
use Rattle.chain_book.proofs.pass.Pass.clashes.Goals as goal

pub any-requires-clause-callable : goal.any-requires-clause-callable
any-requires-clause-callable c =
    serves_from_places (YieldsList-from_first (λ x. x) left_of (left_of c.args.self.ahead) refl) (λ x q k. search rules)
    (λ x k l e. let fits = fits_at c.args.self k x l e in let placed : Placed c.args.self.cycle (to_span x) = record { start = fits.start; ticks = fits.ticks } in search rules)

pub returns : goal.returns
returns c =
    let H = c.args.self.cycle in
    let a = to_span c.args.booking in
    clash_any H (left_of c.args.self.ahead) a c.any.result
    (cases_from_any c.any.new.self _ c.any.result (λ b. Overlaps H a (to_span b)) (λ b. Overlaps H a (to_span b) → ⊥) c.any.ensures.ran (YieldsList-from_first (λ x. x) left_of (left_of c.args.self.ahead) refl) (λ x q k. search rules) (λ x q k. (search rules, search rules)))
