use Rattle.std.proofs.Common.{rules}
use Rattle.bookpair.proofs.Once.{same_answer, same_after}
use Rattle.bookpair.proofs.asked.same_answers.Goals as goal

pub returns-else-eq-clause-alike : goal.returns-else-eq-clause-alike
returns-else-eq-clause-alike g c = let formed = g.met.L.Book.formed c.args.left.now in search (rules, same_answer)

pub returns-else-eq-clause-after : goal.returns-else-eq-clause-after
returns-else-eq-clause-after g c = let formed = g.met.L.Book.formed c.args.left.now in search (rules, same_after)
