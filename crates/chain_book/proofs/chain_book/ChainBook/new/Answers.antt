use Rattle.std.proofs.Common.{◌≡◌, length, take, min, sym, ap, ◌∙◌, subst, arith}
use Rattle.std.proofs.lemmas.List.{length-take-le}
use Rattle.chains.specs.Calls.{no_records}
use Rattle.chains.specs.Views.{content}
use Rattle.limits.specs.Ranges.{link_max}
use Rattle.chain_book.proofs.Keeping.{Granted, granted_some, granted_none, granted_sound, granted_made}
use Rattle.chain_book.proofs.chain_book.ChainBook.new.Goals as goal
use Rattle.chain_book.proofs.chain_book.ChainBook.new.Goals.{in-Some, in-None}

pub invariant_of-result : goal.invariant_of-result
invariant_of-result c =
    let n = length c.args.records.now in
    let granted : Granted n c.args.cycle c.args.links c.match-asked.most = elim c.match-asked.branch [
      | in-Some w ↦ subst (Granted n c.args.cycle c.args.links) (sym w.most-is) (granted_some n c.args.cycle c.args.links w.in-Some.extent w.in-Some.ensures)
      | in-None w ↦ subst (Granted n c.args.cycle c.args.links) (sym w.most-is) (granted_none n c.args.cycle c.args.links w.in-None.ensures)
    ] in
    let few : length (take c.min-taken.result c.args.records.now) ≡ min n c.match-asked.most.1 = length-take-le c.min-taken.result c.args.records.now (omega arith) ∙ c.min-taken.ensures in
    record { sound = ∣ granted_sound n c.args.cycle c.args.links c.match-asked.most granted (content c.new.result) (c.new.ensures.empty ∙ ap (no_records link_max) few) ∣₁ }

pub returns : goal.returns
returns c =
    let n = length c.args.records.now in
    let granted : Granted n c.args.cycle c.args.links c.match-asked.most = elim c.match-asked.branch [
      | in-Some w ↦ subst (Granted n c.args.cycle c.args.links) (sym w.most-is) (granted_some n c.args.cycle c.args.links w.in-Some.extent w.in-Some.ensures)
      | in-None w ↦ subst (Granted n c.args.cycle c.args.links) (sym w.most-is) (granted_none n c.args.cycle c.args.links w.in-None.ensures)
    ] in
    let few : length (take c.min-taken.result c.args.records.now) ≡ min n c.match-asked.most.1 = length-take-le c.min-taken.result c.args.records.now (omega arith) ∙ c.min-taken.ensures in
    granted_made n c.args.cycle c.args.links c.match-asked.most granted (content c.new.result) (c.new.ensures.empty ∙ ap (no_records link_max) few)
