use Rattle.std.proofs.Common.{rules}
use Rattle.chains.specs.Views.{content}
use Rattle.chain_book.specs.Props.{sound_of}
use Rattle.chain_book.proofs.Keeping.{tells_holder}
use Rattle.chain_book.proofs.calls.ChainBookBook.holder.Goals as goal

pub returns : goal.returns
returns c =
    let b = c.args.self.now in
    let there = c.in_ok-check_tick.ensures.there in
    tells_holder b.extent.cycle b.extent.links (content b.chains) (sound_of b) c.args.link there c.args.tick c.find-found.result c.ok.result c.map.result _ c.in_ok-check_tick.ensures.checks c.find-found.ensures c.ok.ensures.value c.map.ensures.cases (λ x y told. search rules)
