use Rattle.std.proofs.Common.{◌∙◌, arith}
use Rattle.chains.specs.Views.{content}
use Rattle.chain_book.specs.Props.{sound_of}
use Rattle.chain_book.proofs.Keeping.{count_is}
use Rattle.chain_book.proofs.calls.ChainBookBook.count.Goals as goal

pub overflow_cast-result : goal.overflow_cast-result
overflow_cast-result c =
    let b = c.args.self.now in
    let s = sound_of b in
    omega (arith, c.count.ensures, count_is b.extent.cycle b.extent.links (content b.chains) s, s.formed.roomy, s.limited)

pub returns : goal.returns
returns c = let b = c.args.self.now in c.count.ensures ∙ count_is b.extent.cycle b.extent.links (content b.chains) (sound_of b)
