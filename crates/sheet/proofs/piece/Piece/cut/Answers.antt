use Rattle.std.proofs.Common.{◌≡◌, ◌<◌, ◌∙◌, get_or, length, rules, sym, subst, arith}
use Rattle.std.proofs.lemmas.Iterator.{YieldsList-from_slice}
use Rattle.std.proofs.lemmas.Iterator.Consumers.{count_from_yields_List}
use Rattle.std.proofs.lemmas.Iterator.Search.{YieldsList-from_take_while}
use Rattle.std.proofs.lemmas.List.Folds.{length-prefix_len}
use Rattle.std.proofs.lemmas.List.Sums.{prefix_len-le-length}
use Rattle.std.specs.List.{prefix_len}
use borrow.Author.Tests.{tests}
use Rattle.sheet.proofs.Steps.{other, before_first, at_first, parts_all, parts_at}
use Rattle.sheet.proofs.piece.Piece.cut.Goals as goal

pub returns-then-at-bytes : goal.returns-then-at-bytes
returns-then-at-bytes c =
    let b = c.args.byte in
    let bs = c.args.self.bytes.now in
    let at : c.count-at.result ≡ prefix_len (other b) bs = count_from_yields_List c.take_while.result _ c.count-at.ensures.ran (YieldsList-from_take_while _ (other b) (YieldsList-from_slice bs (cc)) c.take_while.ensures.closure c.take_while.ensures.done (λ x t q k. search (rules, tests))) ∙ length-prefix_len (other b) bs in
    parts_all b c.args.self.place bs (λ k d low near. before_first b bs k d (omega (arith, at)))

pub returns : goal.returns
returns c =
    let b = c.args.byte in
    let bs = c.args.self.bytes.now in
    let at : c.count-at.result ≡ prefix_len (other b) bs = count_from_yields_List c.take_while.result _ c.count-at.ensures.ran (YieldsList-from_take_while _ (other b) (YieldsList-from_slice bs (cc)) c.take_while.ensures.closure c.take_while.ensures.done (λ x t q k. search (rules, tests))) ∙ length-prefix_len (other b) bs in
    let inside : c.count-at.result < length bs = omega (arith, at, prefix_len-le-length (other b) bs) in
    parts_at b c.args.self.place bs c.count-at.result inside (λ d. subst (λ n. get_or bs n d ≡ b) (sym at) (at_first b bs d (omega (arith, at, inside)))) (λ k d low near. before_first b bs k d (omega (arith, at)))
