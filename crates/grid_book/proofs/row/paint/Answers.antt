use Rattle.std.proofs.Common.{refl, arith}
use Rattle.grid_book.proofs.Painting.{painted_one, painted_more}
use Rattle.grid_book.proofs.row.paint.Goals as goal

pub loop-past-init : goal.loop-past-init
loop-past-init c = painted_one _ _ _ _ _ c.requires.begins refl

pub loop-past-preserved : goal.loop-past-preserved
loop-past-preserved c =
    let past = c.loop-past.invariant in
    painted_more _ _ _ _ _ _ _ c.requires.begins (omega arith) (omega (arith, c.requires.lasts.most)) past.long past
