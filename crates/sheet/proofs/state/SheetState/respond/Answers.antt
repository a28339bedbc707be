use Rattle.std.proofs.Common.{Ok, Err, refl, ap}
use Rattle.sheet.specs.Runs.{faulty, executed}
use Rattle.sheet.specs.declared.reply.Reply.TheVariants.{Refused}
use Rattle.sheet.proofs.state.SheetState.respond.Goals as goal

pub returns-in-Ok-execute : goal.returns-in-Ok-execute
returns-in-Ok-execute c =
    let was = rw c.stage.ensures at c.in-Ok.ensures in
    executed c.in-Ok.command (Ok tt) was.0 was.1 c.in-Ok-execute.ensures refl

pub returns-in-Err-execute : goal.returns-in-Err-execute
returns-in-Err-execute c =
    let was = rw c.stage.ensures at c.in-Ok.ensures in
    executed c.in-Ok.command (Err c.in-Err-execute.refusal) was.0 was.1 c.in-Err-execute.ensures refl

pub returns-in-Err : goal.returns-in-Err
returns-in-Err c = faulty c.in-Err.fault (rw c.stage.ensures at c.in-Err.ensures) (ap (λ r. Refused r c.args.line.number c.in-Err.fault.place) c.into.ensures) refl
