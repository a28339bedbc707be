use Rattle.std.proofs.Common.{◌≡◌, ◌+◌, ◌<◌, length, false, not, arith, ap, ◌∙◌, sym, false-eqb, eqb-true}
use Rattle.std.proofs.lemmas.Bool.{true≢false}
use Rattle.std.specs.Option.{is_some}
use Rattle.sheet.specs.Readers.{lines_on}
use Rattle.sheet.proofs.Steps.{counted_more, lines_end, lines_more}
use Rattle.sheet.proofs.reader.ReaderIterator.next.Goals.{else-is_none-via-then-is_none+else-is_empty, else-is_none-via-else-is_none}
use Rattle.sheet.proofs.reader.ReaderIterator.next.Goals as goal

pub returns-then-is_empty-clause-steps : goal.returns-then-is_empty-clause-steps
returns-then-is_empty-clause-steps c =
    let empty = eqb-true _ 0 (sym c.if-is_empty.ensures) in
    let none = lines_end (c.args.self.now.count + 1) c.in_ok-self.field-0 c.cut.result.0 c.cut.result.1 c.cut.ensures c.if-is_none.ensures empty in
    (ap (lines_on (c.args.self.now.count + 1)) c.in_ok-self.was ∙ none.0, none.1)

pub invariant_of-self-2 : goal.invariant_of-self-2
invariant_of-self-2 c =
    let counted = rw c.in_ok-self.was at c.args.self.now.counted in
    record { counted = counted_more 10 c.args.self.now.count c.in_ok-self.field-0 c.cut.result.0 c.cut.result.1 c.cut.ensures counted }

pub returns : goal.returns
returns c =
    let some : is_some c.cut.result.1 ≡ false → 0 < length c.cut.result.0.bytes.now = λ gone. elim c.else-is_none.branch [
      | else-is_none-via-then-is_none+else-is_empty w ↦ omega (arith, false-eqb _ 0 w.if-is_empty.ensures)
      | else-is_none-via-else-is_none w ↦ absurd (true≢false (sym (c.is_none.ensures ∙ ap not w.if-is_none.false) ∙ gone))
    ] in
    let steps = ap (lines_on (c.args.self.now.count + 1)) c.in_ok-self.was ∙ lines_more _ c.in_ok-self.field-0 c.cut.result.0 c.cut.result.1 c.cut.ensures some in
    record { steps = steps; goes = record { on = λ _. (tt, tt, omega (arith, ap length steps)); keeps = tt; rests = λ _. tt } }
