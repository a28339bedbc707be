use Rattle.std.proofs.Common.{◌∙◌, sym}
use Rattle.sheet.specs.Readers.{seen_line}
use Rattle.sheet.proofs.Sayings.{opened, numbered, rule_number, rule_stage, rule_none}
use Rattle.sheet.proofs.reading.read.Goals as goal

pub returns-in_err-values : goal.returns-in_err-values
returns-in_err-values c =
    let found = opened (seen_line c.args.line) _ _ _ c.in_ok-keyword.ensures.ok_part c.open.ensures.keyword c.open.ensures.words in
    let read = numbered _ _ _ _ c.in_ok-known.ensures.ok_part c.numbers.ensures.counted c.numbers.ensures.known in
    let bad = rw c.in_err-values.was at read.1 in
    rule_number c.args.stage _ _ _ found (read.0 ∙ c.arity.ensures) _ bad _ c.from_residual-in_err-values.ensures.1

pub returns-then-not-belongs : goal.returns-then-not-belongs
returns-then-not-belongs c =
    let found = opened (seen_line c.args.line) _ _ _ c.in_ok-keyword.ensures.ok_part c.open.ensures.keyword c.open.ensures.words in
    let read = numbered _ _ _ _ c.in_ok-known.ensures.ok_part c.numbers.ensures.counted c.numbers.ensures.known in
    let good = rw c.in_ok-values.was at read.1 in
    rule_stage c.args.stage _ _ _ found (read.0 ∙ c.arity.ensures) _ good (sym c.if-not-belongs.ensures) _ c.fault-then-not-belongs.ensures

pub returns : goal.returns
returns c =
    let found = opened (seen_line c.args.line) _ _ _ c.in_ok-keyword.ensures.ok_part c.open.ensures.keyword c.open.ensures.words in
    let read = numbered _ _ _ _ c.in_ok-known.ensures.ok_part c.numbers.ensures.counted c.numbers.ensures.known in
    let good = rw c.in_ok-values.was at read.1 in
    rule_none c.args.stage _ _ _ found (read.0 ∙ c.arity.ensures) _ good (sym c.if-not-belongs.ensures) _ c.command.ensures
