use Rattle.std.proofs.Common.{◌≡◌, ◌<◌, ◌∙◌, get_or, length, rules, ⊎_elim, arith, false-eqb}
use Rattle.std.proofs.lemmas.Bool.{cases_lt}
use Rattle.std.proofs.lemmas.Iterator.{cases_from_all, YieldsList-from_slice}
use Rattle.std.proofs.lemmas.Iterator.Consumers.{fold_from_yields_List}
use Rattle.std.specs.Int.{IsInRange}
use Rattle.sheet.proofs.Values.{read_value, with_digit}
use Rattle.sheet.proofs.numeral.numeral.Goals.{else-text-gt1-via-then-text-gt1+else-text-eq48, else-text-gt1-via-else-text-gt1}
use Rattle.sheet.proofs.numeral.numeral.Goals as goal

pub returns : goal.returns
returns c =
    let told = cases_from_all _ _ _ (IsInRange 48 57) (λ x. IsInRange 48 57 x → ⊥) c.all.ensures.ran (YieldsList-from_slice c.args.text.now c.iter.ensures.rest) (λ x q k. search rules) (λ x q k. search rules) in
    let digits = rw c.if-not-all.false at told in
    let read = fold_from_yields_List _ with_digit 0 _ c.fold-value.ensures.ran (YieldsList-from_slice c.args.text.now c.iter-2.ensures.rest) (λ a x b q k. search rules) in
    let some : 0 < length c.args.text.now = omega (arith, false-eqb _ 0 c.if-is_empty.ensures) in
    let plain : 1 < length c.args.text.now → get_or c.args.text.now 0 0 ≡ 48 → ⊥ = λ long zero. elim c.else-text-gt1.branch [ else-text-gt1-via-then-text-gt1+else-text-eq48 w ↦ w.if-text-eq48.false zero | else-text-gt1-via-else-text-gt1 w ↦ omega arith ] in
    record {
      some = some;
      few = omega arith;
      digits = λ k l. digits k 0 (omega arith) l;
      plain = λ zero. ⊎_elim (λ long. absurd (plain long zero)) (λ short. omega (arith, some)) (cases_lt 1 (length c.args.text.now));
      value = read ∙ read_value c.args.text.now (λ k l. digits k 0 (omega arith) l) (omega arith);
    }
