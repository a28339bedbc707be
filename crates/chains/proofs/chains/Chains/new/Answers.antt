use Rattle.std.proofs.Common.{sym, refl, ap, ◌∙◌, subst, arith}
use lib.ListN.{length-replicate}
use Rattle.chains.specs.Calls.{no_records}
use Rattle.chains.specs.Records.{AllAscend}
use Rattle.chains.specs.Steps.{blank}
use Rattle.chains.proofs.Blanks.{blank_kept, blank_content}
use Rattle.chains.proofs.Ordered.{chain_laws, none_ascend}
use Rattle.chains.proofs.chains.Chains.new.Goals as goal

pub invariant_of-result : goal.invariant_of-result
invariant_of-result g c = record {
  kept = ∣ blank_kept g.row.N _ refl (length-replicate g.row.N 0) (λ k l. c.clear.ensures k (omega (arith, c.clear.auto.slots)) ∙ ap (λ n. blank n k) (sym c.clear.auto.slots)) c.blank_link-spare.ensures refl ∣₁;
  ordered = ∣ subst (AllAscend g.R.Keyed.keyed) (sym (ap (λ m. m.rows) (blank_content g.row.N c.clear.new.slots))) (none_ascend g.R.Keyed.keyed g.row.N) ∣₁;
}

pub returns : goal.returns
returns g c = record { empty = blank_content g.row.N c.clear.new.slots ∙ ap (no_records g.row.N) c.clear.auto.slots; laws = chain_laws g.R.Keyed.keyed }
