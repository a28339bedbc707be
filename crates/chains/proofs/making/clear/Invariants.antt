use Rattle.std.proofs.Common.{◌≡◌, ℕ, ◌<◌, length, get_or}
use Rattle.chains.specs.Places.{nexts}
use Rattle.chains.specs.Steps.{blank}
use Rattle.chains.proofs.making.clear.Given as goal

abbrev pub invariant-loop-place : goal.invariant-loop-place
invariant-loop-place g l = (k : ℕ) → k < l.place → get_or (nexts l.slots) k 0 ≡ blank (length l.initial.slots) k
