-- What values of chains stand for. Assumes nothing.
use Rattle.std.specs.Prelude.{ℕ, List}
use Rattle.chains.specs.Boards.{stored}
use Rattle.chains.specs.Calls.{Content}
use Rattle.chains.specs.Places.{held_from}
use Rattle.chains.specs.declared.chains.Chains.{Chains}
use Rattle.chains.specs.declared.walk.Walk.{Walk}

-- WHAT CHAINS STAND FOR
abbrev pub content : {R : Type 0} {N : ℕ} {keyed : _} → Chains R N keyed → Content R
content c = stored c.board

-- the records that a walk has still to come to
abbrev pub left_of : {R : Type 0} → Walk R → List R
left_of w = held_from w.slots.now w.place
