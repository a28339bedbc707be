-- What calls are drawn. Assumes nothing.
use Rattle.std.specs.Prelude.{ℕ, ◌+◌, ◌*◌, ◌%◌, ◌^◌, ◌<◌}
use Rattle.bookpair.specs.declared.call.Call.{Call}
use Rattle.bookpair.specs.declared.call.Call.TheVariants.{Run, Holder, Book, Release}

-- the state after a state
abbrev pub stirred : ℕ → ℕ
stirred s = (s * 1664525 % 2 ^ 32 + 1013904223) % 2 ^ 32

-- a call whose numbers reach at most a little past their ranges, for a cycle and 4 links
abbrev pub Drawn : ℕ → Call → Type 0
Drawn cycle (Run link tick) = (link < 6) × (tick < cycle + 2)
Drawn cycle (Holder link tick) = (link < 6) × (tick < cycle + 2)
Drawn cycle (Book link start ticks flow) = (link < 6) × (start < cycle + 2) × (ticks < cycle + 2) × (flow < 50)
Drawn cycle (Release link start) = (link < 6) × (start < cycle + 2)
