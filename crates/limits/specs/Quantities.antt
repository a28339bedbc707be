-- The range of each quantity. Assumes nothing.
use Rattle.std.specs.Prelude.{ℕ}
use Rattle.limits.specs.Ranges.{Cycle, Tick, LinkCount, Flow, FrameSize, PathLinks}
use Rattle.limits.specs.declared.Quantity.{Quantity}
use Rattle.limits.specs.declared.Quantity.TheVariants as quantity

-- the number is in the range of the quantity
abbrev pub Ranged : Quantity → ℕ → Type 0
Ranged quantity.Cycle n = Cycle n
Ranged quantity.Tick n = Tick n
Ranged quantity.LinkCount n = LinkCount n
Ranged quantity.Flow n = Flow n
Ranged quantity.FrameSize n = FrameSize n
Ranged quantity.PathLinks n = PathLinks n
