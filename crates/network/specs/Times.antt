-- How long a frame takes. Assumes nothing.
use Rattle.std.specs.Prelude.{ℕ, ◌+◌, ◌-◌, ◌*◌, ◌/◌, ◌≤◌}
use Rattle.network.specs.Net.{Net}

-- eight bits at so many million bits a second, in nanoseconds
abbrev pub byte_time : ℕ → ℕ
byte_time speed = 8000 / speed

-- how long a frame holds a link, in nanoseconds: its bytes, and 20 more for preamble, start mark and gap
abbrev pub frame_span : Net → ℕ → ℕ
frame_span net size = (size + 20) * byte_time net.numbers.speed

-- d ticks last at least as long as the span, in nanoseconds, and no fewer do
pub record Fewest (span tick d : ℕ) : Type 0 where
  pub enough : span ≤ d * tick
  pub fewest : (k : ℕ) → span ≤ k * tick → d ≤ k

-- the ticks that a frame holds a link: the fewest that last as long
abbrev pub FrameTime : Net → ℕ → ℕ → Type 0
FrameTime net size d = Fewest (frame_span net size) net.numbers.tick d

-- the ticks from a frame's start on the first link of a path to its end on the last: each switch forwards a whole frame
abbrev pub latency : Net → ℕ → ℕ → ℕ
latency net d links = (links - 1) * (d + net.numbers.forwarding) + d
