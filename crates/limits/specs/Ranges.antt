-- The ranges that several crates share. Assumes nothing.
use Rattle.std.specs.Prelude.{ℕ, ◌≤◌}

-- a number from low to high, both counted in
pub record Within (low high n : ℕ) : Type 0 where
  pub least : low ≤ n
  pub most : n ≤ high

-- the longest cycle, in ticks
abbrev pub cycle_max : ℕ
cycle_max = 4096

-- the longest tick, in nanoseconds
abbrev pub tick_max : ℕ
tick_max = 1000000

-- the most links of a network
abbrev pub link_max : ℕ
link_max = 40

-- the greatest flow number
abbrev pub flow_max : ℕ
flow_max = 48

-- the most bookings that a book has room for
abbrev pub room_max : ℕ
room_max = 1024

-- the smallest frame, in bytes
abbrev pub frame_min : ℕ
frame_min = 64

-- the largest frame, in bytes
abbrev pub frame_max : ℕ
frame_max = 1522

-- the most links of a path
abbrev pub path_link_max : ℕ
path_link_max = 6

-- a cycle, in ticks
abbrev pub Cycle : ℕ → Type 0
Cycle n = Within 1 cycle_max n

-- the length of a tick, in nanoseconds
abbrev pub Tick : ℕ → Type 0
Tick n = Within 1 tick_max n

-- how many links a network or a book may have
abbrev pub LinkCount : ℕ → Type 0
LinkCount n = Within 0 link_max n

-- a flow number
abbrev pub Flow : ℕ → Type 0
Flow n = Within 1 flow_max n

-- the size of a frame, in bytes
abbrev pub FrameSize : ℕ → Type 0
FrameSize n = Within frame_min frame_max n

-- how many links a path may have
abbrev pub PathLinks : ℕ → Type 0
PathLinks n = Within 1 path_link_max n
