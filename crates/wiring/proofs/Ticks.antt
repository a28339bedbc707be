-- A frame time is far below what a number can hold. Assumes nothing.
use Rattle.std.proofs.Common.{ℕ, ◌+◌, ◌*◌, ◌^◌, ◌<◌, ◌≤◌, div-le_self, arith}
use Rattle.limits.specs.Ranges.{frame_max}
use Rattle.network.specs.Net.{Net, Sound}
use Rattle.network.specs.Times.{FrameTime, frame_span, byte_time}
use Rattle.std.proofs.lemmas.Nat.{mul-le}

-- a tick lasts a nanosecond at least, and a byte 8,000 at most
pub frame_time_few : (net : Net) (size d : ℕ) → Sound net → size ≤ frame_max → FrameTime net size d → d < 2 ^ 32
frame_time_few net size d s h t =
    let byte : byte_time net.numbers.speed ≤ 8000 = div-le_self 8000 net.numbers.speed in
    let span : frame_span net size ≤ 12336000 = mul-le (size + 20) (byte_time net.numbers.speed) 1542 8000 (omega arith) byte in
    let few : frame_span net size ≤ 12336000 * net.numbers.tick = omega (arith, s.ranges.tick.least) in
    omega (arith, t.fewest 12336000 few)
