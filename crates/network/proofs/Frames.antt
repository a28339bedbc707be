-- A quotient that is rounded up is the fewest that are enough. Assumes nothing.
use Rattle.std.proofs.Common.{ℕ, ◌+◌, ◌-◌, ◌*◌, ◌/◌, ◌<◌, ◌≤◌, mod-lt, add-mul, lt_of_mul-lt-mul_right, div-add-mod', arith}
use Rattle.std.proofs.lemmas.Bool.Decides.{nat_tests}
use Rattle.network.specs.Net.{Speed}

module _ (span tick : ℕ) (some : 0 < tick) where
  pub up_enough : span ≤ (span + (tick - 1)) / tick * tick
  up_enough = omega (arith, div-add-mod' (span + (tick - 1)) tick, mod-lt (span + (tick - 1)) some)

  pub up_fewest : (k : ℕ) → span ≤ k * tick → (span + (tick - 1)) / tick ≤ k
  up_fewest k h =
      let d : (span + (tick - 1)) / tick * tick < (k + 1) * tick = omega (arith, div-add-mod' (span + (tick - 1)) tick, add-mul k 1 tick) in
      let lt : (span + (tick - 1)) / tick < k + 1 = lt_of_mul-lt-mul_right tick d in
      omega arith

-- a speed is above 0
pub speed_some : (n : ℕ) → Speed n → 0 < n
speed_some n h = grind (arith, nat_tests)
