-- What a pass along the bookings of a link tells. Assumes nothing.
use Rattle.std.specs.Prelude.{◌≡◌, ℕ, ◌<◌, ◌≤◌, List}
use Rattle.limits.specs.Ranges.{Within}
use Rattle.book.specs.Spans.{Span, Covers, Free, In, offset, round}

-- a booking fits a cycle, whatever flow it is for
pub record Placed (H : ℕ) (s : Span) : Type 0 where
  pub start : s.start < H
  pub ticks : Within 1 H s.ticks

-- two bookings share a tick
abbrev pub Overlaps : ℕ → Span → Span → Type 0
Overlaps H a b = (t : ℕ) × (t < H) × Covers H a t × Covers H b t

-- each of k ticks from t on, going round, is covered
abbrev pub CoveredFor : ℕ → List Span → ℕ → ℕ → Type 0
CoveredFor H ss t k = (j : ℕ) → j < k → Free H ss (round H t j) → ⊥

-- the covered ticks from t on reach at least so far; they reach no further only where the next one is free
pub record Extends (H : ℕ) (ss : List Span) (t k reach : ℕ) : Type 0 where
  pub covered : CoveredFor H ss t k → CoveredFor H ss t reach
  pub least : k ≤ reach
  pub most : reach ≤ H
  pub stops : reach ≡ k → k < H → Free H ss (round H t k)

-- k ticks from t on are covered, and the next one is free unless that is the cycle
pub record BookedFor (H : ℕ) (ss : List Span) (t k : ℕ) : Type 0 where
  pub covered : CoveredFor H ss t k
  pub most : k ≤ H
  pub ends : k < H → Free H ss (round H t k)

-- k is how many ticks after t the next booking begins, going round; the cycle where there is none
pub record Gap (H : ℕ) (ss : List Span) (t k : ℕ) : Type 0 where
  pub before : (s : Span) → In s ss → k ≤ offset H t s.start
  pub most : k ≤ H
  pub begins : k < H → (s : Span) × In s ss × (offset H t s.start ≡ k)
