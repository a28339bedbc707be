-- Bookings on one link, and which of its ticks they cover. Assumes nothing.
use Rattle.std.specs.Prelude.{◌≡◌, ℕ, ◌+◌, ◌-◌, ◌%◌, ◌<◌, ◌≤◌, cond, ◌⊎◌, List, [], ◌∷◌, ◌==◌, ◌≢◌, nat_lt}
use Rattle.limits.specs.Ranges.{Within, Flow}

-- a booking on a link: its first tick, how many ticks it lasts, and the flow that it is for
pub record Span : Type 0 where
  pub start : ℕ
  pub ticks : ℕ
  pub flow : ℕ

-- a booking from its three numbers
abbrev pub span : ℕ → ℕ → ℕ → Span
span start ticks flow = record { start = start; ticks = ticks; flow = flow }

-- how many ticks after the start the tick t comes, going round a cycle of H ticks
abbrev pub offset : ℕ → ℕ → ℕ → ℕ
offset H start t = (t + H - start) % H

-- in a cycle of H ticks, the booking covers the tick t, going round from its start
abbrev pub Covers : ℕ → Span → ℕ → Type 0
Covers H s t = (t + H - s.start) % H < s.ticks

-- no booking covers the tick
abbrev pub Free : ℕ → List Span → ℕ → Type 0
Free H [] t = Unit {0}
Free H (s ∷ ss) t = (Covers H s t → ⊥) × Free H ss t

-- the tick that comes j ticks after t, going round
abbrev pub round : ℕ → ℕ → ℕ → ℕ
round H t j = (t + j) % H

-- both ticks are free, or neither is
pub record Alike (H : ℕ) (ss : List Span) (t u : ℕ) : Type 0 where
  pub onward : Free H ss t → Free H ss u
  pub back : Free H ss u → Free H ss t

-- k ticks from t on, going round, are alike
pub record Stretch (H : ℕ) (ss : List Span) (t k : ℕ) : Type 0 where
  pub some : 0 < k
  pub alike : (j : ℕ) → j < k → Alike H ss t (round H t j)

-- k is how many ticks from t on are alike: the cycle, or the next one is not
pub record Run (H : ℕ) (ss : List Span) (t k : ℕ) : Type 0 where
  pub stretch : Stretch H ss t k
  pub most : k ≤ H
  pub ends : k < H → Alike H ss t (round H t k) → ⊥

-- the booking is one of these
abbrev pub In : Span → List Span → Type 0
In s [] = ⊥
In s (x ∷ xs) = (s ≡ x) ⊎ In s xs

-- none of these begins at the tick
abbrev pub NoneBeginsAt : List Span → ℕ → Type 0
NoneBeginsAt [] t = Unit {0}
NoneBeginsAt (s ∷ ss) t = (s.start ≢ t) × NoneBeginsAt ss t

-- the bookings with one more, in the order of their starts
abbrev pub insert : Span → List Span → List Span
insert s [] = s ∷ []
insert s (x ∷ xs) = cond (nat_lt s.start x.start) (s ∷ (x ∷ xs)) (x ∷ insert s xs)

-- the bookings without the first that begins at the tick
abbrev pub without : ℕ → List Span → List Span
without t [] = []
without t (s ∷ ss) = cond (s.start == t) ss (s ∷ without t ss)

-- a booking within a cycle of H ticks
pub record Fits (H : ℕ) (s : Span) : Type 0 where
  pub start : s.start < H
  pub ticks : Within 1 H s.ticks
  pub flow : Flow s.flow

-- each of these begins after the tick
abbrev pub Later : ℕ → List Span → Type 0
Later t [] = Unit {0}
Later t (s ∷ ss) = (t < s.start) × Later t ss

-- every booking fits, starts ascend, and no tick is covered twice
abbrev pub Orderly : ℕ → List Span → Type 0
Orderly H [] = Unit {0}
Orderly H (s ∷ ss) = Fits H s × Later s.start ss × ((t : ℕ) → t < H → Covers H s t → Free H ss t) × Orderly H ss
